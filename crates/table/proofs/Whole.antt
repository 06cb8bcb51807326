-- The components of a table one after the other, and the table: by the verdict alone. Assumes nothing.
use mathlib.Core.Path.{◌≡◌, refl, sym, ap, subst, ◌∙◌}
use mathlib.Core.Bool.{Bool, true, false, cond, ◌&&◌}
use mathlib.Core.List.{List, [], ◌∷◌}
use Prim.Native.Nat.{ℕ, suc, pred, ◌+◌, ◌-◌, ◌≤◌, ◌<◌}
use native.Mathlib.Omega.{arith}
use native.Mathlib.Numerals.{add-one}
use borrow.Author.Tests.{le-leb, lt-leb, leb-true}
use Rattle.model.proofs.Basics.Bools.{and_is, tests}
use Rattle.model.proofs.Reader.Bands.{zeros_small}
use lib.ListN.{length, take, drop, set, replicate, length-drop, drop_of_length-le}
use lib.Seq.{drop-drop, drop-cons, get_or-drop}
use Rattle.model.specs.declared.Verdict.{Verdict}
use Rattle.model.specs.declared.Verdict.TheVariants.{Accepted, Refused}
use lib.Dec.{leb}
use Rattle.std.specs.List.{list_all}
use Rattle.model.specs.Lists.{all, Answer, accepted, refused, ◌after◌}
use Rattle.model.specs.declared.TableHeader.{TableHeader}
use Rattle.model.specs.Table.{Component, Read}
use Rattle.model.specs.Reader.{header_at, byte, word, Parsed, ok, fault, read_component, about, at_end, length_fits, read_components, version_fine, length_fine, count_fine, body_start, bands_at, bands_fine, read_with, read_table}
use Rattle.model.specs.Places.{start_of}
use Rattle.model.specs.Calls.{verdict_of}
use mathlib.Core.Option.{none, some}
use Rattle.table.specs.declared.HeaderFault.{HeaderFault}
use Rattle.table.specs.declared.HeaderFault.TheVariants.{Version, Length, Counts}
use Rattle.std.specs.Prelude.{Result, Ok, Err}
use Rattle.std.specs.Result.{is_err, IfErr}
use Rattle.table.specs.Directory.{question_number, header_number, fault_in, starts_of, header_of, reading_from, reading_of, refusal}
use Rattle.parts.proofs.Skim.{first_of}

-- ## The reader's answer from a verdict

pub says_refused : {A : Type 0} (bs : List ℕ) (n : ℕ) (a : Answer A) {k c : ℕ} → verdict_of a ≡ Refused k c → refusal k c ≡ reading_from bs n a
says_refused bs n (accepted x) e = let z : ◌≡◌ {A = ℕ} 0 1 = cc in absurd (omega arith)
says_refused bs n (refused m d) {k} {c} e = ap (λ (v : Verdict). record { verdict = v; starts = replicate 8 0 }) (sym e)

pub says_accepted : {A : Type 0} (bs : List ℕ) (n : ℕ) (a : Answer A) (l : List ℕ) → verdict_of a ≡ Accepted → l ≡ starts_of bs n
    → record { verdict = Accepted; starts = l } ≡ reading_from bs n a
says_accepted bs n (accepted x) l e q = ap (λ (k : List ℕ). record { verdict = Accepted; starts = k }) q
says_accepted bs n (refused m d) l e q = let z : ◌≡◌ {A = ℕ} 0 1 = cc in absurd (omega arith)

verdict_keeps : {A B : Type 0} (a : Answer A) (f : A → B) → verdict_of (a after λ x. accepted (f x)) ≡ verdict_of a
verdict_keeps (accepted x) f = refl
verdict_keeps (refused n c) f = refl

-- the table's reading is the components' reading with the header's numbers
pub reading_keeps : {A B : Type 0} (bs : List ℕ) (n : ℕ) (a : Answer A) (f : A → B) → reading_from bs n (a after λ x. accepted (f x)) ≡ reading_from bs n a
reading_keeps bs n (accepted x) f = refl
reading_keeps bs n (refused k c) f = refl

-- ## A component

was_fine : {A : Type 0} (m : Parsed A) → fault_in m ≡ none → (a : A) × ((c : ℕ) → about c m ≡ accepted a)
was_fine (ok a r) e = (a, λ c. refl)
was_fine (fault n) e = let z : ◌≡◌ {A = ℕ} 0 1 = cc in absurd (omega arith)

fails_with : {A : Type 0} (m : Parsed A) {n : ℕ} (c : ℕ) → fault_in m ≡ some n → about c m ≡ refused n c
fails_with (ok a r) c e = let z : ◌≡◌ {A = ℕ} 0 1 = cc in absurd (omega arith)
fails_with (fault k) {n} c e = let q : k ≡ n = cc in ap (λ (j : ℕ). refused j c) q

module _ (heading : TableHeader) (c : ℕ) (s : List ℕ) (at n : ℕ) (x : Verdict) (k m : ℕ) (h : k ≡ suc m) (inv : verdict_of (read_components heading k c (drop at s)) ≡ x) where
  here : verdict_of (read_components heading (suc m) c (drop at s)) ≡ x
  here = subst (λ (i : ℕ). verdict_of (read_components heading i c (drop at s)) ≡ x) h inv

  -- its length bytes do not fit
  pub no_length : length s - at < 2 → x ≡ Refused 4 c
  unfolding read_components
  no_length e = sym here ∙ rw (lt-leb 2 (length (drop at s)) (simp length-drop (omega arith)))

  -- its length is the number of the two bytes there
  stated : n ≡ word s at → word (drop at s) 0 ≡ n
  stated e = rw (e, first_of s at, get_or-drop at s 1 0, add-one at)

  -- its length does not fit
  pub too_long : at + 2 ≤ length s → n ≡ word s at → length s - at < n → x ≡ Refused 4 c
  unfolding read_components
  too_long f e g =
      sym here
      ∙ rw (le-leb 2 (length (drop at s)) (simp length-drop (omega arith)), stated e, lt-leb n (length (drop at s)) (simp length-drop (omega arith)))

  fits : at + 2 ≤ length s → n ≡ word s at → at + n ≤ length s → length_fits (drop at s) ≡ true
  fits f e g =
      rw (le-leb 2 (length (drop at s)) (simp length-drop (omega arith)), stated e, le-leb n (length (drop at s)) (simp length-drop (omega arith)))

  -- it fits and fails
  pub fails_there : at + 2 ≤ length s → n ≡ word s at → at + n ≤ length s → {j : ℕ} → fault_in (read_component heading (take n (drop at s))) ≡ some j → x ≡ Refused j c
  unfolding read_components
  fails_there f e g q =
      sym here ∙ rw (fits f e g, stated e, fails_with (read_component heading (take n (drop at s))) c q)

  -- it is fine: the next one
  pub fine_there : at + 2 ≤ length s → n ≡ word s at → at + n ≤ length s → fault_in (read_component heading (take n (drop at s))) ≡ none
      → verdict_of (read_components heading m (c + 1) (drop (at + n) s)) ≡ x
  unfolding read_components
  fine_there f e g q = go (was_fine (read_component heading (take n (drop at s))) q)
    where
      rest : Answer (List Component)
      rest = read_components heading m (suc c) (drop n (drop at s))

      go : ((C : Component) × ((d : ℕ) → about d (read_component heading (take n (drop at s))) ≡ accepted C)) → verdict_of (read_components heading m (c + 1) (drop (at + n) s)) ≡ x
      go (C, a) =
          let p : verdict_of (read_components heading (suc m) c (drop at s)) ≡ verdict_of rest = rw (fits f e g, stated e, a c) (verdict_keeps rest (λ l. C ∷ l)) in
          rw (add-one c, ← drop-drop n at s) (sym p ∙ here)

-- ## The end of the components

module _ (heading : TableHeader) (c : ℕ) (s : List ℕ) (at : ℕ) (x : Verdict) (k : ℕ) (h : k ≤ 0) (inv : verdict_of (read_components heading k c (drop at s)) ≡ x) where
  none_left : verdict_of (at_end (pred c) (drop at s)) ≡ x
  unfolding read_components
  none_left = let z : k ≡ 0 = omega arith in subst (λ (i : ℕ). verdict_of (read_components heading i c (drop at s)) ≡ x) z inv

  pub bytes_over : (d : ℕ) → d + 1 ≡ c → at < length s → x ≡ Refused 4 d
  bytes_over d e g =
      let p : pred c ≡ d = ap pred (sym e ∙ add-one d) in
      sym none_left ∙ rw (drop-cons s at 0 g, p)

  pub at_the_end : length s ≤ at → x ≡ Accepted
  at_the_end g = sym none_left ∙ rw (drop_of_length-le s g)

-- ## Where components start

pub start_on : (s : List ℕ) (c at n : ℕ) → at ≡ start_of s c → n ≡ word s at → at + n ≡ start_of s (c + 1)
unfolding start_of
start_on s c at n e q = rw (add-one c, q, ← e)

pub starts_on : (s l : List ℕ) (c at : ℕ) → l ≡ starts_of s c → at ≡ start_of s c → set l c at ≡ starts_of s (c + 1)
unfolding starts_of
starts_on s l c at e q = rw (add-one c, e, q)

-- ## The table

module _ (bs : List ℕ) where
  -- the header is refused ..
  pub header_refused : (k : ℕ) → k ≡ header_of bs → (k ≡ 0 → ⊥) → refusal k 255 ≡ reading_of bs
  unfolding read_table
  header_refused k e n = rw e (go (version_fine bs) (length_fine bs) (count_fine bs && bands_fine bs) (λ z. n (e ∙ z)))
    where
      fourth : Answer Read
      fourth = read_components (header_at bs) (byte bs 3) 0 (drop (body_start bs) bs) after λ l. accepted (read_with bs l)

      go : (a b c : Bool) → (◌≡◌ {A = ℕ} (cond a (cond b (cond c 0 3) 2) 1) 0 → ⊥)
          → refusal (cond a (cond b (cond c 0 3) 2) 1) 255 ≡ reading_from bs (byte bs 3) (cond a (cond b (cond c fourth (refused 3 255)) (refused 2 255)) (refused 1 255))
      go true true true f = absurd (f refl)
      go true true false f = refl
      go true false c f = refl
      go false b c f = refl

  -- .. or passes each test ..
  pub header_fine : (k : ℕ) → k ≡ header_of bs → k ≡ 0 → (version_fine bs ≡ true) × (length_fine bs ≡ true) × (count_fine bs ≡ true) × (bands_fine bs ≡ true)
  header_fine k e z = go (version_fine bs) (length_fine bs) (count_fine bs) (bands_fine bs) (sym e ∙ z)
    where
      go : (a b c d : Bool) → ◌≡◌ {A = ℕ} (cond a (cond b (cond (c && d) 0 3) 2) 1) 0 → (a ≡ true) × (b ≡ true) × (c ≡ true) × (d ≡ true)
      go true true true true f = (refl, refl, refl, refl)
      go true true true false f = absurd (omega (arith, f))
      go true true false d f = absurd (omega (arith, f))
      go true false c d f = absurd (omega (arith, f))
      go false b c d f = absurd (omega (arith, f))

  -- .. then the components
  pub fourth : version_fine bs ≡ true → length_fine bs ≡ true → count_fine bs ≡ true → bands_fine bs ≡ true
      → reading_from bs (byte bs 3) (read_components (header_at bs) (byte bs 3) 0 (drop (body_start bs) bs)) ≡ reading_of bs
  unfolding read_table
  fourth e f g h = rw (e, f, g, h) (sym (reading_keeps bs (byte bs 3) (read_components (header_at bs) (byte bs 3) 0 (drop (body_start bs) bs)) (read_with bs)))

  pub header_first : version_fine bs ≡ false → 1 ≡ header_of bs
  header_first e = rw e

  pub header_second : version_fine bs ≡ true → length_fine bs ≡ false → 2 ≡ header_of bs
  header_second e f = rw (e, f)

  pub header_third : version_fine bs ≡ true → length_fine bs ≡ true → count_fine bs ≡ false → 3 ≡ header_of bs
  header_third e f g = rw (e, f, g)

  pub header_bands : version_fine bs ≡ true → length_fine bs ≡ true → count_fine bs ≡ true → (b : Bool) → bands_fine bs ≡ b → ◌≡◌ {A = ℕ} (cond b 0 3) (header_of bs)
  header_bands e f g b h = rw (e, f, g, h)

-- no question has the number 0
pub asks : (question : HeaderFault) → question_number question ≡ 0 → ⊥
asks Version e = omega (arith, e)
asks Length e = omega (arith, e)
asks Counts e = omega (arith, e)

-- an answer of the header that is an error, and one that is none
pub questioned : (r : Result (Unit {0}) HeaderFault) → is_err r ≡ true → header_number r ≡ 0 → ⊥
questioned (Ok u) e z = absurd (not_false e)
  where
    not_false : false ≡ true → ⊥
    not_false q = let y : ◌≡◌ {A = ℕ} 0 1 = cc in omega arith
questioned (Err question) e z = asks question z

pub if_questioned : (r : Result (Unit {0}) HeaderFault) (P : ℕ → Type 0) → ((header_number r ≡ 0 → ⊥) → P (header_number r)) → IfErr r (λ question. P (question_number question))
if_questioned (Ok u) P told = tt
if_questioned (Err question) P told = told (asks question)

pub unquestioned : (r : Result (Unit {0}) HeaderFault) → is_err r ≡ false → header_number r ≡ 0
unquestioned (Ok u) e = refl
unquestioned (Err question) e = let y : ◌≡◌ {A = ℕ} 0 1 = cc in absurd (omega arith)

-- ## What the tests of the header say

pub no_version : (bs : List ℕ) → length bs < 1 → version_fine bs ≡ false
no_version [] h = refl
no_version (b ∷ bs) h = absurd (omega arith)

pub its_length : (bs : List ℕ) → length_fine bs ≡ true → (7 ≤ length bs) × (length bs ≤ 8192)
its_length bs e = let t = simp tests at e in (t.0.0, t.0.1)

pub its_count : (bs : List ℕ) → count_fine bs ≡ true → (1 ≤ byte bs 3) × (byte bs 3 ≤ 8)
its_count bs e = let t = simp tests at e in (t.0.0.0.0, t.0.0.0.1)

-- ## The bands

-- the numbers that are asked, whatever the version: those before the components
pub bands_are : (bs : List ℕ) → body_start bs ≤ length bs → bands_fine bs ≡ all (λ b. leb b 3) (take (body_start bs - 7) (drop 7 bs))
bands_are bs h = rw (le-leb (body_start bs) (length bs) h) (go (leb 2 (byte bs 0)))
  where
    go : (b : Bool) → all (λ b. leb b 3) (cond b (take (byte bs 4) (drop 7 bs)) (replicate (byte bs 4) 0))
        ≡ all (λ b. leb b 3) (take (7 + cond b (byte bs 4) 0 - 7) (drop 7 bs))
    go true = let z : 7 + byte bs 4 - 7 ≡ byte bs 4 = omega arith in rw z
    go false = let z : 7 + 0 - 7 ≡ 0 = omega arith in rw z (zeros_small (byte bs 4))

pub bands_short : (bs : List ℕ) → length bs < body_start bs → false ≡ bands_fine bs
bands_short bs h = rw (lt-leb (body_start bs) (length bs) h)

pub all_same : (test : ℕ → Bool) (bs : List ℕ) → list_all test bs ≡ all test bs
all_same test [] = refl
all_same test (b ∷ bs) = ap (λ (rest : Bool). test b && rest) (all_same test bs)

pub bands-fit : (bs : List ℕ) → bands_fine bs ≡ true → body_start bs ≤ length bs
bands-fit bs e = leb-true (body_start bs) (length bs) ((and_is (leb (body_start bs) (length bs)) (all (λ b. leb b 3) (bands_at bs))).0 e).0
