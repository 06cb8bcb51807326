-- What the answer of the reader says of the table, for callers of `table::read`. Assumes nothing.
use mathlib.Core.Path.{◌≡◌, refl, sym, ap, ◌∙◌}
use mathlib.Core.Bool.{Bool, true, false, cond, ◌&&◌}
use mathlib.Core.List.{List}
use Prim.Native.Nat.{ℕ, ◌≤◌, ◌<◌}
use native.Mathlib.Omega.{arith}
use borrow.Author.Tests.{lt-ltb, le-ltb, ltb-false}
use lib.Dec.{ltb}
use Rattle.model.specs.declared.Verdict.TheVariants.{Accepted, Refused}
use Rattle.model.specs.Lists.{Answer, accepted, refused, ◌after◌}
use Rattle.model.specs.Table.{Read}
use Rattle.model.specs.Reader.{byte, read_table}
use Rattle.model.specs.Places.{Valid, is_accepted}
use Rattle.model.specs.Checks.{accepted_schedule_of}
use Rattle.model.specs.Calls.{verdict_of, spread_fine, read_at, accepted_schedule_in}
use Rattle.table.specs.declared.Reading.{Reading}
use Rattle.table.specs.Directory.{starts_of, found_in, reading_from, refusal, reading_of, reading_at}

-- ## A verdict is that of one answer

pub verdict_refused : {A : Type 0} (a : Answer A) {n c : ℕ} → verdict_of a ≡ Refused n c → a ≡ refused n c
verdict_refused (accepted x) e = let z : ◌≡◌ {A = ℕ} 0 1 = cc in absurd (omega arith)
verdict_refused (refused m d) e = cc

pub verdict_accepted : {A : Type 0} (a : Answer A) → verdict_of a ≡ Accepted → (x : A) × (a ≡ accepted x)
verdict_accepted (accepted x) e = (x, refl)
verdict_accepted (refused n c) e = let z : ◌≡◌ {A = ℕ} 0 1 = cc in absurd (omega arith)

-- ## What was read

module _ (bs : List ℕ) (r : Reading) (e : r ≡ reading_of bs) where
  by_answer : r.verdict ≡ verdict_of (read_table bs)
  by_answer = ap (λ (x : Reading). x.verdict) e

  -- accepted: the table is valid ..
  pub was_valid : r.verdict ≡ Accepted → Valid bs
  unfolding Valid
  was_valid v = ap is_accepted (verdict_accepted (read_table bs) (sym by_answer ∙ v)).1

  -- .. and its components' starts were found
  pub its_starts : r.verdict ≡ Accepted → r.starts ≡ starts_of bs (byte bs 3)
  its_starts v = ap (λ (x : Reading). x.starts) e ∙ ap (found_in bs (byte bs 3)) (verdict_accepted (read_table bs) (sym by_answer ∙ v)).1

  -- refused: by the reader, and so by checks 1 to 12
  pub read_refused : {n c : ℕ} → r.verdict ≡ Refused n c → read_table bs ≡ refused n c
  read_refused v = verdict_refused (read_table bs) (sym by_answer ∙ v)

  pub was_refused : {n c : ℕ} → r.verdict ≡ Refused n c → accepted_schedule_in bs ≡ refused n c
  unfolding accepted_schedule_in
  was_refused v = ap (λ (a : Answer Read). a after accepted_schedule_of) (read_refused v)

-- ## What was read at a spread

module _ (G : ℕ) (bs : List ℕ) where
  -- a spread that is not too wide changes nothing
  same_answer : {A : Type 0} → G ≤ 1000 → (a : Answer A) → spread_fine G a ≡ a
  same_answer h (accepted x) = rw (le-ltb 1000 G h)
  same_answer h (refused n c) = rw (le-ltb 1000 G h)

  pub at_narrow : G ≤ 1000 → (r : Reading) → r ≡ reading_of bs → r ≡ reading_at G bs
  at_narrow h r e = e ∙ sym (ap (λ (a : Answer Read). reading_from bs (byte bs 3) a) (same_answer h (read_table bs)))

  -- one that is refuses all but what 1 to 3 refuse
  pub at_wide : 1000 < G → (r : Reading) → r ≡ reading_of bs → r.verdict ≡ Accepted → refusal 19 255 ≡ reading_at G bs
  at_wide h r e v =
      sym
      (ap (λ (a : Answer Read). reading_from bs (byte bs 3) (spread_fine G a)) (verdict_accepted (read_table bs) (sym (by_answer bs r e) ∙ v)).1
      ∙ ap (λ (x : Bool). reading_from {A = Read} bs (byte bs 3) (cond x (refused 19 255) (accepted (verdict_accepted (read_table bs) (sym (by_answer bs r e) ∙ v)).0))) (lt-ltb 1000 G h))

  module _ (h : 1000 < G) (r : Reading) (e : r ≡ reading_of bs) {n c : ℕ} (v : r.verdict ≡ Refused n c) where
    with_refused : (x : Bool) → (ltb 1000 G && ltb 3 n) ≡ x → reading_at G bs ≡ reading_from {A = Read} bs (byte bs 3) (cond x (refused 19 255) (refused n c))
    with_refused x q =
        ap (λ (a : Answer Read). reading_from bs (byte bs 3) (spread_fine G a)) (read_refused bs r e v)
        ∙ ap (λ (y : Bool). reading_from {A = Read} bs (byte bs 3) (cond y (refused 19 255) (refused n c))) q

    pub at_header : n ≤ 3 → refusal n c ≡ reading_at G bs
    at_header k = sym (with_refused false (rw (lt-ltb 1000 G h, le-ltb 3 n k)))

    pub at_parts : 3 < n → refusal 19 255 ≡ reading_at G bs
    at_parts k = sym (with_refused true (rw (lt-ltb 1000 G h, lt-ltb 3 n k)))

-- what the reader answers at a spread
module _ (G : ℕ) (bs : List ℕ) (r : Reading) (e : r ≡ reading_at G bs) where
  by_spread : r.verdict ≡ verdict_of (read_at G bs)
  by_spread = ap (λ (x : Reading). x.verdict) e

  -- refused
  pub refused_at : {n c : ℕ} → r.verdict ≡ Refused n c → read_at G bs ≡ refused n c
  refused_at v = verdict_refused (read_at G bs) (sym by_spread ∙ v)

  -- accepted: the spread is not too wide, and the table was read
  module _ (v : r.verdict ≡ Accepted) where
    pub narrow : G ≤ 1000
    narrow = go (read_table bs) (ltb 1000 G) refl (sym by_spread ∙ v)
      where
        go : (a : Answer Read) (wide : Bool) → ltb 1000 G ≡ wide → verdict_of (spread_fine G a) ≡ Accepted → G ≤ 1000
        go a false w q = ltb-false 1000 G w
        go (accepted t) true w q =
            let z : Refused 19 255 ≡ Accepted = sym (ap (λ (x : Bool). verdict_of {A = Read} (cond x (refused 19 255) (accepted t))) w) ∙ q in
            let y : ◌≡◌ {A = ℕ} 0 1 = cc in
            absurd (omega arith)
        go (refused n c) true w q = absurd (never (ltb 1000 G && ltb 3 n) q)
          where
            never : (x : Bool) → verdict_of {A = Read} (cond x (refused 19 255) (refused n c)) ≡ Accepted → ⊥
            never true z = let y : ◌≡◌ {A = ℕ} 0 1 = cc in omega arith
            never false z = let y : ◌≡◌ {A = ℕ} 0 1 = cc in omega arith

    read_so : r ≡ reading_of bs
    read_so = e ∙ ap (λ (a : Answer Read). reading_from bs (byte bs 3) a) (same_answer G bs narrow (read_table bs))

    pub valid_at : Valid bs
    valid_at = was_valid bs r read_so v

    pub starts_at : r.starts ≡ starts_of bs (byte bs 3)
    starts_at = its_starts bs r read_so v
