-- A batch of where-was-it, of a table's bytes: what the call answers without its walk. Assumes nothing.
use mathlib.Core.Path.{◌≡◌, refl, sym, ap, subst, ◌∙◌}
use mathlib.Core.Bool.{Bool, true, false, cond, ◌&&◌}
use mathlib.Core.List.{List, [], ◌∷◌, ◌++◌, append_assoc}
use mathlib.Core.Logic.{◌↔◌, ◌⊎◌, inl, inr}
use Prim.Native.Nat.{ℕ, zero, suc, ◌+◌, ◌*◌, ◌≤◌, ◌<◌}
use native.Mathlib.Omega.{arith}
use borrow.Author.Tests.{ltb-true, ltb-false, lt-ltb, le-leb, leb-true, leb-false, ne_eqb, eq-eqb}
use lib.Dec.{leb, ltb, eqb}
use lib.ListN.{length, drop, get_or, length-append, length-drop}
use lib.Seq.{drop_at, drop-drop}
use Rattle.model.specs.declared.Verdict.TheVariants.{Accepted, Refused}
use Rattle.model.specs.Lists.{each, be16, Bytes, Answer, accepted, refused, ◌after◌}
use Rattle.model.specs.Table.{Component, Read, no_component, size, component_of}
use Rattle.model.specs.Reader.{byte, word, read_table}
use Rattle.model.specs.Schedule.{Passage}
use Rattle.model.specs.Checks.{limit, passage_at, InWindow, accepted_schedule_of}
use Rattle.model.specs.Chains.{IsSchedule}
use Rattle.model.specs.Reasons.{askable, passage_number, edges_from, asked_in, reasons_bytes, ReasonsCall, not_told, told, reasons_call}
use Rattle.model.specs.Reasons as reasons
use Rattle.model.specs.Positions.{Asked, asked, bad_pair, window_byte, position_bytes, entered_by, passages_read, PositionsCall, not_answered, positions_tried, positions_planned, positions_read, positions_call, pair_at, tick_before, CanBeAsked, Fine, FirstBad, AnswerTrue, Answers, NotAnswered, PositionsTrue}
use Rattle.model.proofs.Basics.Bools.{clash, and_is}
use Rattle.model.proofs.Basics.Words.{word_back}
use Rattle.model.proofs.Basics.Walk.{byte_drop, word_drop, all_at}
use Rattle.model.proofs.Reader.RoundTrip.{written_read}
use Rattle.model.proofs.Run.Tied.{schedule_at}
use Rattle.model.proofs.Schedule.Reasoned.{named}
use Rattle.model.proofs.Schedule.Answered.{reasoned}
use Rattle.model.proofs.Schedule.Positioned.{entered_are, last_read, read_few, in_window, position-bytes}

-- ## The pairs

-- one place further the predecessor is the same
same_before : (before : ℕ) (q : Asked) (qs : List Asked) (k : ℕ) → tick_before q.tick qs k ≡ tick_before before (q ∷ qs) (suc k)
same_before before q qs zero = refl
same_before before q qs (suc k) = refl

module _ (t : Read) where
  -- all of them are fine
  abbrev AllFine : ℕ → List Asked → Type 0
  AllFine before qs = (k : ℕ) → k < length qs → Fine t before qs k

  later_fine : (before : ℕ) (q : Asked) (qs : List Asked) (k : ℕ) → Fine t q.tick qs k → Fine t before (q ∷ qs) (suc k)
  later_fine before q qs k f = record { allowed = f.allowed; sorted = subst (λ n. n ≤ (pair_at qs k).tick) (same_before before q qs k) f.sorted }

  -- a fine pair in front
  module _ (before : ℕ) (q : Asked) (qs : List Asked) (first : Fine t before (q ∷ qs) 0) where
    more_fine : AllFine q.tick qs → AllFine before (q ∷ qs)
    more_fine f zero h = first
    more_fine f (suc k) h = later_fine before q qs k (f k (omega arith))

    fine_until : {p : ℕ} → ((k : ℕ) → k < p → Fine t q.tick qs k) → (k : ℕ) → k < suc p → Fine t before (q ∷ qs) k
    fine_until f zero h = first
    fine_until f (suc k) h = later_fine before q qs k (f k (omega arith))

    more_bad : {n : ℕ} → FirstBad t q.tick qs n → FirstBad t before (q ∷ qs) n
    more_bad b =
        record {
          place = suc b.place;
          there = omega (arith, b.there);
          fine = fine_until b.fine;
          bad =
              elim b.bad [
                | inl x ↦ inl x
                | inr x ↦ inr (x.0, x.1, subst (λ m. (pair_at qs b.place).tick < m) (same_before before q qs b.place) x.2)
              ];
        }

  can_be_asked : (q : Asked) → askable t q.component q.tick ≡ true → CanBeAsked t q
  can_be_asked q e =
      let h = (and_is (ltb q.component (size t.table)) (ltb q.tick t.horizon)).0 e in
      (ltb-true q.component (size t.table) h.0, ltb-true q.tick t.horizon h.1)

  pub is_askable : (q : Asked) → CanBeAsked t q → askable t q.component q.tick ≡ true
  is_askable q h = rw (lt-ltb q.component (size t.table) h.0, lt-ltb q.tick t.horizon h.1)

  -- all pairs are fine, or one is the first that is not and decides
  pub tried : (before : ℕ) (qs : List Asked) → ((bad_pair t before qs ≡ 0) × AllFine before qs) ⊎ FirstBad t before qs (bad_pair t before qs)
  tried before [] = inl (refl, λ k h. absurd (omega arith))
  tried before (q ∷ qs) = go (askable t q.component q.tick) refl (ltb q.tick before) refl (tried q.tick qs)
    where
      number : Bool → Bool → ℕ
      number a o = let order : ℕ = cond o 24 (bad_pair t q.tick qs) in cond a order 21

      go : (a : Bool) → askable t q.component q.tick ≡ a → (o : Bool) → ltb q.tick before ≡ o
          → ((bad_pair t q.tick qs ≡ 0) × AllFine q.tick qs) ⊎ FirstBad t q.tick qs (bad_pair t q.tick qs)
          → ((number a o ≡ 0) × AllFine before (q ∷ qs)) ⊎ FirstBad t before (q ∷ qs) (number a o)
      go false e o f ih =
          inr (record { place = 0; there = omega arith; fine = λ k h. absurd (omega arith); bad = inl (refl, λ c. clash (sym e ∙ is_askable q c)) })
      go true e true f ih =
          inr (record { place = 0; there = omega arith; fine = λ k h. absurd (omega arith); bad = inr (refl, can_be_asked q e, ltb-true q.tick before f) })
      go true e false f (inl z) =
          let first : Fine t before (q ∷ qs) 0 = record { allowed = can_be_asked q e; sorted = ltb-false q.tick before f } in
          inl (z.0, more_fine before q qs first z.1)
      go true e false f (inr b) =
          let first : Fine t before (q ∷ qs) 0 = record { allowed = can_be_asked q e; sorted = ltb-false q.tick before f } in
          inr (more_bad before q qs first b)

-- ## The bytes

-- those of part k, where parts of one width stand one after the other
each_at : {A : Type 0} (f : A → List ℕ) (w : ℕ) → ((x : A) → length (f x) ≡ w) → (d : A) (xs : List A) (r : List ℕ) (k : ℕ) → k < length xs
    → (rest : List ℕ) × (drop (k * w) (each f xs ++ r) ≡ f (get_or xs k d) ++ rest)
unfolding each
each_at f w sized d [] r k h = absurd (omega arith)
each_at f w sized d (x ∷ xs) r zero h = let z : 0 * w ≡ 0 = omega arith in (each f xs ++ r, rw z (append_assoc (f x) (each f xs) r))
each_at f w sized d (x ∷ xs) r (suc k) h =
    let later = each_at f w sized d xs r k (omega arith) in
    let z : suc k * w ≡ w + k * w = omega arith in (
      later.0,
      ap (λ n. drop n ((f x ++ each f xs) ++ r)) z ∙ sym (drop-drop (k * w) w ((f x ++ each f xs) ++ r))
          ∙ ap (drop (k * w)) (ap (drop w) (append_assoc (f x) (each f xs) r) ∙ drop_at (f x) (each f xs ++ r) w (sized x)) ∙ later.1,
    )

module _ (S : List Passage) (qs : List Asked) (r : List ℕ) (k : ℕ) (h : k < length qs) where
  abbrev there : (rest : List ℕ) × (drop (k * 3) (each (position_bytes S) qs ++ r) ≡ position_bytes S (pair_at qs k) ++ rest)
  there = each_at (position_bytes S) 3 (λ q. refl) (record { component = 0; tick = 0 }) qs r k h

  -- the number of the passage, and the third byte
  number_back : word (each (position_bytes S) qs ++ r) (k * 3) ≡ passage_number S (pair_at qs k).component (pair_at qs k).tick
  number_back =
      let x = there in
      word_drop (each (position_bytes S) qs ++ r) (k * 3) ∙ ap (λ l. word l 0) x.1 ∙ word_back (passage_number S (pair_at qs k).component (pair_at qs k).tick)

  third_back : byte (each (position_bytes S) qs ++ r) (k * 3 + 2) ≡ window_byte (pair_at qs k).tick (passage_at S (passage_number S (pair_at qs k).component (pair_at qs k).tick)).ready
  third_back = let x = there in byte_drop (each (position_bytes S) qs ++ r) (k * 3) 2 ∙ ap (λ (l : List ℕ). byte l 2) x.1

-- ## The third byte

is_early : (a b : ℕ) → (window_byte a b ≡ 0) ↔ (a < b)
is_early a b = go (ltb a b) refl
  where
    go : (x : Bool) → ltb a b ≡ x → (◌≡◌ {A = ℕ} (cond x 0 1) 0) ↔ (a < b)
    go true e = (λ _. ltb-true a b e, λ _. refl)
    go false e = (λ z. absurd (omega arith), λ h. absurd (omega (arith, ltb-false a b e)))

is_inside : (a b : ℕ) → (window_byte a b ≡ 1) ↔ (ltb a b ≡ false)
is_inside a b = go (ltb a b)
  where
    go : (x : Bool) → (◌≡◌ {A = ℕ} (cond x 0 1) 1) ↔ (x ≡ false)
    go true = (λ z. absurd (omega arith), λ e. clash (sym e))
    go false = (λ _. refl, λ _. refl)

-- ## The passages

module _ (bs : List ℕ) (t : Read) (S : List Passage) (e : read_table bs ≡ accepted t) (f : accepted_schedule_of t ≡ accepted S) where
  schedule : IsSchedule limit t.table t.horizon S
  schedule = (schedule_at 0 t.table t.horizon limit S f).0

  module _ (q : Asked) (c : CanBeAsked t q) where
    abbrev number : ℕ
    number = passage_number S q.component q.tick

    abbrev C : Component
    C = component_of t.table q.component

    -- what Wish 7 names, and what it tells
    told_is : (lent : List ℕ) → reasons_call bs q.component q.tick lent ≡ told lent (accepted (record { component = C; number = number; passage = passage_at S number }))
    unfolding reasons_call reasons.asked
    told_is lent =
        ap (λ (a : Answer Read). told lent (a after λ x. accepted_schedule_of x after asked_in x q.component q.tick)) e
        ∙ ap (λ (a : Answer (List Passage)). told lent (a after asked_in t q.component q.tick)) f
        ∙ rw (is_askable t q c)

    told_number : (lent : List ℕ) → (reasons_call bs q.component q.tick lent).verdict ≡ Accepted → (reasons_call bs q.component q.tick lent).passage ≡ number
    told_number lent v = ap (λ (r : ReasonsCall). r.passage) (told_is lent) ∙ go (leb (length (reasons_bytes C (passage_at S number))) (length lent)) (ap (λ (r : ReasonsCall). r.verdict) (sym (told_is lent)) ∙ v)
      where
        answer : Bool → ReasonsCall
        answer b =
            let bytes = reasons_bytes C (passage_at S number) in
            cond b (record { verdict = Accepted; passage = number; size = length (edges_from C (passage_at S number).entry.location); lent = bytes ++ drop (length bytes) lent }) (not_told 13 255 lent)

        go : (b : Bool) → (answer b).verdict ≡ Accepted → (answer b).passage ≡ number
        go true z = refl
        go false z = let clash : ◌≡◌ {A = ℕ} 0 1 = cc in absurd (omega arith)

    -- with room for all edges that there can be, the passage is told, and the first two bytes of the answer here are its number
    pub same_as_reasons : Bytes bs → (lent : List ℕ) → 96 ≤ length lent
        → ((reasons_call bs q.component q.tick lent).verdict ≡ Accepted)
        × (position_bytes S q ≡ be16 (reasons_call bs q.component q.tick lent).passage ++ (window_byte q.tick (passage_at S number).ready ∷ []))
    same_as_reasons b lent h =
        let limits = all_at no_component (written_read bs t b e).0.components q.component c.0 in
        let few = (reasoned t S schedule q.component q.tick c.0 c.1 limits).few in
        let v : (reasons_call bs q.component q.tick lent).verdict ≡ Accepted = ap (λ (r : ReasonsCall). r.verdict) (told_is lent) ∙ rw (le-leb (length (reasons_bytes C (passage_at S number))) (length lent) (omega arith)) in
        (v, ap (λ (n : ℕ). be16 n ++ (window_byte q.tick (passage_at S number).ready ∷ [])) (sym (told_number lent v)))

    -- the answer is true
    answer_true : AnswerTrue bs S q number (window_byte q.tick (passage_at S number).ready)
    answer_true =
        let n = named schedule q.component q.tick c.0 c.1 in
        let w = in_window schedule q.component q.tick c.0 c.1 in
        let i = is_inside q.tick (passage_at S number).ready in
        record {
          there = n.there;
          own = n.component;
          entered = n.entered;
          before = n.before;
          alone = n.alone;
          early = is_early q.tick (passage_at S number).ready;
          inside = (λ z. w.0 (i.0 z), λ x. i.1 (w.1 x));
          reasons = told_number;
        }

  -- ## The call

  module _ (ps lent : List ℕ) where
    abbrev qs : List Asked
    qs = asked ps

    call_is : positions_call bs ps lent ≡ positions_tried S qs lent (bad_pair t 0 qs)
    unfolding positions_call
    call_is = ap (λ (a : Answer Read). positions_read a qs lent) e ∙ ap (λ (a : Answer (List Passage)). positions_planned t a qs lent) f

    abbrev bytes : List ℕ
    bytes = each (position_bytes S) qs

    abbrev laid : List ℕ
    laid = bytes ++ drop (length bytes) lent

    answer_at : (k : ℕ) → k < length qs → Fine t 0 qs k → AnswerTrue bs S (pair_at qs k) (word laid (k * 3)) (byte laid (k * 3 + 2))
    answer_at k h x =
        let q = pair_at qs k in
        let r = drop (length bytes) lent in
        subst (λ (n : ℕ). AnswerTrue bs S q n (byte laid (k * 3 + 2))) (sym (number_back S qs r k h))
        (subst (λ (n : ℕ). AnswerTrue bs S q (passage_number S q.component q.tick) n) (sym (third_back S qs r k h)) (answer_true q x.allowed))

    answers : AllFine t 0 qs → length qs * 3 ≤ length lent → Answers bs t S qs lent (record { verdict = Accepted; read = passages_read S qs; lent = laid })
    answers fine fits =
        let long = position-bytes S qs in
        record {
          verdict = refl;
          fine = fine;
          answer = λ k h. answer_at k h (fine k h);
          none = nothing_read qs;
          few = read_few S qs;
          read = λ last i l h. subst (λ (n : ℕ). (i < n) ↔ ((passage_at S i).entry.tick ≤ (pair_at qs last).tick)) (sym (last_read S qs last l)) (entered_are schedule (pair_at qs last).tick i h);
          fits = fits;
          long = length-append bytes (drop (length bytes) lent) ∙ omega (arith, length-drop (length bytes) lent);
          rest = drop_at bytes (drop (length bytes) lent) (length qs * 3) long ∙ ap (λ (n : ℕ). drop n lent) long;
        }
      where
        nothing_read : (xs : List Asked) → length xs ≡ 0 → passages_read S xs ≡ 0
        nothing_read [] z = refl
        nothing_read (x ∷ xs) z = absurd (omega arith)

    outcome : ((bad_pair t 0 qs ≡ 0) × AllFine t 0 qs) ⊎ FirstBad t 0 qs (bad_pair t 0 qs)
        → Answers bs t S qs lent (positions_tried S qs lent (bad_pair t 0 qs)) ⊎ NotAnswered t qs lent (positions_tried S qs lent (bad_pair t 0 qs))
    outcome (inl z) = rw (eq-eqb (bad_pair t 0 qs) 0 z.0) (room (leb (length qs * 3) (length lent)) refl)
      where
        room : (b : Bool) → leb (length qs * 3) (length lent) ≡ b
            → Answers bs t S qs lent (cond b (record { verdict = Accepted; read = passages_read S qs; lent = laid }) (not_answered 13 255 lent))
            ⊎ NotAnswered t qs lent (cond b (record { verdict = Accepted; read = passages_read S qs; lent = laid }) (not_answered 13 255 lent))
        room true b = inl (answers z.1 (leb-true (length qs * 3) (length lent) b))
        room false b = inr (record { number = 13; verdict = refl; why = inr (refl, z.1, leb-false (length qs * 3) (length lent) b); read = refl; kept = refl })
    outcome (inr b) = rw (ne_eqb (bad_pair t 0 qs) 0 not_zero) (inr (record { number = bad_pair t 0 qs; verdict = refl; why = inl b; read = refl; kept = refl }))
      where
        not_zero : bad_pair t 0 qs ≡ 0 → ⊥
        not_zero z = elim b.bad [ inl x ↦ omega (arith, x.0) | inr x ↦ omega (arith, x.0) ]

-- whatever bytes and pairs are handed in
pub batch_true : (bs ps lent : List ℕ) → PositionsTrue bs ps lent
batch_true bs ps lent t S e f =
    subst (λ (r : PositionsCall). Answers bs t S (asked ps) lent r ⊎ NotAnswered t (asked ps) lent r) (sym (call_is bs t S e f ps lent)) (outcome bs t S e f ps lent (tried t 0 (asked ps)))
