-- One turn of the schedule's loop: which open passage closes, and what comes of it. Assumes nothing.
use mathlib.Core.Path.{◌≡◌, refl, sym, ap, subst, ◌∙◌}
use mathlib.Core.Bool.{Bool, true, false}
use mathlib.Core.Logic.{inl, inr}
use mathlib.Core.List.{List, ◌∷◌}
use mathlib.Core.Option.{some}
use Prim.Native.Nat.{ℕ, zero, suc, ◌+◌, ◌-◌, ◌≤◌, ◌<◌}
use native.Mathlib.Numerals.{add-one}
use native.Mathlib.Omega.{arith}
use native.Mathlib.Decide.{ℕ_discrete}
use borrow.Author.Tests.{lt-ltb, le-ltb, ltb-true, ltb-false}
use lib.Dec.{ltb}
use lib.ListN.{length, get_or, drop, drop_of_length-le}
use lib.Seq.{drop-cons}
use Rattle.model.specs.Lists.{snoc, Answer, accepted, refused, ◌after◌}
use Rattle.model.specs.Table.{Component, Table, no_component, size, component_of}
use Rattle.model.specs.Schedule.{Passage, start_entry, opening, begin, next, closing, go_on, OpenedSoFar}
use Rattle.model.specs.Schedule.{opened as put}
use Rattle.model.specs.Checks.{passage_at}
use Rattle.model.proofs.Schedule.Soonest.{EndsBefore, closes_next}
use Rattle.schedule.specs.Going.{Soonest}

-- ## The openings at tick 0

module _ (Cs : List Component) (room c : ℕ) (vs : List Passage) (x : Answer (List Passage)) (i : begin room c (drop c Cs) vs ≡ x) where
  -- component c opens
  module _ (C : Component) (is : get_or Cs c no_component ≡ C) (there : c < length Cs) (left : 0 < room) where
    here : begin (suc (room - 1)) c (C ∷ drop (suc c) Cs) vs ≡ x
    here =
        let r : room ≡ suc (room - 1) = omega arith in
        subst (λ n. begin n c (C ∷ drop (suc c) Cs) vs ≡ x) r
        (subst (λ D. begin room c (D ∷ drop (suc c) Cs) vs ≡ x) is
        (subst (λ l. begin room c l vs ≡ x) (drop-cons Cs c no_component there) i))

    pub begin_turn : (w : Passage) → opening c C (start_entry C) ≡ accepted w → begin (room - 1) (c + 1) (drop (c + 1) Cs) (snoc vs w) ≡ x
    unfolding begin
    begin_turn w e = rw (add-one c) (rw e at here)

    pub begin_fails : (k : ℕ) → opening c C (start_entry C) ≡ refused k c → x ≡ refused k c
    unfolding begin
    begin_fails k e = sym (rw e at here)

  -- all have opened
  pub begin_done : length Cs ≤ c → x ≡ accepted vs
  unfolding begin
  begin_done h = sym (rw (drop_of_length-le Cs h) at i)

-- ## The passage that closes next

module _ (T : Table) (H : ℕ) (p : OpenedSoFar) (ends : List ℕ) (c : ℕ) (s : Soonest ends (size T) c) (full : length p.current ≡ size T)
    (each : (j : ℕ) → j < size T → ((passage_at p.current j).component ≡ j) × ((passage_at p.current j).end ≡ get_or ends j 0)) where
  -- the open passage of component c
  abbrev v : Passage
  v = passage_at p.current c

  pub its_component : v.component ≡ c
  its_component = (each c s.there).0

  pub its_end : v.end ≡ get_or ends c 0
  its_end = (each c s.there).1

  pub closes : next p.current ≡ some v
  closes = closes_next p.current c (omega (arith, s.there)) before
    where
      above : (j : ℕ) → j < size T → (j ≡ c → ⊥) → v.end ≡ (passage_at p.current j).end → (t : Bool) → ltb j c ≡ t → c < j
      above j h n q true e = absurd (omega (arith, s.lowest j (ltb-true j c e), each j h, its_end))
      above j h n q false e = omega (arith, ltb-false j c e, n)

      apart : (j : ℕ) → j < size T → (j ≡ c → ⊥) → Dec (v.end ≡ (passage_at p.current j).end) → EndsBefore v (passage_at p.current j)
      apart j h n (yes q) = inr (q, omega (arith, each j h, its_component, above j h n q (ltb j c) refl))
      apart j h n (no q) = inl (omega (arith, s.least j h, each j h, its_end, q))

      before : (j : ℕ) → j < length p.current → (j ≡ c → ⊥) → EndsBefore v (passage_at p.current j)
      before j h n = apart j (omega arith) n (ℕ_discrete v.end (passage_at p.current j).end)

  -- it reaches the horizon
  pub stops : (room : ℕ) → H ≤ get_or ends c 0 → go_on T H room p ≡ accepted p.listed
  unfolding go_on
  stops zero h = rw (closes, le-ltb v.end H (omega (arith, its_end)))
  stops (suc room) h = rw (closes, le-ltb v.end H (omega (arith, its_end)))

  module _ (below : get_or ends c 0 < H) where
    -- 7. no room is left
    pub no_room : (room : ℕ) → room ≡ 0 → go_on T H room p ≡ refused 7 c
    unfolding go_on
    no_room room e = rw (e, closes, lt-ltb v.end H (omega (arith, its_end)), its_component)

    module _ (room : ℕ) (left : 0 < room) where
      on : go_on T H room p ≡ (opening c (component_of T c) (closing T H p.listed v) after λ w. go_on T H (room - 1) (put p w))
      unfolding go_on
      on =
          let r : room ≡ suc (room - 1) = omega arith in
          ap (λ n. go_on T H n p) r ∙ rw (closes, lt-ltb v.end H (omega (arith, its_end)))
          (ap (λ n. opening n (component_of T n) (closing T H p.listed v) after λ w. go_on T H (room - 1) (put p w)) its_component)

      -- 8 or 9. nothing opens
      pub fails : (k : ℕ) → opening c (component_of T c) (closing T H p.listed v) ≡ refused k c → go_on T H room p ≡ refused k c
      fails k e = on ∙ ap (λ a. a after λ w. go_on T H (room - 1) (put p w)) e

      -- w opens
      pub goes : (w : Passage) → opening c (component_of T c) (closing T H p.listed v) ≡ accepted w → go_on T H room p ≡ go_on T H (room - 1) (put p w)
      goes w e = on ∙ ap (λ a. a after λ w. go_on T H (room - 1) (put p w)) e
