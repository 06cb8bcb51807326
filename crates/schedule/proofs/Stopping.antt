-- Where the schedule stops, turn by turn. Assumes nothing.
use mathlib.Core.Path.{◌≡◌, refl, sym, ap, subst, ◌∙◌}
use mathlib.Core.List.{List, ◌∷◌}
use mathlib.Core.Option.{Option, some}
use Prim.Native.Nat.{ℕ, suc, ◌+◌, ◌-◌, ◌<◌}
use native.Mathlib.Numerals.{add-one}
use native.Mathlib.Omega.{arith}
use borrow.Author.Tests.{lt-ltb}
use lib.ListN.{length, get_or, drop}
use lib.Seq.{drop-cons}
use Rattle.model.specs.Lists.{snoc, Answer, accepted, refused}
use Rattle.model.specs.Table.{Component, Table, no_component, size, component_of}
use Rattle.model.specs.Schedule.{Passage, start_entry, opening, closing, OpenedSoFar}
use Rattle.model.specs.Schedule.{opened as put}
use Rattle.model.specs.Places.{read_of}
use Rattle.model.specs.Checks.{passage_at, limit}
use Rattle.opening_place.specs.Opening.{Stop, stop_at, stops_or, begin_stop, go_on_stop, first_or, schedule_stop}
use Rattle.model.specs.Calls.{verdict_of}
use Rattle.model.specs.declared.Verdict.{Verdict}
use Rattle.model.specs.declared.Verdict.TheVariants.{Accepted, Refused}
use Rattle.window.specs.declared.Entry.{Entry}
use Rattle.schedule.specs.declared.Ended.{Ended}
use Rattle.schedule.specs.Going.{Soonest, fresh, begun, first_stop, stop_in, StopsAt, Stops}
use Rattle.schedule.proofs.Closing.{its_component, its_end, closes}

-- ## What is told

same_number : {i j k d : ℕ} → Refused i j ≡ Refused k d → i ≡ k
same_number q = cc

same_component : {i j k d : ℕ} → Refused i j ≡ Refused k d → j ≡ d
same_component q = cc

-- the numbers of a refusal, in any words
pub told_as : (bs : List ℕ) (stopped : Option Stop) (P : ℕ → ℕ → ℕ) {k c i d : ℕ} {at : Entry} → StopsAt bs stopped k (P k c) c at → Refused k c ≡ Refused i d
    → StopsAt bs stopped i (P i d) d at
told_as bs stopped P {k} {c} {i} {d} {at} s q =
    subst (λ m. StopsAt bs stopped m (P m d) d at) (same_number q) (subst (λ j. StopsAt bs stopped k (P k j) j at) (same_component q) s)

pub told_stop : (bs : List ℕ) (r : Ended) {k n c : ℕ} {at : Entry} → r.scheduled.verdict ≡ Refused k c → r.passage ≡ n → r.at ≡ at
    → StopsAt bs (stop_in bs) k n c at → Stops bs r
told_stop bs r {k} {n} {c} {at} v p a s = λ i d q. (
    subst (λ x. StopsAt bs (stop_in bs) i r.passage d x) (sym a)
    (subst (λ m. StopsAt bs (stop_in bs) i m d at) (sym p) (told_as bs (stop_in bs) (λ m j. n) s (sym v ∙ q)))
    )

-- none is told of a schedule that is made
pub not_both : {v : Verdict} {k c : ℕ} → v ≡ Accepted → v ≡ Refused k c → ⊥
not_both p q = let z : ◌≡◌ {A = ℕ} 0 1 = cc in omega arith

-- ## The openings at tick 0

module _ (Cs : List Component) (room c : ℕ) (vs : List Passage) (C : Component) (is : get_or Cs c no_component ≡ C) (there : c < length Cs) (left : 0 < room) where
  here : begin_stop room c (drop c Cs) vs ≡ begin_stop (suc (room - 1)) c (C ∷ drop (suc c) Cs) vs
  here =
      let r : room ≡ suc (room - 1) = omega arith in
      ap (λ l. begin_stop room c l vs) (drop-cons Cs c no_component there ∙ ap (λ D. D ∷ drop (suc c) Cs) is) ∙ ap (λ n. begin_stop n c (C ∷ drop (suc c) Cs) vs) r

  pub begin_stop_on : (w : Passage) → opening c C (start_entry C) ≡ accepted w → begin_stop room c (drop c Cs) vs ≡ begin_stop (room - 1) (c + 1) (drop (c + 1) Cs) (snoc vs w)
  unfolding begin_stop
  begin_stop_on w e = here ∙ rw (e, add-one c) refl

  pub begin_stop_here : (k : ℕ) → opening c C (start_entry C) ≡ refused k c → begin_stop room c (drop c Cs) vs ≡ some (stop_at k vs c C (start_entry C))
  unfolding begin_stop
  begin_stop_here k e = here ∙ rw e refl

-- after that
module _ (bs : List ℕ) where
  pub first-stop : {v : Verdict} {k c : ℕ} → v ≡ verdict_of (begun bs) → v ≡ Refused k c → stop_in bs ≡ first_stop bs
  unfolding schedule_stop
  first-stop {v} {k} {c} p q = go (begun bs) (sym p ∙ q)
    where
      go : (a : Answer (List Passage)) → verdict_of a ≡ Refused k c
          → first_or (first_stop bs) a (λ vs. go_on_stop (read_of bs).table (read_of bs).horizon (limit - size (read_of bs).table) (fresh vs)) ≡ first_stop bs
      go (accepted vs) e = let z : ◌≡◌ {A = ℕ} 0 1 = cc in absurd (omega arith)
      go (refused m d) e = refl

  pub later_stop : {vs : List Passage} → begun bs ≡ accepted vs → stop_in bs ≡ go_on_stop (read_of bs).table (read_of bs).horizon (limit - size (read_of bs).table) (fresh vs)
  unfolding schedule_stop
  later_stop e = rw e refl

-- ## The passage that closes next

module _ (T : Table) (H : ℕ) (p : OpenedSoFar) (ends : List ℕ) (c : ℕ) (s : Soonest ends (size T) c) (full : length p.current ≡ size T)
    (each : (j : ℕ) → j < size T → ((passage_at p.current j).component ≡ j) × ((passage_at p.current j).end ≡ get_or ends j 0))
    (below : get_or ends c 0 < H) where
  -- how its component enters its next location
  abbrev at : Rattle.model.specs.Window.Entry
  at = closing T H p.listed (passage_at p.current c)

  -- 7. no room is left
  pub full_stop : (room : ℕ) → room ≡ 0 → go_on_stop T H room p ≡ some (stop_at 7 p.listed c (component_of T c) at)
  unfolding go_on_stop
  full_stop room e =
      rw (e, closes T H p ends c s full each, lt-ltb (passage_at p.current c).end H (omega (arith, its_end T H p ends c s full each)), its_component T H p ends c s full each)
      refl

  module _ (room : ℕ) (left : 0 < room) where
    on : go_on_stop T H room p ≡ stops_or p.listed c (component_of T c) at (λ w. go_on_stop T H (room - 1) (put p w)) (opening c (component_of T c) at)
    unfolding go_on_stop
    on =
        let r : room ≡ suc (room - 1) = omega arith in
        ap (λ n. go_on_stop T H n p) r
        ∙ rw (closes T H p ends c s full each, lt-ltb (passage_at p.current c).end H (omega (arith, its_end T H p ends c s full each)))
        (ap (λ n. stops_or p.listed n (component_of T n) at (λ w. go_on_stop T H (room - 1) (put p w)) (opening n (component_of T n) at)) (its_component T H p ends c s full each))

    -- 8 or 9. nothing opens
    pub stop_here : (k : ℕ) → opening c (component_of T c) at ≡ refused k c → go_on_stop T H room p ≡ some (stop_at k p.listed c (component_of T c) at)
    stop_here k e = on ∙ ap (stops_or p.listed c (component_of T c) at (λ w. go_on_stop T H (room - 1) (put p w))) e

    -- w opens
    pub stop_later : (w : Passage) → opening c (component_of T c) at ≡ accepted w → go_on_stop T H room p ≡ go_on_stop T H (room - 1) (put p w)
    stop_later w e = on ∙ ap (stops_or p.listed c (component_of T c) at (λ w. go_on_stop T H (room - 1) (put p w))) e
