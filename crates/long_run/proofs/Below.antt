-- The run to a horizon up to the table's own: by all rows of the table's schedule it is the run of the schedule to that horizon, since a passage that is
-- entered at the horizon or later is never overdue by it. Assumes nothing.
use mathlib.Core.Path.{◌≡◌, refl, sym, ap, ◌∙◌}
use mathlib.Core.Bool.{Bool, true, false}
use mathlib.Core.List.{List}
use mathlib.Core.Logic.{inl, inr}
use mathlib.Core.Option.{Option, some}
use Prim.Native.Nat.{ℕ, ◌≤◌, ◌<◌}
use native.Mathlib.Omega.{arith}
use borrow.Author.Tests.{ltb-true, ltb-false, lt-ltb, le-ltb}
use lib.Dec.{ltb}
use lib.ListN.{length}
use Rattle.model.specs.Lists.{All}
use Rattle.model.specs.Table.{Table, Read}
use Rattle.model.specs.Schedule.{Passage, own}
use Rattle.model.specs.Checks.{passage_at}
use Rattle.model.specs.Chains.{IsSchedule}
use Rattle.model.specs.Run.{Setting, ready_of_nth, setting_to, overdue, run}
use Rattle.model.proofs.Schedule.Own.{own_in, all_in, in_all}
use Rattle.model.proofs.Schedule.Passages.{entered}
use Rattle.recurrence.specs.Rows.{rows_before}
use Rattle.recurrence.proofs.Seam.{enters_before}
use Rattle.recurrence.proofs.Every.{all_left}
use Rattle.recurrence.proofs.Index.{ready_at, no_ready}
use Rattle.recurrence.proofs.Place.{same_start, same_rows}
use Rattle.recurrence.proofs.Turned.{ready_after}
use Rattle.recurrence.proofs.Agree.{run_same}

-- S is the schedule to h, L that to X
module _ {l m : ℕ} (T : Table) (h X : ℕ) {S L : List Passage} (whole : IsSchedule l T h S) (cut : IsSchedule m T X L) (least : 0 < X) (less : X ≤ h) where
  all_early : (c : ℕ) → All (λ v. ltb v.entry.tick X ≡ true) (own c L)
  all_early c = in_all (own c L) (λ v i. lt-ltb v.entry.tick X (elim (all_in (entered cut) (own_in c L i).0).tick [ inl z ↦ omega arith | inr z ↦ z ]))

  -- a component's passages to X are those entered before it
  cut_own : (c : ℕ) → length (own c L) ≡ rows_before S c X
  cut_own c = omega (arith, same_rows T X h cut whole less least c X (omega arith), all_left (enters_before X) (all_early c))

  module _ (g : Setting) where
    later : (c k now : ℕ) → now ≤ X → (b : Bool) → ltb k (length (own c L)) ≡ b → (b' : Bool) → ltb k (length (own c S)) ≡ b'
        → overdue g (ready_of_nth (own c S) k) now ≡ overdue g (ready_of_nth (own c L) k) now
    later c k now near true q b' q' =
        let x = ltb-true k (length (own c L)) q in
        let y = same_start T X h cut whole less least c k x in
        ap (λ (o : Option ℕ). overdue g o now) (ready_at (own c S) k y.0 ∙ ap (λ (n : ℕ). some n) y.1 ∙ sym (ready_at (own c L) k x))
    later c k now near false q true q' =
        let x = ltb-false k (length (own c L)) q in
        let y = ltb-true k (length (own c S)) q' in
        let z = ready_after T h whole X c k (omega (arith, x, cut_own c)) y in
        ap (λ (o : Option ℕ). overdue g o now) (ready_at (own c S) k y) ∙ le-ltb (passage_at (own c S) k).ready now (omega arith) ∙ sym (ap (λ (o : Option ℕ). overdue g o now) (no_ready (own c L) k x))
    later c k now near false q false q' =
        ap (λ (o : Option ℕ). overdue g o now) (no_ready (own c S) k (ltb-false k (length (own c S)) q') ∙ sym (no_ready (own c L) k (ltb-false k (length (own c L)) q)))

    agree : (c k now : ℕ) → now ≤ X → overdue g (ready_of_nth (own c S) k) now ≡ overdue g (ready_of_nth (own c L) k) now
    agree c k now near = later c k now near (ltb k (length (own c L))) refl (ltb k (length (own c S))) refl

-- The law.
pub run_below : {l m : ℕ} (t : Read) (h X : ℕ) {S L : List Passage} → IsSchedule l t.table h S → IsSchedule m t.table X L → 0 < X → X ≤ h → (cs : List ℕ) → run (setting_to t X S) cs ≡ run (setting_to t X L) cs
run_below t h X {S} {L} whole cut least less cs = run_same (setting_to t X L) (λ c k. ready_of_nth (own c S) k) (agree t.table h X whole cut least less (setting_to t X L)) least cs
