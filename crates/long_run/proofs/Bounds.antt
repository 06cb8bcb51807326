-- How many passages the schedule to a horizon of four bytes has at most, and how far its run goes. Assumes nothing.
use mathlib.Core.Path.{◌≡◌, sym, ◌∙◌}
use mathlib.Core.List.{List}
use Prim.Native.Nat.{ℕ, zero, suc, ◌*◌, ◌≤◌}
use native.Mathlib.Omega.{arith}
use lib.ListN.{length}
use Rattle.model.specs.Lists.{Bytes, accepted}
use Rattle.model.specs.Table.{Read, size}
use Rattle.model.specs.Places.{Valid, read_of}
use Rattle.model.specs.Schedule.{Passage}
use Rattle.model.specs.Chains.{IsSchedule}
use Rattle.model.specs.Run.{setting_to, run}
use Rattle.model.proofs.Reader.Parts.{accepted_same}
use Rattle.model.proofs.Run.Tied.{schedule_at}
use Rattle.translator.proofs.Standing.{valid_limits}
use Rattle.recurrence.specs.Recurrence.{accepted_schedule_to, Unending}
use Rattle.later_runs.proofs.ReadBack.{run_most}
use Rattle.run.specs.Ends.{most_used}

more_times : (x y p : ℕ) → x ≤ y → x * p ≤ y * p
more_times zero y p h = omega arith
more_times (suc x) zero p h = absurd (omega arith)
more_times (suc x) (suc y) p h = omega (arith, more_times x y p (omega arith))

-- the schedule to a horizon
pub schedule_to : (t : Read) (X : ℕ) (L : List Passage) → accepted_schedule_to t.table X ≡ accepted L → IsSchedule (size t.table * X) t.table X L
unfolding accepted_schedule_to
schedule_to t X L e = (schedule_at 0 t.table X (size t.table * X) L e).0

-- there is one at most
pub one_schedule : (t : Read) (X : ℕ) {L K : List Passage} → accepted_schedule_to t.table X ≡ accepted L → accepted_schedule_to t.table X ≡ accepted K → L ≡ K
one_schedule t X d e = accepted_same (sym d ∙ e)

module _ (table : List ℕ) (b : Bytes table) (valid : Valid table) (X : ℕ) where
  few_passages : (L : List Passage) → accepted_schedule_to (read_of table).table X ≡ accepted L → length L ≤ 8 * X
  few_passages L e = omega (arith, (schedule_to (read_of table) X L e).few, more_times (size (read_of table).table) 8 X (valid_limits table b valid).most_components)

  module _ (small : X ≤ 4294967295) where
    -- so many passages, and 36 bytes for each are a number of eight bytes
    pub passages_most : (L : List Passage) → accepted_schedule_to (read_of table).table X ≡ accepted L → length L ≤ 34359738360
    passages_most L e = omega (arith, few_passages L e)

    -- so many choices are carried out
    pub used_most : (u : Unending (read_of table) X) (cs : List ℕ) → (run (setting_to (read_of table) X u.passages) cs).state.used ≤ most_used
    used_most u cs = omega (arith, u.uses cs, few_passages u.passages u.planned, (valid_limits table b valid).most_components)

    -- no later than the horizon
    pub tick_most : 1 ≤ X → (L : List Passage) (cs : List ℕ) → (run (setting_to (read_of table) X L) cs).state.tick ≤ 4294967295
    tick_most least L cs = omega (arith, run_most (setting_to (read_of table) X L) cs (omega arith))
