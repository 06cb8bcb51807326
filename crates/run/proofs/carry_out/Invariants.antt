-- `run::carry_out` meets its contract. Assumes nothing.
use mathlib.Core.Path.{◌≡◌}
use Prim.Native.Nat.{◌-◌, ◌≤◌}
use mathlib.Core.List.{List}
use Prim.Native.Nat.{ℕ}
use lib.ListN.{length}
use Rattle.model.specs.Run.{Run}
use Rattle.registers.specs.Words.{Eight}
use Rattle.run.specs.Ends.{Begun}
use Rattle.run.proofs.Stages.{Stage}
use Rattle.run.proofs.carry_out.Given as goal

abbrev pub invariant-loop-used : goal.invariant-loop-used
invariant-loop-used l =
    ((s : Run) (lent : List ℕ) → Begun l.program l.horizon l.rows l.passages l.initial.words l.initial.values l.count l.choices l.initial.out l.since l.seen s lent → Stage l.program l.horizon l.rows l.passages l.count l.initial.words l.choices lent s l.words l.values l.out l.tick l.used l.written)
    × (l.used ≤ length l.choices) × (length l.words ≡ length l.initial.words) × (length l.values ≡ length l.initial.values) × (length l.out ≡ length l.initial.out) × Eight l.words l.values × (l.count ≤ 8)

abbrev pub decreases-loop-used : goal.decreases-loop-used
decreases-loop-used l =
    length l.choices - l.used
