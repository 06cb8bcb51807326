-- `simulator::runs::one_run` meets its contract. Assumes nothing.
use mathlib.Core.Path.{◌≡◌}
use Prim.Native.Nat.{◌+◌, ◌≤◌}
use lib.ListN.{length}
use Rattle.simulator.specs.Tries.{Going}
use Rattle.simulator.proofs.runs.one_run.Given as goal

abbrev pub invariant-loop-left : goal.invariant-loop-left
invariant-loop-left l =
    Going l.program l.rows l.passages l.horizon l.count l.lo l.hi l.seed l.initial.words l.words l.values l.until l.tick l.turn l.moved l.state l.left × (l.tick + l.left ≤ 1000000000000)
    × (length l.words ≡ length l.initial.words) × (length l.values ≡ length l.initial.values) × (length l.until ≡ length l.initial.until)
    × (8 ≤ length l.initial.until) × (l.lo ≤ l.hi) × (l.hi ≤ 60000) × (l.horizon ≤ 4294967295)

abbrev pub decreases-loop-left : goal.decreases-loop-left
decreases-loop-left l = l.left
