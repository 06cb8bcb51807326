-- `rounds::run_rounds` meets its contract. Assumes nothing.
use mathlib.Core.Path.{◌≡◌}
use Prim.Native.Nat.{ℕ, ◌-◌, ◌<◌}
use lib.ListN.{length, get_or}
use Rattle.model.specs.Places.{read_of}
use Rattle.rows.specs.Rows.{rows_of}
use Rattle.period.specs.Walking.{schedule_in}
use Rattle.turning.specs.Turned.{between}
use Rattle.rounds.proofs.InPart.{InPart}
use Rattle.rounds.proofs.run_rounds.Given as goal

abbrev pub invariant-loop-round : goal.invariant-loop-round
invariant-loop-round l =
    InPart l.table (read_of l.table) (schedule_in l.table) l.program l.passages l.count l.round.first l.round.second l.round.period l.last l.choices l.initial.out l.rows l.words l.values l.out l.tick l.used l.written l.until
    × (length l.rows ≡ length l.initial.rows) × (length l.words ≡ length l.initial.words) × (length l.values ≡ length l.initial.values) × (length l.out ≡ length l.initial.out)
    × ((c : ℕ) → c < l.count → get_or l.fewer c 0 ≡ between (rows_of l.rows l.passages) l.round.first l.round.second c)

abbrev pub decreases-loop-round : goal.decreases-loop-round
decreases-loop-round l = l.last - l.until
