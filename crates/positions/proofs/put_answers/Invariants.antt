-- `positions::put_answers` meets its contract. Assumes nothing.
use mathlib.Core.Path.{◌≡◌}
use lib.ListN.{length}
use Rattle.positions.proofs.Answering.{Going}
use Rattle.positions.proofs.put_answers.Given as goal

abbrev pub invariant-loop-k : goal.invariant-loop-k
invariant-loop-k l =
    Going l.rows l.count l.pairs l.initial.answers l.latest l.read l.k l.answers × (length l.latest ≡ 8) × (length l.answers ≡ length l.initial.answers)
