-- `words::put_decimal` meets its contract. Assumes nothing.
use Prim.Native.Nat.{◌+◌, ◌≤◌}
use Rattle.words.proofs.Numerals.{Made}
use Rattle.words.proofs.put_decimal.Given as goal

abbrev pub invariant-loop-rest : goal.invariant-loop-rest
invariant-loop-rest l = Made l.digits l.first l.rest l.n × (l.at + 10 ≤ 4611686018427387904)

abbrev pub decreases-loop-rest : goal.decreases-loop-rest
decreases-loop-rest l = l.rest
