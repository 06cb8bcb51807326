-- `machine::is_timed` meets its contract. Assumes nothing.
use mathlib.Core.Path.{sym, ap}
use Prim.Native.Nat.{ℕ}
use native.Mathlib.Omega.{arith}
use lib.Dec.{leb}
use Rattle.node.proofs.Ops.{op_short}
use Rattle.machine.proofs.Quiet.{timed_is}
use Rattle.machine.proofs.is_timed.Goals as goal

pub returns-then-part-lt4 : goal.returns-then-part-lt4
returns-then-part-lt4 c = let a = c.args in sym (ap (λ (k : ℕ). leb k 5) (op_short a.part.now a.at (omega arith)))

pub returns-then-part-at : goal.returns-then-part-at
returns-then-part-at c = let a = c.args in sym (ap (λ (k : ℕ). leb k 5) (op_short a.part.now a.at (omega arith)))

pub returns : goal.returns
returns c = let a = c.args in timed_is a.part.now a.at (omega arith)
