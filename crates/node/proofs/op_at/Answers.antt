-- `node::op_at` meets its contract. Assumes nothing.
use mathlib.Core.Path.{sym}
use native.Mathlib.Omega.{arith}
use Rattle.node.proofs.Ops.{op_short, op_pair, op_here, op_high}
use borrow.Author.Rules.{rules}
use Rattle.node.proofs.op_at.Goals as goal

pub returns-then-part-lt4 : goal.returns-then-part-lt4
returns-then-part-lt4 c = let a = c.args in sym (op_short a.part.now a.at (omega arith))

pub returns-then-part-at : goal.returns-then-part-at
returns-then-part-at c = let a = c.args in sym (op_short a.part.now a.at (omega arith))

pub returns-then-op-eq-PAIR : goal.returns-then-op-eq-PAIR
returns-then-op-eq-PAIR c = let a = c.args in sym (op_pair a.part.now a.at c.if-op-eq-PAIR.true)

pub returns-then-op-lt-BEYOND : goal.returns-then-op-lt-BEYOND
returns-then-op-lt-BEYOND c =
    let a = c.args in
    sym (op_here a.part.now a.at (omega arith) c.if-op-eq-PAIR.false c.if-op-lt-BEYOND.true)

pub returns-else-op-lt-BEYOND : goal.returns-else-op-lt-BEYOND
returns-else-op-lt-BEYOND c = let a = c.args in sym (op_high a.part.now a.at c.if-op-lt-BEYOND.false)
