-- `node::clock_at` meets its contract. Assumes nothing.
use mathlib.Core.Path.{sym}
use lib.Seq.{get_or-take}
use Rattle.node.proofs.Held.{past}
use borrow.Author.Rules.{rules}
use Rattle.node.proofs.clock_at.Goals as goal

pub returns-then-i-count : goal.returns-then-i-count
returns-then-i-count c =
    let a = c.args in
    rw c.wide.ensures.0 (sym (get_or-take a.count a.clocks a.i 0 c.if-i-count.true))

pub returns-else-i-count : goal.returns-else-i-count
returns-else-i-count c = let a = c.args in sym (past a.count a.clocks a.i 0 c.if-i-count.false)
