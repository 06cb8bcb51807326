-- `node::value_at` meets its contract. Assumes nothing.
use mathlib.Core.Path.{sym}
use lib.IntN.{pos}
use lib.ListN.{get_or}
use lib.Seq.{get_or-take}
use mir.Syntax.{w16}
use mir.Val.{SFits}
use mir.ValLaws.{to_z-of_z}
use Rattle.node.proofs.Held.{past}
use borrow.Author.Rules.{rules}
use Rattle.node.proofs.value_at.Goals as goal

pub returns-then-i-count : goal.returns-then-i-count
returns-then-i-count c =
    let a = c.args in
    let fits : SFits w16 (get_or a.values c.wide.result (pos 0)) = search rules in
    rw (to_z-of_z w16 (get_or a.values c.wide.result (pos 0)) fits, c.wide.ensures.0) (sym (get_or-take a.count a.values a.i (pos 0) c.if-i-count.true))

pub returns-else-i-count : goal.returns-else-i-count
returns-else-i-count c = let a = c.args in sym (past a.count a.values a.i (pos 0) c.if-i-count.false)
