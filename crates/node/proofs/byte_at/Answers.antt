-- `node::byte_at` meets its contract. Assumes nothing.
use mathlib.Core.Path.{sym}
use lib.ListN.{get_or-eq_default}
use borrow.Author.Rules.{rules}
use Rattle.node.proofs.byte_at.Goals as goal

pub returns-else-i-part : goal.returns-else-i-part
returns-else-i-part c = let a = c.args in sym (get_or-eq_default a.part.now 0 c.if-i-part.false)
