-- `node::choose_block` meets its contract. Assumes nothing.
use mathlib.Core.Path.{ap, ◌∙◌}
use Rattle.node.specs.After.{moved}
use borrow.Author.Rules.{rules}
use Rattle.node.proofs.choose_block.Goals as goal

pub returns : goal.returns
returns c =
    ap (moved c.args.registers) (c.block_place.ensures ∙ rw c.wide.ensures.0)
