-- `node::number_at` meets its contract. Assumes nothing.
use native.Mathlib.Numerals.{add-one}
use borrow.Author.Rules.{rules}
use Rattle.node.proofs.number_at.Goals as goal

pub returns : goal.returns
returns c =
    let lower = c in
    let upper = lower in
    rw (upper.wide16.ensures.0, upper.byte_at.ensures, c.wide16-2.ensures.0, lower.byte_at-2.ensures, add-one)
