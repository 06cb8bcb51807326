-- `stand::adds_in_range` meets its contract. Assumes nothing.
use mathlib.Core.Path.{◌∙◌}
use Rattle.node.proofs.Sums.{wide_fits, wide_back}
use borrow.Author.Rules.{sfits_of}
use Rattle.stand.proofs.adds_in_range.Goals as goal

pub overflow_add-sum : goal.overflow_add-sum
overflow_add-sum c =
    let s = c in
    wide_fits {x = s.args.value} {z = c.signed_at.result} s.ranges.value (sfits_of c.signed_at.type_inv) c.wide32.ensures c.wide32-2.ensures

pub returns : goal.returns
returns c =
    let s = c in
    c.both.ensures ∙ rw (wide_back {x = s.args.value} {z = c.signed_at.result} s.ranges.value (sfits_of c.signed_at.type_inv) c.wide32.ensures c.wide32-2.ensures, c.signed_at.ensures)
