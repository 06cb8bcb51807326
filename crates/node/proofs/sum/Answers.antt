-- `node::sum` meets its contract. Assumes nothing.
use lib.IntN.{◌+ℤ◌}
use mir.Syntax.{w16}
use mir.ValLaws.{to_z-of_z}
use Rattle.node.proofs.Sums.{range_fits, wide_fits, wide_back}
use borrow.Author.Rules.{rules}
use Rattle.node.proofs.sum.Goals as goal

pub overflow_add-result : goal.overflow_add-result
overflow_add-result c = let s = c in wide_fits s.ranges.value s.ranges.addend c.wide32.ensures c.wide32-2.ensures

pub overflow_cast-result : goal.overflow_cast-result
overflow_cast-result c =
    let s = c in
    rw (wide_back s.ranges.value s.ranges.addend c.wide32.ensures c.wide32-2.ensures) (range_fits (s.args.value +ℤ s.args.addend) s.requires)

pub returns : goal.returns
returns c =
    let s = c in
    rw (wide_back s.ranges.value s.ranges.addend c.wide32.ensures c.wide32-2.ensures)
    (to_z-of_z w16 (s.args.value +ℤ s.args.addend) (range_fits (s.args.value +ℤ s.args.addend) s.requires))
