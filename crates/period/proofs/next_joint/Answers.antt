-- `period::next_joint` meets its contract. Assumes nothing.
use mathlib.Core.Path.{sym, subst}
use Prim.Native.Nat.{◌+◌}
use native.Mathlib.Omega.{arith}
use Rattle.period.specs.Walking.{Stops}
use Rattle.period.proofs.next_joint.Goals as goal

pub overflow_add-from : goal.overflow_add-from
overflow_add-from c = omega (arith, c.requires.2, c.requires.0.placed.few)

pub to_joint-next-requires : goal.to_joint-next-requires
to_joint-next-requires c = (c.requires.0.placed.fits, c.requires.0.placed.few, omega (arith, c.requires.2), c.requires.3)

pub carry-requires : goal.carry-requires
carry-requires c = (c.requires.0, c.requires.1, omega (arith, c.to_joint-next.ensures.from), c.to_joint-next.ensures.among, c.requires.4)

pub returns : goal.returns
returns c =
    let a = c.args in
    (c.carry.ensures.0, subst (Stops a.rows.now a.count a.components (a.from.row + 1)) (sym c.carry.ensures.1) c.to_joint-next.ensures)
