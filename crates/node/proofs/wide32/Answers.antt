-- `node::wide32` meets its contract. Assumes nothing.
use mir.Syntax.{w16, w32}
use mir.ValLaws.{to_z-of_z}
use Rattle.node.proofs.Sums.{more}
use Rattle.node.proofs.wide32.Goals as goal

pub overflow_cast-result : goal.overflow_cast-result
overflow_cast-result c = rw (to_z-of_z w16 c.args.number c.ranges.number) (more c.ranges.number)

pub returns : goal.returns
returns c = rw (to_z-of_z w16 c.args.number c.ranges.number) (to_z-of_z w32 c.args.number (more c.ranges.number))
