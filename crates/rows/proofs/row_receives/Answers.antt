-- `rows::row_receives` meets its contract. Assumes nothing.
use Rattle.rows.proofs.Placed.{has_first}
use Rattle.rows.proofs.row_receives.Goals as goal

pub budgeted-requires : goal.budgeted-requires
budgeted-requires c = let e = c in has_first e.args.table.now e.args.rows.now e.args.i c.type_inv.table e.requires
