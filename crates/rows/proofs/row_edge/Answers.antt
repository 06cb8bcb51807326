-- `rows::row_edge` meets its contract. Assumes nothing.
use mathlib.Core.Path.{refl}
use native.Mathlib.Omega.{arith}
use Rattle.rows.proofs.Placed.{at_within, at_stands, at_arc}
use Rattle.rows.proofs.row_edge.Goals as goal

pub slice_bounds-result-count : goal.slice_bounds-result-count
slice_bounds-result-count c =
    let e = c in
    omega (arith, at_within e.args.table.now e.args.rows.now e.args.i c.index.result c.type_inv.table e.requires c.index.ensures)

pub slice_bounds-result-start : goal.slice_bounds-result-start
slice_bounds-result-start c =
    let e = c in
    omega (arith, at_within e.args.table.now e.args.rows.now e.args.i c.index.result c.type_inv.table e.requires c.index.ensures)

pub returns : goal.returns
returns c =
    let e = c in
    record {
      stands = at_stands e.args.table.now e.args.rows.now e.args.i c.index.result c.type_inv.table e.requires c.index.ensures _ refl;
      arc = at_arc e.args.table.now e.args.rows.now e.args.i c.index.result c.type_inv.table e.requires c.index.ensures _ refl;
    }
