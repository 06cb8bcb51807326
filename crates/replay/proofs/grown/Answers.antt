-- `replay::grown` meets its contract. Assumes nothing.
use mathlib.Core.Path.{refl, ap, ◌∙◌}
use Prim.Native.Nat.{◌-◌}
use native.Mathlib.Omega.{arith}
use Rattle.model.specs.declared.Edge.{Edge}
use Rattle.model.specs.Lists.{or_else}
use Rattle.model.specs.Table.{Arc}
use Rattle.model.specs.Window.{aged, updated}
use Rattle.window.specs.Views.{entry_of}
use Rattle.window.proofs.Leaving.{aged_young, all_up, kept_else, leaves_to}
use Rattle.rows.proofs.Placed.{at_within, at_arc}
use Rattle.replay.proofs.Placing.{at_ready}
use Rattle.replay.proofs.grown.Goals as goal

pub slice_bounds-edge_update-count : goal.slice_bounds-edge_update-count
slice_bounds-edge_update-count c = omega (arith, at_within c.args.table.now c.args.rows.now c.args.i c.index-place.result c.type_inv.table c.requires.0 c.index-place.ensures)

pub slice_bounds-edge_update-start : goal.slice_bounds-edge_update-start
slice_bounds-edge_update-start c = omega (arith, at_within c.args.table.now c.args.rows.now c.args.i c.index-place.result c.type_inv.table c.requires.0 c.index-place.ensures)

pub edge_update-requires : goal.edge_update-requires
edge_update-requires c = at_ready c.args.table.now c.args.rows.now c.args.i c.index-place.result c.type_inv.table c.requires.0 c.index-place.ensures c.args.budgets c.requires.3

pub slice_bounds-edge_at-count : goal.slice_bounds-edge_at-count
slice_bounds-edge_at-count c = omega (arith, at_within c.args.table.now c.args.rows.now c.args.i c.index-place.result c.type_inv.table c.requires.0 c.index-place.ensures)

pub slice_bounds-edge_at-start : goal.slice_bounds-edge_at-start
slice_bounds-edge_at-start c = omega (arith, at_within c.args.table.now c.args.rows.now c.args.i c.index-place.result c.type_inv.table c.requires.0 c.index-place.ensures)

pub edge_at-edge-requires : goal.edge_at-edge-requires
edge_at-edge-requires c =
    let r = at_ready c.args.table.now c.args.rows.now c.args.i c.index-place.result c.type_inv.table c.requires.0 c.index-place.ensures c.args.budgets c.requires.3 in
    (r.decodable.head, r.decodable.whole)

pub age-clocks-requires : goal.age-clocks-requires
age-clocks-requires c =
    let s = c in
    (omega (arith, s.requires.0.row.small, c.number-end.ensures), all_up s.args.at.tick 1000000 (omega (arith, s.requires.1, s.requires.0.row.small)) s.requires.2)

pub returns : goal.returns
returns c =
    let s = c in
    let a = s.args in
    let arc = at_arc a.table.now a.rows.now a.i c.index-place.result c.type_inv.table s.requires.0 c.index-place.ensures a.budgets s.requires.3 in
    let clocks = c.age-clocks.ensures ∙ ap (λ (e : Edge). aged e.mask (c.number-end.result - a.at.tick) 0 a.at.clocks) c.edge_at-edge.ensures ∙ ap (λ (x : Arc). aged x.edge.mask (c.number-end.result - a.at.tick) 0 a.at.clocks) arc in
    let values = c.unwrap_or-values.ensures ∙ kept_else c.edge_update.result a.at.values ∙ ap (λ o. or_else o a.at.values) c.edge_update.ensures ∙ ap (λ (x : Arc). or_else (updated x.updates a.at.values) a.at.values) arc in
    rw (← c.number-end.ensures)
    (record {
      leads = λ m. leaves_to _ m c.number-end.result (entry_of a.at) refl clocks values;
      young = rw clocks (aged_young _ 0 a.at.tick c.number-end.result (omega (arith, s.requires.1, c.number-end.ensures)) s.requires.2);
    })
