-- `schedule::next_turn` meets its contract. Assumes nothing.
use mathlib.Core.Path.{subst}
use native.Mathlib.Omega.{arith}
use Rattle.window.specs.Views.{Placed}
use Rattle.schedule.proofs.Leads.{place_within, place_ready, its_present, its_tick, location_there, leaves_row}
use Rattle.schedule.proofs.next_turn.Goals as goal

pub message-message-requires : goal.message-message-requires
message-message-requires c = let e = c in (e.requires.0, e.requires.2.row)

pub slice_bounds-leave-count : goal.slice_bounds-leave-count
slice_bounds-leave-count c =
    let e = c in
    let a = e.args in
    omega (arith, place_within a.table.now a.rows.now a.count a.component a.node a.end c.type_inv.table e.requires.0 e.requires.2)

pub slice_bounds-leave-start : goal.slice_bounds-leave-start
slice_bounds-leave-start c =
    let e = c in
    let a = e.args in
    omega (arith, place_within a.table.now a.rows.now a.count a.component a.node a.end c.type_inv.table e.requires.0 e.requires.2)

pub leave-at-requires : goal.leave-at-requires
leave-at-requires c =
    let e = c in
    let a = e.args in (
      place_ready a.table.now a.rows.now a.count a.component a.node a.end c.type_inv.table e.requires.0 e.requires.2 a.budgets e.requires.5,
      its_tick a.table.now a.rows.now a.count a.component a.node a.end c.type_inv.table e.requires.0 e.requires.2,
      omega (arith, e.requires.3),
      e.requires.2.young,
    )

pub open-opening-requires : goal.open-opening-requires
open-opening-requires c =
    let e = c in
    let a = e.args in (
      e.requires.0.valid,
      its_present a.table.now a.rows.now a.count a.component a.node a.end c.type_inv.table e.requires.0 e.requires.2,
      e.requires.1,
      location_there a.table.now a.rows.now a.count a.component a.node a.end c.type_inv.table e.requires.0 e.requires.2 a.budgets e.requires.5 a.horizon c.message-message.result c.leave-at.result c.leave-at.ensures.leads,
      e.requires.4,
      e.requires.5,
    )

pub returns : goal.returns
returns c =
    let e = c in
    let a = e.args in
    record {
      message = c.message-message.ensures;
      leads = leaves_row a.table.now a.rows.now a.count a.component a.node a.end c.type_inv.table e.requires.0 e.requires.2 a.budgets e.requires.5 a.horizon c.message-message.result c.leave-at.result c.leave-at.ensures.leads c.message-message.ensures;
      there = location_there a.table.now a.rows.now a.count a.component a.node a.end c.type_inv.table e.requires.0 e.requires.2 a.budgets e.requires.5 a.horizon c.message-message.result c.leave-at.result c.leave-at.ensures.leads;
      young = c.leave-at.ensures.young;
      opens = c.open-opening.ensures.opens;
      placed = subst (λ k. Placed a.table.now k a.component c.open-opening.result) e.requires.1 c.open-opening.ensures.placed;
    }
