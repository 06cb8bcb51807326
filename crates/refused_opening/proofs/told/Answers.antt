-- `refused_opening::told` meets its contract. Assumes nothing.
use mathlib.Core.Path.{◌≡◌, ap, ◌∙◌}
use Prim.Native.Nat.{◌+◌}
use native.Mathlib.Omega.{arith}
use lib.IntN.{pos}
use lib.ListN.{take}
use Rattle.model.specs.Reader.{byte}
use Rattle.model.specs.Places.{component_in}
use Rattle.model.specs.Run.{four}
use Rattle.schedule.proofs.Tables.{stands_at, start_fits}
use Rattle.opening_place.specs.Opening.{Reasons}
use Rattle.refused_opening.specs.declared.Overflow.{Overflow}
use Rattle.schedule.specs.Going.{stop_of}
use Rattle.refused_opening.proofs.Telling.{told_is, edge_shown, update_shown}
use Rattle.refused_opening.proofs.told.Goals as goal

pub overflow_add-start : goal.overflow_add-start
overflow_add-start c = omega (arith, start_fits c.args.table.now c.type_inv.table c.requires.0 c.args.c c.args.start c.requires.1 c.requires.2)

pub bounds-table-start : goal.bounds-table-start
bounds-table-start c = omega (arith, start_fits c.args.table.now c.type_inv.table c.requires.0 c.args.c c.args.start c.requires.1 c.requires.2)

pub overflow_add-start-2 : goal.overflow_add-start-2
overflow_add-start-2 c = omega (arith, start_fits c.args.table.now c.type_inv.table c.requires.0 c.args.c c.args.start c.requires.1 c.requires.2)

pub bounds-table-start-2 : goal.bounds-table-start-2
bounds-table-start-2 c = omega (arith, start_fits c.args.table.now c.type_inv.table c.requires.0 c.args.c c.args.start c.requires.1 c.requires.2)

pub returns : goal.returns
returns c =
    let s = c in
    let a = s.args in
    let C = stands_at a.table.now c.type_inv.table s.requires.0 a.c s.requires.1 in
    let n : byte a.table.now (a.start + 4) ≡ (component_in a.table.now a.c).clocks = ap (λ k. byte a.table.now (k + 4)) s.requires.2 ∙ C.clocks in
    let m : byte a.table.now (a.start + 5) ≡ (component_in a.table.now a.c).variables = ap (λ k. byte a.table.now (k + 5)) s.requires.2 ∙ C.variables in
    told_is (stop_of a.table.now a.number a.passage a.c a.at) (c.first_shown.ensures ∙ ap (λ k. four 0 (take k a.at.clocks)) n) (c.first_shown-2.ensures ∙ ap (λ k. four (pos 0) (take k a.at.values)) m) (ap (λ (x : Reasons). x.leaving) c.reasons_for-reasons.ensures) (ap (λ (x : Reasons). x.blocked) c.reasons_for-reasons.ensures) (ap (λ (x : Reasons). x.windowless) c.reasons_for-reasons.ensures) (ap (λ (x : Overflow). x.edge) c.unwrap_or-overflow.ensures ∙ edge_shown c.overflow_for.result c.overflow_for.ensures) (ap (λ (x : Overflow). x.update) c.unwrap_or-overflow.ensures ∙ update_shown c.overflow_for.result c.overflow_for.ensures)
