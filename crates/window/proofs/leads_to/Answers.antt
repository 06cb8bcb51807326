-- `window::leads_to` meets its contract. Assumes nothing.
use mathlib.Core.Path.{sym, ap, ◌∙◌}
use lib.ListN.{get_or}
use Rattle.model.specs.declared.Edge.{Edge}
use Rattle.model.specs.Reader.{pair_at}
use Rattle.model.specs.Places.{list_at, items_place, arc_at}
use Rattle.model.specs.Window.{receives, paired}
use Rattle.decoder.proofs.Found.{found}
use Rattle.decoder.proofs.ByAction.{receive_pairs}
use Rattle.window.proofs.Fronts.{pairs_asked}
use Rattle.window.proofs.Leaving.{leads_without, leads_plain, leads_paired}
use Rattle.window.proofs.leads_to.Goals as goal

pub returns-then-message-eq255 : goal.returns-then-message-eq255
returns-then-message-eq255 c =
    let a = c.args in
    ap (λ (e : Edge). e.destination) c.edge_at-edge.ensures ∙ leads_without (arc_at a.budgets a.bytes.now) a.message c.if-message-eq255.true

pub paired_location-requires : goal.paired_location-requires
paired_location-requires c =
    let s = c in
    pairs_asked s.args.budgets s.args.bytes.now s.requires c.items_place-items.result c.items_place-items.ensures.0 (sym c.in-Receive.is ∙ ap (λ (e : Edge). e.action) c.edge_at-edge.ensures)

pub returns-in-Internal : goal.returns-in-Internal
returns-in-Internal c =
    let a = c.args in
    let plain = ap receives (sym c.in-Internal.is ∙ ap (λ (e : Edge). e.action) c.edge_at-edge.ensures) in
    ap (λ (e : Edge). e.destination) c.edge_at-edge.ensures ∙ leads_plain (arc_at a.budgets a.bytes.now) a.message c.if-message-eq255.false plain

pub returns-in-Send : goal.returns-in-Send
returns-in-Send c =
    let a = c.args in
    let plain = ap receives (sym c.in-Send.is ∙ ap (λ (e : Edge). e.action) c.edge_at-edge.ensures) in
    ap (λ (e : Edge). e.destination) c.edge_at-edge.ensures ∙ leads_plain (arc_at a.budgets a.bytes.now) a.message c.if-message-eq255.false plain

pub returns-in-Receive : goal.returns-in-Receive
returns-in-Receive c =
    let a = c.args in
    let h = a.bytes.now in
    let receive = sym c.in-Receive.is ∙ ap (λ (e : Edge). e.action) c.edge_at-edge.ensures in
    found (λ bs. paired (list_at pair_at 2 (get_or h 6 0) bs) a.message c.edge_at-edge.result.destination) h c.items_place-items.result (items_place a.budgets h) c.items_place-items.ensures.0 c.paired_location.ensures
    ∙ rw (← receive_pairs a.budgets h receive, c.edge_at-edge.ensures) (leads_paired (arc_at a.budgets h) a.message c.if-message-eq255.false (ap receives receive))
