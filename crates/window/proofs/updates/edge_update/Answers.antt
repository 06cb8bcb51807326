-- `window::updates::edge_update` meets its contract. Assumes nothing.
use mathlib.Core.Path.{sym, ap, ◌∙◌}
use lib.ListN.{get_or}
use Rattle.model.specs.Reader.{update_at}
use Rattle.model.specs.Places.{list_at, items_place, arc_at}
use Rattle.model.specs.Window.{updated}
use Rattle.decoder.proofs.Found.{found}
use Rattle.decoder.proofs.ByAction.{internal_updates, send_updates, receive_updates}
use Rattle.window.proofs.Fronts.{updates_asked}
use Rattle.window.proofs.Updating.{no_updates}
use Rattle.window.proofs.updates.edge_update.Goals as goal

pub update-requires : goal.update-requires
update-requires c =
    let e = c in
    updates_asked e.args.budgets e.args.bytes.now e.requires c.items_place-items.result c.items_place-items.ensures.0 (sym c.in-Internal.is ∙ c.action_at-action.ensures)

pub returns-in-Internal : goal.returns-in-Internal
returns-in-Internal c =
    let a = c.args in
    let h = a.bytes.now in
    found (λ bs. updated (list_at update_at 4 (get_or h 6 0) bs) a.values) h c.items_place-items.result (items_place a.budgets h) c.items_place-items.ensures.0 c.update.ensures
    ∙ ap (λ us. updated us a.values) (sym (internal_updates a.budgets h (sym c.in-Internal.is ∙ c.action_at-action.ensures)))

pub returns-in-Send : goal.returns-in-Send
returns-in-Send c =
    let a = c.args in
    no_updates (arc_at a.budgets a.bytes.now).updates a.values (send_updates a.budgets a.bytes.now _ (sym c.in-Send.is ∙ c.action_at-action.ensures))

pub returns-in-Receive : goal.returns-in-Receive
returns-in-Receive c =
    let a = c.args in
    no_updates (arc_at a.budgets a.bytes.now).updates a.values (receive_updates a.budgets a.bytes.now (sym c.in-Receive.is ∙ c.action_at-action.ensures))
