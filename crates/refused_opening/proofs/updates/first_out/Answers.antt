-- `refused_opening::updates::first_out` meets its contract. Assumes nothing.
use mathlib.Core.Path.{sym, ap, ◌∙◌}
use lib.ListN.{get_or}
use Rattle.model.specs.Reader.{update_at}
use Rattle.model.specs.Places.{list_at, items_place}
use Rattle.decoder.proofs.Found.{found}
use Rattle.decoder.proofs.ByAction.{internal_updates, send_updates, receive_updates}
use Rattle.window.proofs.Fronts.{updates_asked}
use Rattle.opening_place.specs.Opening.{first_out}
use Rattle.refused_opening.proofs.Outs.{no_updates}
use Rattle.refused_opening.proofs.updates.first_out.Goals as goal

pub first_of-requires : goal.first_of-requires
first_of-requires c =
    let e = c in
    updates_asked e.args.budgets e.args.bytes.now e.requires c.items_place-items.result c.items_place-items.ensures.0 (sym c.in-Internal.is ∙ c.action_at-action.ensures)

pub returns-in-Internal : goal.returns-in-Internal
returns-in-Internal c =
    let a = c.args in
    let h = a.bytes.now in
    found (λ bs. first_out 0 (list_at update_at 4 (get_or h 6 0) bs) a.values) h c.items_place-items.result (items_place a.budgets h) c.items_place-items.ensures.0 c.first_of.ensures
    ∙ ap (λ us. first_out 0 us a.values) (sym (internal_updates a.budgets h (sym c.in-Internal.is ∙ c.action_at-action.ensures)))

pub returns-in-Send : goal.returns-in-Send
returns-in-Send c =
    let a = c.args in
    no_updates a.values (send_updates a.budgets a.bytes.now _ (sym c.in-Send.is ∙ c.action_at-action.ensures))

pub returns-in-Receive : goal.returns-in-Receive
returns-in-Receive c =
    let a = c.args in
    no_updates a.values (receive_updates a.budgets a.bytes.now (sym c.in-Receive.is ∙ c.action_at-action.ensures))
