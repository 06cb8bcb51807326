-- `window::leave` meets its contract. Assumes nothing.
use mathlib.Core.Path.{ap, ◌∙◌}
use native.Mathlib.Omega.{arith}
use Prim.Native.Nat.{◌-◌}
use Rattle.model.specs.declared.Edge.{Edge}
use Rattle.model.specs.Lists.{or_else}
use Rattle.model.specs.Window.{aged}
use Rattle.model.specs.Places.{arc_at}
use Rattle.window.specs.Views.{entry_of, message_of}
use Rattle.window.proofs.Leaving.{aged_young, all_up, kept_else, leaves_to}
use Rattle.window.proofs.leave.Goals as goal

pub age-clocks-requires : goal.age-clocks-requires
age-clocks-requires c =
    let a = c.args in
    (omega arith, all_up a.at.tick 1000000 (omega arith) c.requires.3)

pub returns : goal.returns
returns c =
    let a = c.args in
    let clocks = c.age-clocks.ensures ∙ ap (λ (e : Edge). aged e.mask (a.end - a.at.tick) 0 a.at.clocks) c.edge_at-edge.ensures in
    let values = c.unwrap_or-values.ensures ∙ kept_else c.edge_update.result a.at.values ∙ ap (λ o. or_else o a.at.values) c.edge_update.ensures in record { leads = leaves_to (arc_at a.budgets a.bytes.now) (message_of a.message) a.end (entry_of a.at) c.leads_to.ensures clocks values; young = rw clocks (aged_young (arc_at a.budgets a.bytes.now).edge.mask 0 a.at.tick a.end c.requires.1 c.requires.3) }
