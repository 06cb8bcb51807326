-- `node_events::carried_on` meets its contract. Assumes nothing.
use mathlib.Core.Path.{◌≡◌, refl, sym, ap, ◌∙◌}
use borrow.Author.Tests.{not-true, not-false}
use borrow.Author.Rules.{rules}
use Rattle.node_events.proofs.Laws.{carried_none, carried_stops, carried_goes}
use Rattle.lent_node.specs.Step.{held_of}
use Rattle.node_events.specs.Events.{carried, most}
use Rattle.node_events.proofs.carried_on.Goals as goal

pub loop-left-init : goal.loop-left-init
loop-left-init c = refl

pub returns-then-not-goes_on : goal.returns-then-not-goes_on
returns-then-not-goes_on c =
    let a = c.args in
    let l = c.loop-left in
    sym (carried_stops a.part.now (held_of a.clocks a.variables) a.first a.last l.left l.next (sym c.goes_on.ensures ∙ not-true _ c.if-not-goes_on.true-raw)) ∙ l.invariant

pub loop-left-preserved : goal.loop-left-preserved
loop-left-preserved c =
    let a = c.args in
    let l = c.loop-left in
    carried_goes a.part.now (held_of a.clocks a.variables) a.first a.last l.left _ l.next c.stepped-next.result c.loop-left-test.true refl (sym c.goes_on.ensures ∙ not-false _ c.if-not-goes_on.false-raw) c.stepped-next.ensures ∙ l.invariant

pub returns : goal.returns
returns c =
    let a = c.args in
    let l = c.loop-left in
    sym (carried_none a.part.now (held_of a.clocks a.variables) a.first a.last l.left l.next c.loop-left-test.false) ∙ l.invariant
