-- `node_events::carried_on` meets its contract. Assumes nothing.
use mathlib.Core.Path.{◌≡◌, refl, sym, ap, ◌∙◌}
use borrow.Author.Tests.{not-true, not-false}
use borrow.Author.Rules.{rules}
use Rattle.node_events.proofs.Laws.{carried_none, carried_stops, carried_goes}
use Rattle.lent_node.specs.Step.{held_of}
use Rattle.node_events.specs.Events.{carried, most}
use Rattle.node_events.proofs.carried_on.Given as goal

abbrev pub invariant-loop-left : goal.invariant-loop-left
invariant-loop-left l = carried l.left l.part (held_of l.clocks l.variables) l.first l.last l.next ≡ carried most l.part (held_of l.clocks l.variables) l.first l.last l.initial.next

abbrev pub decreases-loop-left : goal.decreases-loop-left
decreases-loop-left l = l.left
