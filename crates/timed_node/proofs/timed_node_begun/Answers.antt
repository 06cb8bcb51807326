-- `timed_node::timed_node_begun` meets its contract. Assumes nothing.
use mathlib.Core.Path.{◌≡◌, sym, subst}
use borrow.Author.Rules.{rules}
use Rattle.node_events.specs.declared.Running.{Running}
use Rattle.node_events.specs.Told.{Begins}
use Rattle.node_events.proofs.Telling.{begins_so}
use Rattle.node_events.proofs.Living.{every_log}
use Rattle.timed_node.proofs.timed_node_begun.Goals as goal

pub returns : goal.returns
returns c =
    let a = c.args in (
      c.begun.ensures,
      subst (λ (x : Running). Begins a.part.now a.clocks a.variables x) (sym c.begun.ensures) (begins_so a.part.now a.clocks a.variables),
      every_log,
    )
