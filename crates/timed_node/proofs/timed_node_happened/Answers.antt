-- `timed_node::timed_node_happened` meets its contract: what `happened` answers, and the law that says it in the words of the run. Assumes nothing.
use mathlib.Core.Path.{sym, subst}
use Rattle.node_events.specs.declared.Running.{Running}
use Rattle.node_events.specs.Told.{Told}
use Rattle.node_events.proofs.Answering.{told_so}
use Rattle.timed_node.proofs.timed_node_happened.Goals as goal

pub returns : goal.returns
returns c =
    let a = c.args in (
      c.happened-next.ensures,
      subst (λ (y : Running). Told a.part.now a.what a.channel a.tick a.running.now y) (sym c.happened-next.ensures) (told_so a.part.now a.channel a.tick a.running.now a.what),
    )
