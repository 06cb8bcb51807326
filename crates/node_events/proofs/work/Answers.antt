-- `node_events::work` meets its contract. Assumes nothing.
use Rattle.node_events.proofs.Laws.{settled_of}
use Rattle.lent_node.specs.Step.{held_of}
use Rattle.node_events.proofs.work.Goals as goal

-- src/lib.rt:71:1
pub returns : goal.returns
returns c =
    let a = c.args in
    settled_of a.part.now (held_of a.clocks a.variables) c.carried_on-finished.ensures c.settle.ensures
