-- `node_events::pass` meets its contract. Assumes nothing.
use Rattle.node_events.proofs.Laws.{settled_of}
use Rattle.lent_node.specs.Step.{held_of}
use Rattle.node_events.proofs.pass.Goals as goal

-- src/lib.rt:79:1
pub returns : goal.returns
returns c =
    let a = c.args in
    settled_of a.part.now (held_of a.clocks a.variables) c.stepped-finished.ensures c.settle.ensures
