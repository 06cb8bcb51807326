-- `node_events::goes_on` meets its contract. Assumes nothing.
use Rattle.node_events.proofs.Laws.{goes_is}
use Rattle.node_events.proofs.goes_on.Goals as goal

-- src/lib.rt:32:1
pub returns : goal.returns
returns c =
    let a = c.args in
    goes_is a.part.now a.registers a.first a.last c.op_at-op.ensures c.both.ensures c.either-free.ensures c.both-2.ensures
