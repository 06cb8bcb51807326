-- `node_events::begun` meets its contract. Assumes nothing.
use Rattle.node_events.proofs.Laws.{begun_is}
use Rattle.node_events.proofs.begun.Goals as goal

-- src/lib.rt:217:1
pub returns : goal.returns
returns c =
    let a = c.args in
    begun_is a.part.now a.clocks a.variables c.start-registers.ensures c.settle.ensures
