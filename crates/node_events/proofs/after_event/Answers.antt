-- `node_events::after_event` meets its contract. Assumes nothing.
use Rattle.node_events.proofs.Laws.{refuses, takes_place}
use Rattle.node_events.proofs.after_event.Goals as goal

-- src/lib.rt:200:9
pub returns-then-number-ne-FINE : goal.returns-then-number-ne-FINE
returns-then-number-ne-FINE c =
    let a = c.args in
    refuses a.part.now a.what a.channel a.tick a.running c.said-number.ensures c.if-number-ne-FINE.true c.answer.ensures

-- src/lib.rt:194:1
pub returns : goal.returns
returns c =
    let a = c.args in
    takes_place a.part.now a.what a.channel a.tick a.running c.said-number.ensures c.if-number-ne-FINE.false c.moved-next.ensures c.finish_tick.ensures c.go.ensures
