-- `node_events::moved` meets its contract. Assumes nothing.
use Rattle.node_events.proofs.Laws.{by_waking, by_work, by_message, by_passing}
use Rattle.lent_node.specs.Step.{held_of}
use Rattle.node_events.proofs.moved.Goals as goal

-- src/lib.rt:175:9
pub returns-then-what-eq-AWAKE : goal.returns-then-what-eq-AWAKE
returns-then-what-eq-AWAKE c =
    let a = c.args in
    by_waking a.part.now (held_of a.clocks a.variables) a.what a.channel a.registers c.if-what-eq-AWAKE.true c.stepped.ensures

-- src/lib.rt:178:9
pub returns-then-what-eq-WORK_DONE : goal.returns-then-what-eq-WORK_DONE
returns-then-what-eq-WORK_DONE c =
    let a = c.args in
    by_work a.part.now (held_of a.clocks a.variables) a.what a.channel a.registers c.if-what-eq-AWAKE.false c.if-what-eq-WORK_DONE.true c.work.ensures

-- src/lib.rt:181:9
pub returns-then-what-eq-RECEIVED : goal.returns-then-what-eq-RECEIVED
returns-then-what-eq-RECEIVED c =
    let a = c.args in
    by_message a.part.now (held_of a.clocks a.variables) a.what a.channel a.registers c.if-what-eq-AWAKE.false c.if-what-eq-WORK_DONE.false c.if-what-eq-RECEIVED.true c.hear.ensures

-- src/lib.rt:171:1
pub returns : goal.returns
returns c =
    let a = c.args in
    by_passing a.part.now (held_of a.clocks a.variables) a.what a.channel a.registers c.if-what-eq-AWAKE.false c.if-what-eq-WORK_DONE.false c.if-what-eq-RECEIVED.false c.pass.ensures
