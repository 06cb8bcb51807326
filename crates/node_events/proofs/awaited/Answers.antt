-- `node_events::awaited` meets its contract. Assumes nothing.
use mathlib.Core.Path.{refl}
use Rattle.node_events.proofs.Laws.{awaits_sleep, awaits_work, awaits_send, awaits_message, awaits_nothing}
use borrow.Author.Rules.{rules}
use Rattle.node_events.proofs.awaited.Goals as goal

-- src/lib.rt:123:9
pub returns-then-what-eq-AWAKE : goal.returns-then-what-eq-AWAKE
returns-then-what-eq-AWAKE c =
    let a = c.args in
    awaits_sleep a.part.now a.what a.channel 0 a.registers (search rules) (search rules) c.op_at-op.ensures c.if-what-eq-AWAKE.true refl

-- src/lib.rt:126:9
pub returns-then-what-eq-WORK_DONE : goal.returns-then-what-eq-WORK_DONE
returns-then-what-eq-WORK_DONE c =
    let a = c.args in
    awaits_work a.part.now a.what a.channel 0 a.registers (search rules) (search rules) c.op_at-op.ensures c.if-what-eq-AWAKE.false c.if-what-eq-WORK_DONE.true c.both.ensures

-- src/lib.rt:129:9
pub returns-then-what-eq-SENT : goal.returns-then-what-eq-SENT
returns-then-what-eq-SENT c =
    let a = c.args in
    awaits_send a.part.now a.what a.channel 0 a.registers (search rules) (search rules) c.op_at-op.ensures c.if-what-eq-AWAKE.false c.if-what-eq-WORK_DONE.false c.if-what-eq-SENT.true refl

-- src/lib.rt:132:9
pub returns-then-what-eq-RECEIVED : goal.returns-then-what-eq-RECEIVED
returns-then-what-eq-RECEIVED c =
    let a = c.args in
    awaits_message a.part.now a.what a.channel 0 a.registers (search rules) (search rules) c.op_at-op.ensures c.if-what-eq-AWAKE.false c.if-what-eq-WORK_DONE.false c.if-what-eq-SENT.false c.if-what-eq-RECEIVED.true c.names.ensures c.both-then-what-eq-RECEIVED.ensures

-- src/lib.rt:117:1
pub returns : goal.returns
returns c =
    let a = c.args in
    awaits_nothing a.part.now a.what a.channel 0 a.registers (search rules) (search rules) c.op_at-op.ensures c.if-what-eq-AWAKE.false c.if-what-eq-WORK_DONE.false c.if-what-eq-SENT.false c.if-what-eq-RECEIVED.false c.both-2.ensures
