-- `node_events::when` meets its contract. Assumes nothing.
use Rattle.node_events.proofs.Laws.{too_early, too-late, in-time}
use Rattle.node_events.proofs.when.Goals as goal

-- src/lib.rt:164:9
pub returns-then-tick-first_tick : goal.returns-then-tick-first_tick
returns-then-tick-first_tick c =
    let a = c.args in
    too_early a.what a.tick a.registers c.first_tick.ensures c.if-tick-first_tick.true

-- src/lib.rt:167:9
pub returns-then-last_tick-tick : goal.returns-then-last_tick-tick
returns-then-last_tick-tick c =
    let a = c.args in
    too-late a.what a.tick a.registers c.first_tick.ensures c.last_tick.ensures c.if-tick-first_tick.false c.if-last_tick-tick.true

-- src/lib.rt:159:1
pub returns : goal.returns
returns c =
    let a = c.args in
    in-time a.what a.tick a.registers c.first_tick.ensures c.last_tick.ensures c.if-tick-first_tick.false c.if-last_tick-tick.false
