-- `node_events::first_tick` meets its contract. Assumes nothing.
use mathlib.Core.Path.{refl}
use Rattle.node_events.proofs.Laws.{opens_at_end, opens_at_ready}
use Rattle.node_events.proofs.first_tick.Goals as goal

-- src/lib.rt:143:9
pub returns-then-what-eq-TIMED_OUT : goal.returns-then-what-eq-TIMED_OUT
returns-then-what-eq-TIMED_OUT c =
    let a = c.args in
    opens_at_end a.what 0 a.registers c.if-what-eq-TIMED_OUT.true c.wide64.ensures.0 refl

-- src/lib.rt:138:1
pub returns : goal.returns
returns c =
    let a = c.args in
    opens_at_ready a.what 0 a.registers c.if-what-eq-TIMED_OUT.false
