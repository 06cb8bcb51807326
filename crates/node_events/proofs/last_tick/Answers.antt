-- `node_events::last_tick` meets its contract. Assumes nothing.
use mathlib.Core.Path.{refl}
use Rattle.node_events.proofs.Laws.{closes_at_ready, closes_at_end}
use Rattle.node_events.proofs.last_tick.Goals as goal

-- src/lib.rt:153:9
pub returns-then-what-eq-AWAKE : goal.returns-then-what-eq-AWAKE
returns-then-what-eq-AWAKE c =
    let a = c.args in
    closes_at_ready a.what 0 a.registers c.if-what-eq-AWAKE.true

-- src/lib.rt:148:1
pub returns : goal.returns
returns c =
    let a = c.args in
    closes_at_end a.what 0 a.registers c.if-what-eq-AWAKE.false c.wide64.ensures.0 refl
