-- `node_events::finish_tick` meets its contract. Assumes nothing.
use mathlib.Core.List.{[]}
use Rattle.node_events.proofs.Laws.{finished_before, finishes_now}
use Rattle.node_events.proofs.finish_tick.Goals as goal

-- src/lib.rt:187:1
pub returns-then-what-eq-AWAKE : goal.returns-then-what-eq-AWAKE
returns-then-what-eq-AWAKE c =
    let a = c.args in
    finished_before [] a.what 0 a.tick a.running c.if-what-eq-AWAKE.true

-- src/lib.rt:187:1
pub returns-else-what-eq-AWAKE : goal.returns-else-what-eq-AWAKE
returns-else-what-eq-AWAKE c =
    let a = c.args in
    finishes_now [] a.what 0 a.tick a.running c.if-what-eq-AWAKE.false
