-- `node_events::happened` meets its contract. Assumes nothing.
use Rattle.node_events.proofs.Laws.{is-late, is_told}
use Rattle.node_events.proofs.happened.Goals as goal

-- src/lib.rt:211:9
pub returns-then-running-eq-LATE : goal.returns-then-running-eq-LATE
returns-then-running-eq-LATE c =
    let a = c.args in
    is-late a.part.now a.what a.channel a.tick a.running c.if-running-eq-LATE.true

-- src/lib.rt:207:1
pub returns : goal.returns
returns c =
    let a = c.args in
    is_told a.part.now a.what a.channel a.tick a.running c.if-running-eq-LATE.false c.after_event.ensures
