-- `node_events::listens` meets its contract. Assumes nothing.
use Rattle.node_events.proofs.Laws.{names_none, names_it}
use Rattle.node_events.proofs.listens.Goals as goal

pub returns-then-part-gt65535 : goal.returns-then-part-gt65535
returns-then-part-gt65535 c =
    let a = c.args in
    names_none a.part.now a.at a.channel c.if-part-gt65535.true

pub returns : goal.returns
returns c =
    let a = c.args in
    names_it a.part.now a.at a.channel c.if-part-gt65535.false c.names.ensures
