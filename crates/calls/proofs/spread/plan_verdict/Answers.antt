-- `calls::spread::plan_verdict` meets its contract. Assumes nothing.
use Rattle.calls.proofs.Spreading.{verdict-at}
use Rattle.calls.proofs.spread.plan_verdict.Goals as goal

pub returns : goal.returns
returns c =
    let e = c in
    verdict-at e.args.spread e.args.table.now e.requires.0 e.requires.2 c.plan_rows-r.result _ c.plan_rows-r.ensures
