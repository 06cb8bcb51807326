-- `uppaal_call::planned` meets its contract. Assumes nothing.
use Rattle.uppaal_call.proofs.Exporting.{checked}
use Rattle.uppaal_call.proofs.planned.Goals as goal

pub returns : goal.returns
returns c =
    let a = c.args in
    checked a.table.now c.requires.0 c.plan_rows-r.result _ c.plan_rows-r.ensures
