-- `rows::ends_sooner` meets its contract. Assumes nothing.
use Rattle.rows.proofs.Sought.{ends_sooner_is}
use Rattle.rows.proofs.ends_sooner.Goals as goal

pub returns : goal.returns
returns c =
    let a = c.args in
    ends_sooner_is a.rows.now a.j a.best c.number-end.ensures c.number-other.ensures c.number.ensures c.number-2.ensures c.both.ensures c.either.ensures
