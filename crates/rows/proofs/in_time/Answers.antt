-- `rows::in_time` meets its contract. Assumes nothing.
use native.Mathlib.Omega.{arith}
use Rattle.rows.proofs.Sought.{ends-late, in_time_is}
use Rattle.rows.proofs.in_time.Goals as goal

pub returns-then-number : goal.returns-then-number
returns-then-number c =
    let a = c.args in
    ends-late a.rows.now a.i a.j a.horizon (omega (arith, c.if-number.true, c.number.ensures, c.number-2.ensures))

pub returns : goal.returns
returns c =
    let a = c.args in
    in_time_is a.rows.now a.i a.j a.horizon (omega (arith, c.if-number.false, c.number.ensures, c.number-2.ensures))
    c.number-ready.ensures c.number-3.ensures c.both-after.ensures c.number-4.ensures c.number-5.ensures c.both.ensures
