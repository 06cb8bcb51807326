-- `checks::ticks::overlap` meets its contract. Assumes nothing.
use native.Mathlib.Omega.{arith}
use Rattle.rows.specs.Rows.{row_passage}
use Rattle.checks.proofs.Questions.{ended_before, beside_is}
use Rattle.checks.proofs.ticks.overlap.Goals as goal

pub returns-then-put_off-tick : goal.returns-then-put_off-tick
returns-then-put_off-tick c =
    let a = c.args in
    ended_before a.spread (row_passage a.rows.now a.i) (row_passage a.rows.now a.j) (omega (arith, c.if-put_off-tick.true, c.tick.ensures, c.put_off.ensures))

pub returns : goal.returns
returns c =
    let a = c.args in
    beside_is a.spread (row_passage a.rows.now a.i) (row_passage a.rows.now a.j) (omega (arith, c.if-put_off-tick.false, c.tick.ensures, c.put_off.ensures)) c.number.ensures c.number-2.ensures c.tick-2.ensures c.put_off-2.ensures c.both.ensures
