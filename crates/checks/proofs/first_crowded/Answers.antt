-- `checks::first_crowded` meets its contract. Assumes nothing.
use native.Mathlib.Omega.{arith}
use Rattle.model.specs.Places.{read_of}
use Rattle.model.specs.Checks.{crowded}
use Rattle.rows.specs.Rows.{rows_of}
use Rattle.checks.proofs.Answers.{ahead_start, ahead_at, ahead_on, ahead_none}
use Rattle.checks.proofs.first_crowded.Goals as goal

pub loop-i-init : goal.loop-i-init
loop-i-init c =
    let a = c.args in
    ahead_start (crowded a.spread (read_of a.table.now).table a.horizon (rows_of a.rows.now a.count)) a.rows.now a.count

pub is_crowded-requires : goal.is_crowded-requires
is_crowded-requires c = (c.requires, c.loop-i-test.true)

pub returns-then-is_crowded : goal.returns-then-is_crowded
returns-then-is_crowded c =
    let a = c.args in
    let l = c.loop-i in
    (ahead_at (crowded a.spread (read_of a.table.now).table a.horizon (rows_of a.rows.now a.count)) a.rows.now a.count l.i c.is_crowded.result c.loop-i-test.true c.is_crowded.ensures c.if-is_crowded.true l.invariant, c.loop-i-test.true)

pub loop-i-preserved : goal.loop-i-preserved
loop-i-preserved c =
    let a = c.args in
    let l = c.loop-i in
    ahead_on (crowded a.spread (read_of a.table.now).table a.horizon (rows_of a.rows.now a.count)) a.rows.now a.count l.i c.is_crowded.result c.loop-i-test.true c.is_crowded.ensures c.if-is_crowded.false l.invariant

pub returns : goal.returns
returns c =
    let a = c.args in
    let l = c.loop-i in
    (ahead_none (crowded a.spread (read_of a.table.now).table a.horizon (rows_of a.rows.now a.count)) a.rows.now a.count l.i (omega arith) l.invariant, tt)
