-- `checks::first_collision` meets its contract. Assumes nothing.
use mathlib.Core.Path.{sym, ◌∙◌}
use native.Mathlib.Omega.{arith}
use Rattle.model.specs.Places.{read_of}
use Rattle.model.specs.Checks.{collides}
use Rattle.rows.specs.Rows.{rows_of}
use Rattle.checks.proofs.Answers.{ahead_start, ahead_at, ahead_on, ahead_none}
use Rattle.checks.proofs.Earlier.{below_turn}
use Rattle.checks.proofs.first_collision.Goals as goal

pub loop-i-init : goal.loop-i-init
loop-i-init c =
    let a = c.args in
    (ahead_start (collides a.spread (read_of a.table.now).table a.horizon (rows_of a.rows.now a.count)) a.rows.now a.count, λ k h. absurd (omega (arith, h)))

pub collides_with_one-requires : goal.collides_with_one-requires
collides_with_one-requires c = (c.requires, c.loop-i-test.true, c.loop-i.invariant.1)

pub returns-then-collides_with_one : goal.returns-then-collides_with_one
returns-then-collides_with_one c =
    let a = c.args in
    let l = c.loop-i in
    (ahead_at (collides a.spread (read_of a.table.now).table a.horizon (rows_of a.rows.now a.count)) a.rows.now a.count l.i c.collides_with_one.result c.loop-i-test.true c.collides_with_one.ensures c.if-collides_with_one.true l.invariant.0, c.loop-i-test.true)

pub loop-i-preserved : goal.loop-i-preserved
loop-i-preserved c =
    let a = c.args in
    let l = c.loop-i in
    (ahead_on (collides a.spread (read_of a.table.now).table a.horizon (rows_of a.rows.now a.count)) a.rows.now a.count l.i c.collides_with_one.result c.loop-i-test.true c.collides_with_one.ensures c.if-collides_with_one.false l.invariant.0, below_turn (collides a.spread (read_of a.table.now).table a.horizon (rows_of a.rows.now a.count)) a.rows.now l.i l.invariant.1 (sym c.collides_with_one.ensures ∙ c.if-collides_with_one.false))

pub returns : goal.returns
returns c =
    let a = c.args in
    let l = c.loop-i in
    (ahead_none (collides a.spread (read_of a.table.now).table a.horizon (rows_of a.rows.now a.count)) a.rows.now a.count l.i (omega arith) l.invariant.0, tt)
