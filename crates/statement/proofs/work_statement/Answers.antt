-- `statement::work_statement` meets its contract. Assumes nothing.
use Rattle.statement.proofs.Carries.{carried_slept, carried_idle}
use native.Mathlib.Omega.{arith}
use Rattle.statement.proofs.work_statement.Goals as goal

pub returns-then-op-eq-ENTER : goal.returns-then-op-eq-ENTER
returns-then-op-eq-ENTER c = let a = c.args in c.enter_statement.ensures a.values.now

pub returns-then-op-eq-SLEEP : goal.returns-then-op-eq-SLEEP
returns-then-op-eq-SLEEP c =
    let s = c in
    let a = s.args in
    let p = s.requires in
    carried_slept a.statement.now a.words.now a.values.now a.c p.0 c.if-op-eq-SLEEP.true c.word-sleeps.result c.word-sleeps.ensures (c.put_sleeps.ensures a.values.now)

pub returns-then-op-lt-AGE : goal.returns-then-op-lt-AGE
returns-then-op-lt-AGE c =
    let s = c in
    let a = s.args in
    let p = s.requires in
    carried_idle a.statement.now a.words.now a.values.now a.c p.0 (omega (arith, c.if-op-lt-DONE.false)) (omega (arith, c.if-op-lt-AGE.true))

pub returns : goal.returns
returns c = let a = c.args in c.clock_statement.ensures a.values.now
