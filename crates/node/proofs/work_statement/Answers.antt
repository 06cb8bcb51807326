-- `node::work_statement` meets its contract. Assumes nothing.
use native.Mathlib.Omega.{arith}
use Rattle.node.proofs.Effects.{sleep_is, idle_is}
use borrow.Author.Rules.{rules}
use Rattle.node.proofs.work_statement.Goals as goal

pub returns-then-op-eq-SLEEP : goal.returns-then-op-eq-SLEEP
returns-then-op-eq-SLEEP c =
    let s = c in
    let a = s.args in
    sleep_is a.statement.now a.held a.registers c.if-op-eq-SLEEP.true

pub returns-then-op-lt-AGE : goal.returns-then-op-lt-AGE
returns-then-op-lt-AGE c =
    let s = c in
    let a = s.args in
    idle_is a.statement.now a.held a.registers (omega arith) (omega arith)
