-- `node::tried` meets its contract. Assumes nothing.
use mir.Syntax.{w16}
use mir.ValLaws.{to_z-of_z}
use Rattle.node.proofs.Effects.{trial_is, clock_tried_is, value_tried_is}
use native.Mathlib.Omega.{arith}
use mathlib.Core.Path.{◌∙◌}
use borrow.Author.Rules.{rules, sfits_of}
use Rattle.node.proofs.tried.Goals as goal

pub returns-then-op-eq-TRIAL : goal.returns-then-op-eq-TRIAL
returns-then-op-eq-TRIAL c =
    let s = c in
    let a = s.args in
    trial_is a.statement.now a.held a.registers c.no_trial.result c.if-op-eq-TRIAL.true c.no_trial.ensures

pub returns-then-op-lt-DATA_LOW : goal.returns-then-op-lt-DATA_LOW
returns-then-op-lt-DATA_LOW c =
    let a = c.args in
    clock_tried_is a.statement.now a.held a.registers c.by_clock.result c.clock_at.result (omega arith) (omega arith) c.by_clock.ensures c.clock_at.ensures

pub returns : goal.returns
returns c =
    let a = c.args in
    value_tried_is a.statement.now a.held a.registers c.by_value.result _ (omega arith) (omega arith) c.by_value.ensures
    (to_z-of_z w16 c.value_at.result (sfits_of c.value_at.type_inv) ∙ c.value_at.ensures)
