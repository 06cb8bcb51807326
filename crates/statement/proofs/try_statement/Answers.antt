-- `statement::try_statement` meets its contract. Assumes nothing.
use mir.ValLaws.{to_z-of_z}
use mir.Syntax.{w16}
use native.Mathlib.Omega.{arith}
use Rattle.node.specs.Views.{trial_of}
use Rattle.node.specs.After.{met_by, spans_by}
use Rattle.model.specs.Reader.{word}
use Rattle.node.proofs.Steps.{trial_new, trial_budget}
use Rattle.node.proofs.Trials.{spanned_is}
use Rattle.node.proofs.Moves.{below_keep}
use Rattle.node.proofs.Effects.{clock_tries, value_tries}
use Rattle.statement.proofs.Carries.{carried_kept, carried_trial}
use Rattle.registers.specs.Words.{node_in, held_in}
use mathlib.Core.Path.{ap, ap₂, ◌∙◌}
use borrow.Author.Rules.{sfits_of}
use Rattle.statement.proofs.try_statement.Goals as goal

pub returns-then-op-eq-KEEP : goal.returns-then-op-eq-KEEP
returns-then-op-eq-KEEP g c =
    let s = c in
    let a = s.args in
    let p = s.requires in
    carried_kept a.statement.now a.words.now a.values.now a.c p.0 c.load_trial-trial.result c.load_kept-kept.result c.keeps-next.result
    c.load_trial-trial.ensures c.load_kept-kept.ensures c.if-op-eq-KEEP.true c.keeps-next.ensures
    (c.put_kept.ensures a.values.now)

pub returns-then-op-eq-TRIAL : goal.returns-then-op-eq-TRIAL
returns-then-op-eq-TRIAL g c =
    let s = c in
    let a = s.args in
    let p = s.requires in
    carried_trial a.statement.now a.words.now a.values.now a.c p.0 c.no_trial-none.result
    (trial_new a.statement.now (held_in a.words.now a.c) (node_in a.words.now a.values.now a.c) p.0 c.no_trial-none.result c.if-op-eq-TRIAL.true (ap trial_of c.no_trial-none.ensures))
    (c.put_trial.ensures a.values.now)

pub returns-then-op-lt-DATA_LOW : goal.returns-then-op-lt-DATA_LOW
returns-then-op-lt-DATA_LOW g c =
    let s = c in
    let a = s.args in
    let p = s.requires in
    carried_trial a.statement.now a.words.now a.values.now a.c p.0 c.by_clock-next.result
    (clock_tries a.statement.now (held_in a.words.now a.c) (node_in a.words.now a.values.now a.c) p.0 _ _ _ (omega arith) (omega arith) c.by_clock-next.ensures c.load_trial-trial-2.ensures c.clock-clock.ensures)
    (c.put_trial-then-op-lt-DATA_LOW.ensures a.values.now)

pub returns-then-op-eq-BUDGET : goal.returns-then-op-eq-BUDGET
returns-then-op-eq-BUDGET g c =
    let s = c in
    let a = s.args in
    let p = s.requires in
    let n = node_in a.words.now a.values.now a.c in
    carried_trial a.statement.now a.words.now a.values.now a.c p.0 c.met-next.result
    (trial_budget a.statement.now (held_in a.words.now a.c) n p.0 c.met-next.result c.if-op-eq-BUDGET.true
    (ap trial_of (c.met-next.ensures ∙ ap₂ (λ x b. met_by x b) c.load_trial-trial-2.ensures (c.spans.ensures ∙ ap₂ spans_by c.load_trial-trial-2.ensures c.word_at-budget.ensures)) ∙ spanned_is n.tried (word a.statement.now 2)))
    (c.put_trial-then-op-eq-BUDGET.ensures a.values.now)

pub by_value-next-requires : goal.by_value-next-requires
by_value-next-requires g c = let s = c in (s.requires.0, omega (arith, c.if-op-lt-DATA_LOW.false), below_keep _ s.requires.2 c.if-op-eq-KEEP.false c.if-op-eq-BUDGET.false)

pub returns : goal.returns
returns g c =
    let s = c in
    let a = s.args in
    let p = s.requires in
    carried_trial a.statement.now a.words.now a.values.now a.c p.0 c.by_value-next.result
    (value_tries a.statement.now (held_in a.words.now a.c) (node_in a.words.now a.values.now a.c) p.0 _ _ _ (omega (arith, c.if-op-lt-DATA_LOW.false)) (below_keep _ p.2 c.if-op-eq-KEEP.false c.if-op-eq-BUDGET.false) c.by_value-next.ensures c.load_trial-trial-2.ensures
    (to_z-of_z w16 c.value-value.result (sfits_of c.value-value.type_inv) ∙ c.value-value.ensures))
    (c.put_trial-2.ensures a.values.now)
