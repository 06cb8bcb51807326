-- `run::some_due` meets its contract. Assumes nothing.
use mathlib.Core.Path.{sym, ◌∙◌}
use borrow.Author.Rules.{rules}
use borrow.Author.Tests.{eq-eqb, ne_eqb}
use Rattle.run.proofs.Looked.{looked_on, looked_found, looked_all, looked_none}
use Rattle.run.proofs.some_due.Invariants.{is_due}
use Rattle.run.proofs.some_due.Goals as goal

pub loop-c-init : goal.loop-c-init
loop-c-init c =
    let a = c.args in
    (search rules, looked_none (is_due a.words.now a.tick) a.count)

pub returns-then-word-tick : goal.returns-then-word-tick
returns-then-word-tick c =
    let a = c.args in
    let l = c.loop-c in
    sym (looked_found (is_due a.words.now a.tick) l.c a.count _ (search rules) (eq-eqb _ _ (sym c.word.ensures ∙ c.if-word-tick.true)) l.invariant.1)

pub loop-c-preserved : goal.loop-c-preserved
loop-c-preserved c =
    let a = c.args in
    let l = c.loop-c in
    (search rules, looked_on (is_due a.words.now a.tick) l.c a.count _ (search rules) (ne_eqb _ _ (λ e. c.if-word-tick.false (c.word.ensures ∙ e))) l.invariant.1)

pub returns : goal.returns
returns c =
    let a = c.args in
    let l = c.loop-c in
    sym (looked_all (is_due a.words.now a.tick) l.c a.count _ (search rules) l.invariant.1)
