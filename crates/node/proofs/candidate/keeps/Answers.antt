-- `node::candidate::keeps` meets its contract. Assumes nothing.
use mathlib.Core.Path.{sym, ◌∙◌}
use native.Mathlib.Omega.{arith}
use borrow.Author.Tests.{not-true, not-false}
use Rattle.node.proofs.Trials.{keep_open, keep_bad, keep_narrow, keep_later, keep_new}
use borrow.Author.Rules.{rules}
use Rattle.node.proofs.candidate.keeps.Goals as goal

pub returns-then-not-trial : goal.returns-then-not-trial
returns-then-not-trial c = let a = c.args in sym (keep_open a.trial a.edge a.kept (not-true _ c.if-not-trial.true))

pub returns-then-not-trial-2 : goal.returns-then-not-trial-2
returns-then-not-trial-2 c =
    let a = c.args in
    sym (keep_bad a.trial a.edge a.kept (not-false _ c.if-not-trial.false) (not-true _ c.if-not-trial-2.true))

pub returns-then-trial : goal.returns-then-trial
returns-then-trial c =
    let s = c in
    let a = s.args in
    sym (keep_narrow a.trial a.edge a.kept (not-false _ s.if-not-trial.false) (not-false _ c.if-not-trial-2.false) c.if-trial.true)

pub returns-then-both : goal.returns-then-both
returns-then-both c =
    let t = c in
    let s = t in
    let a = s.args in
    sym (keep_later a.trial a.edge a.kept (not-false _ s.if-not-trial.false) (not-false _ t.if-not-trial-2.false) (omega arith) (sym c.both.ensures ∙ c.if-both.true))

pub returns : goal.returns
returns c =
    let t = c in
    let s = t in
    let a = s.args in
    sym (keep_new a.trial a.edge a.kept (not-false _ s.if-not-trial.false) (not-false _ t.if-not-trial-2.false) (omega arith) (sym c.both.ensures ∙ c.if-both.false))
