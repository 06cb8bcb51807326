-- `reasons::telling::reason_from` meets its contract. Assumes nothing.
use mathlib.Core.Path.{subst}
use native.Mathlib.Omega.{arith}
use borrow.Author.Tests.{eq-eqb, ne_eqb, lt-ltb, le-ltb}
use Rattle.window.specs.Views.{SmallDelays}
use Rattle.reasons.proofs.telling.reason_from.Goals as goal

pub returns-then-e-taken : goal.returns-then-e-taken
returns-then-e-taken c = rw (eq-eqb c.args.e c.args.taken c.if-e-taken.true)

pub overflow_add-entry : goal.overflow_add-entry
overflow_add-entry c =
    let d = subst SmallDelays c.in-Candidate.is c.requires.0 in
    omega (arith, d.0, c.requires.1)

pub returns-then-ready-entry : goal.returns-then-ready-entry
returns-then-ready-entry c =
    let a = c.args in
    rw (ne_eqb a.e a.taken c.if-e-taken.false, c.in-Candidate.is, lt-ltb _ _ c.if-ready-entry.true)

pub returns-in-Elsewhere : goal.returns-in-Elsewhere
returns-in-Elsewhere c =
    let a = c.args in
    rw (ne_eqb a.e a.taken c.if-e-taken.false, c.in-Elsewhere.is)

pub returns-in-Blocked : goal.returns-in-Blocked
returns-in-Blocked c =
    let a = c.args in
    rw (ne_eqb a.e a.taken c.if-e-taken.false, c.in-Blocked.is)

pub returns-in-Windowless : goal.returns-in-Windowless
returns-in-Windowless c =
    let a = c.args in
    rw (ne_eqb a.e a.taken c.if-e-taken.false, c.in-Windowless.is)

pub returns-else-ready-entry : goal.returns-else-ready-entry
returns-else-ready-entry c =
    let a = c.args in
    rw (ne_eqb a.e a.taken c.if-e-taken.false, c.in-Candidate.is, le-ltb _ _ c.if-ready-entry.false)
