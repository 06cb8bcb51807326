-- `simulated_runs::call::simulate_planned` meets its contract. Assumes nothing.
use mathlib.Core.Path.{sym, ◌∙◌}
use borrow.Author.Tests.{not-true, not-false}
use Rattle.simulated_runs.proofs.Calling.{answered, seed_refused, numbers_refused, is_simulated, tried_with}
use Rattle.simulated_runs.proofs.call.simulate_planned.Goals as goal

pub returns-then-seed-eq0 : goal.returns-then-seed-eq0
returns-then-seed-eq0 c =
    let s = c in
    let a = s.args in
    let P = s.requires.2 in
    answered (seed_refused a.table.now a.lo a.hi a.runs a.seed s.requires.0 P.passages P.accepted_schedule c.if-seed-eq0.true) c.not_simulated.ensures

pub returns-then-not-fine : goal.returns-then-not-fine
returns-then-not-fine c =
    let s = c in
    let a = s.args in
    let P = s.requires.2 in
    let no = sym c.may_try-fine.ensures ∙ not-true _ c.if-not-fine.true-raw in
    answered (numbers_refused a.table.now a.lo a.hi a.runs a.seed s.requires.0 P.passages P.accepted_schedule c.if-seed-eq0.false no) c.not_simulated-then-not-fine.ensures

pub runs_of-tally-requires : goal.runs_of-tally-requires
runs_of-tally-requires c =
    let s = c in
    let a = s.args in
    let numbers = tried_with a.lo a.hi a.runs (sym c.may_try-fine.ensures ∙ not-false _ c.if-not-fine.false-raw) in
    (s.requires.0, s.requires.1, s.requires.2, numbers.0, numbers.1, numbers.2)

pub returns : goal.returns
returns c =
    let s = c in
    let a = s.args in
    let P = s.requires.2 in
    let yes = sym c.may_try-fine.ensures ∙ not-false _ c.if-not-fine.false-raw in
    is_simulated a.table.now a.lo a.hi a.runs a.seed s.requires.0 P.passages P.accepted_schedule c.if-seed-eq0.false yes (c.runs_of-tally.ensures P.passages P.accepted_schedule)
