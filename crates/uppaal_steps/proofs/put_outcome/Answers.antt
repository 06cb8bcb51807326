-- `uppaal_steps::put_outcome` meets its contract. Assumes nothing.
use mathlib.Core.Path.{sym, ap, ◌∙◌}
use mathlib.Core.Bool.{Bool}
use Rattle.model.specs.Places.{arc_at}
use Rattle.window.specs.Views.{message_of}
use Rattle.uppaal_steps.specs.Steps.{outcome_told}
use Rattle.uppaal_steps.proofs.Stepping.{waiting_told}
use native.Mathlib.Omega.{arith}
use Rattle.blocks.proofs.Runs.{put_is, put_join}
use Rattle.uppaal_steps.proofs.put_outcome.Goals as goal

pub returns-then-steps : goal.returns-then-steps
returns-then-steps c =
    let a = c.args in
    (put_is (ap (λ (b : Bool). outcome_told b a.origin a.edge.now a.message) (sym c.if-steps.true)) c.put_transitions.ensures.0, omega arith)

pub returns : goal.returns
returns c =
    let a = c.args in
    let o = a.origin in
    let e = waiting_told o.location o.clocks o.number (arc_at o.budgets a.edge.now) (message_of a.message) in
    (put_is (e ∙ ap (λ (b : Bool). outcome_told b o a.edge.now a.message) (sym c.if-steps.false)) (put_join c.put_words-first.ensures c.put_waiting.ensures.0), omega arith)
