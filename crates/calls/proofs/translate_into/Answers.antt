-- `calls::translate_into` meets its contract. Assumes nothing.
use mathlib.Core.Path.{sym, ap, ◌∙◌}
use native.Mathlib.Omega.{arith}
use Rattle.model.specs.Calls.{Call}
use Rattle.calls.proofs.Translating.{check_refused, too_short, written}
use Rattle.calls.proofs.translate_into.Goals as goal

pub returns-then-program-long : goal.returns-then-program-long
returns-then-program-long c =
    let a = c.args in
    let k = too_short a.table.now c.requires.0 c.plan_verdict-v.ensures c.in-Accepted.is a.program.now (omega (arith, c.program_length-long.ensures.0, c.if-program-long.true)) in
    (c.refused-then-program-long.ensures.0 ∙ sym (ap (λ (x : Call). x.verdict) k), c.refused-then-program-long.ensures.1 ∙ sym (ap (λ (x : Call). x.size) k), sym (ap (λ (x : Call). x.lent) k), omega (arith, c.refused-then-program-long.ensures.1))

pub returns-in-Refused : goal.returns-in-Refused
returns-in-Refused c =
    let a = c.args in
    let k = check_refused a.table.now a.program.now c.plan_verdict-v.ensures c.in-Refused.is in
    (c.refused.ensures.0 ∙ sym (ap (λ (x : Call). x.verdict) k), c.refused.ensures.1 ∙ sym (ap (λ (x : Call). x.size) k), sym (ap (λ (x : Call). x.lent) k), omega (arith, c.refused.ensures.1))

pub returns-else-program-long : goal.returns-else-program-long
returns-else-program-long c =
    let a = c.args in
    let k = written a.table.now c.requires.0 c.plan_verdict-v.ensures c.in-Accepted.is a.program.now (omega (arith, c.program_length-long.ensures.0, c.if-program-long.false)) in
    (sym (ap (λ (x : Call). x.verdict) k), c.program_length-long.ensures.0 ∙ sym (ap (λ (x : Call). x.size) k), c.write_program.ensures.1 ∙ sym (ap (λ (x : Call). x.lent) k), omega (arith, c.program_length-long.ensures.1))
