-- `calls::translate` meets its contract. Assumes nothing.
use mathlib.Core.Path.{sym, ap, ◌∙◌}
use native.Mathlib.Omega.{arith}
use Rattle.model.specs.Calls.{Call}
use Rattle.table.proofs.Answered.{was_valid, its_starts, was_refused}
use Rattle.calls.proofs.Translating.{translate_refused}
use Rattle.calls.proofs.translate.Goals as goal

pub translate_into-requires : goal.translate_into-requires
translate_into-requires c =
    let bs = c.args.table.now in
    (was_valid bs c.read-r.result c.read-r.ensures c.in-Accepted.is, its_starts bs c.read-r.result c.read-r.ensures c.in-Accepted.is)

pub returns-in-Refused : goal.returns-in-Refused
returns-in-Refused c =
    let a = c.args in
    let k = translate_refused a.table.now a.program.now (was_refused a.table.now c.read-r.result c.read-r.ensures c.in-Refused.is) in
    (c.refused.ensures.0 ∙ sym (ap (λ (x : Call). x.verdict) k), c.refused.ensures.1 ∙ sym (ap (λ (x : Call). x.size) k), sym (ap (λ (x : Call). x.lent) k), omega (arith, c.refused.ensures.1))
