-- `uppaal_call::uppaal` meets its contract. Assumes nothing.
use mathlib.Core.Path.{sym, ap, ◌∙◌}
use Rattle.model.specs.Calls.{Call}
use Rattle.table.proofs.Answered.{was_valid, its_starts, was_refused}
use Rattle.uppaal.proofs.Paths.{exported_paths}
use Rattle.uppaal.proofs.DenseTables.{exported_dense}
use Rattle.uppaal.proofs.Carried.{refused_carries, answer_carries}
use Rattle.uppaal_call.proofs.Exporting.{call_refused}
use native.Mathlib.Omega.{arith}
use Rattle.uppaal_call.proofs.uppaal.Goals as goal

pub uppaal_into-requires : goal.uppaal_into-requires
uppaal_into-requires c =
    let bs = c.args.table.now in
    (was_valid bs c.read-r.result c.read-r.ensures c.in-Accepted.is, its_starts bs c.read-r.result c.read-r.ensures c.in-Accepted.is)

pub returns-in-Refused : goal.returns-in-Refused
returns-in-Refused c =
    let a = c.args in
    let k = call_refused a.table.now a.text.now (was_refused a.table.now c.read-r.result c.read-r.ensures c.in-Refused.is) in
    (c.refused.ensures.0 ∙ sym (ap (λ (x : Call). x.verdict) k), c.refused.ensures.1 ∙ sym (ap (λ (x : Call). x.size) k), sym (ap (λ (x : Call). x.lent) k), omega (arith, c.refused.ensures.1), exported_paths a.table.now, exported_dense a.table.now, λ e. refused_carries (sym c.refused.ensures.0 ∙ e))

pub returns-in-Accepted : goal.returns-in-Accepted
returns-in-Accepted c =
    let a = c.args in
    (c.uppaal_into.ensures.0, c.uppaal_into.ensures.1, c.uppaal_into.ensures.2, c.uppaal_into.ensures.3, exported_paths a.table.now, exported_dense a.table.now, answer_carries a.table.now a.text.now c.uppaal_into.ensures.0 c.uppaal_into.ensures.1 c.uppaal_into.ensures.2)
