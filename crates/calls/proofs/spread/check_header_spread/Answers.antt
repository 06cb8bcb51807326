-- `calls::spread::check_header_spread` meets its contract. Assumes nothing.
use mathlib.Core.Path.{◌≡◌, refl, sym}
use Rattle.model.specs.Calls.{check_call_at}
use Rattle.model.specs.declared.Verdict.TheVariants.{Refused}
use borrow.Author.Rules.{rules}
use Rattle.model.proofs.Checks.Acceptance.{accepted_at_is}
use Rattle.translator.proofs.Standing.{slice_bytes}
use Rattle.table.proofs.Whole.{if_questioned}
use Rattle.calls.proofs.Spreading.{header_refused_at}
use Rattle.calls.proofs.spread.check_header_spread.Goals as goal

pub returns : goal.returns
returns c =
    let a = c.args in (
      if_questioned c.header.result (λ k. check_call_at a.spread a.table.now ≡ Refused k 255) (λ n. sym (header_refused_at a.spread a.table.now _ c.header.ensures n)),
      accepted_at_is a.spread a.table.now (slice_bytes a.table.now c.type_inv.table),
    )
