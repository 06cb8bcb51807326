-- `calls::check_header` meets its contract. Assumes nothing.
use mathlib.Core.Path.{◌≡◌, refl, ap}
use Rattle.model.specs.declared.Verdict.TheVariants.{Refused}
use borrow.Author.Rules.{rules}
use Rattle.model.specs.Calls.{verdict_of, check_call}
use Rattle.model.proofs.Checks.Acceptance.{accepted_is}
use Rattle.translator.proofs.Standing.{slice_bytes}
use Rattle.table.specs.Directory.{refusal}
use Rattle.table.proofs.Whole.{header_refused, if_questioned}
use Rattle.table.proofs.Answered.{was_refused}
use Rattle.calls.proofs.check_header.Goals as goal

pub returns : goal.returns
unfolding check_call
returns c =
    let bs = c.args.table.now in (
      if_questioned c.header.result (λ k. check_call bs ≡ Refused k 255) (λ n. ap verdict_of (was_refused bs (refusal _ 255) (header_refused bs _ c.header.ensures n) refl)),
      accepted_is bs (slice_bytes bs c.type_inv.table),
    )
