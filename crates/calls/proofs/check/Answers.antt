-- `calls::check` meets its contract. Assumes nothing.
use mathlib.Core.Path.{◌∙◌}
use Rattle.model.proofs.Checks.Acceptance.{accepted_is}
use Rattle.model.proofs.Run.CallsApart.{check_together}
use Rattle.translator.proofs.Standing.{slice_bytes}
use Rattle.calls.proofs.check.Goals as goal

pub returns : goal.returns
returns c =
    let bs = c.args.table.now in
    (c.check_spread.ensures.0 ∙ check_together bs, accepted_is bs (slice_bytes bs c.type_inv.table))
