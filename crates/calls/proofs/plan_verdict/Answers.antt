-- `calls::plan_verdict` meets its contract. Assumes nothing.
use mathlib.Core.Path.{◌∙◌}
use Rattle.model.proofs.Run.CallsApart.{check_together}
use Rattle.calls.proofs.plan_verdict.Goals as goal

pub returns : goal.returns
returns c = c.plan_verdict.ensures ∙ check_together c.args.table.now
