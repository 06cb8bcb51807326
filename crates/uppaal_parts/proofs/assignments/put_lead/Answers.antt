-- `uppaal_parts::assignments::put_lead` meets its contract. Assumes nothing.
use Rattle.uppaal_parts.proofs.Marked.{lead_first, lead_next}
use native.Mathlib.Omega.{arith}
use Rattle.blocks.proofs.Runs.{put_is}
use Rattle.uppaal_parts.proofs.assignments.put_lead.Goals as goal

pub returns-then-led : goal.returns-then-led
returns-then-led c = (put_is (lead_first c.args.led.first (search)) (search), omega arith)

pub returns : goal.returns
returns c = (put_is (lead_next c.args.led.first (search)) (search), omega arith)
