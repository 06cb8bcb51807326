-- `uppaal_parts::assignments::put_resets_closed` meets its contract. Assumes nothing.
use native.Mathlib.Omega.{arith}
use Rattle.blocks.proofs.Runs.{put_is, put_join}
use Rattle.uppaal_parts.proofs.Marked.{closed_as}
use Rattle.uppaal_parts.proofs.assignments.put_resets_closed.Goals as goal

pub returns : goal.returns
returns c =
    (put_join c.put_resets-led.ensures.0 (put_is (closed_as c.put_resets-led.ensures.1) c.put_close.ensures.0), omega arith)
