-- `uppaal_parts::assignments::put_addend` meets its contract. Assumes nothing.
use Rattle.uppaal_parts.proofs.Marked.{addend_low, addend_high}
use native.Mathlib.Omega.{arith}
use Rattle.blocks.proofs.Runs.{put_is}
use Rattle.uppaal_parts.proofs.assignments.put_addend.Goals as goal

pub returns-then-bits-lt32768 : goal.returns-then-bits-lt32768
returns-then-bits-lt32768 c = (put_is (addend_low c.args.bits (omega arith)) (search), omega arith)

pub returns : goal.returns
returns c = (put_is (addend_high c.args.bits (omega arith) (omega arith)) (search), omega arith)
