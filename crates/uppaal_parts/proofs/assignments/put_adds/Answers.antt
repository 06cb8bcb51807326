-- `uppaal_parts::assignments::put_adds` meets its contract. Assumes nothing.
use Rattle.model.specs.Reader.{complement}
use Rattle.uppaal_parts.proofs.Marked.{adds_told}
use Rattle.uppaal_parts.proofs.Turns.{put_three}
use native.Mathlib.Omega.{arith}
use Rattle.blocks.proofs.Runs.{put_is}
use Rattle.uppaal_parts.proofs.assignments.put_adds.Goals as goal

pub returns : goal.returns
returns c = (put_is (adds_told c.args.variable (complement c.args.bits)) (search put_three), omega arith)
