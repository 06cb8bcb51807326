-- `uppaal_parts::assignments::put_sets` meets its contract. Assumes nothing.
use Rattle.model.specs.Reader.{complement}
use Rattle.uppaal_parts.proofs.Marked.{sets_told}
use Rattle.uppaal_parts.proofs.Turns.{put_three}
use native.Mathlib.Omega.{arith}
use Rattle.blocks.proofs.Runs.{put_is}
use Rattle.uppaal_parts.proofs.assignments.put_sets.Goals as goal

pub returns : goal.returns
returns c = (put_is (sets_told c.args.variable (complement c.args.bits)) (search put_three), omega arith)
