-- `uppaal_parts::ranges::plus_bits` meets its contract. Assumes nothing.
use native.Mathlib.Omega.{arith}
use Rattle.uppaal_parts.proofs.Totals.{bits_added, bits_taken}
use Rattle.uppaal_parts.proofs.ranges.plus_bits.Goals as goal

pub returns-then-bits-lt32768 : goal.returns-then-bits-lt32768
returns-then-bits-lt32768 c = (bits_added c.args.sum c.args.bits (omega arith), omega arith, omega arith)

pub returns : goal.returns
returns c = (bits_taken c.args.sum c.args.bits (omega arith) (omega arith) (omega arith), omega arith, omega arith)
