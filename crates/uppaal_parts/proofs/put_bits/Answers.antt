-- `uppaal_parts::put_bits` meets its contract. Assumes nothing.
use Rattle.uppaal_parts.proofs.Marked.{bits_low, bits_high}
use native.Mathlib.Omega.{arith}
use Rattle.blocks.proofs.Runs.{put_is}
use Rattle.uppaal_parts.proofs.put_bits.Goals as goal

pub returns-then-bits-lt32768 : goal.returns-then-bits-lt32768
returns-then-bits-lt32768 c = (put_is (bits_low c.args.bits (omega arith)) c.put_field.ensures.0, omega arith)

pub returns : goal.returns
returns c = (put_is (bits_high c.args.bits (omega arith) (omega arith)) c.put_field-2.ensures.0, omega arith)
