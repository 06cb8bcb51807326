-- `uppaal_parts::ranges::after_update` meets its contract. Assumes nothing.
use native.Mathlib.Omega.{arith}
use Rattle.uppaal_parts.proofs.Totals.{total_added, total_set, adds_cond, sets_cond}
use Rattle.uppaal_parts.proofs.ranges.after_update.Goals as goal

pub returns-then-adds : goal.returns-then-adds
returns-then-adds c = (adds_cond c.args.adds _ c.if-adds.true (total_added c.args.t.known c.args.t.sum c.plus_bits.result c.args.bits c.plus_bits.ensures.0), omega (arith, c.plus_bits.ensures.1), omega (arith, c.plus_bits.ensures.2))

pub returns : goal.returns
returns c = (sets_cond c.args.adds _ c.if-adds.false (total_set c.plus_bits-2.result c.args.bits c.plus_bits-2.ensures.0), omega (arith, c.plus_bits-2.ensures.1), omega (arith, c.plus_bits-2.ensures.2))
