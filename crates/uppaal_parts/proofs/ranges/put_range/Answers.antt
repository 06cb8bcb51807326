-- `uppaal_parts::ranges::put_range` meets its contract. Assumes nothing.
use Rattle.uppaal_parts.proofs.Totals.{range_adds, range_none}
use native.Mathlib.Omega.{arith}
use Rattle.blocks.proofs.Runs.{put_is, put_none}
use Rattle.uppaal_parts.proofs.ranges.put_range.Goals as goal

pub returns-then-u : goal.returns-then-u
returns-then-u c =
    let a = c.args in
    (put_is (range_adds a.bytes.now a.number c.wide-place.result c.update_at-u.result c.word_at-bits.result c.wide-place.ensures.0 c.update_at-u.ensures c.word_at-bits.ensures c.if-u.true) c.put_add.ensures.0, omega arith)

pub returns : goal.returns
returns c =
    let a = c.args in
    (put_is (range_none a.bytes.now a.number c.wide-place.result c.update_at-u.result c.word_at-bits.result c.wide-place.ensures.0 c.update_at-u.ensures c.word_at-bits.ensures c.if-u.false) (put_none a.out.now a.at), omega arith)
