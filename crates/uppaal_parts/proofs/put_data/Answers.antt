-- `uppaal_parts::put_data` meets its contract. Assumes nothing.
use Rattle.uppaal_parts.proofs.Marked.{data_told}
use native.Mathlib.Omega.{arith}
use Rattle.blocks.proofs.Runs.{put_is, put_join}
use Rattle.uppaal_parts.proofs.put_data.Goals as goal

pub returns : goal.returns
returns c =
    let a = c.args in
    (put_is (data_told a.bytes.now c.data_guard_at-g.result c.word_at-low.result c.word_at-high.result c.data_guard_at-g.ensures c.word_at-low.ensures c.word_at-high.ensures) (search put_join), omega arith)
