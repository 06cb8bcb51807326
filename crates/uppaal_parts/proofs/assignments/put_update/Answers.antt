-- `uppaal_parts::assignments::put_update` meets its contract. Assumes nothing.
use mathlib.Core.Path.{refl}
use native.Mathlib.Omega.{arith}
use Rattle.blocks.proofs.Runs.{put_is, put_join}
use Rattle.uppaal_parts.proofs.Marked.{update_adds, update_sets}
use Rattle.uppaal_parts.proofs.assignments.put_update.Goals as goal

pub returns-then-update : goal.returns-then-update
returns-then-update c =
    let a = c.args in
    (put_is (update_adds a.led.first a.bytes.now c.update_at-update.result c.word_at-bits.result c.update_at-update.ensures c.word_at-bits.ensures c.if-update.true) (put_join c.put_lead-next.ensures.0 c.put_adds-at.ensures.0), refl, omega arith)

pub returns-else-update : goal.returns-else-update
returns-else-update c =
    let a = c.args in
    (put_is (update_sets a.led.first a.bytes.now c.update_at-update.result c.word_at-bits.result c.update_at-update.ensures c.word_at-bits.ensures c.if-update.false) (put_join c.put_lead-next.ensures.0 c.put_sets-at.ensures.0), refl, omega arith)
