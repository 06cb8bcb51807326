-- `uppaal_parts::assignments::put_resets` meets its contract. Assumes nothing.
use mathlib.Core.Path.{sym, ◌∙◌}
use native.Mathlib.Omega.{arith}
use Rattle.blocks.proofs.Blocks.{halved}
use Rattle.uppaal_parts.proofs.Turns.{resets_on, still_on, resets_done, still_done}
use Rattle.uppaal_parts.proofs.assignments.put_resets.Goals as goal

pub loop-clock-preserved : goal.loop-clock-preserved
loop-clock-preserved c =
    let a = c.args in
    let l = c.loop-clock in
    let e = c.put_reset-led.ensures in (
      halved a.mask l.bits l.clock l.invariant.0,
      omega (arith, e.2),
      still_on a.mask l.bits l.clock a.clocks l.led.first (omega arith) l.invariant.0 c.put_reset-led.result.first e.1 ∙ l.invariant.2,
      resets_on a.mask l.bits l.clock a.clocks l.led.first (omega arith) l.invariant.0 c.put_reset-led.result.first l.invariant.3 e.0 e.1,
    )

pub returns : goal.returns
returns c =
    let a = c.args in
    let l = c.loop-clock in
    (resets_done l.led.first a.mask l.clock a.clocks (omega arith) l.invariant.3, sym (still_done l.led.first a.mask l.clock a.clocks (omega arith)) ∙ l.invariant.2, omega arith)
