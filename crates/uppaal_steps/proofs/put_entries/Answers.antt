-- `uppaal_steps::put_entries` meets its contract. Assumes nothing.
use Prim.Native.Nat.{◌+◌, ◌-◌}
use Rattle.model.specs.Places.{arc_at}
use Rattle.window.specs.Views.{message_of}
use Rattle.uppaal.specs.Export.{uppers_from, step_in_with}
use Rattle.uppaal_steps.proofs.Stepping.{not_heard, with-message, timed_out}
use native.Mathlib.Omega.{arith}
use Rattle.blocks.proofs.Runs.{put_is}
use Rattle.uppaal_steps.proofs.put_entries.Goals as goal
use Rattle.uppaal_steps.proofs.put_entries.Goals.{then-edge-lt2-via-then-edge-lt2, then-edge-lt2-via-else-edge-lt2+then-message-ne255}

pub returns-then-edge-lt2 : goal.returns-then-edge-lt2
returns-then-edge-lt2 c =
    let a = c.args in
    let o = a.origin in
    let h = a.edge.now in
    let step = step_in_with o.number (arc_at o.budgets h) (message_of a.message) in
    let us = uppers_from o.location (arc_at o.budgets h) in
    elim c.then-edge-lt2.branch [
      | then-edge-lt2-via-then-edge-lt2 w ↦ (put_is (not_heard o.budgets h us step a.message w.if-edge-lt2.true) c.put_step_in.ensures.0, omega arith)
      | then-edge-lt2-via-else-edge-lt2+then-message-ne255 w ↦ (put_is (with-message o.budgets h us step a.message w.if-message-ne255.true) c.put_step_in.ensures.0, omega arith)
    ]

pub returns : goal.returns
returns c =
    let a = c.args in
    let p = c.requires in
    let o = a.origin in
    let h = a.edge.now in
    (put_is (timed_out o.budgets h (uppers_from o.location (arc_at o.budgets h)) (step_in_with o.number (arc_at o.budgets h) (message_of a.message)) a.message c.if-edge-lt2.false c.if-message-ne255.false (a.highs + 2 - 1) (omega (arith, p.2))) c.put_steps.ensures.told, omega (arith, p.3, c.put_steps.ensures.near))
