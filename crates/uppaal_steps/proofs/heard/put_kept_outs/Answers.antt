-- `uppaal_steps::heard::put_kept_outs` meets its contract. Assumes nothing.
use mathlib.Core.Path.{◌≡◌}
use mathlib.Core.Bool.{false}
use Prim.Native.Nat.{◌-◌, ◌*◌}
use lib.ListN.{take, drop}
use native.Mathlib.Omega.{arith}
use Rattle.blocks.proofs.Runs.{put_is}
use Rattle.uppaal_parts.proofs.Turns.{numbers_on, numbers_done}
use Rattle.uppaal_steps.specs.Steps.{step_told}
use Rattle.uppaal_steps.proofs.Keeping.{out_told}
use Rattle.uppaal_steps.proofs.heard.put_kept_outs.Goals as goal

pub loop-tight-preserved : goal.loop-tight-preserved
loop-tight-preserved c =
    let a = c.args in
    let l = c.loop-tight in
    let st = c.requires.3.stands l.tight (omega arith) (omega arith) in
    let same : take (c.from-end.result - c.from-start.result * 640) (drop (c.from-start.result * 640) a.kept.now) ≡ _ = rw (c.from-end.ensures, c.from.ensures, c.from-start.ensures) st.same in
    (omega arith, numbers_on (step_told false a.origin a.edge.now a.message) l.tight a.last (omega arith) l.invariant.1 (put_is (out_told a.origin a.edge.now a.message l.tight c.leads_to-target.result c.leads_to-target.ensures same) c.put_kept_out-next.ensures.0))

pub returns : goal.returns
returns c = (numbers_done (step_told false c.args.origin c.args.edge.now c.args.message) c.loop-tight.tight c.args.last (omega arith) c.loop-tight.invariant.1, omega arith)
