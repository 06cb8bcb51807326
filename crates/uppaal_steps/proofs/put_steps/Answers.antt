-- `uppaal_steps::put_steps` meets its contract. Assumes nothing.
use mathlib.Core.Path.{◌≡◌, refl}
use Prim.Native.Nat.{◌+◌, ◌-◌}
use native.Mathlib.Omega.{arith}
use Rattle.uppaal_parts.proofs.Turns.{numbers_on, numbers_done}
use Rattle.uppaal_steps.specs.Steps.{step_told}
use Rattle.uppaal_steps.proofs.put_steps.Goals as goal

pub put_step-next-requires : goal.put_step-next-requires
put_step-next-requires g c = c.requires.1.1.1.0 _ _ _ _ refl (omega arith)

pub loop-tight-preserved : goal.loop-tight-preserved
loop-tight-preserved g c =
    let a = c.args in
    let l = c.loop-tight in
    let past : l.tight + 1 - a.first ≡ l.tight - a.first + 1 = omega arith in
    let t = c.requires.1.1.1.1 _ _ _ _ _ _ refl (omega arith) c.put_step-next.ensures in
    (omega (arith, t.1), numbers_on (step_told g.inwards a.origin a.edge.now a.message) l.tight a.last (omega arith) l.invariant.1 t.0)

pub returns-clause-told : goal.returns-clause-told
returns-clause-told g c = numbers_done (step_told g.inwards c.args.origin c.args.edge.now c.args.message) c.loop-tight.tight c.args.last (omega arith) c.loop-tight.invariant.1
