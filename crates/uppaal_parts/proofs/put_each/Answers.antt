-- `uppaal_parts::put_each` meets its contract. Assumes nothing.
use Prim.Native.Nat.{◌*◌, ◌<◌}
use native.Mathlib.Omega.{arith}
use Rattle.uppaal_parts.proofs.Turns.{turn_fits, lent_long, told_on, told_done}
use Rattle.uppaal_parts.proofs.put_each.Goals as goal

pub put-next-requires : goal.put-next-requires
put-next-requires g c =
    let a = c.args in
    let k = c.loop-k.k in
    let h : k < a.count = omega arith in
    c.requires.1.1.1.0 _ _ _ (omega (arith, lent_long a.bytes.now (k * a.width), turn_fits a.width k a.count h)) (omega (arith, turn_fits a.most k a.count h))

pub loop-k-preserved : goal.loop-k-preserved
loop-k-preserved g c =
    let a = c.args in
    let k = c.loop-k.k in
    let h : k < a.count = omega arith in
    let t = c.requires.1.1.1.1 _ _ _ _ _ (omega (arith, lent_long a.bytes.now (k * a.width), turn_fits a.width k a.count h)) (omega (arith, turn_fits a.most k a.count h)) c.put-next.ensures in
    (omega (arith, t.1), told_on g.tell a.width a.bytes.now k a.count h c.loop-k.invariant.1 t.0)

pub returns-clause-told : goal.returns-clause-told
returns-clause-told g c = told_done g.tell c.args.width c.args.bytes.now c.loop-k.k c.args.count (omega arith) c.loop-k.invariant.1
