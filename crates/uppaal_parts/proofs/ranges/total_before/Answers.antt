-- `uppaal_parts::ranges::total_before` meets its contract. Assumes nothing.
use mathlib.Core.Path.{sym, ◌∙◌}
use Prim.Native.Nat.{◌-◌, ◌*◌}
use native.Mathlib.Omega.{arith}
use lib.ListN.{drop}
use Rattle.uppaal_parts.specs.Marks.{total_of}
use Rattle.uppaal_parts.proofs.Totals.{summed_on, summed_done}
use Rattle.uppaal_parts.proofs.ranges.total_before.Goals as goal

pub loop-k-preserved : goal.loop-k-preserved
loop-k-preserved c =
    let a = c.args in
    let l = c.loop-k in
    let e = c.pass_update-t.ensures in
    (omega (arith, e.1), omega (arith, e.2), summed_on a.variable a.bytes.now (total_of l.t.known l.t.sum) l.k a.count (omega arith) e.0 ∙ l.invariant.2)

pub returns : goal.returns
returns c =
    let a = c.args in
    let l = c.loop-k in
    (sym (summed_done a.variable (total_of l.t.known l.t.sum) (a.count - l.k) (drop (l.k * 4) a.bytes.now) (omega arith)) ∙ l.invariant.2, omega arith, omega arith)
