-- `site::rows_airtime` meets its contract. Assumes nothing.
use mathlib.Core.Path.{◌≡◌, sym, ap, ap₂, ◌∙◌}
use Prim.Native.Nat.{ℕ, suc, ◌+◌, ◌-◌}
use native.Mathlib.Omega.{arith}
use Rattle.rows.proofs.Placed.{row_known}
use Rattle.site.proofs.Rowing.{airtime_from, none_left, one_more}
use Rattle.site.proofs.rows_airtime.Goals as goal

pub loop-i-init : goal.loop-i-init
loop-i-init c =
    let a = c.args in
    (omega arith, sym (none_left a.table.now a.horizon a.rows.now a.count), omega arith)

pub row_airtime-sum-requires : goal.row_airtime-sum-requires
row_airtime-sum-requires c =
    let e = c in
    let l = c.loop-i in
    row_known e.args.table.now e.args.rows.now e.args.count _ e.requires (omega (arith, l.invariant.0, c.loop-i-test.true))

pub overflow_add-sum : goal.overflow_add-sum
overflow_add-sum c =
    let e = c in
    let l = c.loop-i in
    omega (arith, l.invariant.0, l.invariant.2, c.row_airtime-sum.ensures.1, e.requires.few)

pub loop-i-preserved : goal.loop-i-preserved
loop-i-preserved c =
    let e = c in
    let a = e.args in
    let l = c.loop-i in
    let t = c.loop-i-test.true in
    let back : suc (l.i - 1) ≡ l.i = omega arith in (
      omega (arith, l.invariant.0),
      ap₂ (λ (x y : ℕ). x + y) l.invariant.1 c.row_airtime-sum.ensures.0 ∙ omega (arith, one_more a.table.now a.horizon a.rows.now a.count (l.i - 1) (omega (arith, l.invariant.0)), ap (λ (k : ℕ). airtime_from a.table.now a.horizon a.rows.now k (a.count - k)) back),
      omega (arith, l.invariant.0, l.invariant.2, c.row_airtime-sum.ensures.1),
    )

pub returns : goal.returns
returns c =
    let a = c.args in
    let l = c.loop-i in
    let z : l.i ≡ 0 = omega (arith, c.loop-i-test.false) in
    l.invariant.1 ∙ ap (λ (k : ℕ). airtime_from a.table.now a.horizon a.rows.now k (a.count - k)) z ∙ ap (airtime_from a.table.now a.horizon a.rows.now 0) (let y : a.count - 0 ≡ a.count = omega arith in y)
