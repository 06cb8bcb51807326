-- `turning::rows_between` meets its contract. Assumes nothing.
use mathlib.Core.Path.{◌≡◌, sym, ap, ◌∙◌}
use Prim.Native.Nat.{ℕ, ◌+◌}
use native.Mathlib.Omega.{arith}
use Rattle.rows.specs.Rows.{rows_of}
use Rattle.turning.specs.Turned.{between, is_of}
use Rattle.turning.proofs.Between.{none_between, one_between, most_one}
use Rattle.turning.proofs.rows_between.Goals as goal

pub loop-i-init : goal.loop-i-init
loop-i-init c = (omega arith, omega arith, omega arith, λ n h. sym (none_between (rows_of c.args.rows.now n) c.args.first c.args.c))

pub counted-number-requires : goal.counted-number-requires
counted-number-requires c =
    let l = c.loop-i in
    (omega (arith, c.requires.0, c.loop-i-test.true), omega (arith, c.requires.1), l.invariant.2)

pub loop-i-preserved : goal.loop-i-preserved
loop-i-preserved c =
    let a = c.args in
    let l = c.loop-i in (
      omega arith,
      omega arith,
      omega (arith, c.counted-number.ensures, most_one a.rows.now l.i a.c),
      λ n h. c.counted-number.ensures ∙ ap (λ (m : ℕ). m + is_of a.rows.now l.i a.c) (l.invariant.3 n h) ∙ sym (one_between a.rows.now n a.first l.i a.c l.invariant.0 (omega (arith, c.loop-i-test.true))),
    )

pub returns : goal.returns
returns c =
    let a = c.args in
    let l = c.loop-i in
    let e : l.i ≡ a.second = omega (arith, l.invariant.1, c.loop-i-test.false) in
    λ n h. l.invariant.3 n h ∙ ap (λ (m : ℕ). between (rows_of a.rows.now n) a.first m a.c) e
