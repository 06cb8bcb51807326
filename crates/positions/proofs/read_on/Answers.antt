-- `positions::read_on` meets its contract. Assumes nothing.
use mathlib.Core.Path.{◌≡◌, sym, ◌∙◌}
use Prim.Native.Nat.{◌-◌, ◌<◌}
use native.Mathlib.Omega.{arith}
use borrow.Author.Rules.{rules}
use lib.ListN.{length, length-set}
use Rattle.positions.specs.Walks.{ReadUpTo}
use Rattle.positions.proofs.Walking.{read_more}
use Rattle.positions.proofs.read_on.Goals as goal

pub loop-i-init : goal.loop-i-init
loop-i-init c = c.requires

pub number-requires : goal.number-requires
number-requires c = omega (arith, c.loop-i.invariant.0.fits)

pub shape_of-latest-then-tick-number : goal.shape_of-latest-then-tick-number
shape_of-latest-then-tick-number c = c.loop-i.invariant.1 ∙ sym c.requires.1

pub returns-then-tick-number : goal.returns-then-tick-number
returns-then-tick-number c = record { whole = c.loop-i.invariant.0; all = λ h. omega (arith, c.if-tick-number.true, c.number.ensures) }

pub overflow_cast-latest : goal.overflow_cast-latest
overflow_cast-latest c = omega (arith, c.loop-i.invariant.0.few)

pub index-requires : goal.index-requires
index-requires c = omega (arith, c.loop-i.invariant.0.fits)

pub offset_bounds-latest-index : goal.offset_bounds-latest-index
offset_bounds-latest-index c =
    let small : c.index.result < 8 =
    (let l = c.loop-i in omega (arith, l.invariant.0.small l.i c.loop-i-test.true, c.index.ensures)) in
    omega (arith, small)

pub bounds-latest-index : goal.bounds-latest-index
bounds-latest-index c =
    let small : c.index.result < 8 =
    (let l = c.loop-i in omega (arith, l.invariant.0.small l.i c.loop-i-test.true, c.index.ensures)) in
    omega (arith, small, c.loop-i.invariant.1)

pub loop-i-preserved : goal.loop-i-preserved
loop-i-preserved c =
    let a = c.args in
    let l = c.loop-i in
    (read_more a.rows.now l.latest a.count l.i a.tick c.index.result l.invariant.0 l.invariant.1 c.loop-i-test.true (omega (arith, c.if-tick-number.false, c.number.ensures)) c.index.ensures, length-set l.latest c.index.result l.i ∙ l.invariant.1)

pub shape_of-latest : goal.shape_of-latest
shape_of-latest c = c.loop-i.invariant.1 ∙ sym c.requires.1

pub returns : goal.returns
returns c = record { whole = c.loop-i.invariant.0; all = λ h. absurd (omega arith) }
