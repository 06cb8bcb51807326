-- `run::ticks_by_eight` meets its contract. Assumes nothing.
use Prim.Native.Nat.{◌+◌}
use native.Mathlib.Omega.{arith}
use borrow.Author.Rules.{rules}
use Rattle.run.proofs.InARow.{ticks_none, ticks_join, ticks_eight}
use Rattle.run.proofs.ticks_by_eight.Goals as goal

-- fewer than eight are left
pub returns-then-end-lt8 : goal.returns-then-end-lt8
returns-then-end-lt8 c = let a = c.args in (omega arith, search rules, ticks_none a.choices.now a.from)

pub loop-at-init : goal.loop-at-init
loop-at-init c = let a = c.args in (omega arith, search rules, ticks_none a.choices.now a.from)

pub returns-then-sum_of_four-ne2040 : goal.returns-then-sum_of_four-ne2040
returns-then-sum_of_four-ne2040 c = c.loop-at.invariant

pub loop-at-preserved : goal.loop-at-preserved
loop-at-preserved c =
    let a = c.args in
    let l = c.loop-at in
    (search rules, search rules, ticks_join a.choices.now a.from l.at (l.at + 8) l.invariant.2 (ticks_eight a.choices.now l.at (c.sum_of_four.ensures.1 (omega (arith, c.sum_of_four.ensures.0, c.sum_of_four-in-loop-at.ensures.0, c.if-sum_of_four-ne2040.false))) (c.sum_of_four-in-loop-at.ensures.1 (omega (arith, c.sum_of_four.ensures.0, c.sum_of_four-in-loop-at.ensures.0, c.if-sum_of_four-ne2040.false)))))

pub returns : goal.returns
returns c = c.loop-at.invariant
