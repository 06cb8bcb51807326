-- `run::ticks_by_one` meets its contract. Assumes nothing.
use Prim.Native.Nat.{◌+◌}
use native.Mathlib.Omega.{arith}
use borrow.Author.Rules.{rules}
use Rattle.run.proofs.InARow.{ticks_none, ticks_one, ticks_join}
use Rattle.run.proofs.ticks_by_one.Goals as goal

pub loop-at-init : goal.loop-at-init
loop-at-init c = (omega arith, search rules, ticks_none c.args.choices.now c.args.from)

pub returns-then-choices-at : goal.returns-then-choices-at
returns-then-choices-at c = c.loop-at.invariant

pub loop-at-preserved : goal.loop-at-preserved
loop-at-preserved c =
    let a = c.args in
    let l = c.loop-at in
    (search rules, search rules, ticks_join a.choices.now a.from l.at (l.at + 1) l.invariant.2 (ticks_one a.choices.now l.at (search rules)))

pub returns : goal.returns
returns c = (omega arith, omega arith, λ i from to. c.loop-at.invariant.2 i from (omega arith))
