-- `period::to_joint` meets its contract. Assumes nothing.
use mathlib.Core.Path.{sym, ◌∙◌}
use native.Mathlib.Omega.{arith}
use Rattle.model.proofs.Basics.Bools.{clash}
use Rattle.period.specs.Walking.{Joins}
use Rattle.period.proofs.Joining.{none_more}
use Rattle.period.proofs.to_joint.Goals as goal

pub loop-row-init : goal.loop-row-init
loop-row-init c = (omega arith, c.requires.2, λ j a b q. omega arith)

pub joins-requires : goal.joins-requires
joins-requires c = (c.requires.0, c.requires.1, c.loop-row-test.true, c.requires.3)

pub returns-then-joins : goal.returns-then-joins
returns-then-joins c =
    let l = c.loop-row in
    record { from = l.invariant.0; among = l.invariant.1; there = λ h. c.joins.ensures.0 c.if-joins.true; before = l.invariant.2 }

pub loop-row-preserved : goal.loop-row-preserved
loop-row-preserved c =
    let a = c.args in
    let l = c.loop-row in (
      omega (arith, l.invariant.0),
      omega (arith, c.loop-row-test.true),
      none_more (Joins a.rows.now a.count a.components) a.from l.row l.invariant.2 (λ q. clash (sym c.if-joins.false ∙ c.joins.ensures.1 q)),
    )

pub returns : goal.returns
returns c =
    let l = c.loop-row in
    record { from = c.requires.2; among = omega arith; there = λ h. absurd (omega arith); before = λ j a b. l.invariant.2 j a (omega (arith, c.loop-row-test.false)) }
