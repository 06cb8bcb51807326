-- `period::last_joint` meets its contract. Assumes nothing.
use mathlib.Core.Path.{sym, ◌∙◌}
use native.Mathlib.Omega.{arith}
use Rattle.model.proofs.Basics.Bools.{clash}
use Rattle.period.specs.Walking.{Joins}
use Rattle.period.proofs.Joining.{none_from}
use Rattle.period.proofs.last_joint.Goals as goal

pub loop-row-init : goal.loop-row-init
loop-row-init c =
    let p = c.requires in (omega (arith, (p.4 0 (omega (arith, p.2))).0), omega arith, λ j a b q. omega arith)

pub joins-requires : goal.joins-requires
joins-requires c = (c.requires.0, c.requires.1, omega (arith, c.loop-row.invariant.1, c.loop-row-test.true), c.requires.3)

pub returns-then-joins : goal.returns-then-joins
returns-then-joins c =
    let l = c.loop-row in
    let p = c.requires in
    record {
      there = omega (arith, l.invariant.1, c.loop-row-test.true);
      joins = c.joins.ensures.0 c.if-joins.true;
      after = λ j h q. l.invariant.2 j (omega (arith, h)) (omega (arith, (q 0 (omega (arith, p.2))).0)) q;
    }

pub loop-row-preserved : goal.loop-row-preserved
loop-row-preserved c =
    let a = c.args in
    let l = c.loop-row in (
      omega (arith, c.loop-row-test.true),
      omega (arith, l.invariant.1),
      none_from (Joins a.rows.now a.count a.components) l.row a.count l.invariant.2 (λ q. clash (sym c.if-joins.false ∙ c.joins.ensures.1 q)),
    )

pub returns : goal.returns
returns c =
    let l = c.loop-row in
    let p = c.requires in
    record {
      there = (p.4 0 (omega (arith, p.2))).0;
      joins = p.4;
      after = λ j h q. l.invariant.2 j (omega (arith, h, c.loop-row-test.false)) (omega (arith, (q 0 (omega (arith, p.2))).0)) q;
    }
