-- `rows::seek` meets its contract. Assumes nothing.
use mathlib.Core.Path.{ap, ◌∙◌}
use native.Mathlib.Omega.{arith}
use Rattle.rows.specs.Rows.{found_passage}
use Rattle.rows.proofs.Sought.{from_row, turn, stop, done, row_heard, row_unheard, below_one, fits_below}
use Rattle.rows.proofs.seek.Goals as goal
use Rattle.rows.proofs.seek.Goals.{then-hears, else-hears}

pub loop-j-init : goal.loop-j-init
loop-j-init c =
    let e = c in
    let a = e.args in
    record {
      there = c.seek_before-best.ensures.there;
      found = from_row a.table.now a.rows.now a.count a.i a.horizon e.requires.0 e.requires.1 (found_passage a.rows.now c.seek_before-best.result) c.seek_before-best.ensures.found;
    }

pub returns-then-until-number : goal.returns-then-until-number
returns-then-until-number c =
    let e = c in
    let a = e.args in
    let l = c.loop-j in
    record {
      found = stop a.table.now a.rows.now a.count a.i a.horizon e.requires.0 e.requires.1 l.j (found_passage a.rows.now l.best) _ c.loop-j-test.true (omega (arith, c.number-until.ensures, c.number.ensures, c.if-until-number.true)) l.invariant.found;
      there = l.invariant.there;
    }

pub sooner-best-requires : goal.sooner-best-requires
sooner-best-requires c = (fits_below _ _ _ c.requires.0.fits c.loop-j.invariant.there, omega (arith, c.requires.0.fits, c.loop-j-test.true))

pub loop-j-preserved : goal.loop-j-preserved
loop-j-preserved c =
    let e = c in
    let a = e.args in
    let l = c.loop-j in
    let there = c.loop-j-test.true in
    let found = found_passage a.rows.now in
    record {
      there =
          elim c.if-hears.branch [
            | then-hears w ↦ rw w.best-is (below_one a.count w.sooner-best.ensures.one l.invariant.there there)
            | else-hears w ↦ rw w.best-is l.invariant.there
          ];
      found =
          turn a.table.now a.rows.now a.count a.i a.horizon e.requires.0 e.requires.1 l.j (found l.best) (found c.if-hears.best) _ there
          (elim c.if-hears.branch [
            | then-hears w ↦ row_heard a.table.now a.rows.now a.horizon a.i l.j (found l.best) _ c.hears.result c.hears.ensures w.if-hears.true (ap found w.best-is ∙ w.sooner-best.ensures.found)
            | else-hears w ↦ row_unheard a.table.now a.rows.now a.horizon a.i l.j (found l.best) _ c.hears.result c.hears.ensures w.if-hears.false (ap found w.best-is)
          ])
          l.invariant.found;
    }

pub returns : goal.returns
returns c =
    let e = c in
    let a = e.args in
    let l = c.loop-j in
    record {
      found = done a.table.now a.rows.now a.count a.i a.horizon e.requires.0 e.requires.1 l.j (found_passage a.rows.now l.best) _ (omega (arith, c.loop-j-test.false)) l.invariant.found;
      there = l.invariant.there;
    }
