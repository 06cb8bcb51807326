-- `rows::seek_before` meets its contract. Assumes nothing.
use mathlib.Core.Option.{none}
use mathlib.Core.Path.{◌≡◌, sym, ap, subst, ◌∙◌}
use Prim.Native.Nat.{ℕ, ◌+◌, ◌-◌, ◌<◌}
use native.Mathlib.Omega.{arith}
use Rattle.model.specs.Places.{read_of}
use Rattle.model.specs.Schedule.{heard_by, earliest}
use Rattle.rows.specs.Rows.{row_passage, rows_from, found_passage}
use Rattle.rows.proofs.Sought.{linked_below, back_start, back_turn, first_heard, first_unheard, below_one}
use Rattle.rows.proofs.seek_before.Goals as goal
use Rattle.rows.proofs.seek_before.Goals.{then-hears, else-hears}

pub loop-j-init : goal.loop-j-init
loop-j-init c =
    let e = c in
    let a = e.args in
    let r = c.open_before-j in
    record {
      before = r.ensures.0;
      there = tt;
      found = back_start a.table.now a.rows.now a.count a.i a.horizon e.requires.0 e.requires.1 r.result r.ensures.0 (λ t x y. omega (arith, r.ensures.1 t x y, c.number-ready.ensures));
    }

pub open_before-j-requires-in-loop-j : goal.open_before-j-requires-in-loop-j
open_before-j-requires-in-loop-j c = linked_below c.requires.0 (c.loop-j.j - 1) (omega (arith, c.loop-j.invariant.before, c.requires.1))

pub loop-j-preserved : goal.loop-j-preserved
loop-j-preserved c =
    let e = c in
    let a = e.args in
    let l = c.loop-j in
    let r = c.open_before-j-in-loop-j in
    let k = l.j - 1 in
    let z : l.j ≡ k + 1 = omega (arith, c.loop-j-test.true) in
    let there : k < a.count = omega (arith, c.loop-j-test.true, l.invariant.before, e.requires.1) in
    let found = found_passage a.rows.now in
    let p = heard_by (read_of a.table.now).table a.horizon (row_passage a.rows.now a.i) in
    let q = subst (λ (m : ℕ). earliest p (rows_from a.rows.now m (a.i - m)) none ≡ found l.best) z l.invariant.found in
    record {
      before = omega (arith, r.ensures.0, l.invariant.before);
      there =
          elim c.if-hears.branch [
            | then-hears w ↦ rw w.best-is (below_one a.count w.sooner-best.ensures.one there l.invariant.there)
            | else-hears w ↦ rw w.best-is l.invariant.there
          ];
      found =
          back_turn a.table.now a.rows.now a.count a.i a.horizon e.requires.0 e.requires.1 r.result k (found l.best) (found c.if-hears.best) (omega (arith, c.loop-j-test.true, l.invariant.before)) r.ensures.0 (λ t x y. omega (arith, r.ensures.1 t x y, c.number-ready.ensures)) q
          (elim c.if-hears.branch [
            | then-hears w ↦ first_heard a.table.now a.rows.now a.horizon a.i k (found l.best) _ c.hears.result c.hears.ensures w.if-hears.true (ap found w.best-is ∙ w.sooner-best.ensures.found)
            | else-hears w ↦ first_unheard a.table.now a.rows.now a.horizon a.i k (found l.best) _ c.hears.result c.hears.ensures w.if-hears.false (ap found w.best-is)
          ]);
    }

pub returns : goal.returns
returns c =
    let a = c.args in
    let l = c.loop-j in
    let z : l.j ≡ 0 = omega (arith, c.loop-j-test.false) in
    let i : a.i - 0 ≡ a.i = omega arith in
    let p = heard_by (read_of a.table.now).table a.horizon (row_passage a.rows.now a.i) in
    let found = found_passage a.rows.now in
    record {
      found = sym (subst (λ (m : ℕ). earliest p (rows_from a.rows.now 0 m) none ≡ found l.best) i (subst (λ (m : ℕ). earliest p (rows_from a.rows.now m (a.i - m)) none ≡ found l.best) z l.invariant.found));
      there = l.invariant.there;
    }
