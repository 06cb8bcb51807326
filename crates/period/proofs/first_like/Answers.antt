-- `period::first_like` meets its contract. Assumes nothing.
use mathlib.Core.Path.{sym, ap, ◌∙◌}
use Prim.Native.Nat.{ℕ, ◌+◌, ◌≤◌}
use native.Mathlib.Omega.{arith}
use Rattle.model.proofs.Basics.Bools.{clash}
use Rattle.schedule.proofs.Tables.{some_components, few_components}
use Rattle.rows.specs.Rows.{num}
use Rattle.std.specs.Prelude.{Some}
use Rattle.period.proofs.Searches.{not_beyond, tried_start, tried_late, is_early, tried_early, tried_all}
use Rattle.period.proofs.first_like.Goals as goal

pub loop-late-init : goal.loop-late-init
loop-late-init c =
    let number-of : (1 ≤ c.args.components) × (c.args.components ≤ 8) =
    (let e = c in
    let v = e.requires.0.placed.valid in
    (omega (arith, e.requires.2, some_components e.args.table.now c.type_inv.table v), omega (arith, e.requires.2, few_components e.args.table.now c.type_inv.table v))) in
    let e = c in
    let a = e.args in
    let p = e.requires in
    (p.4, p.4, p.5, λ h. p.5, omega arith, tried_start a.table.now a.rows.now a.count p.0 a.components p.2 number-of.0 a.distance a.first.row a.first.row p.6 p.6)

pub number-from-requires : goal.number-from-requires
number-from-requires c = let l = c.loop-late in omega (arith, c.requires.0.placed.fits, l.invariant.4, c.loop-late-test.true)

pub overflow_add-to : goal.overflow_add-to
overflow_add-to c =
    let p = c.requires in
    let l = c.loop-late in
    let r = p.0.placed.row l.early.row (omega (arith, l.invariant.4, c.loop-late-test.true)) in
    omega (arith, c.number-from.ensures, r.early, r.window, r.small, p.8)

pub number-requires : goal.number-requires
number-requires c = omega (arith, c.requires.0.placed.fits, c.loop-late-test.true)

pub next_joint-late-requires : goal.next_joint-late-requires
next_joint-late-requires c =
    let number-of : (1 ≤ c.args.components) × (c.args.components ≤ 8) =
    (let e = c in
    let v = e.requires.0.placed.valid in
    (omega (arith, e.requires.2, some_components e.args.table.now c.type_inv.table v), omega (arith, e.requires.2, few_components e.args.table.now c.type_inv.table v))) in
    let p = c.requires in
    let l = c.loop-late in
    (p.0, l.invariant.1, c.loop-late-test.true, number-of.1, p.3)

pub loop-late-smaller-then-number-to : goal.loop-late-smaller-then-number-to
loop-late-smaller-then-number-to c = omega (arith, c.next_joint-late.ensures.1.from, c.loop-late-test.true)

pub loop-late-preserved-then-number-to : goal.loop-late-preserved-then-number-to
loop-late-preserved-then-number-to c =
    let number-of : (1 ≤ c.args.components) × (c.args.components ≤ 8) =
    (let e = c in
    let v = e.requires.0.placed.valid in
    (omega (arith, e.requires.2, some_components e.args.table.now c.type_inv.table v), omega (arith, e.requires.2, few_components e.args.table.now c.type_inv.table v))) in
    let e = c in
    let a = e.args in
    let p = e.requires in
    let l = c.loop-late in (
      l.invariant.0,
      c.next_joint-late.ensures.0,
      l.invariant.2,
      c.next_joint-late.ensures.1.there,
      omega (arith, l.invariant.4, c.next_joint-late.ensures.1.from),
      tried_late a.table.now a.rows.now a.count p.0 a.components p.2 number-of.0 a.distance l.early.row l.late.row c.next_joint-late.result.row c.next_joint-late.ensures.1
          (omega (arith, c.if-number-to.true, c.number.ensures, c.number-from.ensures)) l.invariant.5,
    )

pub alike_at-requires : goal.alike_at-requires
alike_at-requires c =
    let p = c.requires in
    let l = c.loop-late in
    (p.0, p.1, p.2, l.invariant.0, l.invariant.1, l.invariant.2, l.invariant.3 c.loop-late-test.true, c.loop-late-test.true)

pub returns-then-alike_at : goal.returns-then-alike_at
returns-then-alike_at c =
    let a = c.args in
    let l = c.loop-late in
    let q = c.alike_at.ensures.0 c.if-alike_at.true in
    record {
      i = l.early.row;
      j = l.late.row;
      apart = record { early = l.invariant.2; late = l.invariant.3 c.loop-late-test.true; distant = q.0 ∙ ap (λ (x : ℕ). x + a.distance) c.number-from.ensures; alike = q.1 };
      first = l.invariant.5.never;
      told = ap (λ (x : ℕ). Some (record { from = x; to = x + a.distance })) c.number-from.ensures;
    }

pub next_joint-early-requires : goal.next_joint-early-requires
next_joint-early-requires c =
    let number-of : (1 ≤ c.args.components) × (c.args.components ≤ 8) =
    (let e = c in
    let v = e.requires.0.placed.valid in
    (omega (arith, e.requires.2, some_components e.args.table.now c.type_inv.table v), omega (arith, e.requires.2, few_components e.args.table.now c.type_inv.table v))) in
    let p = c.requires in
    let l = c.loop-late in
    (p.0, l.invariant.0, omega (arith, l.invariant.4, c.loop-late-test.true), number-of.1, p.3)

pub loop-late-smaller : goal.loop-late-smaller
loop-late-smaller c = omega (arith, c.next_joint-early.ensures.1.from, c.loop-late.invariant.4, c.loop-late-test.true)

pub loop-late-preserved : goal.loop-late-preserved
loop-late-preserved c =
    let number-of : (1 ≤ c.args.components) × (c.args.components ≤ 8) =
    (let e = c in
    let v = e.requires.0.placed.valid in
    (omega (arith, e.requires.2, some_components e.args.table.now c.type_inv.table v), omega (arith, e.requires.2, few_components e.args.table.now c.type_inv.table v))) in
    let e = c in
    let a = e.args in
    let p = e.requires in
    let l = c.loop-late in
    let late = l.invariant.3 c.loop-late-test.true in
    let k = number-of.0 in
    let far : num a.rows.now l.early.row 3 + a.distance ≤ num a.rows.now l.late.row 3 = omega (arith, c.if-number-to.false, c.number.ensures, c.number-from.ensures) in
    let ahead = is_early a.table.now a.rows.now a.count p.0 a.components p.2 k a.distance l.early.row l.late.row l.invariant.4 p.7 far in
    let within = not_beyond a.rows.now a.count a.components l.early.row c.next_joint-early.result.row l.late.row c.next_joint-early.ensures.1 ahead late in (
      c.next_joint-early.ensures.0,
      l.invariant.1,
      c.next_joint-early.ensures.1.there (omega (arith, within, c.loop-late-test.true)),
      l.invariant.3,
      within,
      tried_early a.table.now a.rows.now a.count p.0 a.components p.2 k a.distance l.early.row l.late.row c.next_joint-early.result.row c.next_joint-early.ensures.1 within c.loop-late-test.true late far
          (λ z. clash (sym c.if-alike_at.false ∙ c.alike_at.ensures.1 (z.0 ∙ sym (ap (λ (x : ℕ). x + a.distance) c.number-from.ensures), z.1))) l.invariant.5,
    )

pub returns : goal.returns
returns c =
    let number-of : (1 ≤ c.args.components) × (c.args.components ≤ 8) =
    (let e = c in
    let v = e.requires.0.placed.valid in
    (omega (arith, e.requires.2, some_components e.args.table.now c.type_inv.table v), omega (arith, e.requires.2, few_components e.args.table.now c.type_inv.table v))) in
    let e = c in
    let a = e.args in
    let p = e.requires in
    let l = c.loop-late in
    let w = p.9 in
    absurd (tried_all a.table.now a.rows.now a.count p.0 a.components p.2 number-of.0 a.distance l.early.row l.late.row w.0 w.1 (omega (arith, c.loop-late-test.false)) w.2 l.invariant.5)
