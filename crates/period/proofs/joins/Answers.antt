-- `period::joins` meets its contract. Assumes nothing.
use mathlib.Core.Path.{◌≡◌, sym, ◌∙◌}
use Prim.Native.Nat.{ℕ, ◌+◌}
use native.Mathlib.Omega.{arith}
use Rattle.rows.specs.Rows.{num}
use Rattle.period.proofs.Joining.{too_few, not_joined, joined, one_more}
use Rattle.period.proofs.joins.Goals as goal

pub overflow_add-row : goal.overflow_add-row
overflow_add-row c = let p = c.requires in omega (arith, p.1, p.2, p.3)

pub returns-then-count-row : goal.returns-then-count-row
returns-then-count-row c =
    let e = c in
    too_few e.args.rows.now e.args.count e.args.components e.args.row e.requires.2 c.if-count-row.true

pub number-tick-requires : goal.number-tick-requires
number-tick-requires c = let p = c.requires in omega (arith, p.0, p.2)

pub loop-c-init : goal.loop-c-init
loop-c-init c = (omega arith, omega (arith, c.if-count-row.false), c.number-tick.ensures, λ d h. absurd (omega arith))

pub overflow_add-row-in-loop-c : goal.overflow_add-row-in-loop-c
overflow_add-row-in-loop-c c = let p = c.requires in let l = c.loop-c in omega (arith, p.1, p.2, p.3, c.loop-c-test.true)

pub index-requires : goal.index-requires
index-requires c = let p = c.requires in let l = c.loop-c in omega (arith, p.0, l.invariant.1, c.loop-c-test.true)

pub returns-then-index-c : goal.returns-then-index-c
returns-then-index-c c =
    let e = c in
    let l = c.loop-c in
    not_joined e.args.rows.now e.args.count e.args.components e.args.row e.requires.2 l.c c.loop-c-test.true (λ q. c.if-index-c.true (c.index.ensures ∙ q.0))

pub overflow_add-row-in-loop-c-2 : goal.overflow_add-row-in-loop-c-2
overflow_add-row-in-loop-c-2 c = let p = c.requires in omega (arith, p.1, p.2, p.3, c.loop-c-test.true)

pub number-requires : goal.number-requires
number-requires c = let p = c.requires in let l = c.loop-c in omega (arith, p.0, l.invariant.1, c.loop-c-test.true)

pub returns-then-number-tick : goal.returns-then-number-tick
returns-then-number-tick c =
    let e = c in
    let l = c.loop-c in
    not_joined e.args.rows.now e.args.count e.args.components e.args.row e.requires.2 l.c c.loop-c-test.true (λ q. c.if-number-tick.true (c.number.ensures ∙ q.1 ∙ sym l.invariant.2))

pub loop-c-preserved : goal.loop-c-preserved
loop-c-preserved c =
    let e = c in
    let l = c.loop-c in
    let rows = e.args.rows.now in
    let row = e.args.row in (
      omega (arith, c.loop-c-test.true),
      l.invariant.1,
      l.invariant.2,
      one_more (λ (d : ℕ). (num rows (row + d) 0 ≡ d) × (num rows (row + d) 3 ≡ num rows row 3)) l.c l.invariant.3
          (sym c.index.ensures ∙ c.if-index-c.false, sym c.number.ensures ∙ c.if-number-tick.false ∙ l.invariant.2),
    )

pub returns : goal.returns
returns c =
    let e = c in
    let l = c.loop-c in
    joined e.args.rows.now e.args.count e.args.components e.args.row e.requires.2 l.invariant.1 (λ d h. l.invariant.3 d (omega (arith, c.loop-c-test.false)))
