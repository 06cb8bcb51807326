-- `turning::move_rows` meets its contract. Assumes nothing.
use mathlib.Core.Path.{ap, ◌∙◌}
use Prim.Native.Nat.{ℕ, ◌+◌}
use native.Mathlib.Omega.{arith}
use Rattle.recurrence.proofs.Turned.{capped}
use Rattle.turning.proofs.Moved.{none_moved, one_moved, all_moved, in_rows}
use Rattle.turning.proofs.move_rows.Goals as goal

pub loop-i-init : goal.loop-i-init
loop-i-init c = (omega arith, none_moved c.args.period c.args.rows.now)

pub number-ready-requires : goal.number-ready-requires
number-ready-requires c = in_rows c.args.period c.args.rows.now c.loop-i.rows c.loop-i.i c.loop-i.invariant.1 c.args.passages c.requires c.loop-i-test.true

pub overflow_mul-rows : goal.overflow_mul-rows
overflow_mul-rows c = omega (arith, c.requires.few)

pub overflow_add-rows : goal.overflow_add-rows
overflow_add-rows c = omega (arith, c.requires.few)

pub offset_bounds-rows-i : goal.offset_bounds-rows-i
offset_bounds-rows-i c = omega (arith, c.requires.few)

pub bounds-rows-i : goal.bounds-rows-i
bounds-rows-i c = in_rows c.args.period c.args.rows.now c.loop-i.rows c.loop-i.i c.loop-i.invariant.1 c.args.passages c.requires c.loop-i-test.true

pub loop-i-preserved : goal.loop-i-preserved
loop-i-preserved c =
    let a = c.args in
    let l = c.loop-i in
    let room = in_rows a.period a.rows.now l.rows l.i l.invariant.1 a.passages c.requires c.loop-i-test.true in
    (omega arith, one_moved a.period a.rows.now l.rows l.i l.invariant.1 c.later.result room (c.later.ensures ∙ ap (λ (x : ℕ). capped (x + a.period)) c.number-ready.ensures))

pub shape_of-rows : goal.shape_of-rows
shape_of-rows c = c.loop-i.invariant.1.same

pub returns : goal.returns
returns c = all_moved c.args.period c.args.rows.now c.loop-i.rows c.loop-i.i c.loop-i.invariant.1 c.args.passages c.loop-i-test.false
