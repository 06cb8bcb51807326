-- `rows::put_messages` meets its contract. Assumes nothing.
use native.Mathlib.Omega.{arith}
use Rattle.rows.proofs.Relabelled.{put_none, still_placed, still_told, put_within, put_turn, put_all}
use Rattle.rows.proofs.put_messages.Goals as goal

pub loop-i-init : goal.loop-i-init
loop-i-init c =
    let a = c.args in
    (omega arith, put_none a.table.now a.horizon a.count a.rows.now)

pub message_then-requires : goal.message_then-requires
message_then-requires c =
    let e = c in
    let a = e.args in
    let l = c.loop-i in
    let h = c.loop-i-test.true in (
      still_placed a.table.now a.horizon a.count a.rows.now l.rows l.i e.requires.0 l.invariant.1,
      h,
      still_told a.table.now a.horizon a.count a.rows.now l.rows l.i e.requires.0 l.invariant.1 h (e.requires.1 l.i h),
    )

pub overflow_mul-rows : goal.overflow_mul-rows
overflow_mul-rows c = omega (arith, c.requires.0.few)

pub overflow_add-rows : goal.overflow_add-rows
overflow_add-rows c = omega (arith, c.requires.0.few)

pub offset_bounds-rows-i : goal.offset_bounds-rows-i
offset_bounds-rows-i c = omega (arith, c.requires.0.few)

pub bounds-rows-i : goal.bounds-rows-i
bounds-rows-i c =
    let e = c in
    let a = e.args in
    let l = c.loop-i in
    put_within a.table.now a.horizon a.count a.rows.now l.rows l.i e.requires.0 l.invariant.1 c.loop-i-test.true

pub loop-i-preserved : goal.loop-i-preserved
loop-i-preserved c =
    let e = c in
    let a = e.args in
    let l = c.loop-i in
    (omega arith, put_turn a.table.now a.horizon a.count a.rows.now l.rows l.i e.requires.0 l.invariant.1 c.message_then.result c.loop-i-test.true c.message_then.ensures)

pub shape_of-rows : goal.shape_of-rows
shape_of-rows c = c.loop-i.invariant.1.same

pub returns : goal.returns
returns c =
    let e = c in
    let a = e.args in
    let l = c.loop-i in
    put_all a.table.now a.horizon a.count a.rows.now l.rows l.i e.requires.0 l.invariant.1 c.loop-i-test.false
