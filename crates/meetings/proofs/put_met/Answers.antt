-- `meetings::put_met` meets its contract. Assumes nothing.
use mathlib.Core.Path.{◌∙◌}
use Prim.Native.Nat.{◌+◌}
use native.Mathlib.Omega.{arith}
use Rattle.model.specs.Places.{read_of}
use Rattle.rows.specs.Rows.{row_passage}
use Rattle.rows.proofs.Placed.{row_known}
use Rattle.meetings.specs.Asked.{met_by}
use Rattle.meetings.proofs.Collected.{put_start, put_as, put_room, put_in, put_out, put_done}
use Rattle.meetings.proofs.put_met.Goals as goal
use Rattle.meetings.proofs.put_met.Goals.{then-is_met, else-is_met}

pub put_seven-requires : goal.put_seven-requires
put_seven-requires c =
    let e = c in
    (omega (arith, e.requires.0.fits, e.requires.1), omega (arith, e.requires.2), omega arith)

pub loop-j-init : goal.loop-j-init
loop-j-init c =
    let a = c.args in
    put_start (met_by a.spread a.question (read_of a.table.now).table a.horizon (row_passage a.rows.now a.i)) a.rows.now a.count (row_passage a.rows.now a.i) _

pub is_met-requires : goal.is_met-requires
is_met-requires c =
    let e = c in
    let a = e.args in
    (row_known a.table.now a.rows.now a.count a.i e.requires.0 e.requires.1, row_known a.table.now a.rows.now a.count c.loop-j.j e.requires.0 c.loop-j-test.true)

pub put_seven-requires-then-is_met : goal.put_seven-requires-then-is_met
put_seven-requires-then-is_met c =
    let e = c in
    let a = e.args in
    let l = c.loop-j in
    let p = met_by a.spread a.question (read_of a.table.now).table a.horizon (row_passage a.rows.now a.i) in
    (omega (arith, e.requires.0.fits, c.loop-j-test.true), put_room p a.rows.now a.count (row_passage a.rows.now a.i) _ l.j l.k l.list c.is_met.result c.loop-j-test.true c.is_met.ensures l.invariant c.if-is_met.true (omega (arith, e.requires.2, c.put_seven.auto.out)), omega (arith, l.invariant.few, e.requires.0.few, c.loop-j-test.true))

pub overflow_add-k : goal.overflow_add-k
overflow_add-k c = omega (arith, c.requires.0.few, c.loop-j.invariant.few, c.loop-j-test.true)

pub loop-j-preserved : goal.loop-j-preserved
loop-j-preserved c =
    let e = c in
    let a = e.args in
    let l = c.loop-j in
    let p = met_by a.spread a.question (read_of a.table.now).table a.horizon (row_passage a.rows.now a.i) in
    elim c.if-is_met.branch [
      | then-is_met w ↦ put_as p a.rows.now a.count (row_passage a.rows.now a.i) _ (l.j + 1) _ _ w.k-is w.list-is (put_in p a.rows.now a.count (row_passage a.rows.now a.i) _ l.j l.k l.list c.is_met.result c.loop-j-test.true c.is_met.ensures l.invariant w.if-is_met.true _ w.put_seven-then-is_met.auto.out w.put_seven-then-is_met.ensures)
      | else-is_met w ↦ put_as p a.rows.now a.count (row_passage a.rows.now a.i) _ (l.j + 1) _ _ w.k-is w.list-is (put_out p a.rows.now a.count (row_passage a.rows.now a.i) _ l.j l.k l.list c.is_met.result c.loop-j-test.true c.is_met.ensures l.invariant w.if-is_met.false)
    ]

pub shape_of-list : goal.shape_of-list
shape_of-list c = c.loop-j.invariant.same ∙ c.put_seven.auto.out

pub returns : goal.returns
returns c =
    let e = c in
    let a = e.args in
    let l = c.loop-j in
    put_done (met_by a.spread a.question (read_of a.table.now).table a.horizon (row_passage a.rows.now a.i)) a.rows.now a.count (row_passage a.rows.now a.i) _ a.list.now l.j l.k l.list c.put_seven.ensures (omega arith) e.requires.2 l.invariant
