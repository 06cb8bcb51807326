use native.Mathlib.Omega.{arith}
use lib.ListN.{length-set}
use Rattle.schedule.proofs.Fields.{seven_stored}
use Rattle.schedule.proofs.put_seven.Goals as goal

pub bounds-out-at-2 : goal.bounds-out-at-2
bounds-out-at-2 c = simp length-set (omega arith)

pub bounds-out-at-3 : goal.bounds-out-at-3
bounds-out-at-3 c = simp length-set (omega arith)

pub bounds-out-at-4 : goal.bounds-out-at-4
bounds-out-at-4 c = simp length-set (omega arith)

pub bounds-out-at-5 : goal.bounds-out-at-5
bounds-out-at-5 c = simp length-set (omega arith)

pub bounds-out-at-6 : goal.bounds-out-at-6
bounds-out-at-6 c = simp length-set (omega arith)

pub bounds-out-at-7 : goal.bounds-out-at-7
bounds-out-at-7 c = simp length-set (omega arith)

pub shape_of-out : goal.shape_of-out
shape_of-out c = simp length-set

pub returns : goal.returns
returns c =
    let a = c.args in
    seven_stored a.rows.now a.out.now a.i a.k _ _ _ _ _ _ _
    c.number.ensures
    c.number-2.ensures
    c.number-3.ensures
    c.number-4.ensures
    c.number-5.ensures
    c.number-6.ensures
    c.number-7.ensures
