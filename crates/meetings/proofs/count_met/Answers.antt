-- `meetings::count_met` meets its contract. Assumes nothing.
use mathlib.Core.Path.{sym, subst}
use Prim.Native.Nat.{ℕ, ◌+◌}
use native.Mathlib.Omega.{arith}
use Rattle.model.specs.Places.{read_of}
use Rattle.rows.specs.Rows.{row_passage}
use Rattle.rows.proofs.Placed.{row_known}
use Rattle.checks.proofs.Swept.{Counted, counted_in, counted_out}
use Rattle.meetings.specs.Asked.{met_by}
use Rattle.meetings.proofs.Collected.{counted_start, counted_done}
use Rattle.meetings.proofs.count_met.Goals as goal
use Rattle.meetings.proofs.count_met.Goals.{then-is_met, else-is_met}

pub loop-j-init : goal.loop-j-init
loop-j-init c =
    let a = c.args in
    (omega arith, counted_start (met_by a.spread a.question (read_of a.table.now).table a.horizon (row_passage a.rows.now a.i)) a.rows.now a.count)

pub is_met-requires : goal.is_met-requires
is_met-requires c =
    let e = c in
    let a = e.args in
    (row_known a.table.now a.rows.now a.count a.i e.requires.0 e.requires.1, row_known a.table.now a.rows.now a.count c.loop-j.j e.requires.0 c.loop-j-test.true)

pub overflow_add-met : goal.overflow_add-met
overflow_add-met c = omega (arith, c.requires.0.few, c.requires.1, c.loop-j.invariant.0)

pub loop-j-preserved : goal.loop-j-preserved
loop-j-preserved c =
    let e = c in
    let a = e.args in
    let l = c.loop-j in
    let p = met_by a.spread a.question (read_of a.table.now).table a.horizon (row_passage a.rows.now a.i) in
    elim c.if-is_met.branch [
      | then-is_met w ↦ (omega (arith, l.invariant.0, w.met-is), subst (λ (k : ℕ). Counted p a.rows.now a.count (l.j + 1) k) (sym w.met-is) (counted_in p a.rows.now a.count l.j l.met c.is_met.result c.loop-j-test.true c.is_met.ensures l.invariant.1 w.if-is_met.true))
      | else-is_met w ↦ (omega (arith, l.invariant.0, w.met-is), subst (λ (k : ℕ). Counted p a.rows.now a.count (l.j + 1) k) (sym w.met-is) (counted_out p a.rows.now a.count l.j l.met c.is_met.result c.loop-j-test.true c.is_met.ensures l.invariant.1 w.if-is_met.false))
    ]

pub returns : goal.returns
returns c =
    let a = c.args in
    let l = c.loop-j in
    (counted_done (met_by a.spread a.question (read_of a.table.now).table a.horizon (row_passage a.rows.now a.i)) a.rows.now a.count l.j l.met (omega arith) l.invariant.1, omega (arith, l.invariant.0))
