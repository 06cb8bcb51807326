-- `checks::crowded::is_crowded` meets its contract. Assumes nothing.
use mathlib.Core.Path.{refl, subst, sym}
use mathlib.Core.List.{[]}
use Prim.Native.Nat.{ℕ, ◌+◌}
use native.Mathlib.Omega.{arith}
use Rattle.model.specs.Lists.{only}
use Rattle.model.specs.Places.{read_of}
use Rattle.rows.specs.Rows.{row_passage, rows_of}
use Rattle.rows.proofs.Placed.{row_known}
use Rattle.checks.proofs.Swept.{rest, Counted, counted_in, counted_out, swept_at, swept_stop, swept_done}
use Rattle.checks.proofs.Questions.{heard_send, heard_near, not_crowded, is-receive, crowded_few, crowded_two}
use Rattle.checks.proofs.crowded.is_crowded.Goals as goal
use Rattle.checks.proofs.crowded.is_crowded.Goals.{then-hears_send+else-sends-ge2-2, else-hears_send}

pub row_receives-requires : goal.row_receives-requires
row_receives-requires c =
    let e = c in
    let a = e.args in
    row_known a.table.now a.rows.now a.count a.i e.requires.0 e.requires.1

pub returns-then-not-row_receives : goal.returns-then-not-row_receives
returns-then-not-row_receives c =
    let a = c.args in
    not_crowded a.spread (read_of a.table.now).table a.horizon (rows_of a.rows.now a.count) (row_passage a.rows.now a.i) c.row_receives.result c.row_receives.ensures c.if-not-row_receives.true-raw

pub put_off-until-requires : goal.put_off-until-requires
put_off-until-requires c = omega (arith, c.requires.0.fits, c.requires.1)

pub sends_before-sends-requires : goal.sends_before-sends-requires
sends_before-sends-requires c =
    let e = c in
    let a = e.args in
    (e.requires.0, e.requires.1, is-receive a.spread (read_of a.table.now).table 0 [] (row_passage a.rows.now a.i) c.row_receives.result c.row_receives.ensures c.if-not-row_receives.false-raw)

pub returns-then-sends-ge2 : goal.returns-then-sends-ge2
returns-then-sends-ge2 c =
    let e = c in
    let a = e.args in
    let T = (read_of a.table.now).table in
    let v = row_passage a.rows.now a.i in
    let p = heard_send a.spread T a.horizon v in
    crowded_two a.spread T a.horizon (rows_of a.rows.now a.count) v c.row_receives.result c.row_receives.ensures c.if-not-row_receives.false-raw (only p (rows_of a.rows.now a.i)) (only p (rest a.rows.now a.count a.i)) (omega (arith, c.sends_before-sends.ensures, c.if-sends-ge2.true)) (swept_at p a.table.now a.rows.now a.count a.i e.requires.0 e.requires.1 (heard_near a.spread T a.horizon a.rows.now a.i) _ refl)

pub loop-j-init : goal.loop-j-init
loop-j-init c =
    let e = c in
    let a = e.args in
    let T = (read_of a.table.now).table in
    let p = heard_send a.spread T a.horizon (row_passage a.rows.now a.i) in (
      omega (arith, c.if-sends-ge2.false),
      record {
        found = only p (rows_of a.rows.now a.i);
        swept = swept_at p a.table.now a.rows.now a.count a.i e.requires.0 e.requires.1 (heard_near a.spread T a.horizon a.rows.now a.i) _ refl;
        count = c.sends_before-sends.ensures;
      },
    )

pub tick-requires : goal.tick-requires
tick-requires c = omega (arith, c.requires.0.fits, c.requires.1)

pub returns-then-until-tick : goal.returns-then-until-tick
returns-then-until-tick c =
    let e = c in
    let a = e.args in
    let l = c.loop-j in
    let T = (read_of a.table.now).table in
    let v = row_passage a.rows.now a.i in
    crowded_few a.spread T a.horizon (rows_of a.rows.now a.count) v c.row_receives.result c.row_receives.ensures c.if-not-row_receives.false-raw l.invariant.1.found (omega (arith, l.invariant.1.count))
    (swept_stop (heard_send a.spread T a.horizon v) a.table.now a.rows.now a.count a.i e.requires.0 e.requires.1 (heard_near a.spread T a.horizon a.rows.now a.i) l.j l.invariant.1.found c.loop-j-test.true (omega (arith, c.put_off-until.ensures, c.tick.ensures)) l.invariant.1.swept)

pub hears_send-requires : goal.hears_send-requires
hears_send-requires c =
    let e = c in
    let a = e.args in
    (row_known a.table.now a.rows.now a.count a.i e.requires.0 e.requires.1, row_known a.table.now a.rows.now a.count c.loop-j.j e.requires.0 c.loop-j-test.true, is-receive a.spread (read_of a.table.now).table 0 [] (row_passage a.rows.now a.i) c.row_receives.result c.row_receives.ensures c.if-not-row_receives.false-raw)

pub overflow_add-sends : goal.overflow_add-sends
overflow_add-sends c = omega (arith, c.loop-j.invariant.0)

pub returns-then-sends-ge2-2 : goal.returns-then-sends-ge2-2
returns-then-sends-ge2-2 c =
    let a = c.args in
    let l = c.loop-j in
    let T = (read_of a.table.now).table in
    let v = row_passage a.rows.now a.i in
    let more = counted_in (heard_send a.spread T a.horizon v) a.rows.now a.count l.j l.sends c.hears_send.result c.loop-j-test.true c.hears_send.ensures l.invariant.1 c.if-hears_send.true in
    crowded_two a.spread T a.horizon (rows_of a.rows.now a.count) v c.row_receives.result c.row_receives.ensures c.if-not-row_receives.false-raw more.found (only (heard_send a.spread T a.horizon v) (rest a.rows.now a.count (l.j + 1))) (omega (arith, more.count, c.if-sends-ge2-2.true)) more.swept

pub loop-j-preserved : goal.loop-j-preserved
loop-j-preserved c =
    let a = c.args in
    let l = c.loop-j in
    let p = heard_send a.spread (read_of a.table.now).table a.horizon (row_passage a.rows.now a.i) in
    elim c.if-hears_send.branch [
      | then-hears_send+else-sends-ge2-2 w ↦ (omega (arith, w.if-sends-ge2-2.false, w.sends-is), subst (λ (k : ℕ). Counted p a.rows.now a.count (l.j + 1) k) (sym w.sends-is) (counted_in p a.rows.now a.count l.j l.sends c.hears_send.result c.loop-j-test.true c.hears_send.ensures l.invariant.1 w.if-hears_send.true))
      | else-hears_send w ↦ (omega (arith, l.invariant.0, w.sends-is), subst (λ (k : ℕ). Counted p a.rows.now a.count (l.j + 1) k) (sym w.sends-is) (counted_out p a.rows.now a.count l.j l.sends c.hears_send.result c.loop-j-test.true c.hears_send.ensures l.invariant.1 w.if-hears_send.false))
    ]

pub returns : goal.returns
returns c =
    let a = c.args in
    let l = c.loop-j in
    let T = (read_of a.table.now).table in
    let v = row_passage a.rows.now a.i in
    crowded_few a.spread T a.horizon (rows_of a.rows.now a.count) v c.row_receives.result c.row_receives.ensures c.if-not-row_receives.false-raw l.invariant.1.found (omega (arith, l.invariant.1.count)) (swept_done (heard_send a.spread T a.horizon v) a.rows.now a.count l.j l.invariant.1.found (omega arith) l.invariant.1.swept)
