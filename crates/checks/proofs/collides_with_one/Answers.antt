-- `checks::collides_with_one` meets its contract. Assumes nothing.
use mathlib.Core.Path.{sym, ◌∙◌}
use mathlib.Core.List.{[]}
use Prim.Native.Nat.{◌+◌}
use native.Mathlib.Omega.{arith}
use borrow.Author.Tests.{not-false}
use Rattle.model.specs.Lists.{only}
use Rattle.model.specs.Places.{read_of}
use Rattle.model.specs.Checks.{meets}
use Rattle.rows.specs.Rows.{row_passage, rows_of}
use Rattle.rows.proofs.Placed.{row_known}
use Rattle.checks.proofs.Questions.{meets_near, not_asked, collides_none, collides_one}
use Rattle.checks.proofs.Earlier.{none_earlier}
use Rattle.checks.proofs.Swept.{rest, swept_at, swept_in, swept_out, swept_stop, swept_done}
use Rattle.checks.proofs.collides_with_one.Goals as goal

pub is_send-requires : goal.is_send-requires
is_send-requires c =
    let e = c in
    let a = e.args in
    row_known a.table.now a.rows.now a.count a.i e.requires.0 e.requires.1

pub returns-then-not-is_send : goal.returns-then-not-is_send
returns-then-not-is_send c =
    let a = c.args in
    not_asked a.spread (read_of a.table.now).table a.horizon (row_passage a.rows.now a.i) c.is_send.result _ c.is_send.ensures c.if-not-is_send.true-raw

pub put_off-until-requires : goal.put_off-until-requires
put_off-until-requires c = omega (arith, c.requires.0.fits, c.requires.1)

pub loop-j-init : goal.loop-j-init
loop-j-init c =
    let e = c in
    let a = e.args in
    let T = (read_of a.table.now).table in
    let p = meets a.spread T a.horizon (row_passage a.rows.now a.i) in
    let none = none_earlier a.spread T a.horizon a.rows.now a.count a.i e.requires.1 (sym c.is_send.ensures ∙ not-false c.is_send.result c.if-not-is_send.false-raw) e.requires.2 in
    swept_at p a.table.now a.rows.now a.count a.i e.requires.0 e.requires.1 (meets_near a.spread T a.horizon a.rows.now a.i) [] none

pub tick-requires : goal.tick-requires
tick-requires c = omega (arith, c.requires.0.fits, c.requires.1)

pub returns-then-until-tick : goal.returns-then-until-tick
returns-then-until-tick c =
    let e = c in
    let a = e.args in
    let l = c.loop-j in
    let T = (read_of a.table.now).table in
    let v = row_passage a.rows.now a.i in
    collides_none a.spread T a.horizon (rows_of a.rows.now a.count) v c.is_send.result c.is_send.ensures c.if-not-is_send.false-raw
    (swept_stop (meets a.spread T a.horizon v) a.table.now a.rows.now a.count a.i e.requires.0 e.requires.1 (meets_near a.spread T a.horizon a.rows.now a.i) l.j [] c.loop-j-test.true (omega (arith, c.put_off-until.ensures, c.tick.ensures)) l.invariant)

pub is_met-requires : goal.is_met-requires
is_met-requires c =
    let e = c in
    let a = e.args in
    (row_known a.table.now a.rows.now a.count a.i e.requires.0 e.requires.1, row_known a.table.now a.rows.now a.count c.loop-j.j e.requires.0 c.loop-j-test.true)

pub returns-then-is_met : goal.returns-then-is_met
returns-then-is_met c =
    let a = c.args in
    let l = c.loop-j in
    let T = (read_of a.table.now).table in
    let v = row_passage a.rows.now a.i in
    collides_one a.spread T a.horizon (rows_of a.rows.now a.count) v c.is_send.result c.is_send.ensures c.if-not-is_send.false-raw (row_passage a.rows.now l.j) (only (meets a.spread T a.horizon v) (rest a.rows.now a.count (l.j + 1)))
    (swept_in (meets a.spread T a.horizon v) a.rows.now a.count l.j [] c.is_met.result c.loop-j-test.true c.is_met.ensures c.if-is_met.true l.invariant)

pub loop-j-preserved : goal.loop-j-preserved
loop-j-preserved c =
    let a = c.args in
    let l = c.loop-j in
    swept_out (meets a.spread (read_of a.table.now).table a.horizon (row_passage a.rows.now a.i)) a.rows.now a.count l.j [] c.is_met.result c.loop-j-test.true c.is_met.ensures c.if-is_met.false l.invariant

pub returns : goal.returns
returns c =
    let a = c.args in
    let l = c.loop-j in
    let T = (read_of a.table.now).table in
    let v = row_passage a.rows.now a.i in
    collides_none a.spread T a.horizon (rows_of a.rows.now a.count) v c.is_send.result c.is_send.ensures c.if-not-is_send.false-raw (swept_done (meets a.spread T a.horizon v) a.rows.now a.count l.j [] (omega arith) l.invariant)
