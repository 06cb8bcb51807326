-- `checks::listeners::listeners_from` meets its contract. Assumes nothing.
use mathlib.Core.Path.{ap, refl, subst, ◌∙◌}
use mathlib.Core.List.{List}
use Prim.Native.Nat.{◌<◌}
use native.Mathlib.Omega.{arith}
use Rattle.model.specs.Lists.{only}
use Rattle.model.specs.Places.{read_of}
use Rattle.model.specs.Schedule.{Passage}
use Rattle.rows.specs.Rows.{row_passage, rows_of}
use Rattle.rows.proofs.Placed.{row_known}
use Rattle.checks.specs.declared.listeners.Listeners.{Listeners}
use Rattle.checks.specs.Listening.{Noted}
use Rattle.checks.proofs.Questions.{hearing, hear_near}
use Rattle.checks.proofs.Sending.{row_small}
use Rattle.checks.proofs.Swept.{swept_at, swept_stop, swept_done}
use Rattle.checks.proofs.Listening.{listened_in, listened_out}
use Rattle.checks.proofs.listeners.listeners_from.Goals as goal
use Rattle.checks.proofs.listeners.listeners_from.Goals.{then-may_hear, else-may_hear}

pub put_off-until-requires : goal.put_off-until-requires
put_off-until-requires c = omega (arith, c.requires.0.fits, c.requires.1)

pub loop-j-init : goal.loop-j-init
loop-j-init c =
    let e = c in
    let a = e.args in
    let T = (read_of a.table.now).table in
    let p = hearing a.spread T (row_passage a.rows.now a.i) in
    record {
      found = only p (rows_of a.rows.now a.i);
      swept = swept_at p a.table.now a.rows.now a.count a.i e.requires.0 e.requires.1 (hear_near a.spread T a.rows.now a.i) (only p (rows_of a.rows.now a.i)) refl;
      noted = e.requires.3;
    }

pub tick-requires : goal.tick-requires
tick-requires c = omega (arith, c.requires.0.fits, c.loop-j-test.true)

pub may_hear-requires : goal.may_hear-requires
may_hear-requires c =
    let e = c in
    let a = e.args in
    (row_known a.table.now a.rows.now a.count c.loop-j.j e.requires.0 c.loop-j-test.true, row_known a.table.now a.rows.now a.count a.i e.requires.0 e.requires.1, e.requires.2)

pub index-requires : goal.index-requires
index-requires c = omega (arith, c.requires.0.fits, c.loop-j-test.true)

pub note-requires : goal.note-requires
note-requires c =
    let small : c.index.result < 8 =
    (let e = c in
    let a = e.args in
    omega (arith, c.index.ensures, row_small a.table.now a.rows.now a.count c.loop-j.j c.type_inv.table e.requires.0 c.loop-j-test.true)) in
    small

pub loop-j-preserved : goal.loop-j-preserved
loop-j-preserved c =
    let e = c in
    let a = e.args in
    let l = c.loop-j in
    let there = c.loop-j-test.true in
    let p = hearing a.spread (read_of a.table.now).table (row_passage a.rows.now a.i) in
    let few = row_small a.table.now a.rows.now a.count l.j c.type_inv.table e.requires.0 there in
    elim c.if-may_hear.branch [
      | then-may_hear w ↦ listened_in p a.rows.now a.count l.j l.listeners.listening l.listeners.repeated l.listeners.row c.may_hear.result there c.may_hear.ensures l.invariant c.if-may_hear.listeners.listening c.if-may_hear.listeners.repeated c.if-may_hear.listeners.row w.if-may_hear.true w.index.result w.index.ensures (omega (arith, w.index.ensures, few)) (ap (λ (x : Listeners). x.repeated) w.listeners-is ∙ w.note.ensures.repeated) (ap (λ (x : Listeners). x.listening) w.listeners-is ∙ w.note.ensures.listening) (ap (λ (x : Listeners). x.row) w.listeners-is ∙ w.note.ensures.row)
      | else-may_hear w ↦ listened_out p a.rows.now a.count l.j l.listeners.listening l.listeners.repeated l.listeners.row c.may_hear.result there c.may_hear.ensures l.invariant c.if-may_hear.listeners.listening c.if-may_hear.listeners.repeated c.if-may_hear.listeners.row w.if-may_hear.false (ap (λ (x : Listeners). x.listening) w.listeners-is) (ap (λ (x : Listeners). x.repeated) w.listeners-is) (ap (λ (x : Listeners). x.row) w.listeners-is)
    ]

pub returns-after-loop-j : goal.returns-after-loop-j
returns-after-loop-j c =
    let a = c.args in
    let l = c.loop-j in
    let p = hearing a.spread (read_of a.table.now).table (row_passage a.rows.now a.i) in
    subst
    (λ (vs : List Passage). Noted a.rows.now a.count vs l.listeners.listening l.listeners.repeated l.listeners.row)
    (swept_done p a.rows.now a.count l.j l.invariant.found c.loop-j-test.false l.invariant.swept)
    l.invariant.noted

pub returns-then-until-tick : goal.returns-then-until-tick
returns-then-until-tick c =
    let e = c in
    let a = e.args in
    let l = c.loop-j in
    let T = (read_of a.table.now).table in
    let p = hearing a.spread T (row_passage a.rows.now a.i) in
    subst
    (λ (vs : List Passage). Noted a.rows.now a.count vs l.listeners.listening l.listeners.repeated l.listeners.row)
    (swept_stop p a.table.now a.rows.now a.count a.i e.requires.0 e.requires.1 (hear_near a.spread T a.rows.now a.i) l.j l.invariant.found c.loop-j-test.true (omega (arith, c.put_off-until.ensures, c.tick.ensures, c.if-until-tick.true)) l.invariant.swept)
    l.invariant.noted
