-- `checks::listeners::listeners_before` meets its contract. Assumes nothing.
use mathlib.Core.Path.{ap, ◌≡◌, refl, sym, subst, ◌∙◌}
use mathlib.Core.List.{List, []}
use Prim.Native.Nat.{ℕ, ◌+◌, ◌-◌, ◌≤◌, ◌<◌}
use native.Mathlib.Omega.{arith}
use Rattle.model.specs.Places.{read_of}
use Rattle.model.specs.Schedule.{Passage}
use Rattle.rows.specs.Rows.{num, row_passage}
use Rattle.rows.proofs.Placed.{row_known}
use Rattle.rows.proofs.Sought.{linked_below}
use Rattle.checks.specs.declared.listeners.Listeners.{Listeners}
use Rattle.checks.specs.Listening.{Noted}
use Rattle.checks.proofs.Questions.{hearing, hear_near}
use Rattle.checks.proofs.Sending.{row_small}
use Rattle.checks.proofs.Swept.{back_start, back_done}
use Rattle.checks.proofs.Listening.{ListenedBack, listened_back_in, listened_back_out, noted_none}
use Rattle.checks.proofs.listeners.listeners_before.Goals as goal
use Rattle.checks.proofs.listeners.listeners_before.Goals.{then-may_hear, else-may_hear}

pub number-requires : goal.number-requires
number-requires c = omega (arith, c.requires.0.fits, c.requires.1)

pub cut_off-from-requires : goal.cut_off-from-requires
cut_off-from-requires c = tt

pub open_before-j-requires : goal.open_before-j-requires
open_before-j-requires c = linked_below c.requires.0 c.args.i (omega (arith, c.requires.1))

pub loop-j-init : goal.loop-j-init
loop-j-init c =
    let e = c in
    let a = e.args in
    let r = c.open_before-j in
    let T = (read_of a.table.now).table in (
      r.ensures.0,
      record {
        found = [];
        back = back_start (hearing a.spread T (row_passage a.rows.now a.i)) a.table.now a.rows.now a.count a.i e.requires.0 e.requires.1 (hear_near a.spread T a.rows.now a.i) r.result r.ensures.0 (λ t x y. omega (arith, r.ensures.1 t x y, c.number.ensures, c.cut_off-from.ensures));
        noted = noted_none a.rows.now _ a.count refl;
      },
    )

pub overflow_sub-k : goal.overflow_sub-k
overflow_sub-k c = omega (arith, c.loop-j-test.true)

pub may_hear-requires : goal.may_hear-requires
may_hear-requires c =
    let e = c in
    let a = e.args in
    (row_known a.table.now a.rows.now a.count (c.loop-j.j - 1) e.requires.0 (omega (arith, c.loop-j.invariant.0, e.requires.1)), row_known a.table.now a.rows.now a.count a.i e.requires.0 e.requires.1, e.requires.2)

pub index-requires : goal.index-requires
index-requires c = omega (arith, c.requires.0.fits, c.loop-j.invariant.0, c.loop-j-test.true, c.requires.1)

pub note-requires : goal.note-requires
note-requires c =
    let small : c.index.result < 8 =
    (let e = c in
    let a = e.args in
    omega (arith, c.index.ensures, row_small a.table.now a.rows.now a.count (c.loop-j.j - 1) c.type_inv.table e.requires.0 (omega (arith, c.loop-j.invariant.0, e.requires.1)))) in
    small

pub open_before-j-requires-in-loop-j : goal.open_before-j-requires-in-loop-j
open_before-j-requires-in-loop-j c = linked_below c.requires.0 (c.loop-j.j - 1) (omega (arith, c.loop-j.invariant.0, c.requires.1))

pub loop-j-smaller : goal.loop-j-smaller
loop-j-smaller c = omega (arith, c.open_before-j-in-loop-j.ensures.0, c.loop-j-test.true)

pub loop-j-preserved : goal.loop-j-preserved
loop-j-preserved c =
    let e = c in
    let a = e.args in
    let l = c.loop-j in
    let r = c.open_before-j-in-loop-j in
    let k = l.j - 1 in
    let z : l.j ≡ k + 1 = omega (arith, c.loop-j-test.true) in
    let T = (read_of a.table.now).table in
    let p = hearing a.spread T (row_passage a.rows.now a.i) in
    let q = subst (λ (m : ℕ). ListenedBack p a.rows.now a.count a.i m l.listeners.listening l.listeners.repeated l.listeners.row) z l.invariant.1 in
    let below : k < a.i = omega (arith, c.loop-j-test.true, l.invariant.0) in
    let ended : (t : ℕ) → r.result ≤ t → t < k → num a.rows.now t 5 + a.spread < num a.rows.now a.i 4 = λ t x y. omega (arith, r.ensures.1 t x y, c.number.ensures, c.cut_off-from.ensures) in
    let few = row_small a.table.now a.rows.now a.count k c.type_inv.table e.requires.0 (omega (arith, below, e.requires.1)) in (
      omega (arith, r.ensures.0, l.invariant.0),
      elim c.if-may_hear.branch [
        | then-may_hear w ↦ listened_back_in p a.table.now a.rows.now a.count a.i e.requires.0 e.requires.1 (hear_near a.spread T a.rows.now a.i) r.result k l.listeners.listening l.listeners.repeated l.listeners.row below r.ensures.0 ended c.may_hear.result c.may_hear.ensures q c.if-may_hear.listeners.listening c.if-may_hear.listeners.repeated c.if-may_hear.listeners.row w.if-may_hear.true w.index.result w.index.ensures (omega (arith, w.index.ensures, few)) (ap (λ (x : Listeners). x.repeated) w.listeners-is ∙ w.note.ensures.repeated) (ap (λ (x : Listeners). x.listening) w.listeners-is ∙ w.note.ensures.listening) (ap (λ (x : Listeners). x.row) w.listeners-is ∙ w.note.ensures.row)
        | else-may_hear w ↦ listened_back_out p a.table.now a.rows.now a.count a.i e.requires.0 e.requires.1 (hear_near a.spread T a.rows.now a.i) r.result k l.listeners.listening l.listeners.repeated l.listeners.row below r.ensures.0 ended c.may_hear.result c.may_hear.ensures q c.if-may_hear.listeners.listening c.if-may_hear.listeners.repeated c.if-may_hear.listeners.row w.if-may_hear.false (ap (λ (x : Listeners). x.listening) w.listeners-is) (ap (λ (x : Listeners). x.repeated) w.listeners-is) (ap (λ (x : Listeners). x.row) w.listeners-is)
      ],
    )

pub returns : goal.returns
returns c =
    let e = c in
    let a = e.args in
    let l = c.loop-j in
    let T = (read_of a.table.now).table in
    let p = hearing a.spread T (row_passage a.rows.now a.i) in
    subst
    (λ (vs : List Passage). Noted a.rows.now a.count vs l.listeners.listening l.listeners.repeated l.listeners.row)
    (sym (back_done p a.table.now a.rows.now a.count a.i e.requires.0 e.requires.1 (hear_near a.spread T a.rows.now a.i) l.j l.invariant.1.found (omega (arith, c.loop-j-test.false)) l.invariant.1.back))
    l.invariant.1.noted
