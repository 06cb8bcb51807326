-- `checks::crowded::sends_before` meets its contract. Assumes nothing.
use mathlib.Core.Path.{◌≡◌, refl, sym, ap, subst, ◌∙◌}
use Prim.Native.Nat.{ℕ, ◌+◌, ◌-◌, ◌≤◌, ◌<◌}
use native.Mathlib.Omega.{arith}
use lib.ListN.{length}
use Rattle.model.specs.Lists.{only}
use Rattle.model.specs.Places.{read_of}
use Rattle.rows.specs.Rows.{num, row_passage, rows_from}
use Rattle.rows.proofs.Placed.{row_known}
use Rattle.rows.proofs.Sought.{linked_below}
use Rattle.checks.proofs.Questions.{heard_send, heard_near}
use Rattle.checks.proofs.Swept.{back_start, back_in, back_out, back_done}
use Rattle.checks.proofs.crowded.sends_before.Goals as goal
use Rattle.checks.proofs.crowded.sends_before.Goals.{then-hears_send, else-hears_send}

pub number-requires : goal.number-requires
number-requires c = omega (arith, c.requires.0.fits, c.requires.1)

pub cut_off-from-requires : goal.cut_off-from-requires
cut_off-from-requires c = tt

pub open_before-j-requires : goal.open_before-j-requires
open_before-j-requires c = linked_below c.requires.0 c.args.i (omega (arith, c.requires.1))

pub loop-j-init : goal.loop-j-init
loop-j-init c =
    let e = c in
    let a = e.args in
    let r = c.open_before-j in
    let T = (read_of a.table.now).table in
    let none = back_start (heard_send a.spread T a.horizon (row_passage a.rows.now a.i)) a.table.now a.rows.now a.count a.i e.requires.0 e.requires.1 (heard_near a.spread T a.horizon a.rows.now a.i) r.result r.ensures.0 (λ t x y. omega (arith, r.ensures.1 t x y, c.number.ensures, c.cut_off-from.ensures)) in
    (r.ensures.0, omega (arith, r.ensures.0), sym (ap length none))

pub overflow_sub-k : goal.overflow_sub-k
overflow_sub-k c = omega (arith, c.loop-j-test.true)

pub hears_send-requires : goal.hears_send-requires
hears_send-requires c =
    let e = c in
    let a = e.args in
    (row_known a.table.now a.rows.now a.count a.i e.requires.0 e.requires.1, row_known a.table.now a.rows.now a.count (c.loop-j.j - 1) e.requires.0 (omega (arith, c.loop-j.invariant.0, e.requires.1)), e.requires.2)

pub overflow_add-sends : goal.overflow_add-sends
overflow_add-sends c = omega (arith, c.loop-j.invariant.1, c.requires.0.few, c.requires.1)

pub open_before-j-requires-in-loop-j : goal.open_before-j-requires-in-loop-j
open_before-j-requires-in-loop-j c = linked_below c.requires.0 (c.loop-j.j - 1) (omega (arith, c.loop-j.invariant.0, c.requires.1))

pub loop-j-smaller : goal.loop-j-smaller
loop-j-smaller c = omega (arith, c.open_before-j-in-loop-j.ensures.0, c.loop-j-test.true)

pub loop-j-preserved : goal.loop-j-preserved
loop-j-preserved c =
    let e = c in
    let a = e.args in
    let l = c.loop-j in
    let r = c.open_before-j-in-loop-j in
    let k = l.j - 1 in
    let z : l.j ≡ k + 1 = omega (arith, c.loop-j-test.true) in
    let T = (read_of a.table.now).table in
    let p = heard_send a.spread T a.horizon (row_passage a.rows.now a.i) in
    let f = only p (rows_from a.rows.now (k + 1) (a.i - (k + 1))) in
    let q = subst (λ (m : ℕ). l.sends ≡ length (only p (rows_from a.rows.now m (a.i - m)))) z l.invariant.2 in
    let below : k < a.i = omega (arith, c.loop-j-test.true, l.invariant.0) in
    let ended : (t : ℕ) → r.result ≤ t → t < k → num a.rows.now t 5 + a.spread < num a.rows.now a.i 4 = λ t x y. omega (arith, r.ensures.1 t x y, c.number.ensures, c.cut_off-from.ensures) in
    elim c.if-hears_send.branch [
      | then-hears_send w ↦ (omega (arith, r.ensures.0, l.invariant.0), omega (arith, r.ensures.0, l.invariant.1, w.sends-is, c.loop-j-test.true), omega (arith, w.sends-is, q, ap length (back_in p a.table.now a.rows.now a.count a.i e.requires.0 e.requires.1 (heard_near a.spread T a.horizon a.rows.now a.i) r.result k f below r.ensures.0 ended refl c.hears_send.result c.hears_send.ensures w.if-hears_send.true)))
      | else-hears_send w ↦ (omega (arith, r.ensures.0, l.invariant.0), omega (arith, r.ensures.0, l.invariant.1, w.sends-is, c.loop-j-test.true), omega (arith, w.sends-is, q, ap length (back_out p a.table.now a.rows.now a.count a.i e.requires.0 e.requires.1 (heard_near a.spread T a.horizon a.rows.now a.i) r.result k f below r.ensures.0 ended refl c.hears_send.result c.hears_send.ensures w.if-hears_send.false)))
    ]

pub returns : goal.returns
returns c =
    let e = c in
    let a = e.args in
    let l = c.loop-j in
    let T = (read_of a.table.now).table in
    let p = heard_send a.spread T a.horizon (row_passage a.rows.now a.i) in
    l.invariant.2 ∙ sym (ap length (back_done p a.table.now a.rows.now a.count a.i e.requires.0 e.requires.1 (heard_near a.spread T a.horizon a.rows.now a.i) l.j _ (omega (arith, c.loop-j-test.false)) refl))
