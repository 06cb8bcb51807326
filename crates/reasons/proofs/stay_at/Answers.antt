-- `reasons::stay_at` meets its contract. Assumes nothing.
use mathlib.Core.Path.{◌≡◌, sym, subst, ◌∙◌}
use Prim.Native.Nat.{suc, ◌+◌}
use native.Mathlib.Omega.{arith}
use Rattle.schedule.proofs.Tables.{start_fits}
use Rattle.reasons.proofs.Staying.{On, known, on_start, on_other, on_next, on_end, entered_then, location_small, found}
use Rattle.reasons.proofs.stay_at.Goals as goal
use Rattle.reasons.proofs.stay_at.Goals.{then-number-wide32+else-tick-number, else-number-wide32}

pub start_entry-at-requires : goal.start_entry-at-requires
start_entry-at-requires c =
    let e = c in
    omega (arith, start_fits e.args.table.now c.type_inv.table e.requires.0.rows.placed.valid e.args.c e.args.start e.requires.0.present e.requires.1)

pub loop-i-init : goal.loop-i-init
loop-i-init c =
    let e = c in
    (on_start e.args.table.now e.args.rows.now e.args.count e.args.c e.args.tick e.args.start c.type_inv.table e.requires.0 e.requires.1 c.start_entry-at.result c.start_entry-at.ensures.0 c.start_entry-at.ensures.1 c.start_entry-at.ensures.2 c.start_entry-at.ensures.3)

pub number-requires : goal.number-requires
number-requires c =
    let a = c.args in
    let l = c.loop-i in
    omega (arith, (known a.table.now a.rows.now a.count a.c a.tick l.i l.at l.invariant c.loop-i-test.true).fits)

pub number-requires-then-number-wide32 : goal.number-requires-then-number-wide32
number-requires-then-number-wide32 c =
    let a = c.args in
    let l = c.loop-i in
    omega (arith, (known a.table.now a.rows.now a.count a.c a.tick l.i l.at l.invariant c.loop-i-test.true).fits)

pub stay_in-requires : goal.stay_in-requires
stay_in-requires c =
    let a = c.args in
    let l = c.loop-i in
    let t = c.loop-i-test.true in
    let mine = sym c.number.ensures ∙ c.if-number-wide32.true ∙ c.wide32.ensures.0 in
    (omega (arith, (known a.table.now a.rows.now a.count a.c a.tick l.i l.at l.invariant t).fits), location_small a.table.now a.rows.now a.count a.c a.tick l.i l.at l.invariant t mine c.type_inv.table)

pub returns-then-tick-number : goal.returns-then-tick-number
returns-then-tick-number c =
    let a = c.args in
    let l = c.loop-i in
    let mine = sym c.number.ensures ∙ c.if-number-wide32.true ∙ c.wide32.ensures.0 in
    found a.table.now a.rows.now a.count a.c a.tick l.i l.at l.invariant c.loop-i-test.true mine
    (omega (arith, c.if-tick-number.true, c.number-then-number-wide32.ensures)) c.stay_in.result c.stay_in.ensures.0 c.stay_in.ensures.1

pub grown-at-requires : goal.grown-at-requires
grown-at-requires c =
    let a = c.args in
    let l = c.loop-i in
    let t = c.loop-i-test.true in
    let mine = sym c.number.ensures ∙ c.if-number-wide32.true ∙ c.wide32.ensures.0 in
    let k = known a.table.now a.rows.now a.count a.c a.tick l.i l.at l.invariant t in
    let then = entered_then a.table.now a.rows.now a.count a.c a.tick l.i l.at l.invariant t mine in
    (k, omega (arith, k.row.early, k.row.window, then), l.invariant.young, c.requires.2)

pub loop-i-preserved : goal.loop-i-preserved
loop-i-preserved c =
    let e = c in
    let a = e.args in
    let l = c.loop-i in
    let t = c.loop-i-test.true in
    let same : suc l.i ≡ l.i + 1 = omega arith in
    let go : On a.table.now a.rows.now a.count a.c a.tick (suc l.i) c.if-number-wide32.at =
    elim c.if-number-wide32.branch [
      | then-number-wide32+else-tick-number w ↦ subst (On a.table.now a.rows.now a.count a.c a.tick (suc l.i)) (sym w.at-is)
          (on_next a.table.now a.rows.now a.count a.c a.tick l.i l.at l.invariant t (sym c.number.ensures ∙ w.if-number-wide32.true ∙ c.wide32.ensures.0) c.type_inv.table
          (omega (arith, w.number-then-number-wide32.ensures, w.if-tick-number.false)) w.grown-at.result w.grown-at.ensures)
      | else-number-wide32 w ↦ subst (On a.table.now a.rows.now a.count a.c a.tick (suc l.i)) (sym w.at-is)
          (on_other a.table.now a.rows.now a.count a.c a.tick l.i l.at l.invariant t (λ q. w.if-number-wide32.false (c.number.ensures ∙ q ∙ sym c.wide32.ensures.0)))
    ] in
    (subst (λ k. On a.table.now a.rows.now a.count a.c a.tick k c.if-number-wide32.at) same go)

pub returns : goal.returns
returns c =
    let a = c.args in
    let l = c.loop-i in
    absurd (on_end a.table.now a.rows.now a.count a.c a.tick l.i l.at l.invariant (omega (arith, c.loop-i-test.false)))
