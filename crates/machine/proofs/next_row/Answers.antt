-- `machine::next_row` meets its contract. Assumes nothing.
use mathlib.Core.Path.{◌≡◌, refl, sym, ap, ◌∙◌}
use Prim.Native.Nat.{ℕ}
use native.Mathlib.Omega.{arith}
use borrow.Author.Rules.{rules}
use lib.ListN.{drop}
use Rattle.model.specs.Schedule.{own}
use Rattle.rows.specs.Rows.{rows_of}
use Rattle.machine.proofs.RowsOwn.{own_past}
use Rattle.machine.proofs.next_row.Goals as goal

pub loop-i-init : goal.loop-i-init
loop-i-init c = (search rules, refl)

pub returns-then-index-c : goal.returns-then-index-c
returns-then-index-c c =
    let l = c.loop-i in
    (l.invariant.0, l.invariant.1, λ h. sym c.index.ensures ∙ c.if-index-c.true)

pub loop-i-preserved : goal.loop-i-preserved
loop-i-preserved c =
    let a = c.args in
    let l = c.loop-i in
    (search rules, own_past a.rows.now a.passages a.c l.i (search rules) (λ e. c.if-index-c.false (c.index.ensures ∙ e)) ∙ l.invariant.1)

pub returns : goal.returns
returns c =
    let a = c.args in
    let l = c.loop-i in
    let e : l.i ≡ a.passages = search rules in
    (search rules, ap (λ (i : ℕ). own a.c (drop i (rows_of a.rows.now a.passages))) (sym e) ∙ l.invariant.1, λ h. absurd (omega arith))
