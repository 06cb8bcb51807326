-- `blocks::put_budget` meets its contract. Assumes nothing.
use mathlib.Core.Path.{sym, ap, subst, ◌∙◌}
use mathlib.Core.Bool.{true}
use mathlib.Core.List.{List}
use Prim.Native.Nat.{ℕ, ◌≤◌}
use native.Mathlib.Omega.{arith}
use borrow.Author.Tests.{not-true, not-false}
use lib.ListN.{length}
use Rattle.model.specs.Places.{arc_head_length}
use Rattle.model.specs.Program.{quad}
use Rattle.blocks.proofs.Runs.{put_is, put_none, room_is}
use Rattle.blocks.proofs.Blocks.{budget_none, budget_some}
use Rattle.blocks.proofs.put_budget.Goals as goal

pub returns-then-not-budgets : goal.returns-then-not-budgets
returns-then-not-budgets c =
    let args = c.args in
    put_is (budget_none args.budgets args.bytes.now (not-true args.budgets c.if-not-budgets.true-raw)) (put_none args.out.now args.at)

pub word_at-requires : goal.word_at-requires
word_at-requires c =
    let s = c in
    let h : arc_head_length true ≤ length s.args.bytes.now = subst (λ b. arc_head_length b ≤ length s.args.bytes.now) (not-false s.args.budgets c.if-not-budgets.false-raw) s.requires.0 in
    omega (arith, h)

pub put_quad-requires : goal.put_quad-requires
put_quad-requires c =
    let s = c in
    let args = s.args in
    room_is args.out.now args.at (sym (budget_some args.budgets args.bytes.now (not-false args.budgets c.if-not-budgets.false-raw))) s.requires.1

pub returns : goal.returns
returns c =
    let args = c.args in
    put_is (ap {B = List ℕ} (λ (k : ℕ). quad 0x12 0 k) c.word_at.ensures ∙ budget_some args.budgets args.bytes.now (not-false args.budgets c.if-not-budgets.false-raw)) c.put_quad.ensures
