-- `reason_text::sentences::put_bound` meets its contract. Assumes nothing.
use mathlib.Core.Path.{◌≡◌, ap}
use mathlib.Core.Bool.{Bool}
use mathlib.Core.List.{List}
use Prim.Native.Nat.{ℕ, ◌+◌, ◌*◌, ◌<◌, ◌≤◌}
use native.Mathlib.Omega.{arith}
use lib.IntN.{pos}
use lib.ListN.{length, get_or}
use mir.Syntax.{w16}
use mir.Val.{SFits}
use mir.ValLaws.{to_z-of_z}
use Rattle.model.specs.declared.DataGuard.{DataGuard}
use Rattle.model.specs.Places.{arc_head_length, arc_at}
use Rattle.model.specs.Reasons.{no_bound}
use Rattle.model.proofs.Basics.Walk.{all_at}
use Rattle.window.specs.Views.{ArcReady}
use Rattle.window.proofs.Fronts.{data_count}
use Rattle.window.proofs.Rests.{tail_long}
use Rattle.reason_text.proofs.Wording.{bound_at}
use borrow.Author.Rules.{rules}
use Rattle.reason_text.proofs.sentences.put_bound.Goals as goal

-- the bound lies in the edge
whole : (b : Bool) (h : List ℕ) → ArcReady b h → (i : ℕ) → i < length (arc_at b h).data_guards → arc_head_length b + (get_or h 4 0 + i) * 5 + 5 ≤ length h
whole b h r i k = omega (arith, data_count b h, r.decodable.whole)

pub bounds-edge-4 : goal.bounds-edge-4
bounds-edge-4 c = omega (arith, c.requires.1.decodable.head)

pub overflow_add-first-2 : goal.overflow_add-first-2
overflow_add-first-2 c = omega (arith, c.head_length.ensures.2, c.wide.ensures.1, c.wide-2.ensures.1)

pub slice_bounds-data_guard_at-count : goal.slice_bounds-data_guard_at-count
slice_bounds-data_guard_at-count c = let s = c in omega (arith, whole s.args.budgets s.args.edge.now s.requires.1 s.args.number s.requires.2, c.wide.ensures.0, c.wide-2.ensures.0, c.head_length.ensures.0)

pub slice_bounds-data_guard_at-start : goal.slice_bounds-data_guard_at-start
slice_bounds-data_guard_at-start c = let s = c in omega (arith, whole s.args.budgets s.args.edge.now s.requires.1 s.args.number s.requires.2, c.wide.ensures.0, c.wide-2.ensures.0, c.head_length.ensures.0)

pub data_guard_at-guard-requires : goal.data_guard_at-guard-requires
data_guard_at-guard-requires c =
    let s = c in
    tail_long s.args.edge.now (c.head_length.result + (c.wide.result + c.wide-2.result) * 5) 5 (omega (arith, whole s.args.budgets s.args.edge.now s.requires.1 s.args.number s.requires.2, c.wide.ensures.0, c.wide-2.ensures.0, c.head_length.ensures.0))

pub bounds-values-i : goal.bounds-values-i
bounds-values-i c =
    let s = c in
    let h = s.args.edge.now in
    let at : c.head_length.result + (c.wide.result + c.wide-2.result) * 5 ≡ arc_head_length s.args.budgets + (get_or h 4 0 + s.args.number) * 5 = rw (c.head_length.ensures.0, c.wide.ensures.0, c.wide-2.ensures.0) in
    let g = bound_at s.args.budgets h s.args.number _ s.requires.2 at c.data_guard_at-guard.ensures in
    omega (arith, c.wide-i.ensures.0, ap (λ (x : DataGuard). x.variable) g, all_at no_bound s.requires.1.data_guards s.args.number s.requires.2)

pub returns : goal.returns
returns c =
    let s = c in
    let h = s.args.edge.now in
    let at : c.head_length.result + (c.wide.result + c.wide-2.result) * 5 ≡ arc_head_length s.args.budgets + (get_or h 4 0 + s.args.number) * 5 = rw (c.head_length.ensures.0, c.wide.ensures.0, c.wide-2.ensures.0) in
    let g = bound_at s.args.budgets h s.args.number _ s.requires.2 at c.data_guard_at-guard.ensures in
    let v = get_or s.args.values c.wide-i.result (pos 0) in
    let fits : SFits w16 v = search rules in
    let w = rw (to_z-of_z w16 v fits, c.wide-i.ensures.0, g) at c.put_fails.ensures.0 in
    (w, c.put_fails.ensures.1)
