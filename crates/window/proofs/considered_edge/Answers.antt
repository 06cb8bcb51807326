-- `window::considered_edge` meets its contract. Assumes nothing.
use mathlib.Core.Path.{◌≡◌, refl, sym, ap, subst, ◌∙◌}
use mathlib.Core.Bool.{true}
use Prim.Native.Nat.{◌+◌, ◌-◌, ◌*◌, ◌≤◌}
use native.Mathlib.Omega.{arith}
use borrow.Author.Tests.{not-true, not-false}
use lib.ListN.{length, get_or}
use Rattle.model.specs.Places.{arc_head_length, arc_at}
use Rattle.model.specs.Window.{ready_of, past_of, data_holds, first_failing, long_enough}
use Rattle.window.specs.declared.Choice.{Choice}
use Rattle.window.specs.declared.Standing.TheVariants.{Candidate}
use Rattle.window.specs.Views.{entry_of, pick_of, SmallDelays, Kept}
use Rattle.window.proofs.Fronts.{clock_guards_asked, data_guards_asked, data_found, data_count, ready_found, past_found, head_fits, budget_found}
use Rattle.window.proofs.Narrowing.{past_left}
use Rattle.window.proofs.Considering.{later_passed, long_by, long_first, unheld, held, shut, candidate_is, by_standing, considered_by, better_candidate, kept_candidate, better_kept}
use Rattle.window.proofs.considered_edge.Goals as goal

pub bounds-bytes-4 : goal.bounds-bytes-4
bounds-bytes-4 c = omega (arith, c.requires.0.decodable.head)

pub overflow_add-first : goal.overflow_add-first
overflow_add-first c = omega (arith, c.head_length-head.ensures.2, c.wide.ensures.1)

pub bounds-bytes-5 : goal.bounds-bytes-5
bounds-bytes-5 c = omega (arith, c.requires.0.decodable.head)

pub slice_bounds-first_failing-count : goal.slice_bounds-first_failing-count
slice_bounds-first_failing-count c =
    let whole : arc_head_length c.args.budgets + (get_or c.args.bytes.now 4 0 + get_or c.args.bytes.now 5 0) * 5 ≤ length c.args.bytes.now =
    (omega (arith, c.requires.0.decodable.whole)) in
    let first-is : c.head_length-head.result + c.wide.result * 5 ≡ arc_head_length c.args.budgets + get_or c.args.bytes.now 4 0 * 5 =
    (rw (c.head_length-head.ensures.0, c.wide.ensures.0)) in
    omega (arith, first-is, whole)

pub slice_bounds-first_failing-start : goal.slice_bounds-first_failing-start
slice_bounds-first_failing-start c =
    let whole : arc_head_length c.args.budgets + (get_or c.args.bytes.now 4 0 + get_or c.args.bytes.now 5 0) * 5 ≤ length c.args.bytes.now =
    (omega (arith, c.requires.0.decodable.whole)) in
    let first-is : c.head_length-head.result + c.wide.result * 5 ≡ arc_head_length c.args.budgets + get_or c.args.bytes.now 4 0 * 5 =
    (rw (c.head_length-head.ensures.0, c.wide.ensures.0)) in
    omega (arith, first-is, whole)

pub first_failing-failing-requires : goal.first_failing-failing-requires
first_failing-failing-requires c =
    let first-is : c.head_length-head.result + c.wide.result * 5 ≡ arc_head_length c.args.budgets + get_or c.args.bytes.now 4 0 * 5 =
    (rw (c.head_length-head.ensures.0, c.wide.ensures.0)) in
    let s = c in
    data_guards_asked s.args.budgets s.args.bytes.now s.requires.0 _ first-is

pub returns-then-failing-guards : goal.returns-then-failing-guards
returns-then-failing-guards c =
    let first-is : c.head_length-head.result + c.wide.result * 5 ≡ arc_head_length c.args.budgets + get_or c.args.bytes.now 4 0 * 5 =
    (rw (c.head_length-head.ensures.0, c.wide.ensures.0)) in
    let failing-is : c.first_failing-failing.result ≡ first_failing (arc_at c.args.budgets c.args.bytes.now).data_guards c.args.at.values =
    (let a = c.args in data_found a.budgets a.bytes.now _ a.at.values first-is c.first_failing-failing.ensures) in
    let s = c in
    let a = s.args in record { picks = ap (by_standing a.e (pick_of a.best)) (unheld a.location (entry_of a.at) (arc_at a.budgets a.bytes.now) s.requires.1 _ failing-is (omega (arith, c.if-failing-guards.true, data_count a.budgets a.bytes.now))) ∙ considered_by a.location (entry_of a.at) a.e (arc_at a.budgets a.bytes.now) (pick_of a.best); keeps = λ f p k. k }

pub slice_bounds-window_within-count : goal.slice_bounds-window_within-count
slice_bounds-window_within-count c =
    let whole : arc_head_length c.args.budgets + (get_or c.args.bytes.now 4 0 + get_or c.args.bytes.now 5 0) * 5 ≤ length c.args.bytes.now =
    (omega (arith, c.requires.0.decodable.whole)) in
    omega (arith, c.head_length-head.ensures.0, whole)

pub slice_bounds-window_within-start : goal.slice_bounds-window_within-start
slice_bounds-window_within-start c =
    let whole : arc_head_length c.args.budgets + (get_or c.args.bytes.now 4 0 + get_or c.args.bytes.now 5 0) * 5 ≤ length c.args.bytes.now =
    (omega (arith, c.requires.0.decodable.whole)) in
    omega (arith, c.head_length-head.ensures.0, whole)

pub bounds-bytes-4-2 : goal.bounds-bytes-4-2
bounds-bytes-4-2 c = omega (arith, c.requires.0.decodable.head)

pub window_within-delays-requires : goal.window_within-delays-requires
window_within-delays-requires c =
    let s = c in
    let g = clock_guards_asked s.args.budgets s.args.bytes.now s.requires.0 _ c.head_length-head.ensures.0 in
    (g.0, s.requires.3, g.1)

-- it is ready no sooner than the best so far
pub returns-then-best-delays : goal.returns-then-best-delays
returns-then-best-delays c =
    let s = c in
    let a = s.args in
    let is = ready_found a.budgets a.bytes.now _ a.at.clocks c.head_length-head.ensures.0 refl in record { picks = later_passed a.location (entry_of a.at) a.e (arc_at a.budgets a.bytes.now) a.best (omega (arith, c.if-best-delays.true, c.window_within-delays.ensures.2)) (omega (arith, c.if-best-delays.true, c.window_within-delays.ensures.1, is)); keeps = λ f p k. k }

pub budget_at-budget-requires : goal.budget_at-budget-requires
budget_at-budget-requires c = let s = c in head_fits s.args.budgets s.args.bytes.now s.requires.0

pub long_enough-requires : goal.long_enough-requires
long_enough-requires c = omega (arith, c.window_within-delays.ensures.2)

pub returns-then-not-long_enough : goal.returns-then-not-long_enough
returns-then-not-long_enough c =
    let first-is : c.head_length-head.result + c.wide.result * 5 ≡ arc_head_length c.args.budgets + get_or c.args.bytes.now 4 0 * 5 =
    (rw (c.head_length-head.ensures.0, c.wide.ensures.0)) in
    let failing-is : c.first_failing-failing.result ≡ first_failing (arc_at c.args.budgets c.args.bytes.now).data_guards c.args.at.values =
    (let a = c.args in data_found a.budgets a.bytes.now _ a.at.values first-is c.first_failing-failing.ensures) in
    let holds : data_holds (arc_at c.args.budgets c.args.bytes.now).data_guards c.args.at.values ≡ true =
    (let s = c in
    let a = s.args in
    held a.location (entry_of a.at) (arc_at a.budgets a.bytes.now) s.requires.1 _ failing-is (omega (arith, c.if-failing-guards.false, data_count a.budgets a.bytes.now))) in
    let ready-is : c.window_within-delays.result.ready ≡ ready_of (arc_at c.args.budgets c.args.bytes.now).clock_guards c.args.at.clocks =
    (let a = c.args in ready_found a.budgets a.bytes.now _ a.at.clocks c.head_length-head.ensures.0 (c.window_within-delays.ensures.0 (omega (arith, c.if-best-delays.false))).0) in
    let past_is : c.window_within-delays.result.past ≡ past_of c.args.location (arc_at c.args.budgets c.args.bytes.now).clock_guards c.args.at.clocks =
    (let s = c in
    let a = s.args in
    past_found a.budgets a.bytes.now a.location _ a.at.clocks c.head_length-head.ensures.0 (past_left a.location _ a.at.clocks _ _ s.requires.2 (c.window_within-delays.ensures.0 (omega (arith, c.if-best-delays.false))).1)) in
    let long-is : c.long_enough.result ≡ long_enough c.args.location (arc_at c.args.budgets c.args.bytes.now) c.args.at.clocks =
    (let a = c.args in
    let w = c in
    c.long_enough.ensures ∙ long_by a.location (arc_at a.budgets a.bytes.now) a.at.clocks _ _ _ ready-is past_is (budget_found a.budgets a.bytes.now c.budget_at-budget.ensures)) in
    let s = c in
    let a = s.args in record { picks = ap (by_standing a.e (pick_of a.best)) (shut a.location (entry_of a.at) (arc_at a.budgets a.bytes.now) s.requires.1 holds (sym long-is ∙ not-true _ c.if-not-long_enough.true-raw)) ∙ considered_by a.location (entry_of a.at) a.e (arc_at a.budgets a.bytes.now) (pick_of a.best); keeps = λ f p k. k }

pub overflow_sub-candidate : goal.overflow_sub-candidate
overflow_sub-candidate c =
    let wide_enough : c.window_within-delays.result.ready + 1 ≤ c.window_within-delays.result.past - 1 =
    (omega (arith, long_first c.window_within-delays.result.ready c.window_within-delays.result.past c.budget_at-budget.result (sym c.long_enough.ensures ∙ not-false _ c.if-not-long_enough.false-raw))) in
    omega (arith, wide_enough)

pub returns : goal.returns
returns c =
    let first-is : c.head_length-head.result + c.wide.result * 5 ≡ arc_head_length c.args.budgets + get_or c.args.bytes.now 4 0 * 5 =
    (rw (c.head_length-head.ensures.0, c.wide.ensures.0)) in
    let failing-is : c.first_failing-failing.result ≡ first_failing (arc_at c.args.budgets c.args.bytes.now).data_guards c.args.at.values =
    (let a = c.args in data_found a.budgets a.bytes.now _ a.at.values first-is c.first_failing-failing.ensures) in
    let holds : data_holds (arc_at c.args.budgets c.args.bytes.now).data_guards c.args.at.values ≡ true =
    (let s = c in
    let a = s.args in
    held a.location (entry_of a.at) (arc_at a.budgets a.bytes.now) s.requires.1 _ failing-is (omega (arith, c.if-failing-guards.false, data_count a.budgets a.bytes.now))) in
    let ready-is : c.window_within-delays.result.ready ≡ ready_of (arc_at c.args.budgets c.args.bytes.now).clock_guards c.args.at.clocks =
    (let a = c.args in ready_found a.budgets a.bytes.now _ a.at.clocks c.head_length-head.ensures.0 (c.window_within-delays.ensures.0 (omega (arith, c.if-best-delays.false))).0) in
    let past_is : c.window_within-delays.result.past ≡ past_of c.args.location (arc_at c.args.budgets c.args.bytes.now).clock_guards c.args.at.clocks =
    (let s = c in
    let a = s.args in
    past_found a.budgets a.bytes.now a.location _ a.at.clocks c.head_length-head.ensures.0 (past_left a.location _ a.at.clocks _ _ s.requires.2 (c.window_within-delays.ensures.0 (omega (arith, c.if-best-delays.false))).1)) in
    let long-is : c.long_enough.result ≡ long_enough c.args.location (arc_at c.args.budgets c.args.bytes.now) c.args.at.clocks =
    (let a = c.args in
    let w = c in
    c.long_enough.ensures ∙ long_by a.location (arc_at a.budgets a.bytes.now) a.at.clocks _ _ _ ready-is past_is (budget_found a.budgets a.bytes.now c.budget_at-budget.ensures)) in
    let wide_enough : c.window_within-delays.result.ready + 1 ≤ c.window_within-delays.result.past - 1 =
    (omega (arith, long_first c.window_within-delays.result.ready c.window_within-delays.result.past c.budget_at-budget.result (sym c.long_enough.ensures ∙ not-false _ c.if-not-long_enough.false-raw))) in
    let o = c in
    let s = o in
    let a = s.args in
    let w = o in
    let small : SmallDelays (Candidate w.window_within-delays.result.ready w.window_within-delays.result.past) = (w.window_within-delays.ensures.2, w.window_within-delays.ensures.3, omega (arith, wide_enough)) in
    let t : Choice = record { edge = c.wide-2.result; place = a.place; ready = w.window_within-delays.result.ready; end = w.window_within-delays.result.past - 1 } in
    let is = candidate_is a.location (entry_of a.at) (arc_at a.budgets a.bytes.now) s.requires.1 holds _ _ ready-is past_is (sym long-is ∙ not-false _ o.if-not-long_enough.false-raw) in
    let s = Candidate w.window_within-delays.result.ready w.window_within-delays.result.past in record { picks = ap pick_of c.better.ensures ∙ better_candidate t a.e w.window_within-delays.result.ready w.window_within-delays.result.past s refl small c.wide-2.ensures.0 refl a.best refl ∙ ap (by_standing a.e (pick_of a.best)) is ∙ considered_by a.location (entry_of a.at) a.e (arc_at a.budgets a.bytes.now) (pick_of a.best); keeps = λ f q k. subst (Kept f) (sym c.better.ensures) (better_kept f a.best t (kept_candidate t a.e w.window_within-delays.result.ready w.window_within-delays.result.past s refl small c.wide-2.ensures.0 refl f q c.wide-2.ensures.1) k) }
