-- `window::judge` meets its contract. Assumes nothing.
use mathlib.Core.Path.{◌≡◌, sym, ap, ◌∙◌}
use mathlib.Core.Bool.{true}
use Prim.Native.Nat.{◌+◌, ◌*◌, ◌≤◌}
use native.Mathlib.Omega.{arith}
use borrow.Author.Tests.{not-true, not-false}
use lib.ListN.{length, get_or}
use Rattle.model.specs.declared.Edge.{Edge}
use Rattle.model.specs.Places.{arc_head_length, arc_at}
use Rattle.model.specs.Window.{ready_of, past_of, data_holds, first_failing, long_enough}
use Rattle.window.specs.Views.{entry_of}
use Rattle.window.proofs.Fronts.{clock_guards_asked, data_guards_asked, data_found, data_count, ready_found, past_found, head_fits, budget_found}
use Rattle.window.proofs.Considering.{long_by, long_first, elsewhere, unheld, held, shut, candidate_is}
use Rattle.window.proofs.judge.Goals as goal

pub edge_at-edge-requires : goal.edge_at-edge-requires
edge_at-edge-requires c = let s = c in (s.requires.0.decodable.head, s.requires.0.decodable.whole)

pub returns-then-edge-at : goal.returns-then-edge-at
returns-then-edge-at c =
    let a = c.args in record { stands = elsewhere a.location (entry_of a.at) (arc_at a.budgets a.bytes.now) (λ q. c.if-edge-at.true (ap (λ (edge : Edge). edge.source) c.edge_at-edge.ensures ∙ q)); small = tt }

pub bounds-bytes-4 : goal.bounds-bytes-4
bounds-bytes-4 c = omega (arith, c.requires.0.decodable.head)

pub overflow_add-first : goal.overflow_add-first
overflow_add-first c = omega (arith, c.head_length-head.ensures.2, c.wide.ensures.1)

pub bounds-bytes-5 : goal.bounds-bytes-5
bounds-bytes-5 c = omega (arith, c.requires.0.decodable.head)

pub slice_bounds-first_failing-count : goal.slice_bounds-first_failing-count
slice_bounds-first_failing-count c =
    let whole : arc_head_length c.args.budgets + (get_or c.args.bytes.now 4 0 + get_or c.args.bytes.now 5 0) * 5 ≤ length c.args.bytes.now =
    (omega (arith, c.requires.0.decodable.whole)) in
    let first-is : c.head_length-head.result + c.wide.result * 5 ≡ arc_head_length c.args.budgets + get_or c.args.bytes.now 4 0 * 5 =
    (rw (c.head_length-head.ensures.0, c.wide.ensures.0)) in
    omega (arith, first-is, whole)

pub slice_bounds-first_failing-start : goal.slice_bounds-first_failing-start
slice_bounds-first_failing-start c =
    let whole : arc_head_length c.args.budgets + (get_or c.args.bytes.now 4 0 + get_or c.args.bytes.now 5 0) * 5 ≤ length c.args.bytes.now =
    (omega (arith, c.requires.0.decodable.whole)) in
    let first-is : c.head_length-head.result + c.wide.result * 5 ≡ arc_head_length c.args.budgets + get_or c.args.bytes.now 4 0 * 5 =
    (rw (c.head_length-head.ensures.0, c.wide.ensures.0)) in
    omega (arith, first-is, whole)

pub first_failing-failing-requires : goal.first_failing-failing-requires
first_failing-failing-requires c =
    let first-is : c.head_length-head.result + c.wide.result * 5 ≡ arc_head_length c.args.budgets + get_or c.args.bytes.now 4 0 * 5 =
    (rw (c.head_length-head.ensures.0, c.wide.ensures.0)) in
    let s = c in
    data_guards_asked s.args.budgets s.args.bytes.now s.requires.0 _ first-is

pub returns-then-failing-guards : goal.returns-then-failing-guards
returns-then-failing-guards c =
    let here : (arc_at c.args.budgets c.args.bytes.now).edge.source ≡ c.args.at.location =
    (sym (ap (λ (edge : Edge). edge.source) c.edge_at-edge.ensures) ∙ c.if-edge-at.false) in
    let first-is : c.head_length-head.result + c.wide.result * 5 ≡ arc_head_length c.args.budgets + get_or c.args.bytes.now 4 0 * 5 =
    (rw (c.head_length-head.ensures.0, c.wide.ensures.0)) in
    let failing-is : c.first_failing-failing.result ≡ first_failing (arc_at c.args.budgets c.args.bytes.now).data_guards c.args.at.values =
    (let a = c.args in data_found a.budgets a.bytes.now _ a.at.values first-is c.first_failing-failing.ensures) in
    let a = c.args in
    let h = a.bytes.now in record { stands = unheld a.location (entry_of a.at) (arc_at a.budgets h) here _ failing-is (omega (arith, c.if-failing-guards.true, data_count a.budgets h)); small = tt }

pub slice_bounds-window-count : goal.slice_bounds-window-count
slice_bounds-window-count c =
    let whole : arc_head_length c.args.budgets + (get_or c.args.bytes.now 4 0 + get_or c.args.bytes.now 5 0) * 5 ≤ length c.args.bytes.now =
    (omega (arith, c.requires.0.decodable.whole)) in
    omega (arith, c.head_length-head.ensures.0, whole)

pub slice_bounds-window-start : goal.slice_bounds-window-start
slice_bounds-window-start c =
    let whole : arc_head_length c.args.budgets + (get_or c.args.bytes.now 4 0 + get_or c.args.bytes.now 5 0) * 5 ≤ length c.args.bytes.now =
    (omega (arith, c.requires.0.decodable.whole)) in
    omega (arith, c.head_length-head.ensures.0, whole)

pub bounds-bytes-4-2 : goal.bounds-bytes-4-2
bounds-bytes-4-2 c = omega (arith, c.requires.0.decodable.head)

pub window-delays-requires : goal.window-delays-requires
window-delays-requires c =
    let s = c in
    let g = clock_guards_asked s.args.budgets s.args.bytes.now s.requires.0 _ c.head_length-head.ensures.0 in
    (g.0, s.requires.1, g.1)

pub budget_at-budget-requires : goal.budget_at-budget-requires
budget_at-budget-requires c = let s = c in head_fits s.args.budgets s.args.bytes.now s.requires.0

pub long_enough-requires : goal.long_enough-requires
long_enough-requires c = omega (arith, c.window-delays.ensures.2)

pub returns-then-not-long_enough : goal.returns-then-not-long_enough
returns-then-not-long_enough c =
    let here : (arc_at c.args.budgets c.args.bytes.now).edge.source ≡ c.args.at.location =
    (sym (ap (λ (edge : Edge). edge.source) c.edge_at-edge.ensures) ∙ c.if-edge-at.false) in
    let first-is : c.head_length-head.result + c.wide.result * 5 ≡ arc_head_length c.args.budgets + get_or c.args.bytes.now 4 0 * 5 =
    (rw (c.head_length-head.ensures.0, c.wide.ensures.0)) in
    let failing-is : c.first_failing-failing.result ≡ first_failing (arc_at c.args.budgets c.args.bytes.now).data_guards c.args.at.values =
    (let a = c.args in data_found a.budgets a.bytes.now _ a.at.values first-is c.first_failing-failing.ensures) in
    let holds : data_holds (arc_at c.args.budgets c.args.bytes.now).data_guards c.args.at.values ≡ true =
    (let a = c.args in
    held a.location (entry_of a.at) (arc_at a.budgets a.bytes.now) here _ failing-is (omega (arith, c.if-failing-guards.false, data_count a.budgets a.bytes.now))) in
    let ready-is : c.window-delays.result.ready ≡ ready_of (arc_at c.args.budgets c.args.bytes.now).clock_guards c.args.at.clocks =
    (let a = c.args in ready_found a.budgets a.bytes.now _ a.at.clocks c.head_length-head.ensures.0 c.window-delays.ensures.0) in
    let past_is : c.window-delays.result.past ≡ past_of c.args.location (arc_at c.args.budgets c.args.bytes.now).clock_guards c.args.at.clocks =
    (let a = c.args in past_found a.budgets a.bytes.now a.location _ a.at.clocks c.head_length-head.ensures.0 c.window-delays.ensures.1) in
    let long-is : c.long_enough.result ≡ long_enough c.args.location (arc_at c.args.budgets c.args.bytes.now) c.args.at.clocks =
    (let a = c.args in
    let w = c in
    c.long_enough.ensures ∙ long_by a.location (arc_at a.budgets a.bytes.now) a.at.clocks _ _ _ ready-is past_is (budget_found a.budgets a.bytes.now c.budget_at-budget.ensures)) in
    let a = c.args in record { stands = shut a.location (entry_of a.at) (arc_at a.budgets a.bytes.now) here holds (sym long-is ∙ not-true _ c.if-not-long_enough.true-raw); small = tt }

pub returns : goal.returns
returns c =
    let here : (arc_at c.args.budgets c.args.bytes.now).edge.source ≡ c.args.at.location =
    (sym (ap (λ (edge : Edge). edge.source) c.edge_at-edge.ensures) ∙ c.if-edge-at.false) in
    let first-is : c.head_length-head.result + c.wide.result * 5 ≡ arc_head_length c.args.budgets + get_or c.args.bytes.now 4 0 * 5 =
    (rw (c.head_length-head.ensures.0, c.wide.ensures.0)) in
    let failing-is : c.first_failing-failing.result ≡ first_failing (arc_at c.args.budgets c.args.bytes.now).data_guards c.args.at.values =
    (let a = c.args in data_found a.budgets a.bytes.now _ a.at.values first-is c.first_failing-failing.ensures) in
    let holds : data_holds (arc_at c.args.budgets c.args.bytes.now).data_guards c.args.at.values ≡ true =
    (let a = c.args in
    held a.location (entry_of a.at) (arc_at a.budgets a.bytes.now) here _ failing-is (omega (arith, c.if-failing-guards.false, data_count a.budgets a.bytes.now))) in
    let ready-is : c.window-delays.result.ready ≡ ready_of (arc_at c.args.budgets c.args.bytes.now).clock_guards c.args.at.clocks =
    (let a = c.args in ready_found a.budgets a.bytes.now _ a.at.clocks c.head_length-head.ensures.0 c.window-delays.ensures.0) in
    let past_is : c.window-delays.result.past ≡ past_of c.args.location (arc_at c.args.budgets c.args.bytes.now).clock_guards c.args.at.clocks =
    (let a = c.args in past_found a.budgets a.bytes.now a.location _ a.at.clocks c.head_length-head.ensures.0 c.window-delays.ensures.1) in
    let long-is : c.long_enough.result ≡ long_enough c.args.location (arc_at c.args.budgets c.args.bytes.now) c.args.at.clocks =
    (let a = c.args in
    let w = c in
    c.long_enough.ensures ∙ long_by a.location (arc_at a.budgets a.bytes.now) a.at.clocks _ _ _ ready-is past_is (budget_found a.budgets a.bytes.now c.budget_at-budget.ensures)) in
    let a = c.args in
    let w = c in
    let long = not-false _ c.if-not-long_enough.false-raw in record { stands = candidate_is a.location (entry_of a.at) (arc_at a.budgets a.bytes.now) here holds _ _ ready-is past_is (sym long-is ∙ long); small = (w.window-delays.ensures.2, w.window-delays.ensures.3, long_first _ _ _ (sym c.long_enough.ensures ∙ long)) }
