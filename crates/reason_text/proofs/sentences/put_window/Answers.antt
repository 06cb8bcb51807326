-- `reason_text::sentences::put_window` meets its contract. Assumes nothing.
use native.Mathlib.Omega.{arith}
use Rattle.model.specs.Places.{arc_at}
use Rattle.window.specs.Views.{entry_of}
use Rattle.window.proofs.Fronts.{clock_guards_asked, ready_found, past_found, budget_found}
use Rattle.text.proofs.Appended.{same_words}
use Rattle.reason_text.specs.ReasonText.{window_words}
use Rattle.reason_text.proofs.Wording.{short_words, no_words, clock-guards}
use Rattle.reason_text.proofs.sentences.put_window.Goals as goal

pub window-all-requires : goal.window-all-requires
window-all-requires c =
    let s = c in
    let g = clock_guards_asked s.args.budgets s.args.edge.now s.requires.1 _ c.head_length-head.ensures.0 in
    (g.0, s.requires.2, g.1)

pub put_short_window-requires : goal.put_short_window-requires
put_short_window-requires c =
    let s = c in
    let g = clock_guards_asked s.args.budgets s.args.edge.now s.requires.1 _ c.head_length-head.ensures.0 in
    (s.requires.0, s.requires.3, record { whole = g.0; invariant = s.requires.2; clocks = g.1; ready = c.window-all.ensures.0; past = c.window-all.ensures.1; small_ready = c.window-all.ensures.2; small_past = c.window-all.ensures.3 }, omega (arith, c.if-all.true))

pub returns-then-all : goal.returns-then-all
returns-then-all c =
    let a = c.args in
    let edge = a.edge.now in
    let ready = ready_found a.budgets edge _ a.entry.clocks c.head_length-head.ensures.0 c.window-all.ensures.0 in
    let past = past_found a.budgets edge a.location _ a.entry.clocks c.head_length-head.ensures.0 c.window-all.ensures.1 in
    let words = short_words a.location (entry_of a.entry) (arc_at a.budgets edge) (clock-guards a.budgets edge _ c.head_length-head.ensures.0) (omega (arith, ready, past, c.if-all.true)) (budget_found a.budgets edge c.budget_at-budget.ensures) in
    (same_words (window_words a.location (entry_of a.entry) (arc_at a.budgets edge)) c.put_short_window.ensures.0 words, c.put_short_window.ensures.1)

pub put_no_window-requires : goal.put_no_window-requires
put_no_window-requires c =
    let s = c in
    let g = clock_guards_asked s.args.budgets s.args.edge.now s.requires.1 _ c.head_length-head.ensures.0 in
    (s.requires.0, s.requires.3, record { whole = g.0; invariant = s.requires.2; clocks = g.1; ready = c.window-all.ensures.0; past = c.window-all.ensures.1; small_ready = c.window-all.ensures.2; small_past = c.window-all.ensures.3 })

pub returns : goal.returns
returns c =
    let a = c.args in
    let edge = a.edge.now in
    let ready = ready_found a.budgets edge _ a.entry.clocks c.head_length-head.ensures.0 c.window-all.ensures.0 in
    let past = past_found a.budgets edge a.location _ a.entry.clocks c.head_length-head.ensures.0 c.window-all.ensures.1 in
    let words = no_words a.location (entry_of a.entry) (arc_at a.budgets edge) (clock-guards a.budgets edge _ c.head_length-head.ensures.0) (omega (arith, ready, past, c.if-all.false)) in
    (same_words (window_words a.location (entry_of a.entry) (arc_at a.budgets edge)) c.put_no_window.ensures.0 words, c.put_no_window.ensures.1)
