-- `reason_text::sentences::put_by` meets its contract. Assumes nothing.
use mathlib.Core.Path.{sym, ◌∙◌}
use native.Mathlib.Omega.{arith}
use Rattle.model.specs.Reader.{clock_guard_at}
use Rattle.model.specs.Places.{list_at}
use Rattle.text.proofs.Appended.{same_words}
use Rattle.reason_text.specs.ReasonText.{by_words}
use Rattle.reason_text.proofs.Deciding.{none_asked, none_wider, by_bound, by_other}
use Rattle.reason_text.proofs.sentences.put_by.Goals as goal

pub window-none-requires : goal.window-none-requires
window-none-requires c = let s = c in let g = none_asked s.args.guards.now in (g.0, s.requires.2.invariant, g.1)

pub returns-then-is_wider : goal.returns-then-is_wider
returns-then-is_wider c =
    let s = c in
    let a = s.args in
    let gs = list_at clock_guard_at 5 a.count a.guards.now in
    let q = sym (c.is_wider.ensures ∙ none_wider a.location a.clocks gs a.over s.requires.2.ready s.requires.2.past a.guards.now c.window-none.ensures.0 c.window-none.ensures.1) ∙ c.if-is_wider.true in
    (same_words (by_words a.otherwise.now a.over a.location gs a.clocks) c.put_field.ensures.0 (by_bound a.otherwise.now a.over a.location gs a.clocks q c.deciding-bound.ensures), omega (arith, c.put_field.ensures.1))

pub returns : goal.returns
returns c =
    let s = c in
    let a = s.args in
    let gs = list_at clock_guard_at 5 a.count a.guards.now in
    let q = sym (c.is_wider.ensures ∙ none_wider a.location a.clocks gs a.over s.requires.2.ready s.requires.2.past a.guards.now c.window-none.ensures.0 c.window-none.ensures.1) ∙ c.if-is_wider.false in
    (same_words (by_words a.otherwise.now a.over a.location gs a.clocks) c.put.ensures.0 (by_other a.otherwise.now a.over a.location gs a.clocks q), omega (arith, c.put.ensures.1, s.requires.1))
