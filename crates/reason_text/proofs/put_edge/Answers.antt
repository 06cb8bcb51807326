-- `reason_text::put_edge` meets its contract. Assumes nothing.
use mathlib.Core.Path.{◌≡◌, sym, ap, ◌∙◌}
use native.Mathlib.Omega.{arith}
use Rattle.model.specs.Places.{arc_at}
use Rattle.model.specs.Reasons.{reason_by}
use Rattle.window.specs.Views.{entry_of}
use Rattle.reasons.specs.Telling.{is_elsewhere, reason_from}
use Rattle.reasons.proofs.EdgeReasons.{is_here, is-elsewhere, reason-from}
use Rattle.text.proofs.Appended.{next, same_words}
use Rattle.reason_text.specs.ReasonText.{reason_words}
use Rattle.reason_text.proofs.Wording.{bound_there}
use Rattle.reason_text.proofs.Lining.{line_here, line_elsewhere}
use Rattle.reason_text.proofs.put_edge.Goals as goal

pub returns-then-elsewhere : goal.returns-then-elsewhere
returns-then-elsewhere c =
    let a = c.args in
    let q = sym (c.elsewhere.ensures ∙ ap is_elsewhere c.judge-standing.ensures.stands) ∙ c.if-elsewhere.true in
    (line_elsewhere a.location (entry_of a.entry) a.taken a.ready a.end a.e (arc_at a.budgets a.edge.now) a.out.now a.at (is-elsewhere a.location (entry_of a.entry) (arc_at a.budgets a.edge.now) q), omega arith)

pub put_reason-line-requires : goal.put_reason-line-requires
put_reason-line-requires c =
    let s = c in
    let a = s.args in
    let q = sym (c.elsewhere.ensures ∙ ap is_elsewhere c.judge-standing.ensures.stands) ∙ c.if-elsewhere.false in
    let h = is_here a.location (entry_of a.entry) (arc_at a.budgets a.edge.now) q in
    let r : c.reason_from-reason.result ≡ reason_by a.location (entry_of a.entry) a.taken a.ready a.e (arc_at a.budgets a.edge.now) = c.reason_from-reason.ensures ∙ ap (λ s. reason_from s a.e a.taken a.entry.tick a.ready) c.judge-standing.ensures.stands ∙ reason-from a.location (entry_of a.entry) (arc_at a.budgets a.edge.now) a.taken a.ready a.e h in
    (omega (arith, c.put_field-colon.ensures.1, c.put-words.ensures.1, c.put_field-colon.auto.out, c.put-words.auto.out, s.requires.0), s.requires.1, s.requires.2, s.requires.3, λ i z. bound_there a.location (entry_of a.entry) a.taken a.ready a.e (arc_at a.budgets a.edge.now) i (sym r ∙ z))

pub returns : goal.returns
returns c =
    let s = c in
    let a = s.args in
    let q = sym (c.elsewhere.ensures ∙ ap is_elsewhere c.judge-standing.ensures.stands) ∙ c.if-elsewhere.false in
    let h = is_here a.location (entry_of a.entry) (arc_at a.budgets a.edge.now) q in
    let r : c.reason_from-reason.result ≡ reason_by a.location (entry_of a.entry) a.taken a.ready a.e (arc_at a.budgets a.edge.now) = c.reason_from-reason.ensures ∙ ap (λ s. reason_from s a.e a.taken a.entry.tick a.ready) c.judge-standing.ensures.stands ∙ reason-from a.location (entry_of a.entry) (arc_at a.budgets a.edge.now) a.taken a.ready a.e h in
    let words = same_words (reason_words a.location (entry_of a.entry) a.taken a.ready a.end (arc_at a.budgets a.edge.now) (reason_by a.location (entry_of a.entry) a.taken a.ready a.e (arc_at a.budgets a.edge.now))) c.put_reason-line.ensures.0 (ap (reason_words a.location (entry_of a.entry) a.taken a.ready a.end (arc_at a.budgets a.edge.now)) r) in
    (line_here a.location (entry_of a.entry) a.taken a.ready a.end a.e (arc_at a.budgets a.edge.now) h (next (next (next c.put_field-colon.ensures.0 c.put-words.ensures.0) words) c.put.ensures.0), omega (arith, c.put_field-colon.ensures.1, c.put-words.ensures.1, c.put_reason-line.ensures.1, c.put.ensures.1))
