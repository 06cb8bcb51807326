-- `reasons::telling::put_edge` meets its contract. Assumes nothing.
use mathlib.Core.Path.{sym, ap, ◌∙◌}
use Rattle.model.specs.Places.{arc_at}
use Rattle.window.specs.Views.{entry_of}
use Rattle.reasons.specs.Telling.{is_elsewhere, reason_from}
use Rattle.reasons.proofs.EdgeReasons.{is_here, is-elsewhere, edge-told, edge_passed}
use Rattle.reasons.proofs.telling.put_edge.Goals as goal

pub returns-then-elsewhere : goal.returns-then-elsewhere
returns-then-elsewhere c =
    let a = c.args in
    let q = sym (c.elsewhere.ensures ∙ ap is_elsewhere c.judge-standing.ensures.stands) ∙ c.if-elsewhere.true in
    edge_passed a.location (entry_of a.at) (arc_at a.budgets a.edge.now) a.taken a.ready a.e a.k a.told.now (is-elsewhere a.location (entry_of a.at) (arc_at a.budgets a.edge.now) q)

pub put_reason-requires : goal.put_reason-requires
put_reason-requires c =
    let e = c in
    let a = e.args in
    let q = sym (c.elsewhere.ensures ∙ ap is_elsewhere c.judge-standing.ensures.stands) ∙ c.if-elsewhere.false in
    (e.requires.4 (is_here a.location (entry_of a.at) (arc_at a.budgets a.edge.now) q), e.requires.3)

pub returns : goal.returns
returns c =
    let a = c.args in
    let q = sym (c.elsewhere.ensures ∙ ap is_elsewhere c.judge-standing.ensures.stands) ∙ c.if-elsewhere.false in
    edge-told a.location (entry_of a.at) (arc_at a.budgets a.edge.now) a.taken a.ready a.e a.k a.told.now _ _ (is_here a.location (entry_of a.at) (arc_at a.budgets a.edge.now) q)
    (c.reason_from-reason.ensures ∙ ap (λ s. reason_from s a.e a.taken a.at.tick a.ready) c.judge-standing.ensures.stands) c.put_reason.ensures
