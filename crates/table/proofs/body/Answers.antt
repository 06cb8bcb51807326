-- `table::body` meets its contract. Assumes nothing.
use mathlib.Core.Path.{sym, ap, ◌∙◌}
use lib.ListN.{drop}
use Rattle.std.proofs.lemmas.Result.{err_from_is_err_and}
use Rattle.parts.specs.Place.{placed}
use Rattle.table.proofs.Pieces.{locations_fail, arcs_fail, bytes_left, ends_there}
use Rattle.table.proofs.body.Goals as goal

pub returns-in_err-edges : goal.returns-in_err-edges
returns-in_err-edges c =
    let a = c.args in
    let p = a.component.now in
    let q = err_from_is_err_and c.from_residual.result c.from_residual.ensures.1 in
    rw (q.1, q.2) (sym (locations_fail a.heading p (drop 7 p) (c.parts.ensures.says ∙ ap (placed p) c.in_err-edges.was)))

pub returns-in_err-end : goal.returns-in_err-end
returns-in_err-end c =
    let a = c.args in
    let p = a.component.now in
    let e = c.parts.ensures.says ∙ ap (placed p) c.in_ok-edges.was in
    let q = err_from_is_err_and c.from_residual-in_err-end.result c.from_residual-in_err-end.ensures.1 in
    rw (q.1, q.2) (sym (arcs_fail a.heading p (drop 7 p) _ e (c.arcs.ensures.says ∙ ap (placed p) c.in_err-end.was)))

pub returns-then-end-component : goal.returns-then-end-component
returns-then-end-component c =
    let a = c.args in
    let p = a.component.now in
    let e = c.parts.ensures.says ∙ ap (placed p) c.in_ok-edges.was in
    sym (bytes_left a.heading p (drop 7 p) _ e p c.in_ok-end.end c.if-end-component.true (c.arcs.ensures.says ∙ ap (placed p) c.in_ok-end.was))

pub returns : goal.returns
returns c =
    let a = c.args in
    let p = a.component.now in
    let e = c.parts.ensures.says ∙ ap (placed p) c.in_ok-edges.was in
    sym (ends_there a.heading p (drop 7 p) _ e p c.in_ok-end.end c.if-end-component.false (c.arcs.ensures.says ∙ ap (placed p) c.in_ok-end.was))
