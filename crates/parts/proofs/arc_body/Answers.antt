-- `parts::arc_body` meets its contract. Assumes nothing.
use mathlib.Core.Path.{subst, ap, ◌∙◌}
use Prim.Native.Nat.{◌+◌}
use lib.ListN.{length, drop}
use Rattle.std.proofs.lemmas.Result.{err_from_is_err_and}
use Rattle.parts.specs.Place.{placed, Within}
use Rattle.parts.proofs.Sequence.{moved, further, budget_fail, budget_pass}
use Rattle.parts.proofs.arc_body.Goals as goal

pub returns-in_err-from : goal.returns-in_err-from
returns-in_err-from c =
    let a = c.args in
    let e = c.budget.ensures.says ∙ ap (placed a.component.now) c.in_err-from.was in
    let p = err_from_is_err_and c.from_residual.result c.from_residual.ensures.1 in
    rw (p.1, p.2) (record { says = budget_fail a.sizes (drop a.at a.component.now) (drop (a.at + 7) a.component.now) e; within = tt })

pub returns : goal.returns
returns c =
    let a = c.args in
    let from = c.in_ok-from.from in
    let q = c.budget.ensures in
    let w = subst (Within (a.at + 7) (length a.component.now)) c.in_ok-from.was q.within in
    let e = q.says ∙ ap (placed a.component.now) c.in_ok-from.was in
    further c.arc_parts.result w.0 (moved (budget_pass a.sizes (drop a.at a.component.now) (drop (a.at + 7) a.component.now) (drop from a.component.now) e) c.arc_parts.ensures)
