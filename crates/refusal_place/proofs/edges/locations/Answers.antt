-- `refusal_place::edges::locations` meets its contract. Assumes nothing.
use mathlib.Core.Path.{◌∙◌, sym}
use native.Mathlib.Omega.{arith}
use borrow.Author.Rules.{rules}
use Rattle.refusal_place.proofs.Kept.{locations_over, locations_stay}
use Rattle.refusal_place.proofs.edges.locations.Goals as goal

pub returns-then-not-going : goal.returns-then-not-going
returns-then-not-going c =
    let a = c.args in
    (locations_stay a.table.now a.end a.sizes a.c a.count a.w (sym c.going.ensures ∙ c.if-not-going.true), search rules)

pub returns-in-Ok : goal.returns-in-Ok
returns-in-Ok c =
    let a = c.args in
    let o = locations_over a.table.now a.end c.requires.1 a.c a.w (omega (arith, c.requires)) a.sizes (sym c.going.ensures ∙ c.if-not-going.false) c.requires.0 a.count _ c.parts.ensures c.in-Ok.is in
    (o.1, o.0)
