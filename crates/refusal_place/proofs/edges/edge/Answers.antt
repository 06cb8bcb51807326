-- `refusal_place::edges::edge` meets its contract. Assumes nothing.
use mathlib.Core.Path.{◌∙◌, sym}
use native.Mathlib.Omega.{arith}
use borrow.Author.Rules.{rules}
use Rattle.refusal_place.specs.Walk.{edge}
use Rattle.refusal_place.proofs.Kept.{passed_over}
use Rattle.refusal_place.proofs.edges.edge.Goals as goal

pub returns-then-not-going : goal.returns-then-not-going
unfolding edge
returns-then-not-going c = (rw (← c.going.ensures, c.if-not-going.true), search rules)

pub returns-in-Some : goal.returns-in-Some
returns-in-Some c =
    let a = c.args in
    let f = c.in-Some.ensures in
    (passed_over a.table.now a.end c.requires.1 a.c a.w (omega (arith, c.requires)) a.sizes (sym c.going.ensures ∙ c.if-not-going.false) c.requires.0 a.e _ f, f.1)

pub returns-in-None : goal.returns-in-None
unfolding edge
returns-in-None c = (rw (← c.going.ensures, c.if-not-going.false) c.edge_from.ensures.0, c.edge_from.ensures.1)
