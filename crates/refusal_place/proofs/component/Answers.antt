-- `refusal_place::component` meets its contract. Assumes nothing.
use Rattle.refusal_place.specs.Walk.{component}
use borrow.Author.Rules.{rules}
use Rattle.refusal_place.proofs.component.Goals as goal

pub returns-then-going : goal.returns-then-going
unfolding component
returns-then-going c = (rw (← c.going.ensures, c.if-going.true) c.component_from.ensures.0, c.component_from.ensures.1)

pub returns : goal.returns
unfolding component
returns c = (rw (← c.going.ensures, c.if-going.false), search rules)
