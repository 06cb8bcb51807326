-- `refusal_place::steps::stops_if` meets its contract. Assumes nothing.
use Rattle.refusal_place.specs.Walk.{stops_if}
use mathlib.Core.Path.{refl}
use Rattle.refusal_place.proofs.steps.stops_if.Goals as goal

pub returns-then-both : goal.returns-then-both
unfolding stops_if
returns-then-both c = let a = c.args in
    (rw (← c.going.ensures, ← c.both.ensures, c.if-both.true, c.place_at-place.ensures), refl)

pub returns : goal.returns
unfolding stops_if
returns c = (rw (← c.going.ensures, ← c.both.ensures, c.if-both.false), refl)
