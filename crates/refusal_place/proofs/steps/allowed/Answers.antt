-- `refusal_place::steps::allowed` meets its contract. Assumes nothing.
use Rattle.refusal_place.proofs.steps.allowed.Goals as goal

pub returns : goal.returns
returns c = rw (c.either.ensures, c.both-2.ensures, c.both.ensures)
