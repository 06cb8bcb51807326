-- `refusal_place::steps::place_at` meets its contract. Assumes nothing.
use Rattle.refusal_place.proofs.steps.place_at.Goals as goal

pub returns : goal.returns
returns c = rw (c.from.ensures, c.from-2.ensures)
