-- `refusal_place::steps::fits` meets its contract. Assumes nothing.
use Rattle.refusal_place.proofs.steps.fits.Goals as goal

pub returns : goal.returns
returns c = (rw (c.judged.ensures.0, c.bytes_field.ensures), c.judged.ensures.1)
