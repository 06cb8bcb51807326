-- `refusal_place::sizes_from` meets its contract. Assumes nothing.
use Rattle.refusal_place.proofs.sizes_from.Goals as goal

pub returns : goal.returns
returns c = rw (c.byte_at-3.ensures, c.byte_at-2.ensures, c.byte_at.ensures)
