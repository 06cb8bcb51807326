-- `parts::location_fine` meets its contract. Assumes nothing.
use Rattle.parts.proofs.location_fine.Goals as goal

pub returns : goal.returns
returns c = rw (← c.word_at.ensures) c.both.ensures
