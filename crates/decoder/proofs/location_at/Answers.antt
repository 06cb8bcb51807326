-- `decoder::location_at` meets its contract. Assumes nothing.
use Rattle.decoder.proofs.location_at.Goals as goal

pub returns : goal.returns
returns c = rw c.word_at.ensures
