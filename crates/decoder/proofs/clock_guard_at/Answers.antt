-- `decoder::clock_guard_at` meets its contract. Assumes nothing.
use Rattle.decoder.proofs.clock_guard_at.Goals as goal

pub returns : goal.returns
returns c = rw (c.word_at.ensures, c.word_at-2.ensures)
