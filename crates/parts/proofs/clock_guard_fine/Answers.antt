-- `parts::clock_guard_fine` meets its contract. Assumes nothing.
use Rattle.parts.proofs.clock_guard_fine.Goals as goal

pub returns : goal.returns
returns c = let b = c in
    rw (c.both-2.ensures, b.both.ensures, b.either.ensures, b.word_at.ensures, b.word_at-high.ensures)
