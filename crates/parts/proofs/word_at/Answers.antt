-- `parts::word_at` meets its contract. Assumes nothing.
use native.Mathlib.Numerals.{add-one}
use Rattle.parts.proofs.word_at.Goals as goal

pub returns : goal.returns
returns c = rw (c.wide16.ensures.0, c.wide16-2.ensures.0, add-one)
