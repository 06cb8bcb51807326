-- `run_words::put_run` meets its contract. Assumes nothing.
use native.Mathlib.Omega.{arith}
use Rattle.text.proofs.Appended.{next}
use Rattle.run_words.proofs.put_run.Goals as goal

pub returns : goal.returns
returns c =
    let s = c in
    (next (next (next (next c.put_end-counts.ensures.0 c.put_counts-told.ensures.0) c.put_offsets-first.ensures.0) c.put-lines.ensures.0) c.put_observations.ensures.0, omega (arith, c.put_end-counts.ensures.1, c.put_counts-told.ensures.1, c.put_offsets-first.ensures.1, c.put-lines.ensures.1, c.put_observations.ensures.1, s.requires.1, s.requires.3))
