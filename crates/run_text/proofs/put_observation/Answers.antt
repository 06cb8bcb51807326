-- `run_text::put_observation` meets its contract. Assumes nothing.
use native.Mathlib.Omega.{arith}
use Rattle.run_text.specs.RunText.{long, finish_text, observation_line}
use mathlib.Core.Path.{ap}
use Rattle.text.proofs.Appended.{next, same_words}
use Rattle.run_text.proofs.put_observation.Goals as goal

pub returns : goal.returns
unfolding observation_line
returns c =
    let o = c.args.o.now in
    let e5 = same_words (finish_text (long o 32)) c.put_finish-last.ensures.0 (ap finish_text c.long_at.ensures) in
    (next (next (next (next c.put_place_columns-tick.ensures.0 c.put_time_columns-values.ensures.0) c.put_value_columns-finish.ensures.0) e5) c.put.ensures.0, omega (arith, c.put_place_columns-tick.ensures.1, c.put_time_columns-values.ensures.1, c.put_value_columns-finish.ensures.1, c.put.ensures.1, c.put_finish-last.ensures.1))
