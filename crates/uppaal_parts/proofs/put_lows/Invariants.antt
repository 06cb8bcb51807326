-- `uppaal_parts::put_lows` meets its contract. Assumes nothing.
use Rattle.model.specs.Reader.{clock_guard_at}
use Rattle.uppaal_parts.specs.Marks.{low_text}
use Rattle.uppaal_parts.proofs.put_lows.Given as goal

abbrev pub ghost-put_each : goal.ghost-put_each
ghost-put_each a = λ part. low_text (clock_guard_at part)
