-- `uppaal_text::put_location` meets its contract. Assumes nothing.
use Rattle.uppaal_parts.proofs.Turns.{put_four}
use Rattle.uppaal_text.proofs.Named.{location_told}
use native.Mathlib.Omega.{arith}
use Rattle.blocks.proofs.Runs.{put_is}
use Rattle.uppaal_text.proofs.put_location.Goals as goal

pub returns : goal.returns
returns c =
    let a = c.args in
    (put_is (location_told a.number a.location) (put_four c.put_field-first.ensures.0 c.put_field-second.ensures.0 c.put_field-third.ensures.0 c.put_words.ensures), omega arith)
