-- `uppaal_steps::heard::put_kept_in` meets its contract. Assumes nothing.
use Rattle.blocks.proofs.Runs.{put_is}
use Rattle.uppaal_parts.proofs.Turns.{put_five}
use Rattle.uppaal_steps.proofs.Keeping.{in_told}
use native.Mathlib.Omega.{arith}
use Rattle.uppaal_steps.proofs.heard.put_kept_in.Goals as goal

pub put_words-third-requires : goal.put_words-third-requires
put_words-third-requires c = omega (arith, c.put_words-first.ensures.next, c.put_arrow_in-second.ensures.1, c.requires.2, c.requires.3)

pub put_sync-fourth-requires : goal.put_sync-fourth-requires
put_sync-fourth-requires c = omega (arith, c.put_words-first.ensures.next, c.put_arrow_in-second.ensures.1, c.put_words-third.ensures.next, c.requires.2, c.requires.3)

pub put_words-requires : goal.put_words-requires
put_words-requires c = omega (arith, c.put_words-first.ensures.next, c.put_arrow_in-second.ensures.1, c.put_words-third.ensures.next, c.put_sync-fourth.ensures.1, c.requires.2, c.requires.3)

pub returns : goal.returns
returns c =
    let a = c.args in
    (put_is (in_told a.origin a.edge.now a.message 0 c.requires.1) (put_five c.put_words-first.ensures c.put_arrow_in-second.ensures.0 c.put_words-third.ensures c.put_sync-fourth.ensures.0 c.put_words.ensures), omega (arith, c.put_words-first.ensures.next, c.put_arrow_in-second.ensures.1, c.put_words-third.ensures.next, c.put_sync-fourth.ensures.1, c.put_words.ensures.next, c.requires.2))
