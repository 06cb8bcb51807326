-- `uppaal_text::put_names` meets its contract. Assumes nothing.
use Rattle.uppaal_parts.proofs.Turns.{put_four}
use Rattle.uppaal_text.proofs.Named.{names_none, names_some, positive}
use native.Mathlib.Omega.{arith}
use Rattle.blocks.proofs.Runs.{put_is, put_none}
use Rattle.uppaal_text.proofs.put_names.Goals as goal

pub returns-then-count-eq0 : goal.returns-then-count-eq0
returns-then-count-eq0 c =
    let a = c.args in
    (put_is (names_none a.before.now a.letter.now a.count c.if-count-eq0.true) (put_none a.out.now a.at), omega arith)

pub put_further_names-third-requires : goal.put_further_names-third-requires
put_further_names-third-requires c =
    let p = c.requires in
    (p.1, positive c.args.count c.if-count-eq0.false, p.2, omega (arith, p.0, p.1, p.2, p.3, c.put_words-first.ensures.next, c.put_field-second.ensures.1))

pub returns : goal.returns
returns c =
    let a = c.args in
    let p = c.requires in
    (put_is (names_some a.before.now a.letter.now a.count c.if-count-eq0.false) (put_four c.put_words-first.ensures c.put_field-second.ensures.0 c.put_further_names-third.ensures.0 c.put_words.ensures), omega (arith, p.0, p.1, p.2, c.put_words-first.ensures.next, c.put_field-second.ensures.1, c.put_further_names-third.ensures.1, c.put_words.ensures.next))
