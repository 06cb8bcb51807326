-- `text::put_number` meets its contract. Assumes nothing.
use native.Mathlib.Omega.{arith}
use mathlib.Core.Path.{refl, ◌∙◌}
use Rattle.text.specs.Words.{decimal}
use Rattle.text.proofs.Appended.{same_words}
use Rattle.text.proofs.Numerals.{written}
use Rattle.text.proofs.put_number.Goals as goal

pub put-requires : goal.put-requires
put-requires c =
    let few = written c.args.n refl c.requires.1 c.decimal-k.ensures.len in
    omega (arith, few.0)

pub returns : goal.returns
returns c =
    let few = written c.args.n refl c.requires.1 c.decimal-k.ensures.len in
    (same_words (decimal c.args.n) c.put.ensures.0 (c.decimal-k.ensures.digits ∙ few.1), omega (arith, few.0))
