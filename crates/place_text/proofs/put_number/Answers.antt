-- `place_text::put_number` meets its contract. Assumes nothing.
use mathlib.Core.Path.{◌∙◌}
use native.Mathlib.Omega.{arith}
use lib.ListN.{length-take}
use Rattle.text.specs.Words.{decimal}
use Rattle.text.proofs.Appended.{same_words}
use Rattle.place_text.proofs.Past.{at_most_twenty, decimal_number}
use Rattle.place_text.proofs.put_number.Goals as goal

pub put-requires : goal.put-requires
put-requires c =
    let s = c in
    let few = at_most_twenty s.args.n c.decimal-k.result s.ranges.n.fits c.decimal-k.ensures.len in
    let short = length-take c.decimal-k.result c.decimal-k.new.out in
    omega (arith, few, short, s.requires)

pub returns : goal.returns
returns c =
    let s = c in
    let few = at_most_twenty s.args.n c.decimal-k.result s.ranges.n.fits c.decimal-k.ensures.len in
    let short = length-take c.decimal-k.result c.decimal-k.new.out in
    let words = c.decimal-k.ensures.digits ∙ decimal_number s.args.n c.decimal-k.result few c.decimal-k.ensures.len in
    (same_words (decimal s.args.n) c.put.ensures.0 words, omega (arith, few, short, c.put.ensures.1))
