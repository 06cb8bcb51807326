-- `uppaal_text::put_further_names` meets its contract. Assumes nothing.
use native.Mathlib.Omega.{arith}
use Rattle.uppaal_parts.proofs.Turns.{numbers_on, numbers_done}
use Rattle.uppaal_text.specs.Texts.{further_name}
use Rattle.uppaal_text.proofs.put_further_names.Goals as goal

pub loop-i-preserved : goal.loop-i-preserved
loop-i-preserved c =
    let a = c.args in
    let l = c.loop-i in
    (omega (arith, c.put_further_name-next.ensures.1), numbers_on (further_name a.letter.now) l.i a.count (omega arith) l.invariant.1 c.put_further_name-next.ensures.0)

pub returns : goal.returns
returns c = (numbers_done (further_name c.args.letter.now) c.loop-i.i c.args.count (omega arith) c.loop-i.invariant.1, omega arith)
