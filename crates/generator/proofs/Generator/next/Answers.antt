-- `generator::Generator::next` meets its contract. Assumes nothing.
use mathlib.Core.Path.{refl}
use Rattle.generator.specs.Xorshift.{next_of}
use Rattle.generator.proofs.Generator.next.Goals as goal

pub returns : goal.returns
unfolding next_of
returns c = refl
