-- `refusal_place::length_stated` meets its contract. Assumes nothing.
use mathlib.Core.Path.{refl, ◌∙◌}
use Rattle.refusal_place.proofs.Sequence.{stated_is}
use Rattle.refusal_place.proofs.length_stated.Goals as goal

pub returns : goal.returns
returns c =
    let a = c.args in (
      stated_is a.table.now a.c a.w _ c.number_at-stated.result c.of_component-who.result c.fits.result c.judged.result c.of_component-who.ensures refl c.number_at-stated.ensures c.fits.ensures.0 c.judged.ensures.0,
      c.judged.ensures.1 ∙ c.fits.ensures.1,
    )
