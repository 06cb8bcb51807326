-- `statement::choose_block` meets its contract. Assumes nothing.
use Rattle.statement.proofs.Carries.{finished_chosen}
use mathlib.Core.Path.{◌∙◌}
use Rattle.statement.proofs.choose_block.Goals as goal

pub returns : goal.returns
returns c v =
    let s = c in
    let a = s.args in
    let p = s.requires in
    finished_chosen a.part.now a.words.now v a.c c.block_place-to.result p.2
    (c.block_place-to.ensures ∙ rw (c.wide.ensures.0, c.small-location.ensures, c.word.ensures))
    (c.put_place.ensures v)
