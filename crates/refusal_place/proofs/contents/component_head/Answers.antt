-- `refusal_place::contents::component_head` meets its contract. Assumes nothing.
use mathlib.Core.Path.{◌∙◌}
use Rattle.refusal_place.proofs.Heads.{head_steps}
use Rattle.refusal_place.proofs.contents.component_head.Goals as goal

pub returns : goal.returns
returns c =
    let s = c in
    let a = s.args in
    let n = s.from-n.ensures ∙ s.byte_at.ensures in (
      rw (← n)
          (head_steps a.table.now a.who a.w s.byte_range-locations.result c.byte_range-initial.result c.byte_range-clocks.result c.byte_range-variables.result s.from-n.result c.byte_range.result
          s.byte_range-locations.ensures.0
          c.byte_range-initial.ensures.0
          c.byte_range-clocks.ensures.0
          c.byte_range-variables.ensures.0
          c.byte_range.ensures.0),
      c.byte_range.ensures.1 ∙ c.byte_range-variables.ensures.1 ∙ c.byte_range-clocks.ensures.1 ∙ c.byte_range-initial.ensures.1 ∙ s.byte_range-locations.ensures.1,
    )
