-- `refusal_place::contents::edge_counts` meets its contract. Assumes nothing.
use mathlib.Core.Path.{◌∙◌}
use Rattle.refusal_place.specs.Walk.{contents}
use Rattle.refusal_place.proofs.contents.edge_counts.Goals as goal

pub returns : goal.returns
unfolding contents
returns c =
    let s = c in (
      rw (
        c.byte_range.ensures.0,
        s.byte_range-data.ensures.0,
        s.byte_range-clock.ensures.0,
        s.data_limit.ensures,
        c.item_least.ensures,
        c.item_limit.ensures,
      ),
      c.byte_range.ensures.1 ∙ s.byte_range-data.ensures.1 ∙ s.byte_range-clock.ensures.1,
    )
