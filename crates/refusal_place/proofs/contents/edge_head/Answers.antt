-- `refusal_place::contents::edge_head` meets its contract. Assumes nothing.
use mathlib.Core.Path.{◌∙◌}
use Rattle.parts.specs.Kinds.{kind_byte}
use Rattle.refusal_place.proofs.Heads.{edge_steps, fields_by_kind}
use Rattle.refusal_place.proofs.contents.edge_head.Goals as goal

pub returns : goal.returns
returns c =
    let s = c in
    let a = s.args in (
      rw (← s.byte_at.ensures, ← fields_by_kind a.sizes s.byte_at.result, ← s.from-own.ensures)
          (edge_steps a.table.now a.who a.w s.byte_range-kind.result c.byte_range-source.result c.byte_range-destination.result c.byte_range-mask.result a.sizes (kind_byte s.from-own.result) s.from-n.result s.from-limit.result c.edge_counts.result
          s.from-n.ensures
          (s.from-limit.ensures ∙ s.mask_limit.ensures)
          s.byte_range-kind.ensures.0
          c.byte_range-source.ensures.0
          c.byte_range-destination.ensures.0
          c.byte_range-mask.ensures.0
          c.edge_counts.ensures.0),
      c.edge_counts.ensures.1 ∙ c.byte_range-mask.ensures.1 ∙ c.byte_range-destination.ensures.1 ∙ c.byte_range-source.ensures.1 ∙ s.byte_range-kind.ensures.1,
    )
