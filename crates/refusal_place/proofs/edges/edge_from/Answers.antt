-- `refusal_place::edges::edge_from` meets its contract. Assumes nothing.
use native.Mathlib.Omega.{arith}
use mathlib.Core.Path.{ap, ◌∙◌}
use Rattle.parts.specs.declared.EdgeKind.{EdgeKind}
use Rattle.parts.specs.Kinds.{kind_byte}
use Rattle.refusal_place.specs.Walk.{items}
use Rattle.refusal_place.proofs.Sequence.{edge_is, items_by_kind}
use Rattle.refusal_place.proofs.edges.edge_from.Goals as goal

pub several-clocks-requires : goal.several-clocks-requires
several-clocks-requires c =
    let p = c.requires in
    (c.budget_part-budget.ensures.1, omega (arith, p.1, p.2))

pub several-data-requires : goal.several-data-requires
several-data-requires c =
    let p = c.requires in
    (c.several-clocks.ensures.1, omega (arith, p.1, p.2))

pub items-requires : goal.items-requires
items-requires c =
    let p = c.requires in
    (c.several-data.ensures.1, p.1, p.2)

pub returns : goal.returns
returns c =
    let t = c in
    let b = t in
    let a = b.args in (
      edge_is a.table.now a.end a.sizes a.c a.e a.w.at b.byte_at.result b.byte_at-clock_bounds.result b.byte_at-data_bounds.result b.byte_at-count.result t.of_edge.result c.of_edge-2.result c.of_edge-3.result a.w t.one_part-head.result c.budget_part-budget.result c.several-clocks.result c.several-data.result c.items.result
          b.byte_at.ensures
          b.byte_at-clock_bounds.ensures
          b.byte_at-data_bounds.ensures
          b.byte_at-count.ensures
          t.of_edge.ensures
          c.of_edge-2.ensures
          c.of_edge-3.ensures
          t.one_part-head.ensures.0
          c.budget_part-budget.ensures.0
          c.several-clocks.ensures.0
          c.several-data.ensures.0
          (c.items.ensures.0 ∙ ap (λ (kind : EdgeKind). items a.table.now a.end a.sizes a.c a.e (kind_byte kind) b.byte_at-count.result c.several-data.result) b.from-kind.ensures ∙ items_by_kind a.table.now a.end a.sizes a.c a.e b.byte_at.result b.byte_at-count.result c.several-data.result),
      c.items.ensures.1,
    )
