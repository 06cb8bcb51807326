-- `refusal_place::component_from` meets its contract. Assumes nothing.
use mathlib.Core.Path.{◌≡◌}
use native.Mathlib.Omega.{arith}
use Prim.Native.Nat.{◌+◌}
use Rattle.refusal_place.specs.Walk.{end_from}
use Rattle.refusal_place.proofs.Sequence.{component_is}
use Rattle.refusal_place.proofs.component_from.Goals as goal

pub returns : goal.returns
returns c =
    let t = c in
    let a = t.args in
    let e : a.w.at + t.lesser.result ≡ end_from a.table.now a.w.at = rw (t.lesser.ensures.0, t.number_at.ensures) in (
      component_is a.table.now a.c a.w a.header (a.w.at + t.lesser.result) c.sizes_from-sizes.result c.of_component.result c.length_stated-known.result c.one_part-head.result c.body.result
          e
          c.sizes_from-sizes.ensures
          c.length_stated-known.ensures.0
          c.of_component.ensures
          c.one_part-head.ensures.0
          c.body.ensures.0,
      omega (arith, c.body.ensures.1, t.lesser.ensures.1),
    )
