-- `uppaal_text::put_edge_at` meets its contract. Assumes nothing.
use mathlib.Core.Path.{◌≡◌}
use Prim.Native.Nat.{◌+◌, ◌*◌}
use lib.ListN.{drop}
use Rattle.model.specs.Places.{arc_at}
use Rattle.uppaal_parts.proofs.Turns.{lent_long}
use Rattle.uppaal_text.proofs.Edges.{edge_readable, writable_there, source_is, edge_is, location_is}
use native.Mathlib.Omega.{arith}
use Rattle.blocks.proofs.Runs.{put_is}
use Rattle.uppaal_text.proofs.put_edge_at.Goals as goal

pub edge_at-edge-requires : goal.edge_at-edge-requires
edge_at-edge-requires c =
    let a = c.args in
    edge_readable a.budgets a.component.now a.place c.requires.2

pub overflow_mul-source : goal.overflow_mul-source
overflow_mul-source c =
    let a = c.args in
    omega (arith, c.from-source.ensures, source_is a.budgets a.component.now a.place c.requires.2 c.edge_at-edge.result c.edge_at-edge.ensures, c.requires.3, c.requires.0.locations)

pub overflow_add-source : goal.overflow_add-source
overflow_add-source c =
    let a = c.args in
    omega (arith, c.from-source.ensures, source_is a.budgets a.component.now a.place c.requires.2 c.edge_at-edge.result c.edge_at-edge.ensures, c.requires.3, c.requires.0.locations)

pub slice_bounds-location_at-count : goal.slice_bounds-location_at-count
slice_bounds-location_at-count c =
    let a = c.args in
    omega (arith, c.from-source.ensures, source_is a.budgets a.component.now a.place c.requires.2 c.edge_at-edge.result c.edge_at-edge.ensures, c.requires.3, c.requires.0.locations)

pub slice_bounds-location_at-start : goal.slice_bounds-location_at-start
slice_bounds-location_at-start c =
    let a = c.args in
    omega (arith, c.from-source.ensures, source_is a.budgets a.component.now a.place c.requires.2 c.edge_at-edge.result c.edge_at-edge.ensures, c.requires.3, c.requires.0.locations)

pub location_at-location-requires : goal.location_at-location-requires
location_at-location-requires c =
    let a = c.args in
    omega (arith, lent_long a.component.now (7 + c.from-source.result * 3), c.from-source.ensures, source_is a.budgets a.component.now a.place c.requires.2 c.edge_at-edge.result c.edge_at-edge.ensures, c.requires.3, c.requires.0.locations)

pub put_edge-requires : goal.put_edge-requires
put_edge-requires c =
    let a = c.args in
    (writable_there a.budgets a.component.now a.place c.requires.2, c.requires.0.clocks, omega (arith, c.requires.4))

pub returns : goal.returns
returns c =
    let a = c.args in
    let b = a.budgets in
    let p = a.component.now in
    let s = source_is b p a.place c.requires.2 c.edge_at-edge.result c.edge_at-edge.ensures in
    let d : 7 + c.from-source.result * 3 ≡ 7 + (arc_at b (drop a.place p)).edge.source * 3 = omega (arith, c.from-source.ensures, s) in
    let l = location_is b p (arc_at b (drop a.place p)).edge.source (7 + c.from-source.result * 3) c.location_at-location.result c.requires.3 d c.location_at-location.ensures in
    (put_is (edge_is b p a.place c.requires.2 a.steps a.number c.location_at-location.result l) c.put_edge.ensures.0, omega (arith, c.put_edge.ensures.1))
