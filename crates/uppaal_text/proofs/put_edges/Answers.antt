-- `uppaal_text::put_edges` meets its contract. Assumes nothing.
use mathlib.Core.Path.{◌≡◌}
use Prim.Native.Nat.{◌+◌, ◌-◌, ◌*◌, ◌<◌}
use lib.ListN.{drop}
use Rattle.model.specs.Reader.{byte}
use Rattle.blocks.proofs.Runs.{begin, left_is}
use Rattle.translator.specs.Front.{arcs_place, front_component}
use Rattle.uppaal_text.specs.Texts.{edges_text}
use Rattle.uppaal_text.proofs.Edges.{start_writable, start_text, edge_writable, edge_source, edge_long, edge_within, edges_writable, edges_on, edges_done}
use native.Mathlib.Omega.{arith}
use Rattle.uppaal_text.proofs.put_edges.Goals as goal

pub overflow_mul-place : goal.overflow_mul-place
overflow_mul-place c = omega (arith, c.from-locations.ensures, c.requires.0.most_locations)

pub overflow_add-place : goal.overflow_add-place
overflow_add-place c = omega (arith, c.from-locations.ensures, c.requires.0.most_locations)

pub loop-number-init : goal.loop-number-init
loop-number-init c =
    let a = c.args in
    let x = c.requires.0 in
    let p = a.component.now in
    let e : 7 + c.from-locations.result * 3 ≡ arcs_place p = omega arith in
    let all : byte p 6 - 0 ≡ byte p 6 = omega arith in
    rw all (omega (arith, e, x.locations), omega arith, start_writable a.budgets p (7 + c.from-locations.result * 3) e x, left_is (start_text a.steps a.budgets p (7 + c.from-locations.result * 3) e) (begin a.out.now a.at (edges_text a.steps (front_component a.budgets p) 0 (front_component a.budgets p).arcs)))

pub put_edge_at-next-requires : goal.put_edge_at-next-requires
put_edge_at-next-requires c =
    let a = c.args in
    let l = c.loop-number in
    let k = byte a.component.now 6 - l.number in
    let q : 0 < k = omega arith in
    (c.requires.0, l.invariant.0, edge_writable a.budgets a.component.now l.place k q l.invariant.2, edge_source a.budgets a.component.now l.place k q l.invariant.2, omega (arith, c.requires.0.most_arcs))

pub slice_bounds-arc_length-count : goal.slice_bounds-arc_length-count
slice_bounds-arc_length-count c = omega (arith, c.loop-number.invariant.0)

pub slice_bounds-arc_length-start : goal.slice_bounds-arc_length-start
slice_bounds-arc_length-start c = omega (arith, c.loop-number.invariant.0)

pub arc_length-place-requires : goal.arc_length-place-requires
arc_length-place-requires c =
    let a = c.args in
    let l = c.loop-number in
    let k = byte a.component.now 6 - l.number in
    let q : 0 < k = omega arith in
    edge_long a.budgets a.component.now l.place k q l.invariant.2

pub overflow_add-place-in-loop-number : goal.overflow_add-place-in-loop-number
overflow_add-place-in-loop-number c =
    let a = c.args in
    let l = c.loop-number in
    let k = byte a.component.now 6 - l.number in
    let q : 0 < k = omega arith in
    omega (arith, edge_within a.budgets a.component.now l.place k q l.invariant.2 l.invariant.0 c.arc_length-place.result c.arc_length-place.ensures)

pub loop-number-preserved : goal.loop-number-preserved
loop-number-preserved c =
    let a = c.args in
    let b = a.budgets in
    let p = a.component.now in
    let l = c.loop-number in
    let k = byte p 6 - l.number in
    let q : 0 < k = omega arith in
    let long = c.arc_length-place.result in
    let is = c.arc_length-place.ensures in
    let one : byte p 6 - l.number - 1 ≡ byte p 6 - (l.number + 1) = omega arith in
    (edge_within b p l.place k q l.invariant.2 l.invariant.0 long is, omega (arith, c.put_edge_at-next.ensures.1), rw one at (edges_writable b p l.place k q l.invariant.2 long is), rw one at (edges_on b p l.place k q l.invariant.2 a.steps (front_component b p) l.number long is l.invariant.3 c.put_edge_at-next.ensures.0))

pub returns : goal.returns
returns c =
    let a = c.args in
    let p = a.component.now in
    let l = c.loop-number in
    (edges_done a.steps (front_component a.budgets p) a.budgets l.number (byte p 6 - l.number) (drop l.place p) (omega arith) l.invariant.3, omega (arith, c.requires.0.most_arcs))
