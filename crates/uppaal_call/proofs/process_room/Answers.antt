-- `uppaal_call::process_room` meets its contract. Assumes nothing.
use mathlib.Core.Path.{◌≡◌, sym, subst}
use Prim.Native.Nat.{ℕ, ◌+◌, ◌-◌, ◌*◌, ◌<◌}
use lib.ListN.{drop}
use Rattle.model.specs.Reader.{byte}
use Rattle.blocks.specs.FrontEdges.{ArcsFit}
use Rattle.blocks.proofs.Arcs.{edge-head, edge_on, edges_on}
use Rattle.translator.specs.Front.{arcs_place}
use Rattle.model.proofs.Basics.Words.{byte_small}
use Rattle.translator.proofs.Standing.{slice_bytes}
use Rattle.uppaal_call.proofs.Room.{rooms_all, rooms_done, items_there, rooms_on}
use native.Mathlib.Omega.{arith}
use Rattle.uppaal_call.proofs.process_room.Goals as goal

pub loop-init : goal.loop-init
loop-init c =
    let p = c.args.component.now in
    let b = c.args.budgets in
    let first = 7 + c.from-locations.result * 3 in
    let e : first ≡ arcs_place p = omega arith in
    let all : byte p 6 - 0 ≡ byte p 6 = omega arith in
    rw all (omega (arith, e, c.requires.locations), subst (λ (i : ℕ). ArcsFit b (byte p 6) (drop i p)) (sym e) c.requires.arcs, omega (arith, rooms_all b p first e), omega arith)

pub bounds-component-place : goal.bounds-component-place
bounds-component-place c =
    let p = c.args.component.now in
    let l = c.loop in
    omega (arith, items_there c.args.budgets p l.place (byte p 6 - l.counter) (omega arith) l.invariant.0 l.invariant.1)

pub arc_length-place-requires : goal.arc_length-place-requires
arc_length-place-requires c =
    let p = c.args.component.now in
    let l = c.loop in
    edge-head c.args.budgets p l.place (byte p 6 - l.counter) (omega arith) l.invariant.0 l.invariant.1

pub loop-preserved : goal.loop-preserved
loop-preserved c =
    let p = c.args.component.now in
    let b = c.args.budgets in
    let l = c.loop in
    let k = byte p 6 - l.counter in
    let q : 0 < k = omega arith in
    let long = c.arc_length-place.result in
    let is = c.arc_length-place.ensures in
    let one : byte p 6 - l.counter - 1 ≡ byte p 6 - (l.counter + 1) = omega arith in
    let more = rw one at (rooms_on b p l.place k q c.from.result c.from.ensures long is) in
    let few = byte_small (slice_bytes p c.type_inv.component) (l.place + 6) in
    (edge_on b p l.place k q l.invariant.0 l.invariant.1 long is, rw one at (edges_on b p l.place k q l.invariant.0 l.invariant.1 long is), omega (arith, l.invariant.2, more), omega (arith, l.invariant.3, few, c.from.ensures))

pub returns : goal.returns
returns c =
    let p = c.args.component.now in
    let l = c.loop in
    (omega (arith, l.invariant.2, rooms_done c.args.budgets (byte p 6 - l.counter) (drop l.place p) (omega arith)), omega (arith, byte_small (slice_bytes p c.type_inv.component) 6))
