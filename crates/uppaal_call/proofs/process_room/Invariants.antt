-- `uppaal_call::process_room` meets its contract. Assumes nothing.
use Prim.Native.Nat.{◌+◌, ◌-◌, ◌*◌, ◌≤◌}
use lib.ListN.{length, drop}
use Rattle.model.specs.Reader.{byte}
use Rattle.blocks.specs.FrontEdges.{ArcsFit}
use Rattle.translator.specs.Front.{front_component}
use Rattle.uppaal_text.proofs.Rooms.{component_room}
use Rattle.uppaal_call.proofs.Room.{rooms_at}
use Rattle.uppaal_call.proofs.process_room.Given as goal

abbrev pub invariant-loop : goal.invariant-loop
invariant-loop l =
    let left = byte l.component 6 - l.counter in
    (l.place ≤ length l.component) × ArcsFit l.budgets left (drop l.place l.component) × (component_room (front_component l.budgets l.component) ≤ l.room + rooms_at l.budgets left (drop l.place l.component)) × (l.room ≤ 480 + l.counter * 300000)
