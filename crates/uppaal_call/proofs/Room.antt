-- The room for a text, edge by edge and component by component. Assumes nothing.
use mathlib.Core.Path.{◌≡◌, refl, sym, ap, ◌∙◌}
use mathlib.Core.Bool.{Bool}
use mathlib.Core.List.{List}
use Prim.Native.Nat.{ℕ, zero, suc, ◌+◌, ◌-◌, ◌*◌, ◌≤◌, ◌<◌}
use native.Mathlib.Numerals.{add-one, sub-one}
use native.Mathlib.Omega.{arith}
use lib.ListN.{length, take, drop, length-drop, drop_of_length-le}
use lib.Seq.{get_or-drop, drop-cons}
use Rattle.model.specs.Lists.{Bytes}
use Rattle.model.specs.Table.{no_component}
use Rattle.model.specs.Reader.{byte, update_at, pair_at}
use Rattle.model.specs.Places.{arc_length, arc_at, items_place, updates_at, pairs_at, budgeted, start_of, Valid, read_of}
use Rattle.model.proofs.Basics.Sums.{total}
use Rattle.model.proofs.Basics.Walk.{list_length}
use Rattle.blocks.specs.FrontEdges.{arcs_at, ArcsFit}
use Rattle.blocks.proofs.Arcs.{edge_passed, edge-head}
use Rattle.parts.proofs.Skim.{tail}
use Rattle.translator.specs.Front.{arcs_place, front_component}
use Rattle.translator.proofs.Standing.{valid_limits, valid_count, node_is}
use Rattle.uppaal.specs.XtaText.{system_text}
use Rattle.uppaal.specs.Export.{system_for}
use Rattle.uppaal_text.proofs.Rooms.{arc_room, component_room, system_long}

-- ## Edge by edge

abbrev pub rooms_at : Bool → ℕ → List ℕ → ℕ
rooms_at b k h = total arc_room (arcs_at b k h)

pub rooms_all : (b : Bool) (p : List ℕ) (place : ℕ) → place ≡ arcs_place p → component_room (front_component b p) ≡ 480 + rooms_at b (byte p 6) (drop place p)
unfolding front_component
rooms_all b p place e = ap (λ (i : ℕ). 480 + rooms_at b (byte p 6) (drop i p)) (sym e)

pub rooms_done : (b : Bool) (k : ℕ) (h : List ℕ) → k ≤ 0 → rooms_at b k h ≡ 0
unfolding arcs_at total
rooms_done b zero h q = refl
rooms_done b (suc k) h q = absurd (omega arith)

items_few : (b : Bool) (h : List ℕ) → length (arc_at b h).updates + length (arc_at b h).pairs ≤ byte h 6
unfolding arc_at updates_at pairs_at
items_few b h = go (byte h 0) (byte h 6) (drop (items_place b h) h)
  where
    go : (kind n : ℕ) (r : List ℕ) → length (updates_at kind n r) + length (pairs_at kind n r) ≤ n
    go zero n r = omega (arith, list_length update_at 4 n r)
    go (suc zero) n r = omega arith
    go (suc (suc k)) n r = omega (arith, list_length pair_at 2 n r)

ahead : (b : Bool) (k : ℕ) (h : List ℕ) → 0 < k → rooms_at b k h ≡ arc_room (arc_at b h) + rooms_at b (k - 1) (drop (arc_length b h) h)
unfolding arcs_at total
ahead b zero h q = absurd (omega arith)
ahead b (suc k) h q = rw sub-one

module _ (b : Bool) (p : List ℕ) (place k : ℕ) (more : 0 < k) where
  -- the count of items stands
  pub items_there : place ≤ length p → ArcsFit b k (drop place p) → place + 7 ≤ length p
  items_there g f = omega (arith, edge-head b p place k more g f, ap length (tail p place), length-drop place p)

  pub rooms_on : (n : ℕ) → n ≡ byte p (place + 6) → (long : ℕ) → long ≡ arc_length b (take (length p - place) (drop place p))
      → rooms_at b k (drop place p) ≤ n * 979 + 1667 + rooms_at b (k - 1) (drop (place + long) p)
  rooms_on n e long q =
      let there : byte (drop place p) 6 ≡ n = get_or-drop place p 6 0 ∙ sym e in
      omega (arith, ahead b k (drop place p) more, items_few b (drop place p), there, ap (rooms_at b (k - 1)) (edge_passed b p place long q))

-- ## Component by component

-- those from number c on
abbrev pub room_from : List ℕ → ℕ → ℕ
room_from bs c = total component_room (drop c (read_of bs).table.components)

module _ (bs : List ℕ) (b : Bytes bs) (v : Valid bs) where
  pub room_done : (c : ℕ) → byte bs 3 ≤ c → room_from bs c ≡ 0
  unfolding total
  room_done c h =
      let k : length (read_of bs).table.components ≤ c = omega (arith, valid_count bs b v) in
      ap (total component_room) (drop_of_length-le (read_of bs).table.components k)

  pub room_on : (c : ℕ) → c < byte bs 3 → (start : ℕ) → start ≡ start_of bs c → (w : Bool) → w ≡ budgeted bs → (r : ℕ)
      → component_room (front_component w (take (length bs - start) (drop start bs))) ≤ r → room_from bs c ≤ r + room_from bs (c + 1)
  unfolding total
  room_on c h start e w same r q =
      let Cs = (read_of bs).table.components in
      let first = ap (total component_room) (drop-cons Cs c no_component (omega (arith, valid_count bs b v))) in
      omega (arith, first, q, ap component_room (node_is bs b v c h start e w same), ap (λ (i : ℕ). total component_room (drop i Cs)) (add-one c))

  pub room_all : (n : ℕ) → 137 + room_from bs 0 ≤ n → length (system_text (system_for (read_of bs).table)) ≤ n
  room_all n h = omega (arith, h, system_long (read_of bs) (valid_limits bs b v))
