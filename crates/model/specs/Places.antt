-- Document 01, "The table": where the parts of a table stand in its bytes, and what stands there. Nothing is tested here:
-- for the bytes of an accepted table these are its parts (the law `located` in proofs/Reader/Located.antt).
use Rattle.std.specs.Prelude.{◌≡◌, Bool, true, false, cond, leb, List, [], ◌∷◌, ℕ, zero, suc, ◌+◌, ◌*◌, ◌≤◌, ◌<◌, length, drop}
use Rattle.std.proofs.Math.Option.{Option, none, some}
use Rattle.model.specs.declared.Action.{Action}
use Rattle.model.specs.declared.Action.TheVariants.{Internal, Send, Receive}
use Rattle.model.specs.declared.Pair.{Pair}
use Rattle.model.specs.declared.Update.{Update}
use Rattle.model.specs.Lists.{Answer, accepted, refused}
use Rattle.model.specs.Table.{Arc, Component, Read, band_of, size, component_of, location_of, arc_of}
use Rattle.model.specs.Reader.{byte, word, location_at, clock_guard_at, data_guard_at, update_at, pair_at, edge_at, body_start, read_table}

-- n parts of width w, one after the other
unfoldable pub list_at : {A : Type 0} → (List ℕ → A) → ℕ → ℕ → List ℕ → List A
list_at value w zero bs = []
list_at value w (suc n) bs = value bs ∷ list_at value w n (drop w bs)

-- ## An edge, from its first byte on: the kind at 0, the counts of clock bounds at 4, data bounds at 5, items at 6

-- how many bytes n items have: updates of 4 bytes, the one channel, pairs of 2
abbrev pub items_length : ℕ → ℕ → ℕ
items_length zero n = n * 4
items_length (suc zero) n = 1
items_length (suc (suc k)) n = n * 2

-- how many bytes stand before an edge's bounds: 7, with a budget 9
abbrev pub arc_head_length : Bool → ℕ
arc_head_length b = cond b 9 7

-- the items stand after these bytes and the bounds
abbrev pub items_place : Bool → List ℕ → ℕ
items_place b h = arc_head_length b + (byte h 4 + byte h 5) * 5

abbrev pub arc_length : Bool → List ℕ → ℕ
arc_length b h = items_place b h + items_length (byte h 0) (byte h 6)

-- the kind, and the first byte of the items
abbrev pub action_at : ℕ → ℕ → Action
action_at zero k = Internal
action_at (suc zero) k = Send k
action_at (suc (suc n)) k = Receive

unfoldable pub updates_at : ℕ → ℕ → List ℕ → List Update
unfolding list_at
updates_at zero n bs = list_at update_at 4 n bs
updates_at (suc k) n bs = []

unfoldable pub pairs_at : ℕ → ℕ → List ℕ → List Pair
unfolding list_at
pairs_at zero n bs = []
pairs_at (suc zero) n bs = []
pairs_at (suc (suc k)) n bs = list_at pair_at 2 n bs

-- the budget, where edges have one
abbrev pub budget_at : Bool → List ℕ → Option ℕ
budget_at b h = cond b (some (word h 7)) none

unfoldable pub arc_at : Bool → List ℕ → Arc
unfolding list_at updates_at pairs_at
arc_at b h =
    record {
      edge = edge_at h (action_at (byte h 0) (byte h (items_place b h)));
      budget = budget_at b h;
      clock_guards = list_at clock_guard_at 5 (byte h 4) (drop (arc_head_length b) h);
      data_guards = list_at data_guard_at 5 (byte h 5) (drop (arc_head_length b + byte h 4 * 5) h);
      updates = updates_at (byte h 0) (byte h 6) (drop (items_place b h) h);
      pairs = pairs_at (byte h 0) (byte h 6) (drop (items_place b h) h);
    }

-- ## Places in the table's bytes

-- Where component c starts: after the header, and the bands of version 2, each component is as long as it says.
unfoldable pub start_of : List ℕ → ℕ → ℕ
start_of bs zero = body_start bs
start_of bs (suc c) = start_of bs c + word bs (start_of bs c)

-- Location l of the component that starts at b: after its first 7 bytes.
abbrev pub location_place : ℕ → ℕ → ℕ
location_place b l = b + 7 + l * 3

-- Edge e of the component that starts at b: after its locations, each edge as long as its counts say.
-- "Table version 3 is version 2 with a 2-byte budget .. after each edge's 7 bytes"
abbrev pub budgeted : List ℕ → Bool
budgeted bs = leb 3 (byte bs 0)

unfoldable pub arc_place : List ℕ → ℕ → ℕ → ℕ
arc_place bs b zero = location_place b (byte bs (b + 2))
arc_place bs b (suc e) = arc_place bs b e + arc_length (budgeted bs) (drop (arc_place bs b e) bs)

-- ## What the law says

-- component C stands at b in the bytes, whole
pub record ComponentAt (bs : List ℕ) (b : ℕ) (C : Component) : Type 0 where
  pub fits : b + 7 ≤ length bs
  pub locations : byte bs (b + 2) ≡ length C.locations
  pub initial : byte bs (b + 3) ≡ C.initial
  pub clocks : byte bs (b + 4) ≡ C.clocks
  pub variables : byte bs (b + 5) ≡ C.variables
  pub arcs : byte bs (b + 6) ≡ length C.arcs
  pub location_fits : (l : ℕ) → l < length C.locations → location_place b l + 3 ≤ length bs
  pub location : (l : ℕ) → l < length C.locations → location_at (drop (location_place b l) bs) ≡ location_of C l
  pub arc_fits : (e : ℕ) → e < length C.arcs → arc_place bs b e + arc_length (budgeted bs) (drop (arc_place bs b e) bs) ≤ length bs
  pub arc : (e : ℕ) → e < length C.arcs → arc_at (budgeted bs) (drop (arc_place bs b e) bs) ≡ arc_of C e

-- the table stands in the bytes, whole
pub record Located (bs : List ℕ) (t : Read) : Type 0 where
  pub version : byte bs 0 ≡ t.version
  pub count : byte bs 3 ≡ size t.table
  pub channels : byte bs 4 ≡ t.table.channels
  pub horizon : word bs 5 ≡ t.horizon
  -- in version 2 the bands stand after the header
  pub bands_fit : 2 ≤ t.version → 7 + t.table.channels ≤ length bs
  pub band : 2 ≤ t.version → (k : ℕ) → k < t.table.channels → byte bs (7 + k) ≡ band_of t.table k
  pub component : (c : ℕ) → c < size t.table → ComponentAt bs (start_of bs c) (component_of t.table c)

-- ## The table that stands in the bytes

-- what was read; a refusal has read nothing
abbrev pub read_from : Answer Read → Read
read_from (accepted t) = t
read_from (refused n c) = record { version = 0; table = record { channels = 0; bands = []; components = [] }; horizon = 0 }

unfoldable pub read_of : List ℕ → Read
unfolding read_table
read_of bs = read_from (read_table bs)

abbrev pub is_accepted : {A : Type 0} → Answer A → Bool
is_accepted (accepted a) = true
is_accepted (refused n c) = false

-- the bytes pass checks 1 to 6
unfoldable pub Valid : List ℕ → Type 0
unfolding read_table
Valid bs = is_accepted (read_table bs) ≡ true

-- component c of the table that the bytes are
abbrev pub component_in : List ℕ → ℕ → Component
component_in bs c = component_of (read_of bs).table c
