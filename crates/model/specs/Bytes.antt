-- Document 01, "The table": the bytes of a table.
use Rattle.std.specs.Prelude.{cond, List, [], ◌∷◌, ◌++◌, ℕ, ◌+◌, ◌-◌, leb, ℤ, pos, negsuc, length}
use Rattle.std.proofs.Math.Option.{Option, none, some}
use Rattle.model.specs.declared.Action.{Action}
use Rattle.model.specs.declared.Action.TheVariants.{Internal, Send, Receive}
use Rattle.model.specs.declared.Location.{Location}
use Rattle.model.specs.declared.ClockGuard.{ClockGuard}
use Rattle.model.specs.declared.DataGuard.{DataGuard}
use Rattle.model.specs.declared.Update.{Update}
use Rattle.model.specs.declared.Pair.{Pair}
use Rattle.model.specs.Lists.{be16, each}
use Rattle.model.specs.Table.{Arc, Component, Read}

-- "two's complement": the number of the two bytes
abbrev pub unsigned : ℤ → ℕ
unsigned (pos n) = n
unsigned (negsuc n) = 65535 - n

-- "Location, 3 bytes: clock, and bound q"
abbrev pub location_bytes : Location → List ℕ
location_bytes l = l.clock ∷ be16 l.bound

-- "Clock bound, 5 bytes: clock, low, high"
abbrev pub clock_guard_bytes : ClockGuard → List ℕ
clock_guard_bytes g = g.clock ∷ be16 g.low ++ be16 g.high

-- "Data bound, 5 bytes: variable, low, high, two's complement."
abbrev pub data_guard_bytes : DataGuard → List ℕ
data_guard_bytes g = g.variable ∷ be16 (unsigned g.low) ++ be16 (unsigned g.high)

-- "updates of 4 bytes: variable, 0 set or 1 add, signed number"
abbrev pub update_bytes : Update → List ℕ
update_bytes u = u.variable ∷ cond u.adds 1 0 ∷ be16 (unsigned u.number)

-- "pairs of channel and location"
abbrev pub pair_bytes : Pair → List ℕ
pair_bytes q = q.channel ∷ q.location ∷ []

-- "internal (0), send (1) or receive (2)"
abbrev pub kind_of : Action → ℕ
kind_of Internal = 0
kind_of (Send k) = 1
kind_of Receive = 2

-- "Items. Internal: updates. Send: exactly one item, the channel. Receive: pairs."
abbrev pub item_count : Arc → Action → ℕ
item_count a Internal = length a.updates
item_count a (Send k) = 1
item_count a Receive = length a.pairs

unfoldable pub item_bytes : Arc → Action → List ℕ
unfolding each
item_bytes a Internal = each update_bytes a.updates
item_bytes a (Send k) = k ∷ []
item_bytes a Receive = each pair_bytes a.pairs

-- "7 bytes: kind, source, destination, reset mask, counts of clock bounds, data bounds and items."
abbrev pub arc_head : Arc → List ℕ
arc_head a =
    kind_of a.edge.action ∷ a.edge.source ∷ a.edge.destination ∷ a.edge.mask ∷ length a.clock_guards
    ∷ length a.data_guards
    ∷ item_count a a.edge.action
    ∷ []

-- "a 2-byte budget (0 to 60,000), a part of its own, after each edge's 7 bytes", in version 3
abbrev pub budget_bytes : Option ℕ → List ℕ
budget_bytes none = []
budget_bytes (some b) = be16 b

unfoldable pub arc_bytes : Arc → List ℕ
unfolding each item_bytes
arc_bytes a = arc_head a ++ budget_bytes a.budget ++ each clock_guard_bytes a.clock_guards ++ each data_guard_bytes a.data_guards ++ item_bytes a a.edge.action

-- "locations; initial location; clocks; variables; edges; then locations, then edges"
unfoldable pub body_bytes : Component → List ℕ
unfolding each arc_bytes
body_bytes C =
    (length C.locations ∷ C.initial ∷ C.clocks ∷ C.variables ∷ length C.arcs ∷ [])
    ++ each location_bytes C.locations
    ++ each arc_bytes C.arcs

-- "each component: its length, these two bytes included (2 bytes)"
unfoldable pub component_bytes : Component → List ℕ
unfolding body_bytes
component_bytes C = be16 (2 + length (body_bytes C)) ++ body_bytes C

-- Document 02, wish 2: "Table version 2 has, after the header, one byte per channel with its band". Version 1 has none.
abbrev pub band_bytes : ℕ → List ℕ → List ℕ
band_bytes version bands = cond (leb 2 version) bands []

-- "Header, 7 bytes: version 1; total length (2 bytes); components; channels; horizon H (2 bytes)." In version 2 the bands follow,
-- then the components; the length counts all of it.
unfoldable pub table_bytes : Read → List ℕ
unfolding each component_bytes
table_bytes t =
    let rest = band_bytes t.version t.table.bands ++ each component_bytes t.table.components in
    (t.version ∷ be16 (7 + length rest)) ++ (length t.table.components ∷ t.table.channels ∷ be16 t.horizon) ++ rest
