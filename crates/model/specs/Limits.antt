-- Document 01, "The table": the ranges of its numbers. What "a network in the paper's limits" is, without the reader.
use Rattle.std.specs.Prelude.{◌≡◌, ◌⊎◌, Bool, true, false, List, [], ◌∷◌, ℕ, ◌^◌, ◌≤◌, ◌<◌, ℤ, pos, negsuc, length, replicate}
use Rattle.std.proofs.Math.Option.{Option, none as no_budget, some as a_budget}
use Rattle.model.specs.declared.Action.{Action}
use Rattle.model.specs.declared.Action.TheVariants.{Internal, Send, Receive}
use Rattle.model.specs.declared.Location.{Location}
use Rattle.model.specs.declared.ClockGuard.{ClockGuard}
use Rattle.model.specs.declared.DataGuard.{DataGuard}
use Rattle.model.specs.declared.Update.{Update}
use Rattle.model.specs.declared.Pair.{Pair}
use Rattle.model.specs.declared.Sizes.{Sizes}
use Rattle.model.specs.Lists.{All}
use Rattle.model.specs.Table.{Arc, Component, Read, TableHeader, header_of, sizes_of}
use Rattle.model.specs.Bytes.{table_bytes}

-- "−32,768 to 32,767"
abbrev pub Int16 : ℤ → Type 0
Int16 (pos n) = n < 32768
Int16 (negsuc n) = n < 32768

-- "Location, 3 bytes: clock, and bound q (0 to 60,000)."
pub record LocationIn (s : Sizes) (l : Location) : Type 0 where
  pub clock : l.clock < s.clocks
  pub bound : l.bound ≤ 60000

-- "Clock bound: clock, low (0 to 60,000), high (0 to 60,000, or 65,535 for none)."
pub record ClockGuardIn (s : Sizes) (g : ClockGuard) : Type 0 where
  pub clock : g.clock < s.clocks
  pub low : g.low ≤ 60000
  pub high : (g.high ≤ 60000) ⊎ (g.high ≡ 65535)

-- "Data bound: variable, low, high, two's complement."
pub record DataGuardIn (s : Sizes) (g : DataGuard) : Type 0 where
  pub variable : g.variable < s.variables
  pub low : Int16 g.low
  pub high : Int16 g.high

-- "updates: variable, 0 set or 1 add, signed number"
pub record UpdateIn (s : Sizes) (u : Update) : Type 0 where
  pub variable : u.variable < s.variables
  pub number : Int16 u.number

-- "pairs of channel and location"
pub record PairIn (s : Sizes) (q : Pair) : Type 0 where
  pub channel : q.channel < s.channels
  pub location : q.location < s.locations

-- 6. "Does no receive edge list a channel twice?": each channel differs from those after it
pub data Distinct : List Pair → Type 0 where
  none : Distinct []
  more : {q : Pair} {qs : List Pair} → All (λ p. p.channel ≡ q.channel → ⊥) qs → Distinct qs → Distinct (q ∷ qs)

-- "Internal: 0 to 4 updates", data bounds 0 to 4
pub record InternalIn (s : Sizes) (a : Arc) : Type 0 where
  pub guards : length a.data_guards ≤ 4
  pub count : length a.updates ≤ 4
  pub updates : All (UpdateIn s) a.updates
  pub pairs : a.pairs ≡ []

-- "Send: exactly one item, 1 byte, the channel", data bounds 0 to 4
pub record SendIn (s : Sizes) (k : ℕ) (a : Arc) : Type 0 where
  pub guards : length a.data_guards ≤ 4
  pub channel : k < s.channels
  pub updates : a.updates ≡ []
  pub pairs : a.pairs ≡ []

-- "Receive: 1 to 8 pairs of channel and location", data bounds "0 for receive"
pub record ReceiveIn (s : Sizes) (a : Arc) : Type 0 where
  pub guards : a.data_guards ≡ []
  pub least : 1 ≤ length a.pairs
  pub most : length a.pairs ≤ 8
  pub pairs : All (PairIn s) a.pairs
  pub distinct : Distinct a.pairs
  pub updates : a.updates ≡ []

abbrev pub ActionIn : Sizes → Arc → Action → Type 0
ActionIn s a Internal = InternalIn s a
ActionIn s a (Send k) = SendIn s k a
ActionIn s a Receive = ReceiveIn s a

-- "a 2-byte budget (0 to 60,000)" where edges have one
abbrev pub BudgetIn : Bool → Option ℕ → Type 0
BudgetIn true no_budget = ⊥
BudgetIn true (a_budget b) = b ≤ 60000
BudgetIn false no_budget = Unit {0}
BudgetIn false (a_budget b) = ⊥

-- "kind, source, destination, reset mask (bit i for clock i), counts of clock bounds (0 to 4), data bounds and items"
pub record ArcIn (s : Sizes) (a : Arc) : Type 0 where
  pub budget : BudgetIn s.budgets a.budget
  pub source : a.edge.source < s.locations
  pub destination : a.edge.destination < s.locations
  pub mask : a.edge.mask < 2 ^ s.clocks
  pub count : length a.clock_guards ≤ 4
  pub clock_guards : All (ClockGuardIn s) a.clock_guards
  pub data_guards : All (DataGuardIn s) a.data_guards
  pub action : ActionIn s a a.edge.action

-- "locations 1 to 16; initial location; clocks 1 to 4; variables 0 to 4; edges 1 to 32"
pub record ComponentIn (header : TableHeader) (C : Component) : Type 0 where
  pub least_locations : 1 ≤ length C.locations
  pub most_locations : length C.locations ≤ 16
  pub initial : C.initial < length C.locations
  pub least_clocks : 1 ≤ C.clocks
  pub most_clocks : C.clocks ≤ 4
  pub variables : C.variables ≤ 4
  pub least_arcs : 1 ≤ length C.arcs
  pub most_arcs : length C.arcs ≤ 32
  pub locations : All (LocationIn (sizes_of header C)) C.locations
  pub arcs : All (ArcIn (sizes_of header C)) C.arcs

-- "one byte per channel with its band, 0 to 3"; "Version 1 tables have all channels on band 0"
pub record BandsIn (version channels : ℕ) (bands : List ℕ) : Type 0 where
  pub count : length bands ≡ channels
  pub most : All (λ b. b ≤ 3) bands
  pub first : version < 2 → bands ≡ replicate channels 0

-- "components (nodes) 1 to 8; channels 0 to 16; horizon H, 1 to 60,000", and at most 8,192 bytes
pub record InLimits (t : Read) : Type 0 where
  pub least_version : 1 ≤ t.version
  pub most_version : t.version ≤ 3
  pub bands : BandsIn t.version t.table.channels t.table.bands
  pub least_components : 1 ≤ length t.table.components
  pub most_components : length t.table.components ≤ 8
  pub channels : t.table.channels ≤ 16
  pub least_horizon : 1 ≤ t.horizon
  pub most_horizon : t.horizon ≤ 60000
  pub bytes : length (table_bytes t) ≤ 8192
  pub components : All (ComponentIn (header_of t)) t.table.components
