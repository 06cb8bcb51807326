-- Document 01, "The table": what a table is. Its lists have no padding.
use Rattle.std.specs.Prelude.{List, [], ℕ, leb, length, get_or}
use Rattle.std.proofs.Math.Option.{Option, none}
use Rattle.model.specs.declared.Action.TheVariants.{Internal}
use Rattle.model.specs.declared.Edge.{Edge}
use Rattle.model.specs.declared.Location.{Location}
use Rattle.model.specs.declared.ClockGuard.{ClockGuard}
use Rattle.model.specs.declared.DataGuard.{DataGuard}
use Rattle.model.specs.declared.Update.{Update}
use Rattle.model.specs.declared.Pair.{Pair}
use Rattle.model.specs.declared.Sizes.{Sizes}
pub use Rattle.model.specs.declared.TableHeader.{TableHeader}

-- An edge with the lists beside it: clock bounds, data bounds, and the items: the updates of an internal edge, the pairs of a receive edge.
pub record Arc : Type 0 where
  pub edge : Edge
  -- the work budget of a version 3 table; none in the others
  pub budget : Option ℕ
  pub clock_guards : List ClockGuard
  pub data_guards : List DataGuard
  pub updates : List Update
  pub pairs : List Pair

-- "Then each component": an automaton. Its numbers of locations and edges are the lengths of its lists.
pub record Component : Type 0 where
  pub initial : ℕ
  pub clocks : ℕ
  pub variables : ℕ
  pub locations : List Location
  pub arcs : List Arc

-- The network. The horizon stands beside it, not in it. Each channel has a band (document 02, wish 2); in version 1 all are on band 0.
pub record Table : Type 0 where
  pub channels : ℕ
  pub bands : List ℕ
  pub components : List Component

-- What a table's bytes say: their version, the network and the horizon H.
pub record Read : Type 0 where
  pub version : ℕ
  pub table : Table
  pub horizon : ℕ

-- what the header tells of the components: edges have a budget in "Table version 3"
abbrev pub header_of : Read → TableHeader
header_of t = record { channels = t.table.channels; budgets = leb 3 t.version }

-- what the ranges of a component's numbers depend on
abbrev pub sizes_of : TableHeader → Component → Sizes
sizes_of h C =
    record { channels = h.channels; locations = length C.locations; clocks = C.clocks; variables = C.variables; budgets = h.budgets }

-- "Everything is numbered from 0." What stands at a number that is absent:
abbrev pub no_location : Location
no_location = record { clock = 0; bound = 0 }

abbrev pub no_arc : Arc
no_arc =
    record {
      edge = record { source = 0; destination = 0; mask = 0; action = Internal };
      budget = none;
      clock_guards = [];
      data_guards = [];
      updates = [];
      pairs = [];
    }

abbrev pub no_component : Component
no_component = record { initial = 0; clocks = 0; variables = 0; locations = []; arcs = [] }

-- the band of a channel
abbrev pub band_of : Table → ℕ → ℕ
band_of T k = get_or T.bands k 0

abbrev pub size : Table → ℕ
size T = length T.components

abbrev pub component_of : Table → ℕ → Component
component_of T c = get_or T.components c no_component

abbrev pub location_of : Component → ℕ → Location
location_of C l = get_or C.locations l no_location

abbrev pub arc_of : Component → ℕ → Arc
arc_of C e = get_or C.arcs e no_arc
