-- Short ways to write a table down.
use Rattle.std.specs.Prelude.{Bool, List, map, ℕ, ℤ, length, replicate}
use Rattle.std.proofs.Math.Option.{none, some}
use Rattle.model.specs.declared.Action.{Action}
use Rattle.model.specs.declared.Location.{Location}
use Rattle.model.specs.declared.ClockGuard.{ClockGuard}
use Rattle.model.specs.declared.DataGuard.{DataGuard}
use Rattle.model.specs.declared.Update.{Update}
use Rattle.model.specs.declared.Pair.{Pair}
use Rattle.model.specs.Table.{Arc, Component, Read}

abbrev pub location : ℕ → ℕ → Location
location x q = record { clock = x; bound = q }

abbrev pub clock_guard : ℕ → ℕ → ℕ → ClockGuard
clock_guard x low high = record { clock = x; low = low; high = high }

abbrev pub update : ℕ → Bool → ℤ → Update
update v adds n = record { variable = v; adds = adds; number = n }

abbrev pub pair_of : ℕ → ℕ → Pair
pair_of k l = record { channel = k; location = l }

-- source, destination, reset mask, what it does; clock bounds, data bounds, updates, pairs
abbrev pub arc : ℕ → ℕ → ℕ → Action → List ClockGuard → List DataGuard → List Update → List Pair → Arc
arc s d m a cs ds us ps =
    record {
      edge = record { source = s; destination = d; mask = m; action = a };
      budget = none;
      clock_guards = cs;
      data_guards = ds;
      updates = us;
      pairs = ps;
    }

-- initial location, clocks, variables; locations, edges
abbrev pub component : ℕ → ℕ → ℕ → List Location → List Arc → Component
component i x v ls es = record { initial = i; clocks = x; variables = v; locations = ls; arcs = es }

-- version 1: channels, horizon; components
abbrev pub network : ℕ → ℕ → List Component → Read
network k h cs = record { version = 1; table = record { channels = k; bands = replicate k 0; components = cs }; horizon = h }

-- version 2: the channels' bands, horizon; components
abbrev pub banded : List ℕ → ℕ → List Component → Read
banded bs h cs = record { version = 2; table = record { channels = length bs; bands = bs; components = cs }; horizon = h }

-- the same edge with a budget, and a component all of whose edges have it
abbrev pub budgeted : ℕ → Arc → Arc
budgeted b a =
    record { edge = a.edge; budget = some b; clock_guards = a.clock_guards; data_guards = a.data_guards; updates = a.updates; pairs = a.pairs }

abbrev pub all_budgeted : ℕ → Component → Component
all_budgeted b C =
    record { initial = C.initial; clocks = C.clocks; variables = C.variables; locations = C.locations; arcs = map (budgeted b) C.arcs }

-- version 3: the channels' bands, horizon; components whose edges all have a budget
abbrev pub with_budgets : List ℕ → ℕ → List Component → Read
with_budgets bs h cs = record { version = 3; table = record { channels = length bs; bands = bs; components = cs }; horizon = h }
