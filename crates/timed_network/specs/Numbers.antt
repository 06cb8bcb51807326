-- The answers of the exported calls `run`, `run_to`, `edge_choice`, `reasons`, `positions`, `period`, `simulate`, `refusal_place` and `refused_opening`,
-- held against their definitions.
use Rattle.std.specs.Prelude.{◌≡◌, List, ℕ}
use Rattle.model.specs.Window.{Entry}
use Rattle.model.specs.Calls.{RunCall, number_of, concerned_of, end_number, end_node}
use Rattle.model.specs.EdgeChoice.{EdgeChoiceCall}
use Rattle.model.specs.Reasons.{ReasonsCall}
use Rattle.model.specs.Positions.{PositionsCall}
use Rattle.recurrence.specs.Recurrence.{RecurrenceCall}
use Rattle.simulation.specs.Simulated.{SimulateCall}
use Rattle.refusal_place.specs.declared.Place.{Place}
use Rattle.timed_network.specs.declared.RunNumbers.{RunNumbers}
use Rattle.timed_network.specs.declared.EntryNumbers.{EntryNumbers}
use Rattle.timed_network.specs.declared.EdgeChoiceNumbers.{EdgeChoiceNumbers}
use Rattle.opening_place.specs.declared.RefusedOpening.{RefusedOpening}
use Rattle.timed_network.specs.declared.places.PlaceNumbers.{PlaceNumbers}
use Rattle.timed_network.specs.declared.places.OpeningNumbers.{OpeningNumbers}
use Rattle.timed_network.specs.declared.edge_reasons.ReasonNumbers.{ReasonNumbers}
use Rattle.timed_network.specs.declared.component_positions.PositionNumbers.{PositionNumbers}
use Rattle.timed_network.specs.declared.repetition.PeriodNumbers.{PeriodNumbers}
use Rattle.timed_network.specs.declared.long_runs.RunToNumbers.{RunToNumbers}
use Rattle.timed_network.specs.declared.simulated.SimulationNumbers.{SimulationNumbers}

-- every number of the answer, the verdict as two, and every lent byte afterwards
pub record NumbersOf (call : RunCall) (r : RunNumbers) (later : List ℕ) : Type 0 where
  pub number : r.number ≡ number_of call.verdict
  pub component : r.component ≡ concerned_of call.verdict
  pub end : r.end ≡ end_number call.end
  pub node : r.node ≡ end_node call.end
  pub tick : r.tick ≡ call.tick
  pub used : r.used ≡ call.used
  pub size : r.size ≡ call.size
  pub lent : later ≡ call.lent

-- the same of a run to a horizon
pub record RunToNumbersOf (call : RunCall) (r : RunToNumbers) (later : List ℕ) : Type 0 where
  pub number : r.number ≡ number_of call.verdict
  pub component : r.component ≡ concerned_of call.verdict
  pub end : r.end ≡ end_number call.end
  pub node : r.node ≡ end_node call.end
  pub tick : r.tick ≡ call.tick
  pub used : r.used ≡ call.used
  pub size : r.size ≡ call.size
  pub lent : later ≡ call.lent

-- the entry that is asked about; which edge is taken does not depend on its tick
abbrev pub entry_of : EntryNumbers → Entry
entry_of asked = record { location = asked.location; tick = 0; clocks = asked.clocks; values = asked.values }

-- every number of the answer, the verdict as two
pub record EdgeNumbersOf (call : EdgeChoiceCall) (r : EdgeChoiceNumbers) : Type 0 where
  pub number : r.number ≡ number_of call.verdict
  pub component : r.component ≡ concerned_of call.verdict
  pub taken : r.taken ≡ call.taken
  pub edge : r.edge ≡ call.edge
  pub ready : r.ready ≡ call.ready
  pub end : r.end ≡ call.end
  pub looked : r.looked ≡ call.looked

-- every number of the answer, the verdict as two, and every lent byte afterwards
pub record ReasonNumbersOf (call : ReasonsCall) (r : ReasonNumbers) (later : List ℕ) : Type 0 where
  pub number : r.number ≡ number_of call.verdict
  pub component : r.component ≡ concerned_of call.verdict
  pub passage : r.passage ≡ call.passage
  pub size : r.size ≡ call.size
  pub lent : later ≡ call.lent

-- every number of the answer, the verdict as two, and every lent byte afterwards
pub record PositionNumbersOf (call : PositionsCall) (r : PositionNumbers) (later : List ℕ) : Type 0 where
  pub number : r.number ≡ number_of call.verdict
  pub component : r.component ≡ concerned_of call.verdict
  pub read : r.read ≡ call.read
  pub lent : later ≡ call.lent

-- every number of the answer, the verdict as two
pub record PeriodNumbersOf (call : RecurrenceCall) (r : PeriodNumbers) : Type 0 where
  pub number : r.number ≡ number_of call.verdict
  pub component : r.component ≡ concerned_of call.verdict
  pub found : r.found ≡ call.found
  pub from : r.from ≡ call.from
  pub to : r.to ≡ call.to

-- every number of the answer, the verdict as two
pub record SimulationNumbersOf (call : SimulateCall) (r : SimulationNumbers) : Type 0 where
  pub number : r.number ≡ number_of call.verdict
  pub component : r.component ≡ concerned_of call.verdict
  pub late : r.late ≡ call.late
  pub nodes : r.nodes ≡ call.nodes
  pub state : r.state ≡ call.draw

-- every number of a place
pub record PlaceNumbersOf (place : Place) (r : PlaceNumbers) : Type 0 where
  pub number : r.number ≡ place.number
  pub component : r.component ≡ place.component
  pub part : r.part ≡ place.part
  pub edge : r.edge ≡ place.edge
  pub index : r.index ≡ place.index
  pub unbounded : r.unbounded ≡ place.unbounded
  pub start : r.start ≡ place.start
  pub offset : r.offset ≡ place.offset
  pub width : r.width ≡ place.width
  pub value : r.value ≡ place.value
  pub least : r.least ≡ place.least
  pub limit : r.limit ≡ place.limit

-- every number of a refused opening, the component in its entry too
pub record OpeningNumbersOf (opening : RefusedOpening) (r : OpeningNumbers) : Type 0 where
  pub number : r.number ≡ opening.number
  pub component : r.component ≡ opening.component
  pub leaving : r.leaving ≡ opening.leaving
  pub blocked : r.blocked ≡ opening.blocked
  pub windowless : r.windowless ≡ opening.windowless
  pub edge : r.edge ≡ opening.edge
  pub update : r.update ≡ opening.update
  pub passage : r.passage ≡ opening.passage
  pub tick : r.tick ≡ opening.tick
  pub enters : r.entry.component ≡ opening.component
  pub location : r.entry.location ≡ opening.location
  pub clocks : r.entry.clocks ≡ opening.clocks
  pub values : r.entry.values ≡ opening.values
