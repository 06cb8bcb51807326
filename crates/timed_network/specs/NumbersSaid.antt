-- What the answers of the exported calls are, spelt out without the names of `Numbers` and `SiteNumbers`: each number of the struct, so that a field less in
-- one of these, a hypothesis more, or a field of the struct that no contract names is refused.
use Rattle.std.specs.Prelude.{◌≡◌, List, ℕ}
use Rattle.model.specs.Calls.{RunCall, verdict_of, number_of, concerned_of, end_number, end_node}
use Rattle.model.specs.EdgeChoice.{EdgeChoiceCall}
use Rattle.model.specs.Reasons.{ReasonsCall}
use Rattle.model.specs.Positions.{PositionsCall}
use Rattle.recurrence.specs.Recurrence.{RecurrenceCall}
use Rattle.simulation.specs.Simulated.{SimulateCall}
use Rattle.refusal_place.specs.declared.Place.{Place}
use Rattle.timed_network.specs.declared.RunNumbers.{RunNumbers}
use Rattle.timed_network.specs.declared.EdgeChoiceNumbers.{EdgeChoiceNumbers}
use Rattle.opening_place.specs.declared.RefusedOpening.{RefusedOpening}
use Rattle.timed_network.specs.declared.places.PlaceNumbers.{PlaceNumbers}
use Rattle.timed_network.specs.declared.places.OpeningNumbers.{OpeningNumbers}
use Rattle.timed_network.specs.declared.edge_reasons.ReasonNumbers.{ReasonNumbers}
use Rattle.timed_network.specs.declared.component_positions.PositionNumbers.{PositionNumbers}
use Rattle.timed_network.specs.declared.repetition.PeriodNumbers.{PeriodNumbers}
use Rattle.timed_network.specs.declared.long_runs.RunToNumbers.{RunToNumbers}
use Rattle.timed_network.specs.declared.simulated.SimulationNumbers.{SimulationNumbers}
use Rattle.model.specs.Lists.{Answer}
use Rattle.site.specs.Airtime.{Load}
use Rattle.site.specs.Lent.{horizon_of, airtime_of}
use Rattle.timed_network.specs.declared.sites.AirtimeNumbers.{AirtimeNumbers}
use Rattle.timed_network.specs.Numbers.{NumbersOf, RunToNumbersOf, EdgeNumbersOf, ReasonNumbersOf, PositionNumbersOf, PeriodNumbersOf, SimulationNumbersOf, PlaceNumbersOf, OpeningNumbersOf}
use Rattle.timed_network.specs.SiteNumbers.{AirtimeNumbersOf}

pub numbers_say : (call : RunCall) (r : RunNumbers) (later : List ℕ) → NumbersOf call r later
    → (r ≡ record { number = number_of call.verdict; component = concerned_of call.verdict; end = end_number call.end; node = end_node call.end; tick = call.tick; used = call.used; size = call.size }) × (later ≡ call.lent)
numbers_say call r later d = (λ i. record { number = d.number i; component = d.component i; end = d.end i; node = d.node i; tick = d.tick i; used = d.used i; size = d.size i }, d.lent)

pub run_to_numbers_say : (call : RunCall) (r : RunToNumbers) (later : List ℕ) → RunToNumbersOf call r later
    → (r ≡ record { number = number_of call.verdict; component = concerned_of call.verdict; end = end_number call.end; node = end_node call.end; tick = call.tick; used = call.used; size = call.size }) × (later ≡ call.lent)
run_to_numbers_say call r later d = (λ i. record { number = d.number i; component = d.component i; end = d.end i; node = d.node i; tick = d.tick i; used = d.used i; size = d.size i }, d.lent)

pub edge_numbers_say : (call : EdgeChoiceCall) (r : EdgeChoiceNumbers) → EdgeNumbersOf call r
    → r ≡ record { number = number_of call.verdict; component = concerned_of call.verdict; taken = call.taken; edge = call.edge; ready = call.ready; end = call.end; looked = call.looked }
edge_numbers_say call r d = λ i. record { number = d.number i; component = d.component i; taken = d.taken i; edge = d.edge i; ready = d.ready i; end = d.end i; looked = d.looked i }

pub reason_numbers_say : (call : ReasonsCall) (r : ReasonNumbers) (later : List ℕ) → ReasonNumbersOf call r later
    → (r ≡ record { number = number_of call.verdict; component = concerned_of call.verdict; passage = call.passage; size = call.size }) × (later ≡ call.lent)
reason_numbers_say call r later d = (λ i. record { number = d.number i; component = d.component i; passage = d.passage i; size = d.size i }, d.lent)

pub position_numbers_say : (call : PositionsCall) (r : PositionNumbers) (later : List ℕ) → PositionNumbersOf call r later
    → (r ≡ record { number = number_of call.verdict; component = concerned_of call.verdict; read = call.read }) × (later ≡ call.lent)
position_numbers_say call r later d = (λ i. record { number = d.number i; component = d.component i; read = d.read i }, d.lent)

pub period_numbers_say : (call : RecurrenceCall) (r : PeriodNumbers) → PeriodNumbersOf call r
    → r ≡ record { number = number_of call.verdict; component = concerned_of call.verdict; found = call.found; from = call.from; to = call.to }
period_numbers_say call r d = λ i. record { number = d.number i; component = d.component i; found = d.found i; from = d.from i; to = d.to i }

pub simulation_numbers_say : (call : SimulateCall) (r : SimulationNumbers) → SimulationNumbersOf call r
    → r ≡ record { number = number_of call.verdict; component = concerned_of call.verdict; late = call.late; nodes = call.nodes; state = call.draw }
simulation_numbers_say call r d = λ i. record { number = d.number i; component = d.component i; late = d.late i; nodes = d.nodes i; state = d.state i }

pub place_numbers_say : (place : Place) (r : PlaceNumbers) → PlaceNumbersOf place r
    → r ≡ record { number = place.number; component = place.component; part = place.part; edge = place.edge; index = place.index; unbounded = place.unbounded; start = place.start; offset = place.offset; width = place.width; value = place.value; least = place.least; limit = place.limit }
place_numbers_say place r d = λ i. record { number = d.number i; component = d.component i; part = d.part i; edge = d.edge i; index = d.index i; unbounded = d.unbounded i; start = d.start i; offset = d.offset i; width = d.width i; value = d.value i; least = d.least i; limit = d.limit i }

pub opening_numbers_say : (opening : RefusedOpening) (r : OpeningNumbers) → OpeningNumbersOf opening r
    → r ≡ record { number = opening.number; component = opening.component; leaving = opening.leaving; blocked = opening.blocked; windowless = opening.windowless; edge = opening.edge; update = opening.update; passage = opening.passage; tick = opening.tick; entry = record { component = opening.component; location = opening.location; clocks = opening.clocks; values = opening.values } }
opening_numbers_say opening r d = λ i. record { number = d.number i; component = d.component i; leaving = d.leaving i; blocked = d.blocked i; windowless = d.windowless i; edge = d.edge i; update = d.update i; passage = d.passage i; tick = d.tick i; entry = record { component = d.enters i; location = d.location i; clocks = d.clocks i; values = d.values i } }

pub airtime_numbers_say : (load : Answer Load) (r : AirtimeNumbers) → AirtimeNumbersOf load r
    → r ≡ record { number = number_of (verdict_of load); component = concerned_of (verdict_of load); horizon = horizon_of load; airtime = airtime_of load }
airtime_numbers_say load r d = λ i. record { number = d.number i; component = d.component i; horizon = d.horizon i; airtime = d.airtime i }
