-- Document 02, wish 4, "The slot planner": the table of a plan, and the call that writes it.
use Rattle.std.specs.Prelude.{Bool, cond, ◌&&◌, List, [], ◌∷◌, map, ℕ, suc, ◌+◌, ◌-◌, ◌*◌, ◌≤◌, ◌<◌, leb, ltb, length, replicate}
use Rattle.std.proofs.Math.Option.{none}
use Rattle.model.specs.declared.Action.{Action}
use Rattle.model.specs.declared.Action.TheVariants.{Internal, Send, Receive}
use Rattle.model.specs.declared.Location.{Location}
use Rattle.model.specs.declared.ClockGuard.{ClockGuard}
use Rattle.model.specs.declared.Pair.{Pair}
use Rattle.model.specs.Lists.{below, snoc}
use Rattle.model.specs.Table.{Arc, Component, Read}
use Rattle.model.specs.Bytes.{table_bytes}
use Rattle.model.specs.Calls.{Call, refusing, laid}
use Rattle.slot_plan.specs.declared.Slots.{Slots}

-- ## The four numbers

-- n, s, g and p, for a caller who has them one by one
abbrev pub slots_of : ℕ → ℕ → ℕ → ℕ → Slots
slots_of probes slot guard period = record { probes = probes; slot = slot; guard = guard; period = period }

-- "1 to 7", "1 to 1,000"
abbrev pub in_range : ℕ → ℕ → Bool
in_range most number = leb 1 number && leb number most

module _ (slots : Slots) where
  -- "s + 2 × g"
  abbrev pub width : ℕ
  width = slots.slot + 2 * slots.guard

  -- where slot i begins, its guards included: ticks from the start of a period on
  abbrev pub begins : ℕ → ℕ
  begins i = i * width

  -- "Probe i, from 0, sends from i × (s + 2 × g) + g to s ticks later"
  abbrev pub send_from : ℕ → ℕ
  send_from i = begins i + slots.guard

  abbrev pub send_to : ℕ → ℕ
  send_to i = send_from i + slots.slot

  -- "the hub, component n, listens to it g ticks longer on both sides": from `begins i` on, to here
  abbrev pub hear_to : ℕ → ℕ
  hear_to i = send_to i + slots.guard

  -- "Refusal 18 is given for a number outside its range or n × (s + 2 × g) ≥ p": here for none
  abbrev pub plannable : Bool
  plannable =
      in_range 7 slots.probes && in_range 1000 slots.slot && in_range 1000 slots.guard && leb slots.period 30000
      && ltb (slots.probes * width) slots.period

-- the same as facts (the law `fits_is`)
pub record Fits (slots : Slots) : Type 0 where
  pub least_probes : 1 ≤ slots.probes
  pub most_probes : slots.probes ≤ 7
  pub least_slot : 1 ≤ slots.slot
  pub most_slot : slots.slot ≤ 1000
  pub least_guard : 1 ≤ slots.guard
  pub most_guard : slots.guard ≤ 1000
  pub most_period : slots.period ≤ 30000
  pub room : slots.probes * width slots < slots.period

-- ## The parts of the table

-- "each location's bound is its window's end"
abbrev pub until : ℕ → Location
until end = record { clock = 0; bound = end }

-- "each edge has one clock bound with no high"
abbrev pub passing : ℕ → ℕ → ℕ → Action → ℕ → List Pair → Arc
passing source destination mask action low pairs =
    record {
      edge = record { source = source; destination = destination; mask = mask; action = action };
      budget = none;
      clock_guards = record { clock = 0; low = low; high = 65535 } ∷ [];
      data_guards = [];
      updates = [];
      pairs = pairs;
    }

-- "on channel i"
abbrev pub sending_arc : ℕ → ℕ → Arc
sending_arc i low = passing 0 1 0 (Send i) low []

-- "and a message or a timeout leads to the same next location"
abbrev pub hearing_arc : ℕ → ℕ → Arc
hearing_arc i low = passing i (suc i) 0 Receive low (record { channel = i; location = suc i } ∷ [])

-- "all rest by an internal edge .. and begin anew"; the clock is "reset only there"
abbrev pub resting_arc : ℕ → ℕ → Arc
resting_arc source low = passing source 0 1 Internal low []

-- ## The table

module _ (slots : Slots) where
  abbrev pub send_arc : ℕ → Arc
  send_arc i = sending_arc i (send_from slots i)

  abbrev pub hear_arc : ℕ → Arc
  hear_arc i = hearing_arc i (begins slots i)

  -- "with low p − 1 and end p"
  abbrev pub rest_arc : ℕ → Arc
  rest_arc source = resting_arc source (slots.period - 1)

  -- "Each component has one clock .., no variable, one location with one edge for each slot of its own in order, then one for the rest"
  abbrev pub resting : List Location → List Arc → Component
  resting locations arcs =
      record {
        initial = 0;
        clocks = 1;
        variables = 0;
        locations = snoc locations (until slots.period);
        arcs = snoc arcs (rest_arc (length locations));
      }

  -- probe i has one slot of its own, the hub one for each probe
  abbrev pub probe : ℕ → Component
  probe i = resting (until (send_to slots i) ∷ []) (send_arc i ∷ [])

  abbrev pub hub : Component
  hub = resting (map (λ i. until (hear_to slots i)) (below slots.probes)) (map hear_arc (below slots.probes))

  -- "a version 1 table with n channels and H = 2 × p"; in version 1 all channels are on band 0
  abbrev pub plan_table : Read
  plan_table =
      record {
        version = 1;
        table = record {
          channels = slots.probes;
          bands = replicate slots.probes 0;
          components = snoc (map probe (below slots.probes)) hub;
        };
        horizon = 2 * slots.period;
      }

-- ## The call

-- The call `plan`: "Refusal 18 is given for .., before 13, and for nothing else." Its size is the number of bytes.
unfoldable pub plan_call : Slots → List ℕ → Call
unfolding table_bytes
plan_call slots lent =
    let bytes = table_bytes (plan_table slots) in
    cond (plannable slots) (laid (length bytes) bytes lent) (refusing 18 255 lent)
