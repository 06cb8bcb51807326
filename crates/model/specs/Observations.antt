-- Document 01, "The run", and document 02, wish 9: an observation's 36 bytes read back, so that what is said of a run's observations, and of the
-- ticks in them, is said of the bytes it wrote.
use Rattle.std.specs.Prelude.{◌≡◌, List, ℕ, ◌+◌, ◌*◌, drop}
use Rattle.model.specs.declared.Verdict.TheVariants.{Accepted}
use Rattle.model.specs.Lists.{accepted}
use Rattle.model.specs.Table.{Table, Read, component_of}
use Rattle.model.specs.Reader.{byte, word, complement, read_table}
use Rattle.model.specs.Places.{list_at}
use Rattle.model.specs.Schedule.{Passage}
use Rattle.model.specs.Checks.{accepted_schedule_at, accepted_schedule_of}
use Rattle.model.specs.Network.{Observation}
use Rattle.model.specs.Run.{setting_at, setting_of, Run, run, observation_width}
use Rattle.model.specs.Calls.{RunCall, run_call_at, run_call}

-- the number in the first four bytes, big-endian
abbrev pub wide : List ℕ → ℕ
wide bs = word bs 0 * 65536 + word bs 2

-- "component, edge, location, 0, tick (4 bytes), four clocks grown by n (4 each), four variables (2 each); absent ones 0": as many of the four
-- as the component has
unfoldable pub read_observation : Table → List ℕ → Observation
unfolding list_at
read_observation T bs =
    record {
      component = byte bs 0;
      edge = byte bs 1;
      location = byte bs 2;
      tick = wide (drop 4 bs);
      clocks = list_at wide 4 (component_of T (byte bs 0)).clocks (drop 8 bs);
      values = list_at (λ b. complement (word b 0)) 2 (component_of T (byte bs 0)).variables (drop 24 bs);
    }

-- so many observations, one after the other
abbrev pub read_observations : Table → ℕ → List ℕ → List Observation
read_observations T n bs = list_at (read_observation T) observation_width n bs

-- the ticks in them: "after the old 32 comes the tick at which the node's previous work finished"
abbrev pub read_previous : ℕ → List ℕ → List ℕ
read_previous n bs = list_at (λ b. wide (drop 32 b)) observation_width n bs

-- so many observations, read back, are those of a run, with their ticks
abbrev pub ReadAs : Table → ℕ → List ℕ → Run → Type 0
ReadAs T n bs s = (read_observations T n bs ≡ s.observations) × (read_previous n bs ≡ s.previous)

-- What the call `run` has written, read back, are the observations of the run: those of which demand 3 speaks, with the ticks of which `Finishes`
-- speaks.
abbrev pub ObservationsRead : List ℕ → List ℕ → List ℕ → Type 0
ObservationsRead table choices lent =
    (t : Read) (S : List Passage) → read_table table ≡ accepted t → accepted_schedule_of t ≡ accepted S → (run_call table choices lent).verdict ≡ Accepted
    → ReadAs t.table (run_call table choices lent).size (run_call table choices lent).lent (run (setting_of t S) choices).state

-- The same of the call `run_apart`: the observations of the run with these offsets.
abbrev pub ObservationsReadAt : ℕ → List ℕ → List ℕ → List ℕ → List ℕ → Type 0
ObservationsReadAt G table os choices lent =
    (t : Read) (S : List Passage) → read_table table ≡ accepted t → accepted_schedule_at G t ≡ accepted S → (run_call_at G table os choices lent).verdict ≡ Accepted
    → ReadAs t.table (run_call_at G table os choices lent).size (run_call_at G table os choices lent).lent (run (setting_at t t.horizon S os) choices).state
