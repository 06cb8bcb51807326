-- What the code's values are in the words of the definitions, and which bytes an edge can be read from.
use Rattle.std.specs.Prelude.{◌≡◌, Bool, cond, List, [], ◌∷◌, ℕ, suc, ◌+◌, ◌-◌, min, ◌≤◌, ◌<◌, eqb, ltb, ℤ, length, Result, Ok, Err, Some, None}
use Rattle.std.specs.Prelude.{Option as Found}
use Rattle.std.proofs.Math.Option.{Option, none, some}
use Rattle.model.specs.declared.ClockGuard.{ClockGuard}
use Rattle.model.specs.declared.Location.{Location}
use Rattle.model.specs.Lists.{All, Answer, accepted, refused}
use Rattle.model.specs.Table.{Arc, Component, arc_of}
use Rattle.model.specs.Places.{arc_at, arc_place, component_in}
use Rattle.model.specs.Window.{Pick, clock_at, ready_of, past_of, data_holds, first_failing, long_enough, channel_of, in_range}
use Rattle.model.specs.Schedule.{Passage, passage_of}
use Rattle.decoder.specs.Decoded.{Decodable}
use Rattle.window.specs.declared.Entry.{Entry}
use Rattle.window.specs.declared.Choice.{Choice}
use Rattle.window.specs.declared.TakenEdge.{TakenEdge}
use Rattle.window.specs.declared.Standing.{Standing}
use Rattle.window.specs.declared.Standing.TheVariants.{Elsewhere, Blocked, Windowless, Candidate}
use Rattle.window.specs.declared.Unopened.{Unopened}
use Rattle.window.specs.declared.Unopened.TheVariants.{NoWindow, OutOfRange}

-- what clock bounds leave of the delays below p
unfoldable pub past_from : ℕ → List ClockGuard → List ℕ → ℕ
past_from p [] xs = p
past_from p (g ∷ gs) xs = cond (eqb g.high 65535) (past_from p gs xs) (min (suc g.high - clock_at xs g.clock) (past_from p gs xs))

-- an entry with four clocks and four variables, those that the component lacks among them
abbrev pub entry_of : Entry → Rattle.model.specs.Window.Entry
entry_of e = record { location = e.location; tick = e.tick; clocks = e.clocks; values = e.values }

-- the edge that a choice has kept; ready above 65535: none
abbrev pub pick_of : Choice → Option Pick
pick_of k = cond (ltb k.ready 65536) (some (record { edge = k.edge; ready = k.ready; end = k.end })) none

-- the earlier of two, on a tie the first
abbrev pub better_of : Choice → Choice → Choice
better_of best t = cond (ltb t.ready best.ready) t best

-- what an edge is at an entry
abbrev pub standing_of : Location → Rattle.model.specs.Window.Entry → Arc → Standing
standing_of l at a =
    let held = cond (long_enough l a at.clocks) (Candidate (ready_of a.clock_guards at.clocks) (past_of l a.clock_guards at.clocks)) Windowless in
    let left = cond (data_holds a.data_guards at.values) held (Blocked (first_failing a.data_guards at.values)) in
    cond (eqb a.edge.source at.location) left Elsewhere

-- delays of 16 bits, and a window of at least one tick's length
abbrev pub SmallDelays : Standing → Type 0
SmallDelays Elsewhere = Unit {0}
SmallDelays (Blocked j) = Unit {0}
SmallDelays Windowless = Unit {0}
SmallDelays (Candidate ready past) = (ready ≤ 65535) × (past ≤ 65536) × (ready + 1 < past)

-- its place is that of its number, and its numbers are small
abbrev pub Kept : (ℕ → ℕ) → Choice → Type 0
Kept place k = k.ready < 65536 → (k.place ≡ place k.edge) × (k.edge < 256) × (k.end ≤ 65535)

-- a new value of a variable, if it is one
abbrev pub new_of : ℤ → Found ℤ
new_of z = cond (in_range z) (Some z) None

-- what the code has found, as the definitions have it
abbrev pub option_of : {A : Type 0} → Found A → Option A
option_of None = none
option_of (Some x) = some x

-- 255 is no message
abbrev pub message_of : ℕ → Option ℕ
message_of m = cond (eqb m 255) none (some m)

-- the number of the refusal
abbrev pub number_of : Unopened → ℕ
number_of NoWindow = 8
number_of OutOfRange = 9

-- what an opening gives
abbrev pub opening_of : ℕ → Component → Rattle.model.specs.Window.Entry → Result TakenEdge Unopened → Answer Passage
opening_of c C at (Ok t) = accepted (passage_of c at (record { edge = t.edge; ready = t.ready; end = t.end }) (channel_of (arc_of C t.edge)))
opening_of c C at (Err why) = refused (number_of why) c

-- An edge stands at the front, whole, and names clocks and variables that have a place.
pub record ArcReady (b : Bool) (h : List ℕ) : Type 0 where
  pub decodable : Decodable b h
  pub clock_guards : All (λ g. g.clock < 4) (arc_at b h).clock_guards
  pub data_guards : All (λ g. g.variable < 4) (arc_at b h).data_guards
  pub updates : All (λ u. u.variable < 4) (arc_at b h).updates

-- an opened passage's edge: its number, its place, small numbers
abbrev pub Placed : List ℕ → ℕ → ℕ → Result TakenEdge Unopened → Type 0
Placed bs start c (Ok t) =
    (t.edge < length (component_in bs c).arcs) × (t.place ≡ arc_place bs start t.edge) × (t.ready ≤ 65535) × (t.end ≤ 65535)
Placed bs start c (Err why) = Unit {0}
