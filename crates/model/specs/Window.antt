-- Document 01, "Passage and schedule", first two paragraphs: the window of an edge, the edge taken, and what its passage leads to.
use Rattle.std.specs.Prelude.{◌≡◌, Bool, true, false, cond, ◌&&◌, ◌||◌, not, List, [], ◌∷◌, ℕ, suc, pred, ◌+◌, ◌-◌, min, max, ◌^◌, ◌/◌, ◌%◌, ◌≤◌, ◌<◌, leb, ltb, eqb, ℤ, pos, negsuc, ◌+ℤ◌, length, get_or, set}
use Rattle.std.proofs.Math.Option.{Option, none, some}
use Rattle.std.specs.Int.Signed.{le_z}
use Rattle.model.specs.declared.Action.{Action}
use Rattle.model.specs.declared.Action.TheVariants.{Internal, Send, Receive}
use Rattle.model.specs.declared.Location.{Location}
use Rattle.model.specs.declared.ClockGuard.{ClockGuard}
use Rattle.model.specs.declared.DataGuard.{DataGuard}
use Rattle.model.specs.declared.Update.{Update}
use Rattle.model.specs.declared.Pair.{Pair}
use Rattle.model.specs.Lists.{all, place_of, or_else}
use Rattle.model.specs.Table.{Arc, Component, location_of, arc_of}

-- A component as it enters a location: "A component enters a location at its entry tick", with its clocks and variables there.
pub record Entry : Type 0 where
  pub location : ℕ
  pub tick : ℕ
  pub clocks : List ℕ
  pub values : List ℤ

abbrev pub clock_at : List ℕ → ℕ → ℕ
clock_at xs i = get_or xs i 0

abbrev pub value_at : List ℤ → ℕ → ℤ
value_at vs i = get_or vs i (pos 0)

-- ## Ready and end

-- a clock bound holds for a clock's value; a high of 65,535 is none. "A low above its high is allowed and holds for no value."
abbrev pub within : ClockGuard → ℕ → Bool
within g x = leb g.low x && (eqb g.high 65535 || leb x g.high)

-- Invariant ("Its invariant is clock ≤ q") and clock bounds hold so many ticks after the entry with clocks xs: all clocks grow by 1 a tick.
abbrev pub holds_after : Location → List ClockGuard → List ℕ → ℕ → Bool
holds_after l gs xs delay = leb (clock_at xs l.clock + delay) l.bound && all (λ g. within g (clock_at xs g.clock + delay)) gs

-- "ready is the least tick, entry or later, at which invariant and clock bounds hold; end is the last such tick", both counted from the entry
pub record IsWindow (l : Location) (gs : List ClockGuard) (xs : List ℕ) (ready end : ℕ) : Type 0 where
  pub at_ready : holds_after l gs xs ready ≡ true
  pub least : (d : ℕ) → holds_after l gs xs d ≡ true → ready ≤ d
  pub at_end : holds_after l gs xs end ≡ true
  pub last : (d : ℕ) → holds_after l gs xs d ≡ true → d ≤ end

-- The same, computed. All clocks grow together, so the delays at which they hold are an interval: from `ready_of` up to, and without,
-- `past_of`, the first delay that fails. The law is `is_window` in proofs/Window/Interval.antt. There is no such delay where past_of ≤ ready_of.
abbrev pub ready_of : List ClockGuard → List ℕ → ℕ
ready_of [] xs = 0
ready_of (g ∷ gs) xs = max (g.low - clock_at xs g.clock) (ready_of gs xs)

abbrev pub past_of : Location → List ClockGuard → List ℕ → ℕ
past_of l [] xs = suc l.bound - clock_at xs l.clock
past_of l (g ∷ gs) xs = cond (eqb g.high 65535) (past_of l gs xs) (min (suc g.high - clock_at xs g.clock) (past_of l gs xs))

-- ## The edge taken

-- "Data bounds are read with the values at entry."
abbrev pub data_within : DataGuard → List ℤ → Bool
data_within g vs = le_z g.low (value_at vs g.variable) && le_z (value_at vs g.variable) g.high

abbrev pub data_holds : List DataGuard → List ℤ → Bool
data_holds gs vs = all (λ g. data_within g vs) gs

-- the number of the first data bound that fails; their count where all hold
abbrev pub first_failing : List DataGuard → List ℤ → ℕ
first_failing gs vs = place_of (λ g. not (data_within g vs)) gs

-- Document 02, wish 8: "only if its window length, end − ready, is also at least the budget": of a window from ready up to, and without, past
abbrev pub meets_budget : Option ℕ → ℕ → ℕ → Bool
meets_budget none ready past = true
meets_budget (some b) ready past = ltb (ready + b) past

-- the same, of a window from ready to end, both included
abbrev pub Spans : Option ℕ → ℕ → ℕ → Type 0
Spans none ready end = Unit {0}
Spans (some b) ready end = ready + b ≤ end

-- "ready < end": a window of at least one tick's length, and of the budget's
abbrev pub long_enough : Location → Arc → List ℕ → Bool
long_enough l a xs =
    ltb (suc (ready_of a.clock_guards xs)) (past_of l a.clock_guards xs)
    && meets_budget a.budget (ready_of a.clock_guards xs) (past_of l a.clock_guards xs)

-- what keeps an edge from being a candidate: a data bound fails; or all hold and there is no window of at least one tick's length, and of the budget's
abbrev pub blocked : Entry → Arc → Bool
blocked at a = not (data_holds a.data_guards at.values)

abbrev pub windowless : Location → Entry → Arc → Bool
windowless l at a = data_holds a.data_guards at.values && not (long_enough l a at.clocks)

-- "The edge is a candidate if they hold and ready < end", and its window is long enough for the budget.
abbrev pub candidate : Location → Arc → List ℕ → List ℤ → Bool
candidate l a xs vs = data_holds a.data_guards vs && long_enough l a xs

-- an edge and its window, "ready to end, both included", counted from the entry
pub record Pick : Type 0 where
  pub edge : ℕ
  pub ready : ℕ
  pub end : ℕ

abbrev pub window_of : Location → ℕ → Arc → List ℕ → Pick
window_of l e a xs = record { edge = e; ready = ready_of a.clock_guards xs; end = pred (past_of l a.clock_guards xs) }

-- "The candidate with the least ready is taken, on a tie the lowest number."
abbrev pub better : Option Pick → Pick → Option Pick
better none p = some p
better (some q) p = cond (ltb p.ready q.ready) (some p) (some q)

-- an edge from location `here` that is a candidate
abbrev pub eligible : Location → ℕ → List ℕ → List ℤ → Arc → Bool
eligible l here xs vs a = eqb a.edge.source here && candidate l a xs vs

abbrev pub considered : Location → ℕ → List ℕ → List ℤ → ℕ → Arc → Option Pick → Option Pick
considered l here xs vs e a k = cond (eligible l here xs vs a) (better k (window_of l e a xs)) k

-- the edges from number e on, with the best so far
unfoldable pub chosen : Location → ℕ → List ℕ → List ℤ → ℕ → List Arc → Option Pick → Option Pick
chosen l here xs vs e [] k = k
chosen l here xs vs e (a ∷ as') k = chosen l here xs vs (suc e) as' (considered l here xs vs e a k)

unfoldable pub choice : Component → Entry → Option Pick
unfolding chosen
choice C at = chosen (location_of C at.location) at.location at.clocks at.values 0 C.arcs none

-- Document 02, wish 5: "as soon as an edge is ready with no delay and is a candidate", of an edge from location `here`.
abbrev pub at_once : Location → ℕ → List ℕ → List ℤ → Arc → Bool
at_once l here xs vs a = eligible l here xs vs a && eqb (ready_of a.clock_guards xs) 0

-- "how many edges it looked at: k + 1 for the lowest such edge k, all of the component's edges if there is none"; the edges from number e on
unfoldable pub looked_from : Location → ℕ → List ℕ → List ℤ → ℕ → List Arc → ℕ
looked_from l here xs vs e [] = e
looked_from l here xs vs e (a ∷ as') = let further = looked_from l here xs vs (suc e) as' in cond (at_once l here xs vs a) (suc e) further

unfoldable pub looked : Component → Entry → ℕ
unfolding looked_from
looked C at = looked_from (location_of C at.location) at.location at.clocks at.values 0 C.arcs

-- The same without the search: edge e of the component is an edge from the location entered that is a candidate; and its window.
abbrev pub may_take : Component → Entry → ℕ → Bool
may_take C at e = eligible (location_of C at.location) at.location at.clocks at.values (arc_of C e)

abbrev pub window_at : Component → Entry → ℕ → Pick
window_at C at e = window_of (location_of C at.location) e (arc_of C e) at.clocks

-- "The candidate with the least ready is taken, on a tie the lowest number. Its window is ready to end, both included." p is the window of the edge
-- taken among the first n edges. The laws `choice_is` and `choice_none` in proofs/Window/Choice.antt: the choice is p exactly if this holds for all edges
-- of the component, and none exactly if no edge may be taken.
pub record TakenEdge (n : ℕ) (C : Component) (at : Entry) (p : Pick) : Type 0 where
  pub there : p.edge < n
  pub candidate : may_take C at p.edge ≡ true
  pub window : p ≡ window_at C at p.edge
  pub least : (e : ℕ) → e < n → may_take C at e ≡ true → p.ready ≤ (window_at C at e).ready
  pub lowest : (e : ℕ) → e < n → may_take C at e ≡ true → (window_at C at e).ready ≡ p.ready → p.edge ≤ e

-- edge e of the component is an edge from the location entered that is a candidate and ready with no delay
abbrev pub may_take_at_once : Component → Entry → ℕ → Bool
may_take_at_once C at e = may_take C at e && eqb (window_at C at e).ready 0

-- n is as many edges as are looked at: "k + 1 for the lowest such edge k" (`up_to_edge`), "all of the component's edges if there is none" (`all_edges`).
-- The law `looked_is` in proofs/Window/Looked.antt: `looked` is this number, and no other is.
pub data LookedAt (C : Component) (at : Entry) (n : ℕ) : Type 0 where
  up_to_edge : (k : ℕ) → k < length C.arcs → may_take_at_once C at k ≡ true → ((j : ℕ) → j < k → may_take_at_once C at j ≡ false) → n ≡ suc k → LookedAt C at n
  all_edges : ((j : ℕ) → j < length C.arcs → may_take_at_once C at j ≡ false) → n ≡ length C.arcs → LookedAt C at n

-- ## What the passage leads to

-- "Variables are signed, −32,768 to 32,767."
abbrev pub in_range : ℤ → Bool
in_range z = le_z (negsuc 32767) z && le_z z (pos 32767)

abbrev pub new_value : Update → List ℤ → ℤ
new_value u vs = cond u.adds (value_at vs u.variable +ℤ u.number) u.number

-- "Updates act in order." None where one leaves the range.
unfoldable pub updated : List Update → List ℤ → Option (List ℤ)
updated [] vs = some vs
updated (u ∷ us) vs = let rest = updated us (set vs u.variable (new_value u vs)) in cond (in_range (new_value u vs)) rest none

-- "reset mask (bit i for clock i)"
abbrev pub masked : ℕ → ℕ → Bool
masked mask i = eqb (mask / 2 ^ i % 2) 1

-- "There, masked clocks become 0 and the others have grown by end − entry." The clocks from number i on.
unfoldable pub aged : ℕ → ℕ → ℕ → List ℕ → List ℕ
aged mask grown i [] = []
aged mask grown i (x ∷ xs) = cond (masked mask i) 0 (x + grown) ∷ aged mask grown (suc i) xs

-- the channel of a send; whether an edge receives
abbrev pub sends : Action → Option ℕ
sends Internal = none
sends (Send k) = some k
sends Receive = none

abbrev pub receives : Action → Bool
receives Internal = false
receives (Send k) = false
receives Receive = true

abbrev pub channel_of : Arc → Option ℕ
channel_of a = sends a.edge.action

abbrev pub listens : Arc → Bool
listens a = receives a.edge.action

-- "A receive edge leads to the location paired with the message taken, else to its destination."
abbrev pub paired : List Pair → ℕ → ℕ → ℕ
paired [] channel else' = else'
paired (q ∷ qs) channel else' = cond (eqb q.channel channel) q.location (paired qs channel else')

abbrev pub leads_to : Arc → Option ℕ → ℕ
leads_to a none = a.edge.destination
leads_to a (some k) = cond (listens a) (paired a.pairs k a.edge.destination) a.edge.destination

-- "the destination is entered at end, always": the entry after edge a was passed from `at`, with that message, to that end (a tick)
unfoldable pub leaves : Arc → Option ℕ → ℕ → Entry → Entry
unfolding updated aged
leaves a message end at =
    record {
      location = leads_to a message;
      tick = end;
      clocks = aged a.edge.mask (end - at.tick) 0 at.clocks;
      values = or_else (updated a.updates at.values) at.values;
    }
