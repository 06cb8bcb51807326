-- Request 12: the parts that are written for a table.
use Rattle.std.specs.Prelude.{Bool, true, false, cond, List, [], ◌∷◌, ◌++◌, map, ℕ, zero, suc, eqb, ℤ, pos, negsuc, ◌+ℤ◌, length}
use Rattle.std.proofs.Math.Option.{Option, none, some}
use Rattle.model.specs.declared.Action.{Action}
use Rattle.model.specs.declared.Action.TheVariants.{Internal, Send, Receive}
use Rattle.model.specs.declared.ClockGuard.{ClockGuard}
use Rattle.model.specs.declared.DataGuard.{DataGuard}
use Rattle.model.specs.declared.Location.{Location}
use Rattle.model.specs.declared.Update.{Update}
use Rattle.model.specs.Lists.{below, only, snoc}
use Rattle.model.specs.Table.{Arc, Component, Table, location_of}
use Rattle.model.specs.Window.{in_range, masked, leads_to}
use Rattle.uppaal.specs.Xta.{Name, location, waiting, Upper, Atom, at_most, exactly, at_least, value_at_least, value_at_most, sum_at_least, sum_at_most, never, Sync, sends, receives, Assignment, sets_to, adds, resets, Transition, Process, System}

-- ## The window of an edge

-- its upper bounds: the invariant of its location, then the highs
abbrev pub highs : List ClockGuard → List Upper
highs [] = []
highs (g ∷ gs) = cond (eqb g.high 65535) (highs gs) (record { clock = g.clock; bound = g.high } ∷ highs gs)

abbrev pub uppers_from : Location → Arc → List Upper
uppers_from l a = record { clock = l.clock; bound = l.bound } ∷ highs a.clock_guards

abbrev pub uppers : Component → Arc → List Upper
uppers C a = uppers_from (location_of C a.edge.source) a

-- "only at its end", "exactly at that end": no bound is passed and one is reached. A guard has no `or` over clocks, so there is one guard a
-- bound: that bound is the first that is reached. At most one of them holds.
unfoldable pub ends : List Upper → List (List Atom)
ends [] = []
ends (u ∷ us) = (exactly u ∷ map at_most us) ∷ map (λ g. Rattle.uppaal.specs.Xta.below u ∷ g) (ends us)

-- ## Data bounds, and updates that stay in range

abbrev pub data_atoms : List DataGuard → List Atom
data_atoms [] = []
data_atoms (g ∷ gs) = value_at_least g.variable g.low ∷ value_at_most g.variable g.high ∷ data_atoms gs

-- a variable's value while the updates act: a number, or a number more than its value at entry
pub data Sum : Type 0 where
  number : ℤ → Sum
  more : ℤ → Sum

abbrev pub plus : Sum → ℤ → Sum
plus (number z) k = number (z +ℤ k)
plus (more z) k = more (z +ℤ k)

-- −32,768 ≤ the sum ≤ 32,767, said of the value at entry
abbrev pub stays : ℕ → Sum → List Atom
stays v (number z) = cond (in_range z) [] (never ∷ [])
stays v (more z) = sum_at_least v z (negsuc 32767) ∷ sum_at_most v z (pos 32767) ∷ []

-- what an update makes of it
abbrev pub after : Update → Sum → Sum
after u s = cond u.adds (plus s u.number) (number u.number)

-- of variable v, through these updates
unfoldable pub summed : ℕ → Sum → List Update → Sum
summed v s [] = s
summed v s (u ∷ us) = summed v (cond (eqb u.variable v) (after u s) s) us

-- The adds of `left`, in order, behind the updates `done`; a set is in range by itself.
unfoldable pub range_atoms : List Update → List Update → List Atom
unfolding summed
range_atoms done [] = []
range_atoms done (u ∷ left) =
    cond u.adds (stays u.variable (plus (summed u.variable (more (pos 0)) done) u.number)) [] ++ range_atoms (snoc done u) left

-- ## Transitions

abbrev pub lows : List ClockGuard → List Atom
lows [] = []
lows (g ∷ gs) = at_least g.clock g.low ∷ lows gs

-- the rest of the guard of a step in, behind the upper bounds
unfoldable pub others : Arc → List Atom
unfolding range_atoms
others a = lows a.clock_guards ++ (data_atoms a.data_guards ++ range_atoms [] a.updates)

-- "a waiting location for each edge and each outcome of a receive edge": of a receive each pair, then the timeout
abbrev pub outcomes : Arc → Action → List (Option ℕ)
outcomes a Internal = none ∷ []
outcomes a (Send k) = some k ∷ []
outcomes a Receive = map (λ q. some q.channel) a.pairs ++ (none ∷ [])

abbrev pub sync_of : Action → Option ℕ → Option Sync
sync_of x none = none
sync_of Internal (some k) = none
sync_of (Send j) (some k) = some (sends k)
sync_of Receive (some k) = some (receives k)

abbrev pub assignment_of : Update → Assignment
assignment_of u = cond u.adds (adds u.variable u.number) (sets_to u.variable u.number)

-- of a component with so many clocks
unfoldable pub assignments_of : ℕ → Arc → List Assignment
assignments_of clocks a = map assignment_of a.updates ++ map resets (only (masked a.edge.mask) (below clocks))

-- the step in, with that guard on the upper bounds
unfoldable pub step_in_with : ℕ → Arc → Option ℕ → List Atom → Transition
unfolding others
step_in_with e a m g =
    record {
      source = location a.edge.source;
      target = waiting e m;
      guard = g ++ others a;
      sync = sync_of a.edge.action m;
      assignments = [];
    }

unfoldable pub step_out_with : ℕ → ℕ → Arc → Option ℕ → List Atom → Transition
unfolding assignments_of
step_out_with clocks e a m g =
    record { source = waiting e m; target = location (leads_to a m); guard = g; sync = none; assignments = assignments_of clocks a }

-- a timeout only at the end
abbrev pub entries : List Upper → Action → Option ℕ → List (List Atom)
entries us Internal m = map at_most us ∷ []
entries us (Send k) m = map at_most us ∷ []
entries us Receive (some k) = map at_most us ∷ []
entries us Receive none = ends us

unfoldable pub transitions_with : Component → ℕ → Arc → List (Option ℕ) → List Transition
unfolding ends step_in_with step_out_with
transitions_with C e a [] = []
transitions_with C e a (m ∷ ms) =
    map (step_in_with e a m) (entries (uppers C a) a.edge.action m)
    ++ (map (step_out_with C.clocks e a m) (ends (uppers C a)) ++ transitions_with C e a ms)

-- of the edges from number e on
unfoldable pub transitions_from : Component → ℕ → List Arc → List Transition
unfolding transitions_with
transitions_from C e [] = []
transitions_from C e (a ∷ as') = transitions_with C e a (outcomes a a.edge.action) ++ transitions_from C (suc e) as'

-- ## Locations, processes, the system

abbrev pub plain_location : Component → ℕ → Rattle.uppaal.specs.Xta.Location
plain_location C l =
    let q = location_of C l in
    record { name = location l; invariant = record { clock = q.clock; bound = q.bound } ∷ [] }

unfoldable pub waiting_from : Component → ℕ → List Arc → List Rattle.uppaal.specs.Xta.Location
waiting_from C e [] = []
waiting_from C e (a ∷ as') =
    map (λ m. record { name = waiting e m; invariant = uppers C a }) (outcomes a a.edge.action) ++ waiting_from C (suc e) as'

unfoldable pub process_for : Component → Process
unfolding transitions_from waiting_from
process_for C =
    record {
      clocks = C.clocks;
      variables = C.variables;
      locations = map (plain_location C) (below (length C.locations)) ++ waiting_from C 0 C.arcs;
      initial = location C.initial;
      transitions = transitions_from C 0 C.arcs;
    }

unfoldable pub system_for : Table → System
unfolding process_for
system_for T = record { channels = T.channels; processes = map process_for T.components }
