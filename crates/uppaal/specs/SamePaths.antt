-- Request 12: the paths of the written network are exactly those of the table's network that enter no location with its invariant broken.
use Rattle.std.specs.Prelude.{◌≡◌, Bool, true, false, cond, ◌&&◌, List, [], ◌∷◌, map, ℕ, ◌+◌, leb, eqb}
use Rattle.std.proofs.Math.Option.{Option, none, some}
use Rattle.model.specs.Lists.{◌∈◌}
use Rattle.model.specs.declared.Action.{Action}
use Rattle.model.specs.declared.Action.TheVariants.{Internal, Send, Receive}
use Rattle.model.specs.Table.{Arc, Component, Table, component_of, arc_of, location_of}
use Rattle.model.specs.Window.{clock_at, channel_of}
use Rattle.model.specs.Network.{PathPassage, Taken, State, passage_in, start, stayed, Label, tick, step_in, together, step_out, step, onward, follow}
use Rattle.uppaal.specs.Xta.{Name, location, waiting, Upper, Atom, at_most, below, exactly, Transition, System, process_of}
use Rattle.uppaal.specs.XtaNetwork.{Stand, stand_of, guard_holds, all_assigned, Move, delay, alone, joint, Path}
use Rattle.uppaal.specs.Export.{uppers, entries, ends, step_in_with, step_out_with}

-- ## States: clocks as they are now; a component that waits stands in the waiting location of its edge and message

abbrev pub clocks_now : ℕ → PathPassage → List ℕ
clocks_now now p = map (λ x. x + stayed now p) p.entry.clocks

abbrev pub name_of : PathPassage → Option Taken → Name
name_of p none = location p.entry.location
name_of p (some w) = waiting w.edge w.message

abbrev pub stand_for : ℕ → PathPassage → Stand
stand_for now p = record { at = name_of p p.waiting; clocks = clocks_now now p; values = p.entry.values }

abbrev pub view_of : State → List Stand
view_of s = map (stand_for s.tick) s.present

-- ## Steps: the transition of each step

-- the one of `ends` that holds at an end: up to the first bound that is reached
abbrev pub reached : List Upper → List ℕ → List Atom
reached [] xs = []
reached (u ∷ us) xs = cond (eqb (clock_at xs u.clock) u.bound) (exactly u ∷ map at_most us) (below u ∷ reached us xs)

abbrev pub entry_for : Component → Arc → Action → Option ℕ → List ℕ → List Atom
entry_for C a Internal m xs = map at_most (uppers C a)
entry_for C a (Send k) m xs = map at_most (uppers C a)
entry_for C a Receive (some k) xs = map at_most (uppers C a)
entry_for C a Receive none xs = reached (uppers C a) xs

abbrev pub goes_in : Table → State → ℕ → ℕ → Option ℕ → Transition
goes_in T s c e m =
    let C = component_of T c in
    let a = arc_of C e in
    step_in_with e a m (entry_for C a a.edge.action m (clocks_now s.tick (passage_in s c)))

abbrev pub goes_out : Table → State → ℕ → Option Taken → Transition
goes_out T s c none = step_out_with (component_of T c).clocks 0 (arc_of (component_of T c) 0) none []
goes_out T s c (some w) =
    let C = component_of T c in
    let a = arc_of C w.edge in
    step_out_with C.clocks w.edge a w.message (reached (uppers C a) (clocks_now s.tick (passage_in s c)))

abbrev pub move_of : Table → State → Label → Move
move_of T s tick = delay
move_of T s (step_in c e) = alone c (goes_in T s c e none)
move_of T s (together a e b f) =
    let k = channel_of (arc_of (component_of T a) e) in
    joint a (goes_in T s a e k) b (goes_in T s b f k)
move_of T s (step_out c) = alone c (goes_out T s c (passage_in s c).waiting)

-- along a path
unfoldable pub moves_of : Table → State → List Label → List Move
unfolding step step_in_with step_out_with
moves_of T s [] = []
moves_of T s (l ∷ ls) = move_of T s l ∷ onward (step T s l) (λ t. moves_of T t ls) []

-- ## "that enter no location with its invariant already broken"

abbrev pub invariant_kept : Component → PathPassage → Bool
invariant_kept C p = leb (clock_at p.entry.clocks (location_of C p.entry.location).clock) (location_of C p.entry.location).bound

abbrev pub enters_well : Table → State → Label → Bool
enters_well T t tick = true
enters_well T t (step_in c e) = true
enters_well T t (together a e b f) = true
enters_well T t (step_out c) = invariant_kept (component_of T c) (passage_in t c)

-- after each step out on the path, the location entered has its invariant
unfoldable pub all_enter_well : Table → State → List Label → Bool
unfolding step
all_enter_well T s [] = true
all_enter_well T s (l ∷ ls) = onward (step T s l) (λ t. enters_well T t l && all_enter_well T t ls) false

-- a path of the table's network that UPPAAL allows
pub record PathOf (T : Table) (ls : List Label) (s : State) : Type 0 where
  pub follows : follow T (start T) ls ≡ some s
  pub enters : all_enter_well T (start T) ls ≡ true

-- ## The claim, of the table's network and a written one

pub record SamePaths (T : Table) (N : System) : Type 0 where
  -- each such path is one of the written network, to the same state
  pub written : (ls : List Label) (s : State) → PathOf T ls s → Path N (moves_of T (start T) ls) (view_of s)
  -- each path of the written network is one of these
  pub read : (ms : List Move) (y : List Stand) → Path N ms y
      → (ls : List Label) × (s : State) × PathOf T ls s × (moves_of T (start T) ls ≡ ms) × (view_of s ≡ y)
  -- and of one alone
  pub once : (ls ks : List Label) (s t : State) → PathOf T ls s → PathOf T ks t → moves_of T (start T) ls ≡ moves_of T (start T) ks → ls ≡ ks
  -- UPPAAL stops with an error where a variable leaves its range: that never happens
  pub safe : (ms : List Move) (y : List Stand) → Path N ms y → (p : ℕ) (t : Transition) → t ∈ (process_of N p).transitions
      → (stand_of y p).at ≡ t.source → guard_holds (stand_of y p) t.guard ≡ true
      → (z : Stand) × (all_assigned t.assignments (record { at = t.target; clocks = (stand_of y p).clocks; values = (stand_of y p).values }) ≡ some z)
