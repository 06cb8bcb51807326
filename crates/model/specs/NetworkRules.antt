-- The steps of the network as rules, in document 01's words ("Passage and schedule", third paragraph). `Network.step` allows exactly these: the
-- law `step_is` in proofs/Network/Rules.antt.
use Rattle.std.specs.Prelude.{◌≡◌, true, List, ℕ, suc, ◌+◌, ◌≤◌, ◌<◌, eqb, ℤ, length}
use Rattle.std.proofs.Math.Option.{Option, none, some}
use Rattle.model.specs.declared.Action.{Action}
use Rattle.model.specs.declared.Action.TheVariants.{Internal, Receive}
use Rattle.model.specs.Lists.{any}
use Rattle.model.specs.Table.{Component, Table, size, component_of, arc_of, location_of}
use Rattle.model.specs.Window.{clock_at, ready_of, data_holds, updated, channel_of, listens, leaves}
use Rattle.model.specs.Network.{State, PathPassage, Taken, passage_in, stayed, past_in, Label, tick, step_in, together, step_out, waits, with_passage, enters_at}

-- "A tick passes, all clocks growing by 1, unless it breaks a non-waiting component's invariant or a waiting one is at its end." Afterwards the
-- invariant of a component that is not waiting holds; one that waits was before its end.
abbrev pub Passes : Component → ℕ → PathPassage → Option Taken → Type 0
Passes C now p none =
    clock_at p.entry.clocks (location_of C p.entry.location).clock + suc (stayed now p) ≤ (location_of C p.entry.location).bound
Passes C now p (some w) = suc (stayed now p) < past_in C p w.edge

-- "A component not waiting steps in on an edge from its location whose data bounds hold and updates stay in range, from its ready to its end"
pub record StepsIn (C : Component) (now : ℕ) (p : PathPassage) (e : ℕ) : Type 0 where
  pub free : p.waiting ≡ none
  pub there : e < length C.arcs
  pub source : (arc_of C e).edge.source ≡ p.entry.location
  pub bounds : data_holds (arc_of C e).data_guards p.entry.values ≡ true
  pub ranged : (vs : List ℤ) × (updated (arc_of C e).updates p.entry.values ≡ some vs)
  pub ready : ready_of (arc_of C e).clock_guards p.entry.clocks ≤ stayed now p
  pub end : stayed now p < past_in C p e

-- "internal alone, .. a receive alone (timeout) only at its end"
pub data ByItself (C : Component) (now : ℕ) (p : PathPassage) (e : ℕ) : Action → Type 0 where
  internally : ByItself C now p e Internal
  times_out : suc (stayed now p) ≡ past_in C p e → ByItself C now p e Receive

-- The four rules: from state s, by that step, to that state.
pub data Step (T : Table) (s : State) : Label → State → Type 0 where
  ticks : ((c : ℕ) → c < size T → (c < length s.present) × Passes (component_of T c) s.tick (passage_in s c) (passage_in s c).waiting)
      → Step T s tick (record { tick = suc s.tick; present = s.present })
  enters : {c e : ℕ} → c < size T → StepsIn (component_of T c) s.tick (passage_in s c) e
      → ByItself (component_of T c) s.tick (passage_in s c) e (arc_of (component_of T c) e).edge.action → Step T s (step_in c e) (with_passage s c (waits (passage_in s c) e none))
  -- "a send together with one receive naming its channel": two different components, a on its edge e sends and b on its edge f receives
  joins : {a e b f k : ℕ} → a < size T → b < size T → (a ≡ b → ⊥) → StepsIn (component_of T a) s.tick (passage_in s a) e
      → StepsIn (component_of T b) s.tick (passage_in s b) f → channel_of (arc_of (component_of T a) e) ≡ some k → listens (arc_of (component_of T b) f) ≡ true
      → any (λ q. eqb q.channel k) (arc_of (component_of T b) f).pairs ≡ true
      → Step T s (together a e b f) (with_passage (with_passage s a (waits (passage_in s a) e (some k))) b (waits (passage_in s b) f (some k)))
  -- "It steps out exactly at that end, with updates and resets."
  leaves_it : {c : ℕ} {w : Taken} → c < size T → (passage_in s c).waiting ≡ some w → suc (stayed s.tick (passage_in s c)) ≡ past_in (component_of T c) (passage_in s c) w.edge
      → Step T s (step_out c) (with_passage s c (enters_at (leaves (arc_of (component_of T c) w.edge) w.message s.tick (passage_in s c).entry)))
