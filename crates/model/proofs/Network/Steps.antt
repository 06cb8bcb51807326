-- The three events, each as one step of the network: a tick, a work finished alone, a send and a receive finished together. Assumes nothing.
use mathlib.Core.Path.{◌≡◌, refl, sym, ap, ap₂, ◌∙◌}
use mathlib.Core.Bool.{true, false}
use mathlib.Core.List.{List, [], ◌∷◌, map}
use mathlib.Core.Option.{Option, none, some}
use Prim.Native.Nat.{ℕ, suc, ◌≤◌, ◌<◌}
use native.Mathlib.Omega.{arith}
use borrow.Author.Tests.{lt-ltb, ne_eqb}
use lib.ListN.{length, get_or, set}
use lib.Seq.{get_or-set_other}
use Rattle.model.specs.declared.Action.{Action}
use Rattle.model.specs.declared.Action.TheVariants.{Internal, Send, Receive}
use Rattle.model.specs.Table.{Arc, Component, Table, size, component_of, no_component, arc_of}
use Rattle.model.specs.Window.{sends, receives, channel_of, listens}
use Rattle.model.specs.Schedule.{Passage, names}
use Rattle.model.specs.Network.{State, tick, step_in, together, step, may_tick, all_may_tick, alone, waits, with_passage}
use Rattle.model.proofs.Basics.Bools.{and_is}
use Rattle.model.proofs.Network.Passage.{Fits, place_in, at-end, may-step-in, may-tick}
use Rattle.model.proofs.Network.Links.{first_fits}
use Rattle.model.proofs.Network.Lanes.{Lane, no_lane, lane_at, place, state_of, finished, finish, Good, place_at, put_at}

-- ## A tick

-- all may let a tick pass if each may
all_may : (τ : ℕ) (Cs : List Component) (L : List Lane) → length L ≡ length Cs
    → ((c : ℕ) → c < length Cs → may_tick (get_or Cs c no_component) τ (place (lane_at L c)) (place (lane_at L c)).waiting ≡ true)
    → all_may_tick τ Cs (map place L) ≡ true
unfolding all_may_tick
all_may τ [] L count h = refl
all_may τ (C ∷ Cs) [] count h = absurd (omega arith)
all_may τ (C ∷ Cs) (K ∷ L) count h =
    (and_is (may_tick C τ (place K) (place K).waiting) (all_may_tick τ Cs (map place L))).1 (
      h 0 (omega arith),
      all_may τ Cs L (omega arith) (λ c k. h (suc c) (omega arith)),
    )

-- a tick passes where every present passage ends later
pub tick_step : (T : Table) (H τ : ℕ) (L : List Lane) → length L ≡ size T → ((c : ℕ) → c < size T → Good H (component_of T c) τ (lane_at L c))
    → ((c : ℕ) → c < size T → τ < (lane_at L c).passage.end) → step T (state_of τ L) tick ≡ some (state_of (suc τ) L)
unfolding step
tick_step T H τ L count gs hs =
    rw (all_may τ T.components L count (λ c h. may-tick (first_fits (gs c h).linked) τ (gs c h).since (lane_at L c).done (hs c h)))

-- ## A work finished alone

-- an internal edge at any tick of the window; a receive without a message, a timeout, at its end
pub data Alone (C : Component) (τ : ℕ) (v : Passage) : Type 0 where
  internal : (arc_of C v.edge).edge.action ≡ Internal → Alone C τ v
  timeout : (arc_of C v.edge).edge.action ≡ Receive → v.message ≡ none → τ ≡ v.end → Alone C τ v

-- it has no message
alone_silent : {C : Component} {τ : ℕ} {v : Passage} → Fits C v → Alone C τ v → v.message ≡ none
alone_silent f (internal e) = f.said (ap receives e) ∙ ap sends e
alone_silent f (timeout e m h) = m

-- the network allows it
alone_allowed : {C : Component} {τ : ℕ} {v : Passage} → Fits C v → v.entry.tick ≤ τ → Alone C τ v
    → alone C τ (place_in v false) v.edge (arc_of C v.edge).edge.action ≡ true
alone_allowed f s (internal e) = rw e
alone_allowed {τ = τ} f s (timeout e m h) = rw e (at-end f τ s false h)

-- a component whose work is yet to finish, in its window, steps in
pub in_step : (T : Table) (H τ : ℕ) (L : List Lane) (c : ℕ) → c < size T → Good H (component_of T c) τ (lane_at L c) → (lane_at L c).done ≡ false
    → (lane_at L c).passage.ready ≤ τ → Alone (component_of T c) τ (lane_at L c).passage
    → step T (state_of τ L) (step_in c (lane_at L c).passage.edge) ≡ some (state_of τ (finish L c))
unfolding step
in_step T H τ L c there g d r a = e₁ ∙ e₂ ∙ ap some (put_at τ L c (finished K))
  where
    K : Lane
    K = lane_at L c

    s : State
    s = state_of τ L

    f : Fits (component_of T c) K.passage
    f = first_fits g.linked

    e₁ : step T s (step_in c K.passage.edge) ≡ some (with_passage s c (waits (place_in K.passage false) K.passage.edge none))
    e₁ = rw (lt-ltb c (size T) there, place_at τ L c, d, may-step-in f τ g.since r g.before, alone_allowed f g.since a)

    e₂ : some (with_passage s c (waits (place_in K.passage false) K.passage.edge none)) ≡ some (with_passage s c (place_in K.passage true))
    e₂ = ap (λ (m : Option ℕ). some (with_passage s c (waits (place_in K.passage false) K.passage.edge m))) (sym (alone_silent f a))

-- ## A send and a receive finished together

-- an edge that sends does not receive
pub sends_only : (a : Arc) (k : ℕ) → channel_of a ≡ some k → listens a ≡ false
sends_only a k e = go a.edge.action refl
  where
    go : (x : Action) → a.edge.action ≡ x → receives x ≡ false
    go Internal h = refl
    go (Send j) h = refl
    go Receive h = let z : ◌≡◌ {A = ℕ} 0 1 = cc (ap sends h) in absurd (omega arith)

-- a send in its window, and a receive in its window whose message it is
pub record Joins (T : Table) (τ : ℕ) (L : List Lane) (a b k : ℕ) : Type 0 where
  pub sender : a < size T
  pub receiver : b < size T
  pub differ : a ≡ b → ⊥
  pub send_open : (lane_at L a).done ≡ false
  pub receive_open : (lane_at L b).done ≡ false
  pub send_ready : (lane_at L a).passage.ready ≤ τ
  pub receive_ready : (lane_at L b).passage.ready ≤ τ
  pub channel : channel_of (arc_of (component_of T a) (lane_at L a).passage.edge) ≡ some k
  pub receives : listens (arc_of (component_of T b) (lane_at L b).passage.edge) ≡ true
  pub named : names (arc_of (component_of T b) (lane_at L b).passage.edge) (some k) ≡ true
  pub message : (lane_at L b).passage.message ≡ some k

-- they step in together
pub joint_step : (T : Table) (H τ : ℕ) (L : List Lane) (a b k : ℕ) → Joins T τ L a b k → Good H (component_of T a) τ (lane_at L a)
    → Good H (component_of T b) τ (lane_at L b)
    → step T (state_of τ L) (together a (lane_at L a).passage.edge b (lane_at L b).passage.edge) ≡ some (state_of τ (finish (finish L a) b))
unfolding step
joint_step T H τ L a b k j ga gb = e₁ ∙ e₂ ∙ ap some (e₃ ∙ e₄)
  where
    A : Lane
    A = lane_at L a

    B : Lane
    B = lane_at L b

    s : State
    s = state_of τ L

    fa : Fits (component_of T a) A.passage
    fa = first_fits ga.linked

    fb : Fits (component_of T b) B.passage
    fb = first_fits gb.linked

    said : A.passage.message ≡ some k
    said = fa.said (sends_only (arc_of (component_of T a) A.passage.edge) k j.channel) ∙ j.channel

    joined : Option ℕ → Option ℕ → State
    joined m n = with_passage (with_passage s a (waits (place_in A.passage false) A.passage.edge m)) b (waits (place_in B.passage false) B.passage.edge n)

    e₁ : step T s (together a A.passage.edge b B.passage.edge) ≡ some (joined (some k) (some k))
    e₁ = rw (
      lt-ltb a (size T) j.sender,
      lt-ltb b (size T) j.receiver,
      ne_eqb a b j.differ,
      place_at τ L a,
      place_at τ L b,
      j.send_open,
      j.receive_open,
      may-step-in fa τ ga.since j.send_ready ga.before,
      may-step-in fb τ gb.since j.receive_ready gb.before,
      j.channel,
      j.receives,
      j.named,
    )

    e₂ : some (joined (some k) (some k)) ≡ some (with_passage (with_passage s a (place_in A.passage true)) b (place_in B.passage true))
    e₂ = ap₂ (λ (m n : Option ℕ). some (joined m n)) (sym said) (sym j.message)

    e₃ : with_passage (with_passage s a (place_in A.passage true)) b (place_in B.passage true) ≡ state_of τ (set (finish L a) b (finished B))
    e₃ = ap (λ (t : State). with_passage t b (place_in B.passage true)) (put_at τ L a (finished A)) ∙ put_at τ (finish L a) b (finished B)

    other : B ≡ lane_at (finish L a) b
    other = sym (get_or-set_other L a b (finished A) no_lane (λ e. j.differ (sym e)))

    e₄ : state_of τ (set (finish L a) b (finished B)) ≡ state_of τ (finish (finish L a) b)
    e₄ = ap (λ (M : Lane). state_of τ (set (finish L a) b (finished M))) other
