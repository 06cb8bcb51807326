-- When a node's choice is not allowed: only at a sleep or a listen that is not due, at a take where the schedule finds no edge, and at a send
-- that nobody hears. Assumes nothing.
use mathlib.Core.Path.{◌≡◌, refl, sym, ◌∙◌}
use mathlib.Core.Bool.{Bool, true, false, cond}
use mathlib.Core.List.{List, [], ◌∷◌}
use mathlib.Core.Option.{Option, none, some}
use Prim.Native.Nat.{ℕ}
use native.Mathlib.Omega.{arith}
use lib.Dec.{eqb}
use Rattle.model.specs.declared.Action.TheVariants.{Send, Receive}
use Rattle.model.specs.Lists.{is_none}
use Rattle.model.specs.Table.{TableHeader, header_of, Component}
use Rattle.model.specs.Limits.{ComponentIn}
use Rattle.model.specs.Window.{Entry, Pick, choice}
use Rattle.model.specs.Run.{Setting, own_tick, Run, forbidden, on, Stand, sleeping, sending, listening, finishing, adding, working, taking, elsewhere, nowhere, stand_of, node_of, window_end, listeners, sent, finishes}
use Rattle.model.proofs.Node.Choosing.{Coded, Asleep}
use Rattle.model.proofs.Node.Working.{Working}
use Rattle.model.proofs.Node.Phase.{Heading, Phase, AtStand, phase_at, action_of}

-- why the choice of node c is not allowed in state s
pub data NotAllowed (g : Setting) (C : Component) (i : ℕ) (at : Entry) (s : Run) (c : ℕ) : Type 0 where
  -- "sleep unless the tick is t"
  early_sleep : (k : Pick) → Asleep C i at k (node_of s c) → eqb (own_tick g c s.tick) (node_of s c).t ≡ false → NotAllowed g C i at s c
  -- "a listen unless its window ends now"
  early_listen : (k : Pick) → Working C i at k (node_of s c) → action_of C k ≡ Receive → eqb (own_tick g c s.tick) (window_end (node_of s c)) ≡ false → NotAllowed g C i at s c
  -- "a take with nothing kept": the schedule finds no edge there
  nothing_kept : Heading C i at (node_of s c) → stand_of (node_of s c) ≡ taking → choice C at ≡ none → NotAllowed g C i at s c
  -- "a send without a listener"
  unheard : (k : Pick) (a : ℕ) → Working C i at k (node_of s c) → action_of C k ≡ Send a → listeners g s c a ≡ [] → NotAllowed g C i at s c

on_clash : {A : Type 0} (s : Run) → on s ≡ forbidden → A
on_clash s e = absurd (let z : ◌≡◌ {A = ℕ} 0 1 = cc in omega arith)

-- a choice allowed where a test holds, and not allowed: the test fails
test_fails : (t : Bool) (s : Run) → cond t (on s) forbidden ≡ forbidden → t ≡ false
test_fails true s e = on_clash s e
test_fails false s e = refl

test_holds : (t : Bool) (s : Run) → cond t forbidden (on s) ≡ forbidden → t ≡ true
test_holds true s e = refl
test_holds false s e = on_clash s e

nothing : {A : Type 0} (o : Option A) → is_none o ≡ true → o ≡ none
nothing none e = refl
nothing (some a) e = absurd (let z : ◌≡◌ {A = ℕ} 0 1 = cc in omega arith)

-- no listener
nobody : (g : Setting) (s : Run) (c k : ℕ) (is : List ℕ) → sent g s c k is ≡ forbidden → is ≡ []
nobody g s c k [] e = refl
nobody g s c k (i ∷ is) e = on_clash _ e

-- a node's choice that is not allowed
pub not-allowed : {p : List ℕ} {channels : TableHeader} {C : Component} {i : ℕ} {at : Entry} (g : Setting) (s : Run) (c : ℕ) → Coded p C → ComponentIn channels C
    → Phase C i at (node_of s c) → finishes g s c (stand_of (node_of s c)) ≡ forbidden → NotAllowed g C i at s c
not-allowed {p} {channels} {C} {i} {at} g s c coded fits phase e = go (stand_of (node_of s c)) refl (phase_at coded fits phase) e
  where
    go : (x : Stand) → stand_of (node_of s c) ≡ x → AtStand p C i at (node_of s c) x → finishes g s c x ≡ forbidden → NotAllowed g C i at s c
    go sleeping q h e = early_sleep h.pick h.asleep (test_fails (eqb (own_tick g c s.tick) (node_of s c).t) _ e)
    go (sending a) q h e = unheard h.pick a h.at_work h.action (nobody g s c a (listeners g s c a) e)
    go (listening qs) q h e = early_listen h.pick h.at_work h.action (test_fails (eqb (own_tick g c s.tick) (window_end (node_of s c))) _ e)
    go finishing q h e = on_clash _ e
    go (adding v z) q h e = on_clash _ (rw h.ranged at e)
    go working q h e = on_clash _ e
    go taking q h e = nothing_kept h.heading q (sym h.kept ∙ nothing (node_of s c).kept (test_holds (is_none (node_of s c).kept) _ e))
    go elsewhere q h e = on_clash _ e
    go nowhere q h e = absurd h
