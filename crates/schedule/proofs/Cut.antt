-- An entry without the clocks and variables that its component lacks: nothing reads those. Assumes nothing.
use mathlib.Core.Path.{◌≡◌, refl, ap, ◌∙◌}
use mathlib.Core.Bool.{Bool, true, false, cond}
use mathlib.Core.List.{List, [], ◌∷◌}
use mathlib.Core.Option.{Option, none, some, map}
use Prim.Native.Nat.{ℕ, zero, suc, ◌+◌, ◌-◌, ◌≤◌, ◌<◌}
use native.Mathlib.Omega.{arith}
use lib.Dec.{eqb}
use lib.IntN.{ℤ, pos}
use lib.ListN.{length, take, set, replicate}
use lib.Seq.{get_or-take, take-set-lt}
use Rattle.model.specs.declared.Action.{Action}
use Rattle.model.specs.declared.Action.TheVariants.{Internal, Send, Receive}
use Rattle.model.specs.declared.ClockGuard.{ClockGuard}
use Rattle.model.specs.declared.DataGuard.{DataGuard}
use Rattle.model.specs.declared.Location.{Location}
use Rattle.model.specs.declared.Pair.{Pair}
use Rattle.model.specs.declared.Sizes.{Sizes}
use Rattle.model.specs.declared.Update.{Update}
use Rattle.model.specs.Lists.{All, empty, more, or_else, Answer, accepted, refused}
use Rattle.model.specs.declared.TableHeader.{TableHeader}
use Rattle.model.specs.Table.{Arc, Component, sizes_of, no_location, no_arc, location_of, arc_of}
use Rattle.model.specs.Limits.{PairIn, ActionIn, ArcIn, ComponentIn}
use Rattle.model.specs.Window.{Entry, Pick, ready_of, past_of, data_holds, first_failing, blocked, windowless, considered, chosen, choice, in_range, new_value, updated, masked, aged, paired, leads_to, leaves, receives, channel_of}
use Rattle.model.specs.Schedule.{Passage, start_entry, passage_of, ranged, picked, opening}
use Rattle.model.proofs.Basics.Walk.{all_at}
use Rattle.model.proofs.Schedule.Own.{all_then}
use Rattle.model.proofs.Window.Choice.{choice_taken}
use Rattle.std.specs.Prelude.{Result, Ok, Err}
use Rattle.window.specs.declared.TakenEdge.{TakenEdge}
use Rattle.window.specs.declared.Unopened.{Unopened}
use Rattle.window.specs.Views.{opening_of}
use Rattle.schedule.specs.Going.{cut}

-- ## Windows

module _ (n : ℕ) (xs : List ℕ) where
  pub ready_cut : {gs : List ClockGuard} → All (λ g. g.clock < n) gs → ready_of gs (take n xs) ≡ ready_of gs xs
  ready_cut empty = refl
  ready_cut (more {x = g} h a) = rw (get_or-take n xs g.clock 0 h, ready_cut a)

  pub past_cut : (l : Location) → l.clock < n → {gs : List ClockGuard} → All (λ g. g.clock < n) gs → past_of l gs (take n xs) ≡ past_of l gs xs
  past_cut l k empty = rw (get_or-take n xs l.clock 0 k)
  past_cut l k (more {x = g} h a) = rw (get_or-take n xs g.clock 0 h, past_cut l k a)

pub data_cut : (n : ℕ) (vs : List ℤ) {gs : List DataGuard} → All (λ g. g.variable < n) gs → data_holds gs (take n vs) ≡ data_holds gs vs
data_cut n vs empty = refl
data_cut n vs (more {x = g} h a) = rw (get_or-take n vs g.variable (pos 0) h, data_cut n vs a)

-- so is the first data bound that fails
pub failing_cut : (n : ℕ) (vs : List ℤ) {gs : List DataGuard} → All (λ g. g.variable < n) gs → first_failing gs (take n vs) ≡ first_failing gs vs
failing_cut n vs empty = refl
failing_cut n vs (more {x = g} h a) = rw (get_or-take n vs g.variable (pos 0) h, failing_cut n vs a)

-- what keeps an edge from being a candidate
module _ (C : Component) (e : Entry) (a : Arc) (d : All (λ g. g.variable < C.variables) a.data_guards) where
  pub blocked_cut : blocked e a ≡ blocked (cut C e) a
  blocked_cut = rw (data_cut C.variables e.values d)

  pub windowless_cut : (l : Location) → l.clock < C.clocks → All (λ g. g.clock < C.clocks) a.clock_guards → windowless l e a ≡ windowless l (cut C e) a
  windowless_cut l k g = rw (data_cut C.variables e.values d, ready_cut C.clocks e.clocks g, past_cut C.clocks e.clocks l k g)

-- an edge's bounds name clocks and variables below m and n
abbrev Bounds : ℕ → ℕ → Arc → Type 0
Bounds m n a = All (λ g. g.clock < m) a.clock_guards × All (λ g. g.variable < n) a.data_guards

module _ (l : Location) (here m n : ℕ) (xs : List ℕ) (vs : List ℤ) (k : l.clock < m) where
  considered_cut : (e : ℕ) (a : Arc) (b : Option Pick) → Bounds m n a → considered l here (take m xs) (take n vs) e a b ≡ considered l here xs vs e a b
  considered_cut e a b h = rw (data_cut n vs h.1, ready_cut m xs h.0, past_cut m xs l k h.0)

  chosen_cut : (e : ℕ) {as' : List Arc} (b : Option Pick) → All (Bounds m n) as' → chosen l here (take m xs) (take n vs) e as' b ≡ chosen l here xs vs e as' b
  unfolding chosen
  chosen_cut e b empty = refl
  chosen_cut e b (more {x = a} h r) = rw (considered_cut e a b h) (chosen_cut (suc e) (considered l here xs vs e a b) r)

-- ## Updates and clocks

pub new_cut : (n : ℕ) (u : Update) (vs : List ℤ) → u.variable < n → new_value u (take n vs) ≡ new_value u vs
new_cut n u vs h = rw (get_or-take n vs u.variable (pos 0) h)

updated_cut : (n : ℕ) {us : List Update} (vs : List ℤ) → All (λ u. u.variable < n) us → updated us (take n vs) ≡ map (take n) (updated us vs)
unfolding updated
updated_cut n vs empty = refl
updated_cut n vs (more {x = u} {xs = us} h a) =
    rw (new_cut n u vs h, ← take-set-lt n vs u.variable (new_value u vs) h, updated_cut n (set vs u.variable (new_value u vs)) a) (go (in_range (new_value u vs)))
  where
    go : (t : Bool) → cond t (map (take n) (updated us (set vs u.variable (new_value u vs)))) none ≡ map (take n) (cond t (updated us (set vs u.variable (new_value u vs))) none)
    go true = refl
    go false = refl

aged_cut : (n mask grown i : ℕ) (xs : List ℕ) → aged mask grown i (take n xs) ≡ take n (aged mask grown i xs)
unfolding aged
aged_cut zero mask grown i xs = refl
aged_cut (suc n) mask grown i [] = refl
aged_cut (suc n) mask grown i (x ∷ xs) = ap (λ l. cond (masked mask i) 0 (x + grown) ∷ l) (aged_cut n mask grown (suc i) xs)

kept_cut : (n : ℕ) (o : Option (List ℤ)) (vs : List ℤ) → or_else (map (take n) o) (take n vs) ≡ take n (or_else o vs)
kept_cut n none vs = refl
kept_cut n (some ys) vs = refl

replicate_cut : {A : Type 0} (m n : ℕ) (a : A) → m ≤ n → replicate m a ≡ take m (replicate n a)
replicate_cut zero n a h = refl
replicate_cut (suc m) zero a h = absurd (omega arith)
replicate_cut (suc m) (suc n) a h = ap (λ l. a ∷ l) (replicate_cut m n a (omega arith))

-- ## A component in the limits

-- the answer with another entry
abbrev pub recast : Entry → Answer Passage → Answer Passage
recast at (accepted v) =
    accepted (record { component = v.component; edge = v.edge; entry = at; ready = v.ready; end = v.end; message = v.message })
recast at (refused n c) = refused n c

updates_below : (s : Sizes) (a : Arc) (m : Action) → ActionIn s a m → All (λ u. u.variable < s.variables) a.updates
updates_below s a Internal i = all_then (λ u q. q.variable) i.updates
updates_below s a (Send k) i = rw i.updates empty
updates_below s a Receive i = rw i.updates empty

module _ (channels : TableHeader) (C : Component) (i : ComponentIn channels C) where
  -- edge e is in the limits
  pub arc_in : (e : ℕ) → e < length C.arcs → ArcIn (sizes_of channels C) (arc_of C e)
  arc_in e h = all_at no_arc i.arcs e h

  pub arc_updates : (e : ℕ) → e < length C.arcs → All (λ u. u.variable < C.variables) (arc_of C e).updates
  arc_updates e h = updates_below (sizes_of channels C) (arc_of C e) (arc_of C e).edge.action (arc_in e h).action

  pub choice_cut : (e : Entry) → e.location < length C.locations → choice C (cut C e) ≡ choice C e
  unfolding choice
  choice_cut e h =
      chosen_cut (location_of C e.location) e.location C.clocks C.variables e.clocks e.values
      (all_at no_location i.locations e.location h).clock 0 none
      (all_then (λ a q. (all_then (λ g r. r.clock) q.clock_guards, all_then (λ g r. r.variable) q.data_guards)) i.arcs)

  -- the passage that opens from an entry is the one that opens from the entry cut, but for the entry
  pub opening_cut : (c : ℕ) (e : Entry) → e.location < length C.locations → opening c C (cut C e) ≡ recast (cut C e) (opening c C e)
  unfolding opening
  opening_cut c e h = ap (picked c C (cut C e)) (choice_cut e h) ∙ go (choice C e) refl
    where
      within : (p : Pick) (o : Option (List ℤ)) → ranged c (map (take C.variables) o) (passage_of c (cut C e) p (channel_of (arc_of C p.edge)))
          ≡ recast (cut C e) (ranged c o (passage_of c e p (channel_of (arc_of C p.edge))))
      within p none = refl
      within p (some vs) = refl

      go : (k : Option Pick) → choice C e ≡ k → picked c C (cut C e) k ≡ recast (cut C e) (picked c C e k)
      go none q = refl
      go (some p) q =
          ap (λ o. ranged c o (passage_of c (cut C e) p (channel_of (arc_of C p.edge)))) (updated_cut C.variables e.values (arc_updates p.edge (choice_taken C e q).there))
          ∙ within p (updated (arc_of C p.edge).updates e.values)

  -- the entry that an edge leads to from an entry cut is the entry that it leads to, cut
  pub leaves_cut : (k : ℕ) → k < length C.arcs → (m : Option ℕ) (end : ℕ) (e : Entry) → leaves (arc_of C k) m end (cut C e) ≡ cut C (leaves (arc_of C k) m end e)
  unfolding leaves
  leaves_cut k h m end e = rw (aged_cut C.clocks (arc_of C k).edge.mask (end - e.tick) 0 e.clocks, updated_cut C.variables e.values (arc_updates k h), kept_cut)

  -- a component starts with all zero
  pub start_cut : (e : Entry) → e.location ≡ C.initial → e.tick ≡ 0 → e.clocks ≡ replicate 4 0 → e.values ≡ replicate 4 (pos 0) → start_entry C ≡ cut C e
  start_cut e a b c d = rw (a, b, c, d, replicate_cut {A = ℕ} C.clocks 4 0 i.most_clocks, replicate_cut {A = ℤ} C.variables 4 (pos 0) i.variables)

-- what the code answers, from an entry cut
pub opens_cut : (c : ℕ) (C : Component) (at e : Entry) (r : Result TakenEdge Unopened) → e.tick ≡ at.tick → opening_of c C e r ≡ recast e (opening_of c C at r)
opens_cut c C at e (Ok t) q = rw q
opens_cut c C at e (Err why) q = refl

-- ## Where an edge leads

paired_in : (s : Sizes) {qs : List Pair} (k other : ℕ) → other < s.locations → All (PairIn s) qs → paired qs k other < s.locations
paired_in s k other h empty = h
paired_in s k other h (more {x = q} {xs = qs} p a) = go (paired_in s k other h a) (eqb q.channel k)
  where
    go : paired qs k other < s.locations → (t : Bool) → cond t q.location (paired qs k other) < s.locations
    go r true = p.location
    go r false = r

pub leads_in : (s : Sizes) (a : Arc) (m : Option ℕ) → ArcIn s a → leads_to a m < s.locations
leads_in s a none i = i.destination
leads_in s a (some k) i = go a.edge.action i.action
  where
    go : (m : Action) → ActionIn s a m → cond (receives m) (paired a.pairs k a.edge.destination) a.edge.destination < s.locations
    go Internal j = i.destination
    go (Send n) j = i.destination
    go Receive j = paired_in s k a.edge.destination i.destination j.pairs
