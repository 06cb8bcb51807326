-- A node at its work, from the finished sleep to the statement that finishes the work; and what the work leads to. Assumes nothing.
use mathlib.Core.Path.{◌≡◌, refl, sym, ap, subst, ◌∙◌}
use mathlib.Core.Bool.{Bool, true, false, cond, ◌||◌}
use mathlib.Core.List.{List, [], ◌∷◌, ◌++◌, map, append_assoc}
use mathlib.Core.Option.{Option, none, some}
use Prim.Native.Nat.{ℕ, suc, ◌+◌, ◌-◌, ◌<◌}
use native.Mathlib.Omega.{arith}
use lib.Dec.{eqb}
use lib.IntN.{ℤ, ◌+ℤ◌}
use lib.ListN.{length, set}
use Rattle.model.specs.declared.Action.{Action}
use Rattle.model.specs.declared.Action.TheVariants.{Internal, Send, Receive}
use Rattle.model.specs.declared.Pair.{Pair}
use Rattle.model.specs.declared.Update.{Update}
use Rattle.model.specs.declared.Sizes.{Sizes}
use Rattle.model.specs.Lists.{All, empty, more, any, or_else}
use Rattle.model.specs.Table.{TableHeader, header_of, Arc, Component, no_arc, arc_of, sizes_of}
use Rattle.model.specs.Limits.{PairIn, ActionIn, ArcIn, ComponentIn}
use Rattle.model.specs.Window.{Entry, Pick, choice, value_at, in_range, new_value, updated, aged, receives, paired, leads_to, leaves}
use Rattle.model.specs.Program.{Statement, set_to, add_to, done, send, listen, update_of, work_of, edge_block}
use Rattle.model.specs.Machine.{Node, exec, finish, to, with_place, slept, with_values}
use Rattle.model.proofs.Basics.Bools.{clash}
use Rattle.model.proofs.Basics.Walk.{all_at}
use Rattle.model.proofs.Reader.Parts.{some_same}
use Rattle.model.proofs.Window.Choice.{Picked, choice_picked}
use Rattle.model.proofs.Schedule.Passages.{length_aged}
use Rattle.model.proofs.Node.Choosing.{Placed, Asleep}
use Rattle.model.proofs.Node.Ageing.{ageing_from, Ageing}

-- the statements behind the work of an edge
abbrev pub after_work : Component → Arc → List Statement
after_work C a = ageing_from a.edge.mask a.edge.destination 0 C.clocks

-- ## Where a passage leads to

paired_in : {s : Sizes} {qs : List Pair} (k d : ℕ) → All (PairIn s) qs → d < s.locations → paired qs k d < s.locations
paired_in k d empty h = h
paired_in {s} k d (more {x = q} {xs = qs} a as') h = go (eqb q.channel k) (paired_in k d as' h)
  where
    go : (t : Bool) → paired qs k d < s.locations → cond t q.location (paired qs k d) < s.locations
    go true e = a.location
    go false e = e

-- the location that an edge leads to is there, whatever the message
pub leads_in : {s : Sizes} {a : Arc} → ArcIn s a → (m : Option ℕ) → leads_to a m < s.locations
leads_in h none = h.destination
leads_in {s} {a} h (some k) = go a.edge.action h.action
  where
    go : (act : Action) → ActionIn s a act → cond (receives act) (paired a.pairs k a.edge.destination) a.edge.destination < s.locations
    go Internal i = h.destination
    go (Send c) i = h.destination
    go Receive i = paired_in k a.edge.destination i.pairs h.destination

-- edge e of a component within the limits
pub arc_in : {channels : TableHeader} {C : Component} → ComponentIn channels C → (e : ℕ) → e < length C.arcs → ArcIn (sizes_of channels C) (arc_of C e)
arc_in h e l = all_at no_arc h.arcs e l

-- the entry that a passage leads to
pub placed_after : {channels : TableHeader} {C : Component} {at : Entry} → ComponentIn channels C → Placed C at → (e : ℕ) → e < length C.arcs → (m : Option ℕ) (end : ℕ)
    → Placed C (leaves (arc_of C e) m end at)
unfolding leaves
placed_after {channels} {C} {at} fits h e l m end =
    record {
      location = leads_in (arc_in fits e l) m;
      clocks = length_aged (arc_of C e).edge.mask (end - at.tick) 0 at.clocks ∙ h.clocks;
    }

-- a channel that the pairs name leads to its location, whatever stands for absent ones
pub paired_named : (qs : List Pair) (k c d : ℕ) → any (λ q. eqb q.channel k) qs ≡ true → paired qs k c ≡ paired qs k d
paired_named [] k c d e = clash e
paired_named (q ∷ qs) k c d e = go (eqb q.channel k) (paired_named qs k c d) e
  where
    go : (t : Bool) → (any (λ q. eqb q.channel k) qs ≡ true → paired qs k c ≡ paired qs k d) → t || (any (λ q. eqb q.channel k) qs) ≡ true
        → cond t q.location (paired qs k c) ≡ cond t q.location (paired qs k d)
    go true ih e = refl
    go false ih e = ih e

-- ## At work

-- Where it stands in its work on edge a; the updates yet to act lead to the values `results`.
pub data Doing (C : Component) (a : Arc) (results : List ℤ) (r : Node) : Type 0 where
  updating : (us : List Update) → a.edge.action ≡ Internal → updated us r.values ≡ some results → r.rest ≡ map update_of us ++ (done ∷ after_work C a)
      → Doing C a results r
  to_send : (c : ℕ) → a.edge.action ≡ Send c → r.values ≡ results → r.rest ≡ send c ∷ after_work C a → Doing C a results r
  to_listen : a.edge.action ≡ Receive → r.values ≡ results → r.rest ≡ listen a.pairs ∷ after_work C a → Doing C a results r

-- A node at work in the window k chosen at the entry, which was the i-th: its sleep is finished, its work is not.
pub record Working (C : Component) (i : ℕ) (at : Entry) (k : Pick) (r : Node) : Type 0 where
  pub placed : Placed C at
  pub chosen : choice C at ≡ some k
  pub location : r.location ≡ at.location
  pub clocks : r.clocks ≡ at.clocks
  pub t : r.t ≡ at.tick + k.ready
  pub n : r.n ≡ k.ready
  pub d : r.d ≡ k.end - k.ready
  pub edge : r.edge ≡ k.edge
  pub goes : r.goes ≡ none
  pub kept : r.kept ≡ none
  pub sleeps : r.sleeps ≡ suc i
  pub results : List ℤ
  pub ranged : updated (arc_of C k.edge).updates at.values ≡ some results
  pub doing : Doing C (arc_of C k.edge) results r

-- no updates: the values stay
unchanged : (us : List Update) (vs ws : List ℤ) → us ≡ [] → updated us vs ≡ some ws → vs ≡ ws
unfolding updated
unchanged us vs ws e h = some_same (rw e at h)

-- a finished sleep leads to the work of the passage
pub sleep_step : {channels : TableHeader} {C : Component} {i : ℕ} {at : Entry} {k : Pick} {r : Node} (p : List ℕ) → ComponentIn channels C → Asleep C i at k r → (ws : List ℤ)
    → updated (arc_of C k.edge).updates at.values ≡ some ws → Working C i at k (finish p r r.rest)
unfolding exec edge_block
sleep_step {channels} {C} {i} {at} {k} {r} p fits g ws ranged =
    subst (λ (l : List Statement). Working C i at k (finish p r l)) (sym g.rest)
    (record {
      placed = g.placed;
      chosen = g.chosen;
      location = g.location;
      clocks = g.clocks;
      t = g.t;
      n = g.n;
      d = g.d;
      edge = g.edge;
      goes = g.goes;
      kept = g.kept;
      sleeps = ap suc g.sleeps;
      results = ws;
      ranged = ranged;
      doing = go a.edge.action refl (arc_in fits k.edge (choice_picked C at g.chosen).present).action;
    })
  where
    a : Arc
    a = arc_of C k.edge

    go : (act : Action) → a.edge.action ≡ act → ActionIn (sizes_of channels C) a act → Doing C a ws (slept (to r (work_of a act ++ after_work C a)))
    go Internal e h = updating a.updates e (ap (updated a.updates) g.values ∙ ranged) (append_assoc (map update_of a.updates) (done ∷ []) (after_work C a))
    go (Send c) e h = to_send c e (g.values ∙ unchanged a.updates at.values ws h.updates ranged) refl
    go Receive e h = to_listen e (g.values ∙ unchanged a.updates at.values ws h.updates ranged) refl

-- ## Updates

-- an update that stays in range, taken apart
pub update_is : (u : Update) (us : List Update) (vs ws : List ℤ) → updated (u ∷ us) vs ≡ some ws
    → (in_range (new_value u vs) ≡ true) × (updated us (set vs u.variable (new_value u vs)) ≡ some ws)
unfolding updated
update_is u us vs ws e = go (in_range (new_value u vs)) refl e
  where
    go : (t : Bool) → in_range (new_value u vs) ≡ t → cond t (updated us (set vs u.variable (new_value u vs))) none ≡ some ws
        → (in_range (new_value u vs) ≡ true) × (updated us (set vs u.variable (new_value u vs)) ≡ some ws)
    go true q h = (q, h)
    go false q h = absurd (let z : ◌≡◌ {A = ℕ} 0 1 = cc in omega arith)

-- the statement of an update stores the new value
update_exec : (p : List ℕ) (r : Node) (u : Update) (ss : List Statement) → exec p (to r ss) (update_of u) ≡ with_values (to r ss) (set r.values u.variable (new_value u r.values))
unfolding exec
update_exec p r u ss = go u.adds
  where
    go : (t : Bool) → exec p (to r ss) (cond t (add_to u.variable u.number) (set_to u.variable u.number))
        ≡ with_values (to r ss) (set r.values u.variable (cond t (value_at r.values u.variable +ℤ u.number) u.number))
    go true = refl
    go false = refl

-- one update more
pub update_step : {C : Component} {i : ℕ} {at : Entry} {k : Pick} {r : Node} (p : List ℕ) (g : Working C i at k r) (u : Update) (us : List Update)
    → (arc_of C k.edge).edge.action ≡ Internal → updated (u ∷ us) r.values ≡ some g.results
    → r.rest ≡ map update_of (u ∷ us) ++ (done ∷ after_work C (arc_of C k.edge)) → Working C i at k (finish p r r.rest)
update_step {C} {i} {at} {k} {r} p g u us internal leads rest =
    subst (λ (l : List Statement). Working C i at k (finish p r l)) (sym rest)
    (subst (Working C i at k) (sym (update_exec p r u ss))
    (record {
      placed = g.placed;
      chosen = g.chosen;
      location = g.location;
      clocks = g.clocks;
      t = g.t;
      n = g.n;
      d = g.d;
      edge = g.edge;
      goes = g.goes;
      kept = g.kept;
      sleeps = g.sleeps;
      results = g.results;
      ranged = g.ranged;
      doing = updating us internal (update_is u us r.values g.results leads).1 refl;
    }))
  where
    ss : List Statement
    ss = map update_of us ++ (done ∷ after_work C (arc_of C k.edge))

-- ## The work finished

-- the node behind its work; what it has taken says where it goes
abbrev pub behind : Component → Pick → Node → Option ℕ → Node
behind C k r taken = with_place (to r (after_work C (arc_of C k.edge))) r.location taken

-- it heads for the entry that the passage leads to with that message, at the window's end
pub work_ends : {channels : TableHeader} {C : Component} {i : ℕ} {at : Entry} {k : Pick} {r : Node} → ComponentIn channels C → (g : Working C i at k r) → r.values ≡ g.results
    → (m taken : Option ℕ) → or_else taken (arc_of C k.edge).edge.destination ≡ leads_to (arc_of C k.edge) m
    → Ageing C (suc i) (leaves (arc_of C k.edge) m (at.tick + k.end) at) (behind C k r taken)
unfolding leaves
work_ends {channels} {C} {i} {at} {k} {r} fits g acted m taken leads =
    record {
      placed = placed_after fits g.placed k.edge picked.present m (at.tick + k.end);
      mask = a.edge.mask;
      destination = a.edge.destination;
      old = [];
      young = at.clocks;
      leads = ap (λ (n : ℕ). aged a.edge.mask n 0 at.clocks) grown;
      clocks = g.clocks;
      rest = ap (ageing_from a.edge.mask a.edge.destination 0) (sym g.placed.clocks);
      values = acted ∙ ap (λ (o : Option (List ℤ)). or_else o at.values) (sym g.ranged);
      base = last;
      goes = leads;
      kept = g.kept;
      sleeps = g.sleeps;
    }
  where
    a : Arc
    a = arc_of C k.edge

    picked : Picked C at k
    picked = choice_picked C at g.chosen

    grown : r.n + r.d ≡ (at.tick + k.end) - at.tick
    grown = omega (arith, g.n, g.d, picked.window)

    last : r.t + r.d ≡ at.tick + k.end
    last = omega (arith, g.t, g.d, picked.window)
