-- The edges of a component, as they are written. Assumes nothing.
use mathlib.Core.Path.{◌≡◌, refl, sym, ap, ap₂, subst, ◌∙◌}
use mathlib.Core.Bool.{Bool, true, false}
use mathlib.Core.List.{List, [], ◌∷◌, ◌++◌, map, append_assoc}
use mathlib.Core.Option.{Option}
use Prim.Native.Nat.{ℕ, zero, suc, ◌+◌, ◌-◌, ◌*◌, ◌≤◌, ◌<◌}
use native.Mathlib.Numerals.{add-one, sub-one}
use native.Mathlib.Omega.{arith}
use lib.ListN.{length, take, drop, length-drop}
use lib.Seq.{drop-drop}
use Rattle.model.specs.declared.Action.{Action}
use Rattle.model.specs.declared.Action.TheVariants.{Internal, Send, Receive}
use Rattle.model.specs.declared.Edge.{Edge}
use Rattle.model.specs.declared.Location as model
use Rattle.model.specs.declared.Pair.{Pair}
use Rattle.model.specs.declared.Sizes.{Sizes}
use Rattle.model.specs.Lists.{All, empty, more, each, from}
use Rattle.model.specs.Table.{Arc, Component, no_location, location_of}
use Rattle.model.specs.Limits.{PairIn, ActionIn, ArcIn}
use Rattle.model.specs.Reader.{byte, location_at, clock_guard_at, data_guard_at, update_at}
use Rattle.model.specs.Places.{arc_head_length, arc_length, items_place, updates_at, arc_at}
use Rattle.model.proofs.Basics.Walk.{list_length, list_part}
use Rattle.parts.proofs.Skim.{tail}
use Rattle.window.proofs.Ready.{arc_ready}
use Rattle.blocks.specs.FrontEdges.{arcs_at, ArcsFit}
use Rattle.blocks.proofs.Arcs.{edge_passed}
use Rattle.blocks.specs.Put.{Put}
use Rattle.blocks.proofs.Runs.{Writing, left_is, put_on, put_all}
use Rattle.translator.specs.Front.{arcs_place, front_component}
use Rattle.uppaal.specs.Xta.{waiting}
use Rattle.uppaal.specs.XtaText.{each_after, location_text, transition_text}
use Rattle.uppaal.specs.Export.{uppers, ends, outcomes, entries, plain_location, step_in_with, step_out_with, transitions_with, transitions_from, waiting_from}
use Rattle.uppaal.proofs.One.{pairs_in}
use Rattle.uppaal_parts.proofs.Told.{after_append}
use Rattle.uppaal_steps.specs.Steps.{Writable, step_text, outcome_text, edge_text}
use Rattle.uppaal_steps.proofs.Stepping.{each_map}
use Rattle.uppaal_text.specs.Texts.{ArcsWritable, Exportable, place_text, edges_text}

-- ## The text of the edges is that of the parts

module _ (C : Component) where
  waiting_told : (e : ℕ) (a : Arc) (ms : List (Option ℕ))
      → each (outcome_text false (location_of C a.edge.source) C.clocks e a) ms ≡ each_after ",\n  " location_text (map (λ m. record { name = waiting e m; invariant = uppers C a }) ms)
  unfolding outcome_text each_after each
  waiting_told e a [] = refl
  waiting_told e a (m ∷ ms) = ap (λ (l : List ℕ). outcome_text false (location_of C a.edge.source) C.clocks e a m ++ l) (waiting_told e a ms)

  pub waitings_told : (e : ℕ) (as' : List Arc) → edges_text false C e as' ≡ each_after ",\n  " location_text (waiting_from C e as')
  unfolding edges_text edge_text waiting_from each_after each
  waitings_told e [] = refl
  waitings_told e (a ∷ as') =
      ap₂ ◌++◌ (waiting_told e a (outcomes a a.edge.action)) (waitings_told (suc e) as')
      ∙ sym (after_append ",\n  " location_text (map (λ m. record { name = waiting e m; invariant = uppers C a }) (outcomes a a.edge.action)) (waiting_from C (suc e) as'))

  step-told : (e : ℕ) (a : Arc) (ms : List (Option ℕ))
      → each (outcome_text true (location_of C a.edge.source) C.clocks e a) ms ≡ each_after ",\n  " transition_text (transitions_with C e a ms)
  unfolding outcome_text each_after each transitions_with
  step-told e a [] = refl
  step-told e a (m ∷ ms) =
      let I = map (step_in_with e a m) (entries (uppers C a) a.edge.action m) in
      let O = map (step_out_with C.clocks e a m) (ends (uppers C a)) in
      ap (λ (l : List ℕ). (each step_text I ++ each step_text O) ++ l) (step-told e a ms)
      ∙ append_assoc (each step_text I) (each step_text O) (each_after ",\n  " transition_text (transitions_with C e a ms))
      ∙ ap (λ (l : List ℕ). each step_text I ++ l) (sym (after_append ",\n  " transition_text O (transitions_with C e a ms)))
      ∙ sym (after_append ",\n  " transition_text I (O ++ transitions_with C e a ms))

  pub steps_told : (e : ℕ) (as' : List Arc) → edges_text true C e as' ≡ each_after ",\n  " transition_text (transitions_from C e as')
  unfolding edges_text edge_text transitions_from each_after each
  steps_told e [] = refl
  steps_told e (a ∷ as') =
      ap₂ ◌++◌ (step-told e a (outcomes a a.edge.action)) (steps_told (suc e) as')
      ∙ sym (after_append ",\n  " transition_text (transitions_with C e a (outcomes a a.edge.action)) (transitions_from C (suc e) as'))

  pub plain_told : (n : ℕ) → each (λ l. place_text (plain_location C l)) (from 0 n) ≡ each_after ",\n  " location_text (map (plain_location C) (from 0 n))
  unfolding each_after
  plain_told n = sym (each_map place_text (plain_location C) (from 0 n))

-- ## An edge within its limits can be written

guards_few : (s : Sizes) (a : Arc) (x : Action) → ActionIn s a x → length a.data_guards ≤ 4
guards_few s a Internal i = i.guards
guards_few s a (Send k) i = i.guards
guards_few s a Receive i = rw i.guards (omega arith)

updates_few : (s : Sizes) (a : Arc) (x : Action) → ActionIn s a x → length a.updates ≤ 4
updates_few s a Internal i = i.count
updates_few s a (Send k) i = rw i.updates (omega arith)
updates_few s a Receive i = rw i.updates (omega arith)

pairs_few : (s : Sizes) (a : Arc) (x : Action) → ActionIn s a x → length a.pairs ≤ 8
pairs_few s a Internal i = rw i.pairs (omega arith)
pairs_few s a (Send k) i = rw i.pairs (omega arith)
pairs_few s a Receive i = i.most

pairs_small : (s : Sizes) → s.channels ≤ 16 → {qs : List Pair} → All (PairIn s) qs → All (λ q. q.channel < 255) qs
pairs_small s h empty = empty
pairs_small s h (more {x} i f) = more {x = x} (omega (arith, i.channel)) (pairs_small s h f)

module _ (s : Sizes) (few : s.channels ≤ 16) (c : s.clocks ≤ 4) (v : s.variables ≤ 4) (b : Bool) (h : List ℕ) (fits : arc_length b h ≤ length h) (i : ArcIn s (arc_at b h)) where
  clocks_counted : byte h 4 ≤ 4
  unfolding arc_at
  clocks_counted = omega (arith, i.count, list_length clock_guard_at 5 (byte h 4) (drop (arc_head_length b) h))

  datas_counted : byte h 5 ≤ 4
  unfolding arc_at
  datas_counted = omega (arith, guards_few s (arc_at b h) (arc_at b h).edge.action i.action, list_length data_guard_at 5 (byte h 5) (drop (arc_head_length b + byte h 4 * 5) h))

  updates_counted : byte h 0 ≡ 0 → byte h 6 ≤ 4
  unfolding arc_at updates_at
  updates_counted e =
      let r = drop (items_place b h) h in
      let u : length (arc_at b h).updates ≡ byte h 6 = ap (λ (k : ℕ). length (updates_at k (byte h 6) r)) e ∙ list_length update_at 4 (byte h 6) r in
      omega (arith, updates_few s (arc_at b h) (arc_at b h).edge.action i.action)

  pub writable : Writable b h
  writable =
      record {
        ready = arc_ready s b h (arc_at b h) c v fits refl i;
        clock_guards = clocks_counted;
        data_guards = datas_counted;
        updates = updates_counted;
        pairs = pairs_few s (arc_at b h) (arc_at b h).edge.action i.action;
        sent = λ k q. omega (arith, (subst (ActionIn s (arc_at b h)) (sym q) i.action).channel);
        heard = pairs_small s few (pairs_in s (arc_at b h) (arc_at b h).edge.action i.action);
      }

-- all of them
pub all_writable : (s : Sizes) → s.channels ≤ 16 → s.clocks ≤ 4 → s.variables ≤ 4 → (b : Bool) (n : ℕ) (h : List ℕ) → ArcsFit b n h → All (ArcIn s) (arcs_at b n h) → ArcsWritable b s.locations n h
unfolding ArcsWritable ArcsFit arcs_at
all_writable s few c v b zero h f i = tt
all_writable s few c v b (suc n) h f (more i is) = (writable s few c v b h f.0 i, i.source, all_writable s few c v b n (drop (arc_length b h) h) f.1 is)

-- ## The loop over the edges

-- the edge ahead, and those behind it
writable_ahead : (b : Bool) (locations k : ℕ) (h : List ℕ) → 0 < k → ArcsWritable b locations k h → Writable b h × ((arc_at b h).edge.source < locations) × ArcsWritable b locations (k - 1) (drop (arc_length b h) h)
unfolding ArcsWritable
writable_ahead b locations zero h q f = absurd (omega arith)
writable_ahead b locations (suc k) h q f = rw sub-one f

edges_split : (steps : Bool) (C : Component) (b : Bool) (e k : ℕ) (h : List ℕ) → 0 < k
    → edges_text steps C e (arcs_at b k h) ≡ edge_text steps (location_of C (arc_at b h).edge.source) C.clocks e (arc_at b h) ++ edges_text steps C (e + 1) (arcs_at b (k - 1) (drop (arc_length b h) h))
unfolding edges_text arcs_at
edges_split steps C b e zero h q = absurd (omega arith)
edges_split steps C b e (suc k) h q = rw (sub-one, add-one e)

module _ (b : Bool) (p : List ℕ) (place k : ℕ) (more' : 0 < k) (f : ArcsWritable b (byte p 2) k (drop place p)) where
  pub edge_writable : Writable b (drop place p)
  edge_writable = (writable_ahead b (byte p 2) k (drop place p) more' f).0

  pub edge_source : (arc_at b (drop place p)).edge.source < byte p 2
  edge_source = (writable_ahead b (byte p 2) k (drop place p) more' f).1

  pub edge_long : 7 ≤ length (take (length p - place) (drop place p))
  edge_long = rw (tail p place) edge_writable.ready.decodable.head

  pub edge_within : place ≤ length p → (long : ℕ) → long ≡ arc_length b (take (length p - place) (drop place p)) → place + long ≤ length p
  edge_within g long q =
      let w : long ≡ arc_length b (drop place p) = q ∙ ap (arc_length b) (tail p place) in
      omega (arith, edge_writable.ready.decodable.whole, length-drop place p)

  pub edges_writable : (long : ℕ) → long ≡ arc_length b (take (length p - place) (drop place p)) → ArcsWritable b (byte p 2) (k - 1) (drop (place + long) p)
  edges_writable long q = subst (ArcsWritable b (byte p 2) (k - 1)) (edge_passed b p place long q) (writable_ahead b (byte p 2) k (drop place p) more' f).2

  -- a turn
  pub edges_on : (steps : Bool) (C : Component) (e long : ℕ) → long ≡ arc_length b (take (length p - place) (drop place p)) → {o₀ all o q : List ℕ} {at₀ at n : ℕ}
      → Writing o₀ at₀ all o at (edges_text steps C e (arcs_at b k (drop place p)))
      → Put o at (edge_text steps (location_of C (arc_at b (drop place p)).edge.source) C.clocks e (arc_at b (drop place p))) n q
      → Writing o₀ at₀ all q n (edges_text steps C (e + 1) (arcs_at b (k - 1) (drop (place + long) p)))
  edges_on steps C e long r v x =
      let w = ap (λ (h : List ℕ). edges_text steps C (e + 1) (arcs_at b (k - 1) h)) (edge_passed b p place long r) in
      left_is w (put_on (edges_text steps C (e + 1) (arcs_at b (k - 1) (drop (arc_length b (drop place p)) (drop place p)))) (left_is (edges_split steps C b e k (drop place p) more') v) x)

pub edges_done : (steps : Bool) (C : Component) (b : Bool) (e k : ℕ) (h : List ℕ) {o₀ all o : List ℕ} {at₀ at : ℕ} → k ≤ 0 → Writing o₀ at₀ all o at (edges_text steps C e (arcs_at b k h)) → Put o₀ at₀ all at o
unfolding edges_text arcs_at
edges_done steps C b e zero h q v = put_all v
edges_done steps C b e (suc k) h q v = absurd (omega arith)

-- ## The location that an edge leaves

pub location_is : (b : Bool) (p : List ℕ) (here place : ℕ) (l : model.Location) → here < byte p 2 → place ≡ 7 + here * 3 → l ≡ location_at (take (length p - place) (drop place p))
    → l ≡ location_of (front_component b p) here
unfolding front_component
location_is b p here place l h d f =
    f ∙ rw (tail p place, d) (sym (list_part location_at 3 (byte p 2) (drop 7 p) no_location here h ∙ ap location_at (drop-drop (here * 3) 7 p)))

pub front_clocks : (b : Bool) (p : List ℕ) → (front_component b p).clocks ≡ byte p 4
unfolding front_component
front_clocks b p = refl

pub front_variables : (b : Bool) (p : List ℕ) → (front_component b p).variables ≡ byte p 5
unfolding front_component
front_variables b p = refl

pub front_arcs : (b : Bool) (p : List ℕ) → arcs_at b (byte p 6) (drop (arcs_place p) p) ≡ (front_component b p).arcs
unfolding front_component
front_arcs b p = refl

-- before the first edge
pub start_writable : (b : Bool) (p : List ℕ) (place : ℕ) → place ≡ arcs_place p → Exportable b p → ArcsWritable b (byte p 2) (byte p 6) (drop place p)
start_writable b p place e x = subst (λ (i : ℕ). ArcsWritable b (byte p 2) (byte p 6) (drop i p)) (sym e) x.arcs

pub start_text : (steps : Bool) (b : Bool) (p : List ℕ) (place : ℕ) → place ≡ arcs_place p
    → edges_text steps (front_component b p) 0 (front_component b p).arcs ≡ edges_text steps (front_component b p) 0 (arcs_at b (byte p 6) (drop place p))
start_text steps b p place e =
    ap (edges_text steps (front_component b p) 0) (sym (front_arcs b p) ∙ ap (λ (i : ℕ). arcs_at b (byte p 6) (drop i p)) (sym e))

-- ## One edge, from where it stands

module _ (b : Bool) (p : List ℕ) (place : ℕ) (w : Writable b (drop place p)) where
  pub edge_readable : (7 ≤ length (take (length p - place) (drop place p))) × (arc_length b (take (length p - place) (drop place p)) ≤ length (take (length p - place) (drop place p)))
  edge_readable = rw (tail p place) (w.ready.decodable.head, w.ready.decodable.whole)

  pub writable_there : Writable b (take (length p - place) (drop place p))
  writable_there = subst (Writable b) (sym (tail p place)) w

  -- the location that it leaves
  pub source_is : (e : Edge) → e ≡ (arc_at b (take (length p - place) (drop place p))).edge → e.source ≡ (arc_at b (drop place p)).edge.source
  source_is e q = ap (λ (x : Edge). x.source) (q ∙ ap (λ (l : List ℕ). (arc_at b l).edge) (tail p place))

  pub edge_is : (steps : Bool) (number : ℕ) (l : model.Location) → l ≡ location_of (front_component b p) (arc_at b (drop place p)).edge.source
      → edge_text steps l (byte p 4) number (arc_at b (take (length p - place) (drop place p)))
      ≡ edge_text steps (location_of (front_component b p) (arc_at b (drop place p)).edge.source) (front_component b p).clocks number (arc_at b (drop place p))
  edge_is steps number l e =
      ap₂ (λ (x : model.Location) (h : List ℕ). edge_text steps x (byte p 4) number (arc_at b h)) e (tail p place)
      ∙ ap (λ (k : ℕ). edge_text steps (location_of (front_component b p) (arc_at b (drop place p)).edge.source) k number (arc_at b (drop place p))) (sym (front_clocks b p))
