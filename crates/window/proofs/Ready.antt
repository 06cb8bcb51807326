-- Each edge of a valid table can be read where it stands. Assumes nothing.
use mathlib.Core.Path.{◌≡◌, sym, ap, ◌∙◌}
use mathlib.Core.Bool.{Bool}
use mathlib.Core.List.{List}
use Prim.Native.Nat.{ℕ, ◌+◌, ◌-◌, ◌*◌, ◌≤◌, ◌<◌}
use native.Mathlib.Numerals.{add-one}
use native.Mathlib.Omega.{arith}
use lib.ListN.{length, take, drop, get_or, length-drop}
use lib.Seq.{get_or-drop}
use Rattle.model.specs.declared.Action.{Action}
use Rattle.model.specs.declared.Action.TheVariants.{Internal, Send, Receive}
use Rattle.model.specs.declared.Sizes.{Sizes}
use Rattle.model.specs.Lists.{All, empty, Bytes}
use Rattle.model.specs.Table.{header_of, Arc, sizes_of, no_location, no_arc, size, location_of, arc_of}
use Rattle.model.specs.Limits.{ActionIn, ArcIn}
use Rattle.model.specs.Reader.{byte}
use Rattle.model.specs.Places.{arc_length, arc_at, budgeted, arc_place, start_of, ComponentAt, Valid, read_of, component_in}
use Rattle.model.proofs.Basics.Walk.{all_at}
use Rattle.model.proofs.Reader.Located.{are_bytes, valid_located, valid_in}
use Rattle.parts.proofs.Skim.{tail}
use Rattle.decoder.proofs.Callers.{decodable, head_seven}
use Rattle.window.specs.Views.{ArcReady}
use Rattle.window.proofs.Rests.{all_as}

updates_in : (s : Sizes) (a : Arc) (m : Action) → s.variables ≤ 4 → ActionIn s a m → All (λ u. u.variable < 4) a.updates
updates_in s a Internal v i = all_as (λ u q. omega (arith, q.variable)) i.updates
updates_in s a (Send k) v i = rw i.updates empty
updates_in s a Receive v i = rw i.updates empty

-- an edge that stands whole and is within its limits
pub arc_ready : (s : Sizes) (b : Bool) (h : List ℕ) (a : Arc) → s.clocks ≤ 4 → s.variables ≤ 4 → arc_length b h ≤ length h → arc_at b h ≡ a → ArcIn s a → ArcReady b h
arc_ready s b h a c v w e l =
    record {
      decodable = decodable b h w;
      clock_guards = rw e (all_as (λ g q. omega (arith, q.clock)) l.clock_guards);
      data_guards = rw e (all_as (λ g q. omega (arith, q.variable)) l.data_guards);
      updates = rw e (updates_in s a a.edge.action v l.action);
    }

-- ## For bytes that pass checks 1 to 6

module _ (bs : List ℕ) (b : Bytes bs) (v : Valid bs) (c : ℕ) (k : c < size (read_of bs).table) where
  -- component c stands there, and is within its limits
  pub valid_at : ComponentAt bs (start_of bs c) (component_in bs c)
  valid_at = (valid_located bs b v).component c k

  -- edge e stands whole
  pub valid_whole : (e : ℕ) → e < length (component_in bs c).arcs
      → arc_length (budgeted bs) (drop (arc_place bs (start_of bs c) e) bs) ≤ length (drop (arc_place bs (start_of bs c) e) bs)
  valid_whole e l = simp length-drop (omega (arith, valid_at.arc_fits e l))

  -- edge e can be read
  pub valid_ready : (e : ℕ) → e < length (component_in bs c).arcs → ArcReady (budgeted bs) (drop (arc_place bs (start_of bs c) e) bs)
  valid_ready e l =
      let i = valid_in bs b v c k in
      let s = sizes_of (header_of (read_of bs)) (component_in bs c) in
      arc_ready s (budgeted bs) (drop (arc_place bs (start_of bs c) e) bs) (arc_of (component_in bs c) e) i.most_clocks i.variables (valid_whole e l) (valid_at.arc e l)
      (all_at no_arc i.arcs e l)

-- ## The component that starts at a place

-- It stands there, its edges can be read, and its invariants name clocks that have a place.
pub record Entered (bs : List ℕ) (c start : ℕ) : Type 0 where
  pub stands : ComponentAt bs start (component_in bs c)
  pub least_arcs : 1 ≤ length (component_in bs c).arcs
  pub ready : (e : ℕ) → e < length (component_in bs c).arcs → ArcReady (budgeted bs) (drop (arc_place bs start e) bs)
  pub clock : (l : ℕ) → l < length (component_in bs c).locations → (location_of (component_in bs c) l).clock < 4
  pub most_arcs : length (component_in bs c).arcs ≤ 32
  pub most_locations : length (component_in bs c).locations ≤ 16
  pub source : (e : ℕ) → e < length (component_in bs c).arcs → (arc_of (component_in bs c) e).edge.source < 16

pub entered : (bs : List ℕ) (c start : ℕ) → ((i : ℕ) → get_or bs i 0 < 256) → Valid bs → c < size (read_of bs).table → start ≡ start_of bs c → Entered bs c start
entered bs c start g v k q =
    let b = are_bytes bs g in
    let i = valid_in bs b v c k in
    record {
      stands = rw q (valid_at bs b v c k);
      least_arcs = i.least_arcs;
      ready = rw q (valid_ready bs b v c k);
      clock = λ l h. omega (arith, (all_at no_location i.locations l h).clock, i.most_clocks);
      most_arcs = i.most_arcs;
      most_locations = i.most_locations;
      source = λ e h. omega (arith, (all_at no_arc i.arcs e h).source, i.most_locations);
    }

-- the first edge's place, from the count of locations
pub first_place : (bs : List ℕ) (start count : ℕ) → count ≡ byte bs (start + 2) → start + 7 + count * 3 ≡ arc_place bs start 0
unfolding arc_place
first_place bs start count e = rw e

module _ (bs : List ℕ) (c start : ℕ) (E : Entered bs c start) where
  -- the first edge's place lies in the table
  pub first_within : start + 7 + byte bs (start + 2) * 3 ≤ length bs
  unfolding arc_place
  first_within = omega (arith, E.stands.arc_fits 0 E.least_arcs)

  -- an edge below the count
  pub edge_in : (e : ℕ) → e < byte bs (start + 6) → e < length (component_in bs c).arcs
  edge_in e l = omega (arith, E.stands.arcs)

  -- edge e at its place
  module _ (place e : ℕ) (p : place ≡ arc_place bs start e) (l : e < length (component_in bs c).arcs) where
    pub arc-fits : place + arc_length (budgeted bs) (drop place bs) ≤ length bs
    arc-fits = rw p (E.stands.arc_fits e l)

    pub arc-head : place + 7 ≤ length bs
    arc-head = omega (arith, arc-fits, head_seven (budgeted bs))

    pub arc_asked : (b : Bool) → b ≡ budgeted bs → ArcReady b (take (length bs - place) (drop place bs))
    arc_asked b same = rw (same, tail bs place, p) (E.ready e l)

    -- the bytes there are edge e
    pub arc_is : (b : Bool) → b ≡ budgeted bs → arc_at b (take (length bs - place) (drop place bs)) ≡ arc_of (component_in bs c) e
    arc_is b same = rw (same, tail bs place, p) (E.stands.arc e l)

    pub source_is : (arc_of (component_in bs c) e).edge.source ≡ byte bs (place + 1)
    unfolding arc_at
    source_is = sym (ap (λ (a : Arc). a.edge.source) (E.stands.arc e l)) ∙ rw (← p) (get_or-drop place bs 1 0)

    -- the next edge's place
    module _ (b : Bool) (same : b ≡ budgeted bs) (r : ℕ) (q : r ≡ arc_length b (take (length bs - place) (drop place bs))) where
      pub next_place : place + r ≡ arc_place bs start (e + 1)
      unfolding arc_place
      next_place = rw (q, same, tail bs place, add-one e, p)

      pub next_within : place + r ≤ length bs
      next_within = rw (q, same, tail bs place) arc-fits
