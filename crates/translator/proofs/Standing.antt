-- The components of a valid table, at the front of what stands from their starts on. Assumes nothing.
use mathlib.Core.Path.{◌≡◌, refl, sym, ap, ◌∙◌}
use mathlib.Core.Logic.{◌⊎◌, inl, inr}
use mathlib.Core.List.{List, ◌∷◌}
use Prim.Native.Nat.{ℕ, zero, suc, ◌+◌, ◌-◌, ◌*◌, ◌≤◌, ◌<◌}
use native.Mathlib.Omega.{arith}
use borrow.Author.Tests.{eqb-true, eqb-false}
use mathlib.Core.Bool.{Bool, true, false}
use mir.Syntax.{w8}
use mir.Val.{Fits}
use lib.Dec.{eqb}
use lib.ListN.{length, take, drop, get_or, set, length-take, length-drop, length-set}
use lib.Seq.{drop-drop, drop-cons, get_or-take, get_or-drop, ext_get_or, get_or-set_same, get_or-set_other, drop-length}
use Rattle.model.specs.Lists.{Bytes}
use Rattle.model.specs.Table.{Component, no_location, no_arc, size, header_of, arc_of}
use Rattle.model.specs.Reader.{byte, location_at}
use Rattle.model.specs.Limits.{InLimits}
use Rattle.model.specs.Places.{list_at, budgeted, start_of, location_place, arc_place, ComponentAt, Valid, read_of, component_in}
use Rattle.model.specs.Program.{node_bytes}
use Rattle.model.proofs.Basics.Walk.{list_length, list_part}
use Rattle.model.proofs.Reader.RoundTrip.{written_read}
use Rattle.model.proofs.Reader.Located.{are_bytes, valid_read, valid_located, valid_in}
use Rattle.model.proofs.Program.Size.{Sourced, sourced, node_fits}
use Rattle.parts.proofs.Skim.{tail}
use Rattle.table.specs.Directory.{starts_of}
use Rattle.blocks.specs.FrontEdges.{arcs_at, ArcsFit}
use Rattle.translator.specs.Front.{arcs_place, front_component, Whole}

-- ## One component

module _ (bs : List ℕ) (b : ℕ) (C : Component) (at : ComponentAt bs b C) where
  -- its bytes
  byte_there : (i : ℕ) → byte (drop b bs) i ≡ byte bs (b + i)
  byte_there i = get_or-drop b bs i 0

  -- its edges, from number e on
  arcs_fit : (n e : ℕ) → e + n ≡ length C.arcs → ArcsFit (budgeted bs) n (drop (arc_place bs b e) bs)
  unfolding ArcsFit arc_place
  arcs_fit zero e q = tt
  arcs_fit (suc n) e q = (
    simp length-drop (omega (arith, at.arc_fits e (omega arith))),
    rw drop-drop (arcs_fit n (suc e) (omega arith)),
  )

  arcs_are : (n e : ℕ) → e + n ≡ length C.arcs → arcs_at (budgeted bs) n (drop (arc_place bs b e) bs) ≡ drop e C.arcs
  unfolding arcs_at arc_place
  arcs_are zero e q = let z : e ≡ length C.arcs = omega arith in rw z (sym (drop-length C.arcs))
  arcs_are (suc n) e q =
      let t = arcs_are n (suc e) (omega arith) in
      rw (at.arc e (omega arith), drop-drop) (ap (λ l. arc_of C e ∷ l) t ∙ sym (drop-cons C.arcs e no_arc (omega arith)))

  place_there : drop (arcs_place (drop b bs)) (drop b bs) ≡ drop (arc_place bs b 0) bs
  unfolding arc_place
  place_there =
      let e : b + (7 + byte bs (b + 2) * 3) ≡ b + 7 + byte bs (b + 2) * 3 = omega arith in
      rw (byte_there 2, drop-drop, e)

  edges_there : byte (drop b bs) 6 ≡ length C.arcs
  edges_there = byte_there 6 ∙ at.arcs

  location_there : (i : ℕ) → drop (i * 3) (drop 7 (drop b bs)) ≡ drop (location_place b i) bs
  location_there i =
      let e : b + (7 + i * 3) ≡ b + 7 + i * 3 = omega arith in
      drop-drop (i * 3) 7 (drop b bs) ∙ drop-drop (7 + i * 3) b bs ∙ ap (λ (k : ℕ). drop k bs) e

  locations_there : list_at location_at 3 (byte (drop b bs) 2) (drop 7 (drop b bs)) ≡ C.locations
  locations_there =
      let n = byte (drop b bs) 2 in
      let e : n ≡ length C.locations = byte_there 2 ∙ at.locations in
      let l = list_length location_at 3 n (drop 7 (drop b bs)) in
      ext_get_or no_location (list_at location_at 3 n (drop 7 (drop b bs))) C.locations (l ∙ e)
      (λ i h. list_part location_at 3 n (drop 7 (drop b bs)) no_location i (omega arith) ∙ ap location_at (location_there i) ∙ at.location i (omega arith))

  last_location : (n : ℕ) → n ≡ length C.locations → b + 7 + n * 3 ≤ length bs
  last_location zero e = omega (arith, at.fits)
  last_location (suc n) e = omega (arith, at.location_fits n (omega arith))

  pub stands_whole : Whole (budgeted bs) (drop b bs)
  stands_whole =
      record {
        locations = rw (byte_there 2, at.locations) (simp length-drop (omega (arith, last_location (length C.locations) refl, at.fits)));
        arcs = rw (place_there, edges_there) (arcs_fit (length C.arcs) 0 (omega arith));
      }

  pub stands_as : front_component (budgeted bs) (drop b bs) ≡ C
  unfolding front_component
  stands_as =
      rw (locations_there, place_there, edges_there, arcs_are (length C.arcs) 0 (omega arith), byte_there 3, at.initial, byte_there 4, at.clocks, byte_there 5, at.variables)

-- ## The directory of starts

starts_long : (bs : List ℕ) (n : ℕ) → length (starts_of bs n) ≡ 8
unfolding starts_of
starts_long bs zero = refl
starts_long bs (suc n) = length-set (starts_of bs n) n (start_of bs n) ∙ starts_long bs n

same_or_not : {c n : ℕ} (t : Bool) → eqb c n ≡ t → (c ≡ n) ⊎ (c ≡ n → ⊥)
same_or_not {c} {n} true e = inl (eqb-true c n e)
same_or_not {c} {n} false e = inr (eqb-false c n e)

pub start-at : (bs : List ℕ) (n c : ℕ) → c < n → n ≤ 8 → get_or (starts_of bs n) c 0 ≡ start_of bs c
unfolding starts_of
start-at bs zero c h k = absurd (omega arith)
start-at bs (suc n) c h k = go (start-at bs n c) (same_or_not (eqb c n) refl)
  where
    go : (c < n → n ≤ 8 → get_or (starts_of bs n) c 0 ≡ start_of bs c) → (c ≡ n) ⊎ (c ≡ n → ⊥) → get_or (set (starts_of bs n) n (start_of bs n)) c 0 ≡ start_of bs c
    go r (inl e) = rw e (get_or-set_same (starts_of bs n) n (start_of bs n) 0 (omega (arith, starts_long bs n)))
    go r (inr e) = get_or-set_other (starts_of bs n) n c (start_of bs n) 0 e ∙ r (omega arith) (omega arith)

-- ## The components of a valid table

-- what a slice of bytes holds are bytes
pub slice_bytes : (bs : List ℕ) → ((i : ℕ) → Fits w8 (get_or bs i 0)) → Bytes bs
slice_bytes bs h = are_bytes bs (λ i. omega (arith, h i))

module _ (bs : List ℕ) (b : Bytes bs) (v : Valid bs) where
  pub valid_limits : InLimits (read_of bs)
  valid_limits = (written_read bs (read_of bs) b (valid_read bs v)).0

  pub valid_count : byte bs 3 ≡ size (read_of bs).table
  valid_count = (valid_located bs b v).count

  pub few_nodes : byte bs 3 ≤ 8
  few_nodes = omega (arith, valid_count, valid_limits.most_components)

  module _ (c : ℕ) (h : c < byte bs 3) (start : ℕ) (e : start ≡ start_of bs c) where
    there : ComponentAt bs start (component_in bs c)
    there = rw e ((valid_located bs b v).component c (omega (arith, valid_count)))

    pub start_fits : start + 7 ≤ length bs
    start_fits = there.fits

    -- w says whether edges have a budget
    module _ (w : Bool) (same : w ≡ budgeted bs) where
      pub node_is : front_component w (take (length bs - start) (drop start bs)) ≡ component_in bs c
      node_is = rw same (ap (front_component (budgeted bs)) (tail bs start) ∙ stands_as bs start (component_in bs c) there)

      pub node_whole : Whole w (take (length bs - start) (drop start bs))
      node_whole = rw (same, tail bs start) (stands_whole bs start (component_in bs c) there)

      pub node_sourced : Sourced (front_component w (take (length bs - start) (drop start bs)))
      node_sourced = rw node_is (sourced (header_of (read_of bs)) (component_in bs c) (valid_in bs b v c (omega (arith, valid_count))))

      pub node_small : length (node_bytes (front_component w (take (length bs - start) (drop start bs)))) ≤ 24576
      node_small = rw node_is (omega (arith, node_fits (read_of bs) valid_limits c (omega (arith, valid_count))))

  -- the starts that the reader found
  pub found : (starts : List ℕ) → starts ≡ starts_of bs (byte bs 3) → (c : ℕ) → c < byte bs 3 → get_or starts c 0 ≡ start_of bs c
  found starts e c h = ap (λ (l : List ℕ). get_or l c 0) e ∙ start-at bs (byte bs 3) c h few_nodes

  -- as many of them as there are components
  module _ (starts : List ℕ) (e : starts ≡ starts_of bs (byte bs 3)) (n : ℕ) (all : n ≡ byte bs 3) where
    pub taken_long : length (take n starts) ≡ byte bs 3
    taken_long = rw (all, e) (simp length-take (omega (arith, starts_long bs (byte bs 3), few_nodes)))

    pub taken_found : (c : ℕ) → c < length (take n starts) → get_or (take n starts) c 0 ≡ start_of bs c
    taken_found c h = let k : c < n = omega (arith, taken_long) in get_or-take n starts c 0 k ∙ found starts e c (omega (arith, taken_long))

  -- the header stands
  pub valid_long : 7 ≤ length bs
  valid_long =
      let one : 0 < byte bs 3 = omega (arith, valid_count, valid_limits.least_components) in
      omega (arith, start_fits 0 one (start_of bs 0) refl)
