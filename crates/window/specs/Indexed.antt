-- The edges of each component by the location that they leave, noted once for a whole schedule.
use Rattle.std.specs.Prelude.{◌≡◌, List, ℕ, suc, ◌+◌, ◌*◌, ◌≤◌, ◌<◌, length, get_or}
use Rattle.model.specs.Table.{Component, arc_of}
use Rattle.model.specs.Places.{arc_place, component_in}

-- A component has 80 numbers in the index. Numbers 0 to 15: for each location the first edge that leaves it. Numbers 16 to 47: for each edge
-- the next one that leaves the same location. Numbers 48 to 79: for each edge the place of its first byte. Edge 32 stands for none.
abbrev pub first_from : List ℕ → ℕ → ℕ → ℕ
first_from index c location = get_or index (c * 80 + location) 0

abbrev pub next_of : List ℕ → ℕ → ℕ → ℕ
next_of index c edge = get_or index (c * 80 + 16 + edge) 0

abbrev pub place_of : List ℕ → ℕ → ℕ → ℕ
place_of index c edge = get_or index (c * 80 + 48 + edge) 0

-- the location that an edge leaves
abbrev pub source_of : Component → ℕ → ℕ
source_of C edge = (arc_of C edge).edge.source

-- f is the first edge from number e on that leaves the location; where there is none, f is no edge
pub record NextFrom (C : Component) (location e f : ℕ) : Type 0 where
  pub from : e ≤ f
  pub none : (i : ℕ) → e ≤ i → i < f → i < length C.arcs → source_of C i ≡ location → ⊥
  pub leaves : f < length C.arcs → source_of C f ≡ location

-- the index has the edges of component c, which starts there
pub record Indexed (bs index : List ℕ) (c start : ℕ) : Type 0 where
  pub fits : c * 80 + 80 ≤ length index
  pub place : (e : ℕ) → e < length (component_in bs c).arcs → place_of index c e ≡ arc_place bs start e
  pub first : (q : ℕ) → q < 16 → NextFrom (component_in bs c) q 0 (first_from index c q)
  pub next : (e : ℕ) → e < length (component_in bs c).arcs
      → NextFrom (component_in bs c) (source_of (component_in bs c) e) (suc e) (next_of index c e)

-- the numbers of component c may change, all else stays
pub record Within (before after : List ℕ) (c : ℕ) : Type 0 where
  pub same : length after ≡ length before
  pub below : (j : ℕ) → j < c * 80 → get_or after j 0 ≡ get_or before j 0
  pub above : (j : ℕ) → c * 80 + 80 ≤ j → get_or after j 0 ≡ get_or before j 0

-- the places of the first k edges are noted, all else stays
pub record PlacesPut (bs before after : List ℕ) (c start k : ℕ) : Type 0 where
  pub same : length after ≡ length before
  pub below : (j : ℕ) → j < c * 80 + 48 → get_or after j 0 ≡ get_or before j 0
  pub above : (j : ℕ) → c * 80 + 80 ≤ j → get_or after j 0 ≡ get_or before j 0
  pub place : (e : ℕ) → e < k → place_of after c e ≡ arc_place bs start e

-- the edges from number e on are linked, all else stays
pub record LinksPut (bs before after : List ℕ) (c e : ℕ) : Type 0 where
  pub same : length after ≡ length before
  pub below : (j : ℕ) → j < c * 80 → get_or after j 0 ≡ get_or before j 0
  pub above : (j : ℕ) → c * 80 + 48 ≤ j → get_or after j 0 ≡ get_or before j 0
  pub first : (q : ℕ) → q < 16 → NextFrom (component_in bs c) q e (first_from after c q)
  pub next : (i : ℕ) → e ≤ i → i < length (component_in bs c).arcs
      → NextFrom (component_in bs c) (source_of (component_in bs c) i) (suc i) (next_of after c i)
