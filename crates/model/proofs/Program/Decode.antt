-- The program of a table: the part of each node is the node's bytes, and decoding it gives the node's blocks. Assumes nothing.
use mathlib.Core.Path.{◌≡◌, refl, ap, ◌∙◌}
use mathlib.Core.Bool.{Bool, true, false, cond}
use mathlib.Core.List.{List, [], ◌∷◌, ◌++◌}
use Prim.Native.Nat.{ℕ, zero, suc, ◌+◌, ◌≤◌, ◌<◌}
use native.Mathlib.Omega.{arith}
use borrow.Author.Tests.{le-leb, lt-ltb, le-ltb, leb-true}
use lib.Dec.{leb, ltb}
use lib.ListN.{length, get_or, take}
use lib.Seq.{take-append_seam}
use Rattle.model.specs.Lists.{be16, each}
use Rattle.model.specs.Table.{TableHeader, header_of, Component, Read, no_component, size, component_of}
use Rattle.model.specs.Limits.{ComponentIn, InLimits}
use Rattle.model.specs.Reader.{byte, word}
use Rattle.model.specs.Program.{location_block, edge_block, node_bytes, program_bytes, Range, no_part, part_from, part_of, within}
use Rattle.model.specs.Machine.{location_code, edge_code, part_bytes}
use Rattle.model.proofs.Basics.Walk.{all_at, word_drop, Stands, stands_first, stands_second, stands_whole, stands_says}
use Rattle.model.proofs.Program.Node.{node_length, node-head, node_location, node_edge}

-- ## Walking the lengths

-- where node c of nodes that begin at `at` stands
abbrev pub node_place : ℕ → List Component → ℕ → ℕ
node_place at [] c = at
node_place at (C ∷ Cs) zero = at
node_place at (C ∷ Cs) (suc c) = node_place (at + length (node_bytes C)) Cs c

-- the range of node c of nodes that begin at `at`
abbrev pub node_range : ℕ → List Component → ℕ → Range
node_range at Cs c = record { start = node_place at Cs c; long = length (node_bytes (get_or Cs c no_component)) }

-- a node has its two length bytes
node_least : (C : Component) → 2 ≤ length (node_bytes C)
unfolding node_bytes
node_least C = omega arith

module _ (bs : List ℕ) where
  -- node c stands at its place
  pub node_stands : (at : ℕ) (Cs : List Component) → Stands bs at (each node_bytes Cs) → (c : ℕ) → c < length Cs → Stands bs (node_place at Cs c) (node_bytes (get_or Cs c no_component))
  unfolding each
  node_stands at [] h c k = absurd (omega arith)
  node_stands at (C ∷ Cs) h zero k = stands_first bs at (node_bytes C) (each node_bytes Cs) h
  node_stands at (C ∷ Cs) h (suc c) k =
      node_stands (at + length (node_bytes C)) Cs (stands_second bs at (node_bytes C) (each node_bytes Cs) h) c (omega arith)

  -- the length that stands at a node is its own
  length_there : (at : ℕ) (C : Component) → Stands bs at (node_bytes C) → word bs at ≡ length (node_bytes C)
  length_there at C h = word_drop bs at ∙ stands_says (λ l. word l 0) (node_length C) h

  -- the range found is the node's
  pub range_from : (at : ℕ) (Cs : List Component) → Stands bs at (each node_bytes Cs) → (c : ℕ) → c < length Cs → part_from bs at c ≡ node_range at Cs c
  unfolding each part_from
  range_from at [] h c k = absurd (omega arith)
  range_from at (C ∷ Cs) h zero k =
      let first = stands_first bs at (node_bytes C) (each node_bytes Cs) h in
      rw (
        le-leb (at + 2) (length bs) (omega (arith, node_least C, first.fits)),
        length_there at C first,
        le-leb (at + length (node_bytes C)) (length bs) first.fits,
      )
  range_from at (C ∷ Cs) h (suc c) k =
      let first = stands_first bs at (node_bytes C) (each node_bytes Cs) h in
      let second = stands_second bs at (node_bytes C) (each node_bytes Cs) h in
      rw (
        le-leb (at + 2) (length bs) (omega (arith, node_least C, first.fits)),
        length_there at C first,
        le-leb (at + length (node_bytes C)) (length bs) first.fits,
      ) (range_from (at + length (node_bytes C)) Cs second c (omega arith))

-- ## Any bytes

-- a range that a test may replace by none lies in n bytes
pick_within : (n : ℕ) (t : Bool) (r : Range) → (t ≡ true → r.start + r.long ≤ n) → (cond t r no_part).start + (cond t r no_part).long ≤ n
pick_within n true r h = h refl
pick_within n false r h = omega arith

module _ (bs : List ℕ) where
  -- the range found lies in the bytes
  from_within : (at c : ℕ) → (part_from bs at c).start + (part_from bs at c).long ≤ length bs
  unfolding part_from
  from_within at zero =
      let n = length bs in
      let found : Range = record { start = at; long = word bs at } in
      let fits = cond (leb (at + word bs at) n) found no_part in
      pick_within n (leb (at + 2) n) fits (λ _. pick_within n (leb (at + word bs at) n) found (λ e. leb-true (at + word bs at) n e))
  from_within at (suc c) =
      let n = length bs in
      let onward = part_from bs (at + word bs at) c in
      let fits = cond (leb (at + word bs at) n) onward no_part in
      pick_within n (leb (at + 2) n) fits (λ _. pick_within n (leb (at + word bs at) n) onward (λ e. from_within (at + word bs at) c))

  -- so does every part
  pub part_within : (c : ℕ) → (part_of bs c).start + (part_of bs c).long ≤ length bs
  unfolding part_of
  part_within c =
      let n = length bs in
      let present = cond (ltb c (byte bs 3)) (part_from bs 6 c) no_part in
      pick_within n (leb 6 n) present (λ _. pick_within n (ltb c (byte bs 3)) (part_from bs 6 c) (λ e. from_within 6 c))

-- ## The parts of a program

module _ (t : Read) where
  -- the nodes stand behind the six bytes of the header
  nodes_stand : Stands (program_bytes t) 6 (each node_bytes t.table.components)
  unfolding program_bytes
  nodes_stand =
      let R = each node_bytes t.table.components in
      let header = (t.version ∷ be16 (6 + length R)) ++ (size t.table ∷ be16 t.horizon) in
      stands_second (program_bytes t) 0 header R (stands_whole refl)

  -- the fourth byte is the number of nodes, and the header is whole
  header_is : (byte (program_bytes t) 3 ≡ size t.table) × (6 ≤ length (program_bytes t))
  unfolding program_bytes
  header_is = (refl, omega arith)

  -- the part of node c is its range
  pub part_range : (c : ℕ) → c < size t.table → part_of (program_bytes t) c ≡ node_range 6 t.table.components c
  unfolding part_of
  part_range c k =
      rw (
        le-leb 6 (length (program_bytes t)) header_is.1,
        header_is.0,
        lt-ltb c (size t.table) k,
      ) (range_from (program_bytes t) 6 t.table.components nodes_stand c k)

  -- a number without a node has no part
  pub no-part : (c : ℕ) → size t.table ≤ c → part_of (program_bytes t) c ≡ no_part
  unfolding part_of
  no-part c k = rw (le-leb 6 (length (program_bytes t)) header_is.1, header_is.0, le-ltb c (size t.table) k)

  -- the bytes of node c's part are the node's
  pub part_is : (c : ℕ) → c < size t.table → part_bytes (program_bytes t) c ≡ node_bytes (component_of t.table c)
  part_is c k =
      let n = node_bytes (component_of t.table c) in
      let h = node_stands (program_bytes t) 6 t.table.components nodes_stand c k in
      ap (λ r. within r (program_bytes t)) (part_range c k) ∙ ap (take (length n)) h.same ∙ take-append_seam n h.rest

-- ## The laws

module _ (t : Read) (h : InLimits t) (c : ℕ) (k : c < size t.table) where
  -- component c is in the limits
  limits : ComponentIn (header_of t) (component_of t.table c)
  limits = all_at no_component h.components c k

  -- the numbers of locations and edges and the initial location, as the part of node c says them
  pub initial_code : (byte (part_bytes (program_bytes t) c) 2 ≡ length (component_of t.table c).locations)
      × (byte (part_bytes (program_bytes t) c) 3 ≡ length (component_of t.table c).arcs)
      × (byte (part_bytes (program_bytes t) c) 4 ≡ (component_of t.table c).initial)
  initial_code = rw (part_is t c k) (node-head (component_of t.table c))

  -- the code of a location in the part of node c is the location's block
  pub location-code : (l : ℕ) → l < length (component_of t.table c).locations
      → location_code (part_bytes (program_bytes t) c) l ≡ location_block (component_of t.table c) l
  location-code l i = rw (part_is t c k) (node_location (header_of t) (component_of t.table c) h.channels limits l i)

  -- the code of an edge in the part of node c is the edge's block
  pub edge-code : (e : ℕ) → e < length (component_of t.table c).arcs → edge_code (part_bytes (program_bytes t) c) e ≡ edge_block (component_of t.table c) e
  edge-code e i = rw (part_is t c k) (node_edge (header_of t) (component_of t.table c) h.channels limits e i)

  -- the code in which node c starts is the block of its initial location
  pub start_code : location_code (part_bytes (program_bytes t) c) (byte (part_bytes (program_bytes t) c) 4) ≡ location_block (component_of t.table c) (component_of t.table c).initial
  start_code = rw initial_code.2 (location-code (component_of t.table c).initial limits.initial)
