-- The bytes of one node: its first bytes, and its blocks decoded where the table of starts says. Assumes nothing.
use mathlib.Core.Path.{◌≡◌, refl, sym, ap, ap₂, subst, ◌∙◌}
use mathlib.Core.List.{List, [], ◌∷◌, ◌++◌, map}
use Prim.Native.Nat.{ℕ, suc, ◌+◌, ◌*◌, ◌≤◌, ◌<◌}
use native.Mathlib.Omega.{arith}
use lib.ListN.{length, get_or, drop, length-map, get_or-append}
use lib.Seq.{get_or-append-add}
use Rattle.model.specs.Lists.{be16, each, below}
use Rattle.model.specs.Table.{TableHeader, header_of, Component}
use Rattle.model.specs.Limits.{ComponentIn}
use Rattle.model.specs.Reader.{byte, word}
use Rattle.model.specs.Program.{location_block, edge_block, block_bytes, blocks, start_bytes, node_body, node_bytes}
use Rattle.model.specs.Machine.{block_place, block_at, location_code, edge_code}
use Rattle.model.proofs.Basics.Words.{word_back}
use Rattle.model.proofs.Basics.Walk.{byte_drop, Stands, stands_first, stands_second, stands_at, stands_whole, stands_says}
use Rattle.model.proofs.Basics.Sums.{length_from, at_from}
use Rattle.model.proofs.Program.Size.{start_bytes_length, blocks_count}
use Rattle.model.proofs.Program.Block.{Block, start_at, start_back, blocks_stand, block_stands}
use Rattle.model.proofs.Program.Inside.{location-block, edge-block}

-- the number at i from p on
word_from : (bs : List ℕ) (p i : ℕ) → word bs (p + i) ≡ word (drop p bs) i
word_from bs p i =
    let e : suc (p + i) ≡ p + suc i = omega arith in
    ap₂ (λ a b. a * 256 + b) (byte_drop bs p i) (ap (byte bs) e ∙ byte_drop bs p (suc i))

-- ## The list of blocks

module _ (C : Component) where
  -- so many blocks for locations
  locations_count : length (map (location_block C) (below (length C.locations))) ≡ length C.locations
  locations_count = length-map (below (length C.locations)) (location_block C) ∙ length_from 0 (length C.locations)

  -- the blocks of the locations come first
  pub location-at : (l : ℕ) → l < length C.locations → get_or (blocks C) l [] ≡ location_block C l
  unfolding blocks
  location-at l h =
      let L = map (location_block C) (below (length C.locations)) in
      let E = map (edge_block C) (below (length C.arcs)) in
      let e : 0 + l ≡ l = omega arith in
      get_or-append L E [] l (omega (arith, locations_count)) ∙ at_from (location_block C) [] 0 (length C.locations) l h ∙ ap (location_block C) e

  -- then the blocks of the edges
  pub edge_at : (e : ℕ) → e < length C.arcs → get_or (blocks C) (length C.locations + e) [] ≡ edge_block C e
  unfolding blocks
  edge_at e h =
      let L = map (location_block C) (below (length C.locations)) in
      let E = map (edge_block C) (below (length C.arcs)) in
      let i : length C.locations + e ≡ length L + e = omega (arith, locations_count) in
      let z : 0 + e ≡ e = omega arith in
      ap (λ n. get_or (L ++ E) n []) i ∙ get_or-append-add L E e [] ∙ at_from (edge_block C) [] 0 (length C.arcs) e h ∙ ap (edge_block C) z

  -- ## The node's bytes

  -- the first six bytes
  abbrev head : List ℕ
  head = be16 (2 + length (node_body C)) ++ (length C.locations ∷ length C.arcs ∷ C.initial ∷ 0 ∷ [])

  -- a node is as long as its first two bytes say
  pub node_length : (r : List ℕ) → word (node_bytes C ++ r) 0 ≡ length (node_bytes C)
  unfolding node_bytes
  node_length r = word_back (2 + length (node_body C)) ∙ omega arith

  -- its counts and its initial location
  pub node-head : (byte (node_bytes C) 2 ≡ length C.locations) × (byte (node_bytes C) 3 ≡ length C.arcs) × (byte (node_bytes C) 4 ≡ C.initial)
  unfolding node_bytes node_body
  node-head = (refl, refl, refl)

  -- the six bytes, then the starts, then the blocks
  whole : Stands (node_bytes C) 0 (head ++ (start_bytes 0 (blocks C) ++ each block_bytes (blocks C)))
  unfolding node_bytes node_body
  whole = stands_whole refl

  -- the starts and the blocks
  parts : Stands (node_bytes C) 6 (start_bytes 0 (blocks C) ++ each block_bytes (blocks C))
  parts = stands_second (node_bytes C) 0 head (start_bytes 0 (blocks C) ++ each block_bytes (blocks C)) whole

  -- start number i of the table of starts
  pub start-at : (i : ℕ) → i < length (blocks C) → word (node_bytes C) (6 + i * 2) ≡ start_at (blocks C) i
  start-at i h =
      let first = stands_first (node_bytes C) 6 (start_bytes 0 (blocks C)) (each block_bytes (blocks C)) parts in
      let z : 0 + start_at (blocks C) i ≡ start_at (blocks C) i = omega arith in
      word_from (node_bytes C) 6 (i * 2) ∙ stands_says (λ l. word l (i * 2)) (λ r. start_back 0 (blocks C) r i h) first ∙ z

  -- where block i is looked for
  place_is : (i : ℕ) → i < length (blocks C) → 6 + length (start_bytes 0 (blocks C)) + start_at (blocks C) i * 4 ≡ block_place (node_bytes C) i
  place_is i h = omega (arith, start_bytes_length 0 (blocks C), blocks_count C, start-at i h, node-head.0, node-head.1)

  -- block i stands there
  pub block_there : (i : ℕ) → i < length (blocks C) → Stands (node_bytes C) (block_place (node_bytes C) i) (block_bytes (get_or (blocks C) i []))
  block_there i h =
      let second = stands_second (node_bytes C) 6 (start_bytes 0 (blocks C)) (each block_bytes (blocks C)) parts in
      stands_at (place_is i h) (blocks_stand (blocks C) (node_bytes C) (6 + length (start_bytes 0 (blocks C))) second i h)

  -- and is decoded there
  pub block_code : (i : ℕ) → i < length (blocks C) → Block (get_or (blocks C) i []) → block_at (node_bytes C) i ≡ get_or (blocks C) i []
  unfolding block_at
  block_code i h k = block_stands k (block_there i h)

-- ## The laws

module _ (channels : TableHeader) (C : Component) (small : channels.channels ≤ 16) (h : ComponentIn channels C) where
  -- the code of a location is its block
  pub node_location : (l : ℕ) → l < length C.locations → location_code (node_bytes C) l ≡ location_block C l
  node_location l k =
      let e = location-at C l k in
      block_code C l (omega (arith, blocks_count C)) (subst Block (sym e) (location-block channels C small h l k)) ∙ e

  -- the code of an edge is its block
  pub node_edge : (e : ℕ) → e < length C.arcs → edge_code (node_bytes C) e ≡ edge_block C e
  node_edge e k =
      let i = length C.locations + e in
      let n : byte (node_bytes C) 2 + e ≡ i = omega (arith, (node-head C).0) in
      let s = edge_at C e k in
      ap (block_at (node_bytes C)) n ∙ block_code C i (omega (arith, blocks_count C)) (subst Block (sym s) (edge-block channels C small h e k)) ∙ s
