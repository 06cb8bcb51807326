-- The part of one node from its pieces: head, starts, blocks. Assumes nothing.
use mathlib.Core.Path.{◌≡◌, refl, sym, ap, ap₂, ◌∙◌}
use mathlib.Core.Bool.{Bool}
use mathlib.Core.List.{List, [], ◌∷◌, ◌++◌, map}
use Prim.Native.Nat.{ℕ, zero, suc, ◌+◌, ◌-◌, ◌*◌, ◌/◌, ◌≤◌, ◌<◌}
use native.Mathlib.Omega.{arith}
use lib.ListN.{length, take, drop, length-append, length-map}
use Rattle.model.specs.Lists.{be16, each, below}
use Rattle.model.specs.Table.{Component}
use Rattle.model.specs.Reader.{byte, location_at}
use Rattle.model.specs.Places.{arc_length}
use Rattle.model.specs.Program.{Statement, location_block, edge_block_of, block_bytes, blocks, start_bytes, node_body, node_bytes}
use Rattle.model.proofs.Basics.Walk.{list_length}
use Rattle.model.proofs.Basics.Sums.{each_join, length_from}
use Rattle.model.proofs.Program.Size.{blocks_four, edge-blocks, start_bytes_length}
use Rattle.parts.proofs.Skim.{tail}
use Rattle.blocks.specs.Put.{Room, Put}
use Rattle.blocks.specs.FrontEdges.{arcs_at}
use Rattle.translator.specs.Front.{arcs_place, front_component}
use Rattle.translator.specs.Laid.{location_blocks, edge_blocks, Ready, Laid, Aligned, node_head}
use Rattle.blocks.proofs.Runs.{put_is}
use Rattle.translator.proofs.Laying.{put_before, laid_join, laid_long, laid_put, edges_from}

-- ## A component's blocks

blocks_split : (C : Component) → blocks C ≡ location_blocks C ++ edge_blocks C
unfolding blocks location_blocks edge_blocks
blocks_split C = ap (λ (l : List (List Statement)). map (location_block C) (below (length C.locations)) ++ l) (edge-blocks C)

location_count : (C : Component) → length (location_blocks C) ≡ length C.locations
unfolding location_blocks
location_count C = length-map (below (length C.locations)) (location_block C) ∙ length_from 0 (length C.locations)

edge_count : (C : Component) → length (edge_blocks C) ≡ length C.arcs
unfolding edge_blocks
edge_count C = length-map C.arcs (edge_block_of C.clocks)

-- the bytes of blocks are whole statements
each_four : (bs : List (List Statement)) → length (each block_bytes bs) ≡ length (each block_bytes bs) / 4 * 4
each_four bs = omega (arith, blocks_four bs)

-- the head, and what follows it
abbrev body_of : Component → List ℕ
body_of C = start_bytes 0 (location_blocks C ++ edge_blocks C) ++ each block_bytes (location_blocks C ++ edge_blocks C)

node_split : (C : Component) → node_bytes C ≡ node_head (length (node_bytes C)) (length C.locations) (length C.arcs) C.initial ++ body_of C
unfolding node_bytes node_body
node_split C =
    let e : 2 + length (node_body C) ≡ length (node_bytes C) = omega arith in
    ap₂ (λ (n : ℕ) (bs : List (List Statement)). be16 n ++ ((length C.locations ∷ length C.arcs ∷ C.initial ∷ 0 ∷ []) ++ (start_bytes 0 bs ++ each block_bytes bs))) e (blocks_split C)

node_size : (C : Component) → length (node_bytes C) ≡ 6 + length C.locations * 2 + length C.arcs * 2 + length (each block_bytes (location_blocks C)) + length (each block_bytes (edge_blocks C))
node_size C =
    let L = location_blocks C in
    let E = edge_blocks C in
    omega (arith, ap length (node_split C), length-append (start_bytes 0 (L ++ E)) (each block_bytes (L ++ E)), start_bytes_length 0 (L ++ E), length-append L E, location_count C, edge_count C, ap length (each_join block_bytes L E), length-append (each block_bytes L) (each block_bytes E))

-- ## The component at the front

arcs_count : (budgets : Bool) (n : ℕ) (h : List ℕ) → length (arcs_at budgets n h) ≡ n
unfolding arcs_at
arcs_count budgets zero h = refl
arcs_count budgets (suc n) h = ap suc (arcs_count budgets n (drop (arc_length budgets h) h))

pub front_locations : (budgets : Bool) (p : List ℕ) → length (front_component budgets p).locations ≡ byte p 2
unfolding front_component
front_locations budgets p = list_length location_at 3 (byte p 2) (drop 7 p)

pub front_arcs : (budgets : Bool) (p : List ℕ) → length (front_component budgets p).arcs ≡ byte p 6
unfolding front_component
front_arcs budgets p = arcs_count budgets (byte p 6) (drop (arcs_place p) p)

front_initial : (budgets : Bool) (p : List ℕ) → (front_component budgets p).initial ≡ byte p 3
unfolding front_component
front_initial budgets p = refl

-- its edge blocks are those that are laid
edges_are : (budgets : Bool) (p : List ℕ) (edges : ℕ) → edges ≡ arcs_place p → edges_from budgets (byte p 4) (byte p 6) (take (length p - edges) (drop edges p)) ≡ edge_blocks (front_component budgets p)
unfolding front_component edge_blocks
edges_are budgets p edges e = rw (tail p edges, e)

-- ## Its part: a and b are the counts of its locations and edges

module _ (budgets : Bool) (p o : List ℕ) (at a b edges : ℕ) (ea : a ≡ byte p 2) (eb : b ≡ byte p 6) (ee : edges ≡ arcs_place p)
    (r : Room o at (node_bytes (front_component budgets p))) (s : length (node_bytes (front_component budgets p)) ≤ 24576) where
  sized : length (node_bytes (front_component budgets p)) ≡ 6 + a * 2 + b * 2 + length (each block_bytes (location_blocks (front_component budgets p))) + length (each block_bytes (edge_blocks (front_component budgets p)))
  sized = omega (arith, node_size (front_component budgets p), front_locations budgets p, front_arcs budgets p)

  counts : (length (location_blocks (front_component budgets p)) ≡ a) × (length (edge_blocks (front_component budgets p)) ≡ b)
  counts = (
    omega (arith, location_count (front_component budgets p), front_locations budgets p),
    omega (arith, edge_count (front_component budgets p), front_arcs budgets p),
  )

  pub ready_locations : Ready o 0 (at + 6) (at + 6 + a * 2 + b * 2) (location_blocks (front_component budgets p))
  ready_locations =
      record { fits = omega (arith, sized); apart = omega (arith, counts.0); small = omega (arith, sized) }

  module _ {o₁ : List ℕ} {from : ℕ} (x : Laid o 0 (at + 6) (at + 6 + a * 2 + b * 2) (location_blocks (front_component budgets p)) from o₁) where
    pub aligned_from : Aligned (at + 6 + a * 2 + b * 2) from
    aligned_from =
        let f = each_four (location_blocks (front_component budgets p)) in
        record { behind = omega (arith, x.next); whole = omega (arith, x.next) }

    pub ready_edges : Ready o₁ ((from - (at + 6 + a * 2 + b * 2)) / 4) (at + 6 + a * 2) from (edges_from budgets (byte p 4) (byte p 6) (take (length p - edges) (drop edges p)))
    ready_edges =
        let f = each_four (location_blocks (front_component budgets p)) in
        rw (edges_are budgets p edges ee)
        (record { fits = omega (arith, sized, x.next, laid_long x); apart = omega (arith, counts.1, x.next); small = omega (arith, sized, x.next) })

    module _ {o₂ : List ℕ} {end : ℕ} (y : Laid o₁ ((from - (at + 6 + a * 2 + b * 2)) / 4) (at + 6 + a * 2) from (edges_from budgets (byte p 4) (byte p 6) (take (length p - edges) (drop edges p))) end o₂) where
      ends : end ≡ from + length (each block_bytes (edge_blocks (front_component budgets p)))
      ends = y.next ∙ ap (λ (l : List (List Statement)). from + length (each block_bytes l)) (edges_are budgets p edges ee)

      -- the node's length, and room for its head
      pub node_long : (end - at ≡ length (node_bytes (front_component budgets p))) × (at ≤ end) × (end - at < 65536)
      node_long = (omega (arith, sized, x.next, ends), omega (arith, x.next, ends), omega (arith, sized, x.next, ends))

      edges_long : length o₂ ≡ length o
      edges_long = laid_long y ∙ laid_long x

      pub head_room : at + 6 ≤ length o₂
      head_room = omega (arith, edges_long, sized)

      -- all its blocks are laid
      laid : Laid o 0 (at + 6) (at + 6 + a * 2 + b * 2) (location_blocks (front_component budgets p) ++ edge_blocks (front_component budgets p)) end o₂
      laid =
          let f = each_four (location_blocks (front_component budgets p)) in
          laid_join x (rw (edges_are budgets p edges ee) at y) (omega (arith, x.next)) (omega (arith, counts.0)) (omega (arith, counts.1))

      body : Put o (at + 6) (body_of (front_component budgets p)) end o₂
      body =
          let l = length-append (location_blocks (front_component budgets p)) (edge_blocks (front_component budgets p)) in
          laid_put laid (omega (arith, counts.0, counts.1))

      -- with its head it is whole
      pub node_put : {o₃ : List ℕ} {k : ℕ} → Put o₂ at (node_head (end - at) (byte p 2) (byte p 6) (byte p 3)) k o₃ → Put o at (node_bytes (front_component budgets p)) end o₃
      node_put z =
          let e : node_head (end - at) (byte p 2) (byte p 6) (byte p 3) ++ body_of (front_component budgets p) ≡ node_bytes (front_component budgets p) =
          rw (node_long.0, ← front_locations budgets p, ← front_arcs budgets p, ← front_initial budgets p) (sym (node_split (front_component budgets p))) in
          put_is e (put_before body z refl)
