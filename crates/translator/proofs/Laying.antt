-- Blocks laid with their starts: two runs that grow side by side, and a loop that lays them. Assumes nothing.
use mathlib.Core.Path.{◌≡◌, refl, sym, ap, subst, ◌∙◌}
use mathlib.Core.Bool.{Bool}
use mathlib.Core.List.{List, [], ◌∷◌, ◌++◌, map}
use Prim.Native.Nat.{ℕ, zero, suc, ◌+◌, ◌-◌, ◌*◌, ◌/◌, ◌≤◌, ◌<◌}
use native.Mathlib.Numerals.{add-one}
use native.Mathlib.Omega.{arith}
use lib.ListN.{length, set, take, drop, get_or, length-append, length-drop}
use lib.Seq.{sets, length-sets, set_comm, drop-drop}
use Rattle.model.specs.declared.Location.{Location}
use Rattle.model.specs.Lists.{be16, each, from}
use Rattle.model.specs.Table.{no_location}
use Rattle.model.specs.Reader.{byte, location_at}
use Rattle.model.specs.Places.{list_at, arc_length, arc_at}
use Rattle.model.specs.Program.{Statement, location_block, edge_block_of, block_bytes, statements, start_bytes}
use Rattle.model.proofs.Basics.Walk.{list_length, list_part}
use Rattle.model.proofs.Basics.Sums.{each_join}
use Rattle.model.proofs.Program.Size.{four, start_bytes_length}
use Rattle.parts.proofs.Skim.{tail}
use Rattle.blocks.specs.Put.{Room, Put}
use Rattle.blocks.specs.FrontEdges.{arcs_at, ArcsFit}
use Rattle.translator.specs.Front.{arcs_place, front_component, Whole}
use Rattle.translator.specs.Laid.{location_blocks, Ready, Laid, Aligned}
use Rattle.blocks.proofs.Runs.{sets_append, put_long}
use Rattle.blocks.proofs.Arcs.{edge_passed}
use Rattle.blocks.proofs.Blocks.{block_from}

-- ## Runs that do not touch

set_past : (ys o : List ℕ) (i x j : ℕ) → i < j → set (sets o j ys) i x ≡ sets (set o i x) j ys
set_past [] o i x j h = refl
set_past (y ∷ ys) o i x j h =
    set_past ys (set o j y) i x (suc j) (omega arith) ∙ ap (λ (l : List ℕ). sets l (suc j) ys) (set_comm o j i y x (λ e. omega arith))

-- an earlier run put after a later one
pub sets_past : (xs ys o : List ℕ) (i j : ℕ) → i + length xs ≤ j → sets (sets o j ys) i xs ≡ sets (sets o i xs) j ys
sets_past [] ys o i j h = refl
sets_past (x ∷ xs) ys o i j h =
    ap (λ (l : List ℕ). sets l (suc i) xs) (set_past ys o i x j (omega arith)) ∙ sets_past xs ys (set o i x) (suc i) j (omega arith)

-- a run put before one that stands behind it
pub put_before : {o p q x y : List ℕ} {at m n k : ℕ} → Put o m x n p → Put p at y k q → at + length y ≡ m → Put o at (y ++ x) n q
put_before {o} {p} {q} {x} {y} {at} {m} {n} {k} a b e =
    record {
      next = omega (arith, a.next, length-append y x);
      same = b.same ∙ rw (a.same, ← e, sets_past y x o at (at + length y) (omega arith)) (sym (sets_append y x o at));
    }

-- ## Laid blocks, one list after the other

starts_join : (k : ℕ) (xs ys : List (List Statement)) → start_bytes k (xs ++ ys) ≡ start_bytes k xs ++ start_bytes (k + length (each block_bytes xs) / 4) ys
unfolding start_bytes each
starts_join k [] ys = let e : k ≡ k + 0 = omega arith in ap (λ (i : ℕ). start_bytes i ys) e
starts_join k (x ∷ xs) ys =
    let l = length-append (block_bytes x) (each block_bytes xs) in
    let f = four x in
    let e : k + statements x + length (each block_bytes xs) / 4 ≡ k + length (each block_bytes (x ∷ xs)) / 4 = omega arith in
    ap (λ (s : List ℕ). be16 k ++ s) (starts_join (k + statements x) xs ys ∙ ap (λ (i : ℕ). start_bytes (k + statements x) xs ++ start_bytes i ys) e)

module _ {o p q : List ℕ} {k i at n j l m : ℕ} {xs ys : List (List Statement)} (a : Laid o k i at xs n p) (b : Laid p j l n ys m q) where
  -- the second list laid behind the first
  pub laid_join : j ≡ k + length (each block_bytes xs) / 4 → l ≡ i + length xs * 2 → l + length ys * 2 ≤ at → Laid o k i at (xs ++ ys) m q
  laid_join e f h =
      let S = start_bytes k xs in
      let S' = start_bytes j ys in
      let R = each block_bytes xs in
      let R' = each block_bytes ys in
      let g : l ≡ i + length S = omega (arith, start_bytes_length k xs) in
      let d : S ++ S' ≡ start_bytes k (xs ++ ys) = rw e (sym (starts_join k xs ys)) in
      let s : sets (sets (sets o i S) at R) l S' ≡ sets (sets o i (start_bytes k (xs ++ ys))) at R =
      sets_past S' R (sets o i S) l at (omega (arith, start_bytes_length j ys)) ∙ ap (λ (t : List ℕ). sets t at R) (rw (g, ← d) (sym (sets_append S S' o i))) in
      record {
        next = omega (arith, a.next, b.next, length-append R R', ap length (each_join block_bytes xs ys));
        same =
            b.same ∙ rw (a.same, s, a.next) (sym (sets_append R R' (sets o i (start_bytes k (xs ++ ys))) at))
            ∙ ap (λ (t : List ℕ). sets (sets o i (start_bytes k (xs ++ ys))) at t) (sym (each_join block_bytes xs ys));
      }

-- the buffer is as long as it was
pub laid_long : {o p : List ℕ} {k i at n : ℕ} {bs : List (List Statement)} → Laid o k i at bs n p → length p ≡ length o
laid_long {o} {k = k} {i = i} {at = at} {bs = bs} a =
    ap length a.same ∙ length-sets (sets o i (start_bytes k bs)) at (each block_bytes bs) ∙ length-sets o i (start_bytes k bs)

-- starts and blocks that touch are one run
pub laid_put : {o p : List ℕ} {k i at n : ℕ} {bs : List (List Statement)} → Laid o k i at bs n p → at ≡ i + length bs * 2 → Put o i (start_bytes k bs ++ each block_bytes bs) n p
laid_put {o} {p} {k} {i} {at} {n} {bs} a e =
    let S = start_bytes k bs in
    let f : at ≡ i + length S = omega (arith, start_bytes_length k bs) in
    record {
      next = omega (arith, a.next, length-append S (each block_bytes bs));
      same = a.same ∙ rw f (sym (sets_append S (each block_bytes bs) o i));
    }

-- ## A loop that lays blocks

-- what is left to lay makes the whole
pub record Laying (o₀ : List ℕ) (k₀ q₀ at₀ : ℕ) (all : List (List Statement)) (o : List ℕ) (k q at : ℕ) (rest : List (List Statement)) : Type 0 where
  pub same : sets (sets o q (start_bytes k rest)) at (each block_bytes rest) ≡ sets (sets o₀ q₀ (start_bytes k₀ all)) at₀ (each block_bytes all)
  pub ready : Ready o k q at rest
  pub ends : at + length (each block_bytes rest) ≡ at₀ + length (each block_bytes all)

pub lay_begin : {o : List ℕ} {k q at : ℕ} {all : List (List Statement)} → Ready o k q at all → Laying o k q at all o k q at all
lay_begin r = record { same = refl; ready = r; ends = refl }

module _ {o₀ : List ℕ} {k₀ q₀ at₀ : ℕ} {all : List (List Statement)} where
  pub lay_is : {o : List ℕ} {k q at : ℕ} {xs ys : List (List Statement)} → xs ≡ ys → Laying o₀ k₀ q₀ at₀ all o k q at xs → Laying o₀ k₀ q₀ at₀ all o k q at ys
  lay_is {o} {k} {q} {at} e h = subst (λ (l : List (List Statement)). Laying o₀ k₀ q₀ at₀ all o k q at l) e h

  pub lay_end : {o : List ℕ} {k q at : ℕ} → Laying o₀ k₀ q₀ at₀ all o k q at [] → Laid o₀ k₀ q₀ at₀ all at o
  unfolding start_bytes each
  lay_end h = record { next = omega (arith, h.ends); same = h.same }

  pub lay_long : {o : List ℕ} {k q at : ℕ} {rest : List (List Statement)} → Laying o₀ k₀ q₀ at₀ all o k q at rest → length o ≡ length o₀
  lay_long {o} {k} {q} {at} {rest} h =
      omega (
        arith,
        ap length h.same,
        length-sets o q (start_bytes k rest),
        length-sets o₀ q₀ (start_bytes k₀ all),
        length-sets (sets o q (start_bytes k rest)) at (each block_bytes rest),
        length-sets (sets o₀ q₀ (start_bytes k₀ all)) at₀ (each block_bytes all),
      )

  module _ {o : List ℕ} {k q at : ℕ} {b : List Statement} {rest : List (List Statement)} (h : Laying o₀ k₀ q₀ at₀ all o k q at (b ∷ rest)) where
    -- the start has room and fits two bytes
    pub start_room : (q + 2 ≤ length o) × (k < 65536)
    start_room = (omega (arith, h.ready.fits, h.ready.apart), omega (arith, h.ready.small))

    -- so has the block, once the start is put
    pub block_room : {p : List ℕ} {m : ℕ} → Put o q (be16 k) m p → Room p at (block_bytes b)
    unfolding each
    block_room a = omega (arith, h.ready.fits, length-append (block_bytes b) (each block_bytes rest), put_long a)

    -- a turn
    module _ {p r : List ℕ} {m n : ℕ} (a : Put o q (be16 k) m p) (c : Put p at (block_bytes b) n r) where
      lay_same : sets (sets r m (start_bytes (k + statements b) rest)) n (each block_bytes rest) ≡ sets (sets o₀ q₀ (start_bytes k₀ all)) at₀ (each block_bytes all)
      unfolding start_bytes each
      lay_same =
          let S = start_bytes (k + statements b) rest in
          let R = each block_bytes rest in
          let B = block_bytes b in
          rw (c.same, sets_past S B p m at (omega (arith, a.next, h.ready.apart, start_bytes_length (k + statements b) rest)), c.next)
          (sym (sets_append B R (sets p m S) at) ∙ rw (a.same, a.next) (ap (λ (t : List ℕ). sets t at (B ++ R)) (sym (sets_append (be16 k) S o q)) ∙ h.same))

      lay_ready : Ready r (k + statements b) m n rest
      unfolding each
      lay_ready =
          let l = length-append (block_bytes b) (each block_bytes rest) in
          record {
            fits = omega (arith, h.ready.fits, put_long a, put_long c, c.next);
            apart = omega (arith, h.ready.apart, a.next, c.next);
            small = omega (arith, h.ready.small, four b);
          }

      pub lay_on : {j : ℕ} → j ≡ k + statements b → Laying o₀ k₀ q₀ at₀ all r j m n rest
      unfolding each
      lay_on e =
          rw e (record { same = lay_same; ready = lay_ready; ends = omega (arith, h.ends, c.next, length-append (block_bytes b) (each block_bytes rest)) })

-- ### Starts, counted in statements

pub aligned_here : (first : ℕ) → Aligned first first
aligned_here first = record { behind = omega arith; whole = omega arith }

-- one block on
pub aligned_on : {first at : ℕ} (b : List Statement) {o p : List ℕ} {n : ℕ} → Aligned first at → Put o at (block_bytes b) n p
    → Aligned first n × ((n - first) / 4 ≡ (at - first) / 4 + statements b)
aligned_on {first} {at} b {n = n} a c =
    let f = four b in
    let e = c.next in
    (record { behind = omega (arith, a.behind); whole = omega (arith, a.behind, a.whole) }, omega (arith, a.behind, a.whole))

-- ## Locations

-- the blocks from location `here` on, of which k are left
abbrev pub locations_from : Bool → List ℕ → ℕ → ℕ → List (List Statement)
locations_from budgets p here k = map (location_block (front_component budgets p)) (from here k)

pub all_locations : (budgets : Bool) (p : List ℕ) → locations_from budgets p 0 (byte p 2) ≡ location_blocks (front_component budgets p)
unfolding location_blocks front_component
all_locations budgets p = ap (λ (n : ℕ). locations_from budgets p 0 n) (sym (list_length location_at 3 (byte p 2) (drop 7 p)))

pub locations_ahead : (budgets : Bool) (p : List ℕ) (here n : ℕ) → here < n → locations_from budgets p here (n - here) ≡ location_block (front_component budgets p) here ∷ locations_from budgets p (here + 1) (n - (here + 1))
locations_ahead budgets p here n h =
    let q : n - here ≡ suc (n - (here + 1)) = omega arith in
    rw (q, add-one here)

pub locations_gone : (budgets : Bool) (p : List ℕ) (here n : ℕ) → n ≤ here → locations_from budgets p here (n - here) ≡ []
locations_gone budgets p here n h = let z : n - here ≡ 0 = omega arith in rw z

-- the edges stand where they are looked for
pub arcs_there : (budgets : Bool) (p : List ℕ) (edges : ℕ) → edges ≡ arcs_place p → Whole budgets p → ArcsFit budgets (byte p 6) (take (length p - edges) (drop edges p))
arcs_there budgets p edges e w = rw (tail p edges, e) w.arcs

-- the block that was put is the location's
pub location_block_is : (budgets : Bool) (p : List ℕ) (here place edges : ℕ) (l : Location) → here < byte p 2 → place ≡ 7 + here * 3 → edges ≡ arcs_place p
    → l ≡ location_at (take (length p - place) (drop place p))
    → block_from budgets l here 0 (byte p 6) (take (length p - edges) (drop edges p)) ≡ block_bytes (location_block (front_component budgets p) here)
unfolding location_block front_component
location_block_is budgets p here place edges l h d e f =
    let v : l ≡ get_or (list_at location_at 3 (byte p 2) (drop 7 p)) here no_location =
    f ∙ rw (tail p place, d) (sym (list_part location_at 3 (byte p 2) (drop 7 p) no_location here h ∙ ap location_at (drop-drop (here * 3) 7 p))) in
    rw (v, tail p edges, e)

-- a location stands whole
pub location-fits : (budgets : Bool) (p : List ℕ) (here place : ℕ) → Whole budgets p → here < byte p 2 → place ≡ 7 + here * 3 → place + 3 ≤ length p
location-fits budgets p here place w h e = omega (arith, w.locations)

-- what is left of the bytes from a place on
pub left_there : (p : List ℕ) (place k : ℕ) → place + k ≤ length p → k ≤ length (take (length p - place) (drop place p))
left_there p place k h = rw (tail p place) (simp length-drop (omega arith))

-- ## Edges

-- the blocks of k edges
abbrev pub edges_from : Bool → ℕ → ℕ → List ℕ → List (List Statement)
edges_from budgets clocks k h = map (edge_block_of clocks) (arcs_at budgets k h)

pub edges_ahead : (budgets : Bool) (clocks k : ℕ) (h : List ℕ) → 0 < k → edges_from budgets clocks k h ≡ edge_block_of clocks (arc_at budgets h) ∷ edges_from budgets clocks (k - 1) (drop (arc_length budgets h) h)
unfolding arcs_at
edges_ahead budgets clocks k h q =
    let e : k ≡ suc (k - 1) = omega arith in
    ap (λ (i : ℕ). edges_from budgets clocks i h) e

pub edges_gone : (budgets : Bool) (clocks k : ℕ) (h : List ℕ) → k ≤ 0 → edges_from budgets clocks k h ≡ []
unfolding arcs_at
edges_gone budgets clocks zero h q = refl
edges_gone budgets clocks (suc k) h q = absurd (omega arith)

-- ### The loop over the edges, from place to place in the bytes h

module _ (budgets : Bool) (h : List ℕ) (edge clocks : ℕ) where
  -- the block ahead has room
  pub edge_room : (o : List ℕ) (at : ℕ) → Room o at (block_bytes (edge_block_of clocks (arc_at budgets (drop edge h)))) → Room o at (block_bytes (edge_block_of clocks (arc_at budgets (take (length h - edge) (drop edge h)))))
  edge_room o at r = rw (tail h edge) r

  pub edge_put : {o p : List ℕ} {at n : ℕ} → Put o at (block_bytes (edge_block_of clocks (arc_at budgets (take (length h - edge) (drop edge h))))) n p
      → Put o at (block_bytes (edge_block_of clocks (arc_at budgets (drop edge h)))) n p
  edge_put a = rw (tail h edge) at a

  pub edges_behind : (k long : ℕ) → long ≡ arc_length budgets (take (length h - edge) (drop edge h)) → edges_from budgets clocks k (drop (arc_length budgets (drop edge h)) (drop edge h)) ≡ edges_from budgets clocks k (drop (edge + long) h)
  edges_behind k long q = ap (edges_from budgets clocks k) (edge_passed budgets h edge long q)
