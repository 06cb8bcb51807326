-- From edge to edge: the loops that walk along k edges in the bytes h. Assumes nothing.
use mathlib.Core.Path.{◌≡◌, subst, ◌∙◌}
use mathlib.Core.Bool.{Bool}
use mathlib.Core.List.{List}
use Prim.Native.Nat.{ℕ, zero, suc, ◌+◌, ◌-◌, ◌≤◌, ◌<◌}
use native.Mathlib.Numerals.{sub-one}
use native.Mathlib.Omega.{arith}
use lib.ListN.{length, take, drop, length-drop}
use lib.Seq.{drop-drop}
use Rattle.model.specs.Places.{arc_length}
use Rattle.parts.proofs.Skim.{tail}
use Rattle.decoder.proofs.Callers.{head_seven}
use Rattle.blocks.specs.FrontEdges.{ArcsFit}

-- the edge ahead fits, and so do those behind it
fits_ahead : (b : Bool) (k : ℕ) (h : List ℕ) → 0 < k → ArcsFit b k h → (arc_length b h ≤ length h) × ArcsFit b (k - 1) (drop (arc_length b h) h)
unfolding ArcsFit
fits_ahead b zero h q f = absurd (omega arith)
fits_ahead b (suc k) h q f = rw sub-one f

-- one edge on
pub edge_passed : (b : Bool) (h : List ℕ) (edge long : ℕ) → long ≡ arc_length b (take (length h - edge) (drop edge h)) → drop (arc_length b (drop edge h)) (drop edge h) ≡ drop (edge + long) h
edge_passed b h edge long q = drop-drop (arc_length b (drop edge h)) edge h ∙ rw (q, tail h edge)

module _ (b : Bool) (h : List ℕ) (edge k : ℕ) (more : 0 < k) (p : edge ≤ length h) (f : ArcsFit b k (drop edge h)) where
  edge_stands : edge + arc_length b (drop edge h) ≤ length h
  edge_stands = let q = (fits_ahead b k (drop edge h) more f).0 in omega (arith, simp length-drop at q)

  -- the edge ahead stands whole
  pub edge_whole : arc_length b (take (length h - edge) (drop edge h)) ≤ length (take (length h - edge) (drop edge h))
  edge_whole = rw (tail h edge) (fits_ahead b k (drop edge h) more f).0

  pub edge-head : 7 ≤ length (take (length h - edge) (drop edge h))
  edge-head = rw (tail h edge) (simp length-drop (omega (arith, edge_stands, head_seven b)))

  -- a turn
  module _ (long : ℕ) (q : long ≡ arc_length b (take (length h - edge) (drop edge h))) where
    pub edge_on : edge + long ≤ length h
    edge_on = rw (q, tail h edge) edge_stands

    pub edges_on : ArcsFit b (k - 1) (drop (edge + long) h)
    edges_on = subst (ArcsFit b (k - 1)) (edge_passed b h edge long q) (fits_ahead b k (drop edge h) more f).1
