-- The edges that stand at the front of bytes. Nothing is tested here.
use Rattle.std.specs.Prelude.{Bool, List, [], ◌∷◌, ℕ, zero, suc, ◌≤◌, length, drop}
use Rattle.model.specs.Table.{Arc}
use Rattle.model.specs.Places.{arc_length, arc_at}

-- n edges, each as long as its counts say
unfoldable pub arcs_at : Bool → ℕ → List ℕ → List Arc
arcs_at b zero h = []
arcs_at b (suc n) h = arc_at b h ∷ arcs_at b n (drop (arc_length b h) h)

-- n edges stand whole
unfoldable pub ArcsFit : Bool → ℕ → List ℕ → Type 0
ArcsFit b zero h = Unit {0}
ArcsFit b (suc n) h = (arc_length b h ≤ length h) × ArcsFit b n (drop (arc_length b h) h)
