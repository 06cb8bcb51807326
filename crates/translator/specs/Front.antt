-- The component that stands at the front of bytes. Nothing is tested here.
use Rattle.std.specs.Prelude.{Bool, List, ℕ, ◌+◌, ◌*◌, ◌≤◌, length, drop}
use Rattle.model.specs.Table.{Component}
use Rattle.model.specs.Reader.{byte, location_at}
use Rattle.model.specs.Places.{list_at}
use Rattle.blocks.specs.FrontEdges.{arcs_at, ArcsFit}

-- where a component's edges start
abbrev pub arcs_place : List ℕ → ℕ
arcs_place p = 7 + byte p 2 * 3

unfoldable pub front_component : Bool → List ℕ → Component
unfolding list_at arcs_at
front_component budgets p =
    record {
      initial = byte p 3;
      clocks = byte p 4;
      variables = byte p 5;
      locations = list_at location_at 3 (byte p 2) (drop 7 p);
      arcs = arcs_at budgets (byte p 6) (drop (arcs_place p) p);
    }

-- a component stands whole
pub record Whole (budgets : Bool) (p : List ℕ) : Type 0 where
  pub locations : arcs_place p ≤ length p
  pub arcs : ArcsFit budgets (byte p 6) (drop (arcs_place p) p)
