-- Which bytes can be decoded.
use Rattle.std.specs.Prelude.{Bool, List, ℕ, ◌≤◌, length}
use Rattle.model.specs.Places.{arc_length}

-- An edge stands at the front, whole.
pub record Decodable (b : Bool) (h : List ℕ) : Type 0 where
  pub head : 7 ≤ length h
  pub whole : arc_length b h ≤ length h
