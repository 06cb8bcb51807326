-- What the reader says of an edge in order.
use Rattle.std.specs.Prelude.{◌≡◌, List, ℕ, ◌≤◌, take, drop}
use Rattle.model.specs.declared.Sizes.{Sizes}
use Rattle.model.specs.Reader.{read_arc}
use Rattle.parts.specs.Place.{left, skim}

-- the edge at a place of a component that ends at `end` is read up to `next`
abbrev pub EdgeFine : List ℕ → ℕ → Sizes → ℕ → ℕ → Type 0
EdgeFine bs end s at next = (s.clocks ≤ 4) × (next ≤ end) × (skim (read_arc s (drop at (take end bs))) ≡ left (drop next (take end bs)))
