-- The span found for a node's part, held against document 01's.
use Rattle.std.specs.Prelude.{◌≡◌, List, ℕ, ◌+◌, ◌≤◌, length}
use Rattle.model.specs.Program.{Range}
use Rattle.program.specs.declared.Span.{Span}

-- the span is the range, and lies in the bytes
pub record Spans (bs : List ℕ) (s : Span) (r : Range) : Type 0 where
  pub start : s.start ≡ r.start
  pub long : s.long ≡ r.long
  pub fits : s.start + s.long ≤ length bs
