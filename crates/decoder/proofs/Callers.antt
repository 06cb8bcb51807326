-- What the functions over an edge's bytes require, from what is known of an accepted table: where its parts stand. Assumes nothing.
use mathlib.Core.Bool.{Bool, true, false}
use mathlib.Core.List.{List}
use Prim.Native.Nat.{ℕ, ◌≤◌}
use native.Mathlib.Omega.{arith}
use lib.ListN.{length}
use Rattle.model.specs.Places.{arc_head_length, arc_length}
use Rattle.decoder.specs.Decoded.{Decodable}

pub decodable : (b : Bool) (h : List ℕ) → arc_length b h ≤ length h → Decodable b h
decodable true h w = record { head = omega (arith, w); whole = w }
decodable false h w = record { head = omega (arith, w); whole = w }

-- an edge has 7 bytes before its bounds, or 9
pub head_seven : (b : Bool) → 7 ≤ arc_head_length b
head_seven true = omega arith
head_seven false = omega arith
