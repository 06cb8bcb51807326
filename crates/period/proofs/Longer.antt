-- A table that is read has a horizon. Assumes nothing.
use Prim.Native.Nat.{ℕ, ◌≤◌}
use mathlib.Core.List.{List}
use lib.ListN.{get_or}
use mir.Syntax.{w8}
use mir.Val.{Fits}
use Rattle.model.specs.Places.{read_of, Valid}
use Rattle.model.proofs.Reader.RoundTrip.{written_read}
use Rattle.rows.proofs.Placed.{known_bytes}
use Rattle.model.proofs.Reader.Located.{valid_read}

pub least-horizon : (bs : List ℕ) → ((j : ℕ) → Fits w8 (get_or bs j 0)) → Valid bs → 1 ≤ (read_of bs).horizon
least-horizon bs b v = (written_read bs (read_of bs) (known_bytes bs b) (valid_read bs v)).0.least_horizon
