-- Bytes put into a buffer, from a place on.
use Rattle.std.specs.Prelude.{◌≡◌, List, ℕ, ◌+◌, ◌≤◌, length}
use Rattle.std.proofs.lemmas.List.Edits.{sets}

-- the bytes have room from the place on
abbrev pub Room : List ℕ → ℕ → List ℕ → Type 0
Room old at bytes = at + length bytes ≤ length old

-- the bytes stand from the place on, the others stay; n is the place behind them
pub record Put (old : List ℕ) (at : ℕ) (bytes : List ℕ) (n : ℕ) (new : List ℕ) : Type 0 where
  pub next : n ≡ at + length bytes
  pub same : new ≡ sets old at bytes
