-- Bytes put into a lent slice, from a place on; and the heads of a plan's parts.
use Rattle.std.specs.Prelude.{◌≡◌, List, [], ◌∷◌, ◌++◌, ℕ, suc, ◌+◌, length}
use Rattle.std.proofs.lemmas.List.Edits.{sets}
use Rattle.model.specs.Lists.{be16}

-- the bytes stand from the place on, the others stay; `next` is the place behind them
pub record Put (old : List ℕ) (at : ℕ) (bytes : List ℕ) (next : ℕ) (new : List ℕ) : Type 0 where
  pub ends : next ≡ at + length bytes
  pub same : new ≡ sets old at bytes

-- "Header, 7 bytes: version 1; total length (2 bytes); components; channels; horizon H (2 bytes)"
abbrev pub table_head : ℕ → ℕ → ℕ → List ℕ
table_head size probes horizon = (1 ∷ be16 size) ++ (suc probes ∷ probes ∷ be16 horizon)

-- "its length (2 bytes); locations; initial location; clocks; variables; edges": as many locations as edges, one clock, no variable
abbrev pub component_head : ℕ → ℕ → List ℕ
component_head size parts = be16 size ++ (parts ∷ 0 ∷ 1 ∷ 0 ∷ parts ∷ [])

-- "7 bytes: kind, source, destination, reset mask, counts of clock bounds, data bounds and items": one clock bound, no data bound
abbrev pub edge_head : ℕ → ℕ → ℕ → ℕ → ℕ → List ℕ
edge_head kind source destination mask items = kind ∷ source ∷ destination ∷ mask ∷ 1 ∷ 0 ∷ items ∷ []

-- "one clock bound with no high"
abbrev pub low_bytes : ℕ → List ℕ
low_bytes low = (0 ∷ be16 low) ++ be16 65535
