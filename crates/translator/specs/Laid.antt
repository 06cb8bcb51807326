-- Blocks put into a buffer with their starts: the starts from one place on, the blocks from another.
use Rattle.std.specs.Prelude.{◌≡◌, List, [], ◌∷◌, map, ℕ, ◌+◌, ◌-◌, ◌*◌, ◌/◌, ◌%◌, ◌≤◌, length}
use Rattle.std.proofs.lemmas.List.Edits.{sets}
use Rattle.model.specs.Lists.{be16, each, below}
use Rattle.model.specs.Table.{Component}
use Rattle.model.specs.Program.{Statement, location_block, edge_block_of, block_bytes, start_bytes}

-- the blocks of a component
unfoldable pub location_blocks : Component → List (List Statement)
location_blocks C = map (location_block C) (below (length C.locations))

unfoldable pub edge_blocks : Component → List (List Statement)
edge_blocks C = map (edge_block_of C.clocks) C.arcs

-- The blocks have room from `at` on, their starts before that from q on; the first start is k, and each has two bytes.
pub record Ready (old : List ℕ) (k q at : ℕ) (bs : List (List Statement)) : Type 0 where
  pub fits : at + length (each block_bytes bs) ≤ length old
  pub apart : q + length bs * 2 ≤ at
  pub small : k * 4 + length (each block_bytes bs) ≤ 24576

-- the starts and the blocks stand there; n is the place behind them
pub record Laid (old : List ℕ) (k q at : ℕ) (bs : List (List Statement)) (n : ℕ) (new : List ℕ) : Type 0 where
  pub next : n ≡ at + length (each block_bytes bs)
  pub same : new ≡ sets (sets old q (start_bytes k bs)) at (each block_bytes bs)

-- a place so many whole statements behind the first
pub record Aligned (first at : ℕ) : Type 0 where
  pub behind : first ≤ at
  pub whole : at ≡ first + (at - first) / 4 * 4

-- the first six bytes of a node's part, and of the program
abbrev pub node_head : ℕ → ℕ → ℕ → ℕ → List ℕ
node_head long locations edges initial = long / 256 ∷ long % 256 ∷ locations ∷ edges ∷ initial ∷ 0 ∷ []

abbrev pub program_head : ℕ → ℕ → ℕ → ℕ → List ℕ
program_head version long count horizon = version ∷ long / 256 ∷ long % 256 ∷ count ∷ be16 horizon
