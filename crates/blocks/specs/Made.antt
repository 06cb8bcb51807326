-- What is made of the parts of an edge: clock bounds, data bounds, updates, pairs.
use Rattle.std.specs.Prelude.{List, [], ◌∷◌, ◌++◌, ℕ, zero, suc, drop}
use Rattle.model.specs.Reader.{clock_guard_at, data_guard_at, update_at, pair_at}
use Rattle.model.specs.Program.{clock_tests, data_tests, update_of, pair_quad, block_bytes}
use Rattle.blocks.specs.declared.Kind.{Kind}
use Rattle.blocks.specs.declared.Kind.TheVariants.{ClockGuards, DataGuards, Updates, Pairs}

abbrev pub width_of : Kind → ℕ
width_of ClockGuards = 5
width_of DataGuards = 5
width_of Updates = 4
width_of Pairs = 2

-- the bytes made of the part at the front
abbrev pub made_of : Kind → List ℕ → List ℕ
made_of ClockGuards h = block_bytes (clock_tests (clock_guard_at h ∷ []))
made_of DataGuards h = block_bytes (data_tests (data_guard_at h ∷ []))
made_of Updates h = block_bytes (update_of (update_at h) ∷ [])
made_of Pairs h = pair_quad (pair_at h)

-- the bytes made of n parts, one after the other
unfoldable pub all_made : Kind → ℕ → List ℕ → List ℕ
all_made k zero h = []
all_made k (suc n) h = made_of k h ++ all_made k n (drop (width_of k) h)
