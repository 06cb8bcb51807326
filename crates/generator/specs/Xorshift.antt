-- Marsaglia's 32-bit xorshift with shifts 13, 17, 5.
use Rattle.std.specs.Prelude.{◌≡◌, refl, ℕ, ◌*◌, ◌/◌, ◌%◌, ◌^◌}
use Rattle.std.specs.Int.Bits.{bit_xor}

abbrev pub left : ℕ → ℕ → ℕ
left a k = bit_xor a (a * 2 ^ k % 2 ^ 32)

abbrev pub right : ℕ → ℕ → ℕ
right a k = bit_xor a (a / 2 ^ k)

-- the state after a state, which is the number drawn
unfoldable pub next_of : ℕ → ℕ
next_of a = left (right (left a 13) 17) 5

-- "its fixed seed 2463534242", and the first draw from it
abbrev pub fixed_seed : ℕ
fixed_seed = 2463534242

first_draw : next_of fixed_seed ≡ 723471715
unfolding next_of
first_draw = refl
