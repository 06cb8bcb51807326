-- A number of up to twenty digits; the names past those that are known. Assumes nothing.
use mathlib.Core.Path.{◌≡◌, refl}
use mathlib.Core.Bool.{Bool, true, false}
use Prim.Native.Nat.{ℕ, zero, suc, ◌+◌, ◌-◌, ◌^◌, ◌≤◌, ◌<◌}
use native.Mathlib.Nat.{pow-suc, add-suc}
use native.Mathlib.Omega.{arith}
use borrow.Author.Tests.{leb-true, leb-false}
use lib.Dec.{leb}
use mathlib.Core.List.{[]}
use Rattle.io.specs.Digits.{last_digits, IsDigitCount}
use Rattle.text.specs.Words.{decimal}
use Rattle.text.proofs.Numerals.{numeral_is}
use Rattle.place_text.specs.PlaceText.{it, head_names, location_names, edge_names, clock_bound_names, data_bound_names, update_names, channel_names, pair_names, name_in, field_name, part_name}

-- powers of ten, from the twentieth on
grows : (i : ℕ) → 10 ^ 20 ≤ 10 ^ (20 + i)
grows zero = omega arith
grows (suc i) = rw (add-suc, pow-suc 10 (20 + i)) (omega (arith, grows i))

-- a number of 64 bits has at most twenty digits
pub at_most_twenty : (n k : ℕ) → n < 18446744073709551616 → IsDigitCount 10 1 n k → k ≤ 20
at_most_twenty n k small f = pick (leb k 20) refl
  where
    pick : (t : Bool) → leb k 20 ≡ t → k ≤ 20
    pick true e = leb-true k 20 e
    pick false e =
        let far : 20 < k = leb-false k 20 e in
        let p : k - 1 ≡ 20 + (k - 21) = omega arith in
        let g : 10 ^ 20 ≤ 10 ^ (k - 1) = rw p (grows (k - 21)) in
        let l : 10 ^ (k - 1) ≤ n = f.2 (omega arith) in
        omega (arith, g, l)

pub decimal_number : (n k : ℕ) → k ≤ 20 → IsDigitCount 10 1 n k → last_digits 10 k n ≡ decimal n
unfolding decimal
decimal_number n k h f = numeral_is 20 k n h f

pub rest_head : (n : ℕ) → (n ≡ 2 → ⊥) → (n ≡ 3 → ⊥) → (n ≡ 4 → ⊥) → (n ≡ 5 → ⊥) → (n ≡ 6 → ⊥) → name_in head_names n ≡ it
rest_head zero d0 d1 d2 d3 d4 = refl
rest_head (suc zero) d0 d1 d2 d3 d4 = refl
rest_head (suc (suc zero)) d0 d1 d2 d3 d4 = absurd (d0 refl)
rest_head (suc (suc (suc zero))) d0 d1 d2 d3 d4 = absurd (d1 refl)
rest_head (suc (suc (suc (suc zero)))) d0 d1 d2 d3 d4 = absurd (d2 refl)
rest_head (suc (suc (suc (suc (suc zero))))) d0 d1 d2 d3 d4 = absurd (d3 refl)
rest_head (suc (suc (suc (suc (suc (suc zero)))))) d0 d1 d2 d3 d4 = absurd (d4 refl)
rest_head (suc (suc (suc (suc (suc (suc (suc n))))))) d0 d1 d2 d3 d4 = refl

pub rest_location : (n : ℕ) → (n ≡ 0 → ⊥) → (n ≡ 1 → ⊥) → name_in location_names n ≡ it
rest_location zero d0 d1 = absurd (d0 refl)
rest_location (suc zero) d0 d1 = absurd (d1 refl)
rest_location (suc (suc n)) d0 d1 = refl

pub rest_edge : (n : ℕ) → (n ≡ 0 → ⊥) → (n ≡ 1 → ⊥) → (n ≡ 2 → ⊥) → (n ≡ 3 → ⊥) → (n ≡ 4 → ⊥) → (n ≡ 5 → ⊥) → (n ≡ 6 → ⊥) → name_in edge_names n ≡ it
rest_edge zero d0 d1 d2 d3 d4 d5 d6 = absurd (d0 refl)
rest_edge (suc zero) d0 d1 d2 d3 d4 d5 d6 = absurd (d1 refl)
rest_edge (suc (suc zero)) d0 d1 d2 d3 d4 d5 d6 = absurd (d2 refl)
rest_edge (suc (suc (suc zero))) d0 d1 d2 d3 d4 d5 d6 = absurd (d3 refl)
rest_edge (suc (suc (suc (suc zero)))) d0 d1 d2 d3 d4 d5 d6 = absurd (d4 refl)
rest_edge (suc (suc (suc (suc (suc zero))))) d0 d1 d2 d3 d4 d5 d6 = absurd (d5 refl)
rest_edge (suc (suc (suc (suc (suc (suc zero)))))) d0 d1 d2 d3 d4 d5 d6 = absurd (d6 refl)
rest_edge (suc (suc (suc (suc (suc (suc (suc n))))))) d0 d1 d2 d3 d4 d5 d6 = refl

pub rest_clock_bound : (n : ℕ) → (n ≡ 0 → ⊥) → (n ≡ 1 → ⊥) → (n ≡ 3 → ⊥) → name_in clock_bound_names n ≡ it
rest_clock_bound zero d0 d1 d2 = absurd (d0 refl)
rest_clock_bound (suc zero) d0 d1 d2 = absurd (d1 refl)
rest_clock_bound (suc (suc zero)) d0 d1 d2 = refl
rest_clock_bound (suc (suc (suc zero))) d0 d1 d2 = absurd (d2 refl)
rest_clock_bound (suc (suc (suc (suc n)))) d0 d1 d2 = refl

pub rest_data_bound : (n : ℕ) → (n ≡ 0 → ⊥) → name_in data_bound_names n ≡ it
rest_data_bound zero d0 = absurd (d0 refl)
rest_data_bound (suc n) d0 = refl

pub rest_update : (n : ℕ) → (n ≡ 0 → ⊥) → (n ≡ 1 → ⊥) → name_in update_names n ≡ it
rest_update zero d0 d1 = absurd (d0 refl)
rest_update (suc zero) d0 d1 = absurd (d1 refl)
rest_update (suc (suc n)) d0 d1 = refl

pub rest_channel : (n : ℕ) → (n ≡ 0 → ⊥) → name_in channel_names n ≡ it
rest_channel zero d0 = absurd (d0 refl)
rest_channel (suc n) d0 = refl

pub rest_pair : (n : ℕ) → (n ≡ 0 → ⊥) → (n ≡ 1 → ⊥) → name_in pair_names n ≡ it
rest_pair zero d0 d1 = absurd (d0 refl)
rest_pair (suc zero) d0 d1 = absurd (d1 refl)
rest_pair (suc (suc n)) d0 d1 = refl

pub rest_part : (n : ℕ) (offset : ℕ) → (n ≡ 2 → ⊥) → (n ≡ 3 → ⊥) → (n ≡ 4 → ⊥) → (n ≡ 5 → ⊥) → (n ≡ 6 → ⊥) → (n ≡ 7 → ⊥) → (n ≡ 8 → ⊥) → (n ≡ 9 → ⊥) → field_name n offset ≡ it
unfolding field_name
rest_part zero offset d0 d1 d2 d3 d4 d5 d6 d7 = refl
rest_part (suc zero) offset d0 d1 d2 d3 d4 d5 d6 d7 = refl
rest_part (suc (suc zero)) offset d0 d1 d2 d3 d4 d5 d6 d7 = absurd (d0 refl)
rest_part (suc (suc (suc zero))) offset d0 d1 d2 d3 d4 d5 d6 d7 = absurd (d1 refl)
rest_part (suc (suc (suc (suc zero)))) offset d0 d1 d2 d3 d4 d5 d6 d7 = absurd (d2 refl)
rest_part (suc (suc (suc (suc (suc zero))))) offset d0 d1 d2 d3 d4 d5 d6 d7 = absurd (d3 refl)
rest_part (suc (suc (suc (suc (suc (suc zero)))))) offset d0 d1 d2 d3 d4 d5 d6 d7 = absurd (d4 refl)
rest_part (suc (suc (suc (suc (suc (suc (suc zero))))))) offset d0 d1 d2 d3 d4 d5 d6 d7 = absurd (d5 refl)
rest_part (suc (suc (suc (suc (suc (suc (suc (suc zero)))))))) offset d0 d1 d2 d3 d4 d5 d6 d7 = absurd (d6 refl)
rest_part (suc (suc (suc (suc (suc (suc (suc (suc (suc zero))))))))) offset d0 d1 d2 d3 d4 d5 d6 d7 = absurd (d7 refl)
rest_part (suc (suc (suc (suc (suc (suc (suc (suc (suc (suc n)))))))))) offset d0 d1 d2 d3 d4 d5 d6 d7 = refl

pub rest_name : (n : ℕ) → (n ≡ 1 → ⊥) → (n ≡ 2 → ⊥) → (n ≡ 3 → ⊥) → (n ≡ 5 → ⊥) → (n ≡ 6 → ⊥) → (n ≡ 7 → ⊥) → (n ≡ 8 → ⊥) → (n ≡ 9 → ⊥) → (n ≡ 10 → ⊥) → (n ≡ 11 → ⊥) → (n ≡ 12 → ⊥) → part_name n ≡ []
unfolding part_name
rest_name zero d0 d1 d2 d3 d4 d5 d6 d7 d8 d9 d10 = refl
rest_name (suc zero) d0 d1 d2 d3 d4 d5 d6 d7 d8 d9 d10 = absurd (d0 refl)
rest_name (suc (suc zero)) d0 d1 d2 d3 d4 d5 d6 d7 d8 d9 d10 = absurd (d1 refl)
rest_name (suc (suc (suc zero))) d0 d1 d2 d3 d4 d5 d6 d7 d8 d9 d10 = absurd (d2 refl)
rest_name (suc (suc (suc (suc zero)))) d0 d1 d2 d3 d4 d5 d6 d7 d8 d9 d10 = refl
rest_name (suc (suc (suc (suc (suc zero))))) d0 d1 d2 d3 d4 d5 d6 d7 d8 d9 d10 = absurd (d3 refl)
rest_name (suc (suc (suc (suc (suc (suc zero)))))) d0 d1 d2 d3 d4 d5 d6 d7 d8 d9 d10 = absurd (d4 refl)
rest_name (suc (suc (suc (suc (suc (suc (suc zero))))))) d0 d1 d2 d3 d4 d5 d6 d7 d8 d9 d10 = absurd (d5 refl)
rest_name (suc (suc (suc (suc (suc (suc (suc (suc zero)))))))) d0 d1 d2 d3 d4 d5 d6 d7 d8 d9 d10 = absurd (d6 refl)
rest_name (suc (suc (suc (suc (suc (suc (suc (suc (suc zero))))))))) d0 d1 d2 d3 d4 d5 d6 d7 d8 d9 d10 = absurd (d7 refl)
rest_name (suc (suc (suc (suc (suc (suc (suc (suc (suc (suc zero)))))))))) d0 d1 d2 d3 d4 d5 d6 d7 d8 d9 d10 = absurd (d8 refl)
rest_name (suc (suc (suc (suc (suc (suc (suc (suc (suc (suc (suc zero))))))))))) d0 d1 d2 d3 d4 d5 d6 d7 d8 d9 d10 = absurd (d9 refl)
rest_name (suc (suc (suc (suc (suc (suc (suc (suc (suc (suc (suc (suc zero)))))))))))) d0 d1 d2 d3 d4 d5 d6 d7 d8 d9 d10 = absurd (d10 refl)
rest_name (suc (suc (suc (suc (suc (suc (suc (suc (suc (suc (suc (suc (suc n))))))))))))) d0 d1 d2 d3 d4 d5 d6 d7 d8 d9 d10 = refl
