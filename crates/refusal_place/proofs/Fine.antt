-- A part is fine, by the reader's test, exactly if every number of it is in its range. Assumes nothing.
use mathlib.Core.Path.{◌≡◌, refl}
use mathlib.Core.Bool.{Bool, true, false, ◌&&◌, ◌||◌}
use mathlib.Core.List.{List, [], ◌∷◌}
use Prim.Native.Nat.{ℕ, zero, suc, ◌+◌, ◌-◌, ◌^◌, min, ◌≤◌}
use native.Mathlib.Omega.{arith}
use borrow.Author.Tests.{leb-true, eqb-true, eqb-false, le-leb, lt-ltb, le-ltb}
use lib.Dec.{leb, ltb, eqb, leb-zero, leb-suc-suc}
use lib.ListN.{length}
use Rattle.model.specs.declared.Sizes.{Sizes}
use Rattle.model.specs.Reader.{byte, word, location_fine, clock_guard_fine, budget_fine, data_guard_fine, update_fine, channel_fine, pair_fine, counts_fine, edge_fine, head_fine}
use Rattle.refusal_place.specs.Ranges.{head_fields, location_fields, byte_field, edge_fields, data_limit, item_least, item_limit, budget_fields, clock_bound_fields, data_bound_fields, update_fields, channel_fields, pair_fields}
use Rattle.refusal_place.proofs.Rests.{rest, byte_rest, word_rest}
use Rattle.refusal_place.proofs.OneTest.{asked}

-- ## Tests

and_yes : (a : Bool) → a && true ≡ a
and_yes true = refl
and_yes false = refl

and_turn : (a b c : Bool) → a && (b && c) ≡ a && b && c
and_turn true b c = refl
and_turn false b c = refl

or_no : (a : Bool) → a || false ≡ a
or_no true = refl
or_no false = refl

or_turn : (a b : Bool) → a || b ≡ b || a
or_turn true true = refl
or_turn true false = refl
or_turn false true = refl
or_turn false false = refl

-- numbers from 0 up to a limit, and up to the number before it
below : (v n : ℕ) → leb 0 v && ltb v n ≡ ltb v n
below v n = rw (leb-zero v)

upto : (v n : ℕ) → leb 0 v && ltb v (suc n) ≡ leb v n
upto v n = rw (leb-zero v, leb-suc-suc v n)

exactly : (v n : ℕ) → leb n v && ltb v (suc n) ≡ eqb v n
exactly v n = go (eqb v n) refl
  where
    go : (t : Bool) → eqb v n ≡ t → leb n v && ltb v (suc n) ≡ t
    go true e = let q = eqb-true v n e in rw (le-leb n v (omega arith), lt-ltb v (suc n) (omega arith))
    go false e = last (leb n v) refl
      where
        last : (t : Bool) → leb n v ≡ t → t && ltb v (suc n) ≡ false
        last true h = let k = leb-true n v h in le-ltb v (suc n) (more v n k (eqb-false v n e))
          where
            more : (v n : ℕ) → n ≤ v → (v ≡ n → ⊥) → suc n ≤ v
            more v n k d = omega arith
        last false h = refl

-- ## Parts

module _ (bs : List ℕ) (end : ℕ) (h : end ≤ length bs) (at : ℕ) where
  abbrev there : List ℕ
  there = rest bs end at

  pub location-fine : (s : Sizes) → 3 ≤ end - at → location_fine s there ≡ asked bs at (location_fields s)
  location-fine s k =
      rw (byte_rest bs end h at 0 (omega arith), word_rest bs end h at 1 (omega arith), below (byte bs (at + 0)) s.clocks, upto (word bs (at + 1)) 60000, and_yes)

  pub clock_bound_fine : (s : Sizes) → 5 ≤ end - at → clock_guard_fine s there ≡ asked bs at (clock_bound_fields s)
  clock_bound_fine s k =
      rw (
        byte_rest bs end h at 0 (omega arith),
        word_rest bs end h at 1 (omega arith),
        word_rest bs end h at 3 (omega arith),
        below (byte bs (at + 0)) s.clocks,
        upto (word bs (at + 1)) 60000,
        upto (word bs (at + 3)) 60000,
        and_yes,
        or_turn (leb (word bs (at + 3)) 60000) (eqb (word bs (at + 3)) 65535),
      )
      (simp and_turn)

  pub budget-fine : 2 ≤ end - at → budget_fine there ≡ asked bs at budget_fields
  budget-fine k = rw (word_rest bs end h at 0 (omega arith), upto (word bs (at + 0)) 60000, and_yes)

  pub data_bound_fine : (s : Sizes) → 5 ≤ end - at → data_guard_fine s there ≡ asked bs at (data_bound_fields s)
  data_bound_fine s k = rw (byte_rest bs end h at 0 (omega arith), below (byte bs (at + 0)) s.variables, and_yes)

  pub update-fine : (s : Sizes) → 4 ≤ end - at → update_fine s there ≡ asked bs at (update_fields s)
  update-fine s k =
      rw (byte_rest bs end h at 0 (omega arith), byte_rest bs end h at 1 (omega arith), below (byte bs (at + 0)) s.variables, upto (byte bs (at + 1)) 1, and_yes)

  pub channel-fine : (s : Sizes) → 1 ≤ end - at → channel_fine s there ≡ asked bs at (channel_fields s)
  channel-fine s k = rw (byte_rest bs end h at 0 (omega arith), below (byte bs (at + 0)) s.channels, and_yes)

  pub pair-fine : (s : Sizes) → 2 ≤ end - at → pair_fine s there ≡ asked bs at (pair_fields s)
  pair-fine s k =
      rw (byte_rest bs end h at 0 (omega arith), byte_rest bs end h at 1 (omega arith), below (byte bs (at + 0)) s.channels, below (byte bs (at + 1)) s.locations, and_yes)

  -- the counts, by the edge's kind
  counts-fine : (kind : ℕ) → counts_fine kind (byte bs (at + 5)) (byte bs (at + 6)) ≡ asked bs at (byte_field 5 0 (data_limit kind) ∷ byte_field 6 (item_least kind) (item_limit kind) ∷ [])
  counts-fine zero = rw (upto (byte bs (at + 5)) 4, upto (byte bs (at + 6)) 4, and_yes)
  counts-fine (suc zero) = rw (upto (byte bs (at + 5)) 4, exactly (byte bs (at + 6)) 1, and_yes)
  counts-fine (suc (suc kind)) = rw (exactly (byte bs (at + 5)) 0, leb-suc-suc (byte bs (at + 6)) 8, and_yes) (simp and_turn)

  pub edge-fine : (s : Sizes) → s.clocks ≤ 4 → 7 ≤ end - at → edge_fine s there ≡ asked bs at (edge_fields s (byte bs at))
  edge-fine s few k =
      let z : at + 0 ≡ at = omega arith in
      let m : min s.clocks 4 ≡ s.clocks = omega arith in
      rw (
        byte_rest bs end h at 0 (omega arith),
        byte_rest bs end h at 1 (omega arith),
        byte_rest bs end h at 2 (omega arith),
        byte_rest bs end h at 3 (omega arith),
        byte_rest bs end h at 4 (omega arith),
        byte_rest bs end h at 5 (omega arith),
        byte_rest bs end h at 6 (omega arith),
        z,
        m,
        upto (byte bs at) 2,
        below (byte bs (at + 1)) s.locations,
        below (byte bs (at + 2)) s.locations,
        below (byte bs (at + 3)) (2 ^ s.clocks),
        upto (byte bs (at + 4)) 4,
        ← counts-fine (byte bs at),
      )
      (simp and_turn)

  pub head-fine : 7 ≤ end - at → head_fine there ≡ asked bs at (head_fields (byte bs (at + 2)))
  head-fine k =
      rw (
        byte_rest bs end h at 2 (omega arith),
        byte_rest bs end h at 3 (omega arith),
        byte_rest bs end h at 4 (omega arith),
        byte_rest bs end h at 5 (omega arith),
        byte_rest bs end h at 6 (omega arith),
        leb-suc-suc (byte bs (at + 2)) 16,
        below (byte bs (at + 3)) (byte bs (at + 2)),
        leb-suc-suc (byte bs (at + 4)) 4,
        upto (byte bs (at + 5)) 4,
        leb-suc-suc (byte bs (at + 6)) 32,
        and_yes,
      )
      (simp and_turn)
