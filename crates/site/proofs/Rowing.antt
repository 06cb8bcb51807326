-- The airtime of the rows, from the last one to the first. Assumes nothing.
use mathlib.Core.Path.{◌≡◌, refl, sym, ap, ◌∙◌}
use mathlib.Core.Bool.{Bool, true, false, cond}
use mathlib.Core.List.{List, [], ◌∷◌}
use Prim.Native.Nat.{ℕ, suc, ◌+◌, ◌-◌, ◌≤◌, ◌<◌}
use native.Mathlib.Omega.{arith}
use Rattle.model.specs.Table.{Table}
use Rattle.model.specs.Schedule.{Passage, light}
use Rattle.model.specs.Checks.{is_send}
use Rattle.model.specs.Places.{read_of}
use Rattle.rows.specs.Rows.{num, row_passage, rows_from, RowKnown}
use Rattle.site.specs.Airtime.{airtime}
use Rattle.site.specs.Lent.{row_airtime}

module _ (bs : List ℕ) (H : ℕ) (rows : List ℕ) where
  -- a row that counts
  pub row_counts : (i : ℕ) {x y : ℕ} {b : Bool} → RowKnown bs rows i → b ≡ is_send (read_of bs).table H (row_passage rows i) → b ≡ true → x ≡ num rows i 5 → y ≡ num rows i 4
      → (x - y + 1 ≡ row_airtime bs H rows i) × (x - y + 1 ≤ 200001)
  row_counts i {x} {y} k e t p q =
      let one : row_airtime bs H rows i ≡ suc (num rows i 5 - num rows i 4) = ap (λ (z : Bool). cond z (suc (num rows i 5 - num rows i 4)) 0) (sym e ∙ t) in
      (omega (arith, one), omega (arith, k.row.small))

  -- one that does not
  pub row_not : (i : ℕ) {b : Bool} → b ≡ is_send (read_of bs).table H (row_passage rows i) → b ≡ false → (0 ≡ row_airtime bs H rows i) × (0 ≤ 200001)
  row_not i e t = (sym (ap (λ (z : Bool). cond z (suc (num rows i 5 - num rows i 4)) 0) (sym e ∙ t)), omega arith)

  -- the rows from row i on
  abbrev pub airtime_from : ℕ → ℕ → ℕ
  airtime_from i n = airtime (read_of bs).table H (rows_from rows i n)

  pub none_left : (n : ℕ) → airtime_from n (n - n) ≡ 0
  unfolding airtime rows_from
  none_left n = ap (λ (k : ℕ). airtime (read_of bs).table H (rows_from rows n k)) (let z : n - n ≡ 0 = omega arith in z)

  -- one row more
  pub one_more : (n i : ℕ) → i < n → airtime_from i (n - i) ≡ row_airtime bs H rows i + airtime_from (suc i) (n - suc i)
  unfolding airtime rows_from
  one_more n i h = ap (λ (k : ℕ). airtime (read_of bs).table H (rows_from rows i k)) (let z : n - i ≡ suc (n - suc i) = omega arith in z)

-- what the rows keep of the passages has their airtime
pub light_airtime : (T : Table) (H : ℕ) (S : List Passage) → airtime T H (mathlib.Core.List.map light S) ≡ airtime T H S
unfolding airtime
light_airtime T H [] = refl
light_airtime T H (v ∷ S) = ap (λ (n : ℕ). cond (is_send T H v) (suc (v.end - v.ready)) 0 + n) (light_airtime T H S)
