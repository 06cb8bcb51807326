-- Check 10 looks at later rows only: a row that an earlier one meets is met by it, so the earlier one is at fault. Assumes nothing.
use mathlib.Core.Path.{◌≡◌, refl, sym, ap, ◌∙◌}
use mathlib.Core.Bool.{Bool, true, false, ◌&&◌, ◌||◌}
use mathlib.Core.List.{List, []}
use mathlib.Core.Option.{Option, none, some}
use Prim.Native.Nat.{ℕ, zero, suc, ◌+◌, ◌≤◌, ◌<◌}
use native.Mathlib.Omega.{arith}
use native.Mathlib.Decide.{ℕ_discrete}
use borrow.Author.Tests.{eqb-true, eq-eqb}
use lib.Dec.{leb}
use Rattle.model.specs.Lists.{any, only}
use Rattle.model.specs.Table.{Table, band_of}
use Rattle.model.specs.Window.{channel_of}
use Rattle.model.specs.Schedule.{Passage, passage_arc, others}
use Rattle.model.specs.Checks.{same_band, disturb, is_send, meets, collides}
use Rattle.model.proofs.Basics.Bools.{clash}
use Rattle.model.proofs.Checks.Heard.{others_is}
use Rattle.rows.specs.Rows.{row_passage, rows_from, rows_of}
use Rattle.checks.proofs.Swept.{rows_none}

module _ (p : Passage → Bool) (l : List ℕ) where
  or_true : (t : Bool) → t || true ≡ true
  or_true true = refl
  or_true false = refl

  rows_some : (m i k : ℕ) → i ≤ k → k < i + m → p (row_passage l k) ≡ true → any p (rows_from l i m) ≡ true
  unfolding rows_from
  rows_some zero i k a b e = absurd (omega arith)
  rows_some (suc m) i k a b e = go (λ n. rows_some m (suc i) k (omega (arith, n)) (omega arith) e) (ℕ_discrete k i)
    where
      go : ((k ≡ i → ⊥) → any p (rows_from l (suc i) m) ≡ true) → Dec (k ≡ i) → (p (row_passage l i) || any p (rows_from l (suc i) m)) ≡ true
      go ih (yes q) = let h : p (row_passage l i) ≡ true = ap (λ j. p (row_passage l j)) (sym q) ∙ e in rw h
      go ih (no q) = rw (ih q) (or_true (p (row_passage l i)))

  -- none of the rows so far, and not row i
  pub below_turn : (i : ℕ) → ((k : ℕ) → k < i → p (row_passage l k) ≡ false) → p (row_passage l i) ≡ false → (k : ℕ) → k < i + 1 → p (row_passage l k) ≡ false
  below_turn i f e k h = go (ℕ_discrete k i)
    where
      go : Dec (k ≡ i) → p (row_passage l k) ≡ false
      go (yes q) = rw q e
      go (no q) = f k (omega (arith, h, q))

module _ (G : ℕ) (T : Table) (H : ℕ) where
  swapped : (a b c t x y d e : Bool) → a ≡ true → (c ≡ true → t ≡ true) → (x ≡ true → y ≡ true) → b && c && x && (d && e) ≡ true
      → (b ≡ true) × (a && t && y && (e && d) ≡ true)
  swapped a true true t true y true true h f g q = (refl, rw (h, f refl, g refl))
  swapped a true true t true y true false h f g q = clash q
  swapped a true true t true y false e h f g q = clash q
  swapped a true true t false y d e h f g q = clash q
  swapped a true false t x y d e h f g q = clash q
  swapped a false c t x y d e h f g q = clash q

  -- two sends have one band
  band_turned : (v w : Passage) → disturb T v w ≡ true → disturb T w v ≡ true
  band_turned v w = go (channel_of (passage_arc T v)) (channel_of (passage_arc T w))
    where
      go : (j k : Option ℕ) → same_band T j k ≡ true → same_band T k j ≡ true
      go none k q = clash q
      go (some j) none q = clash q
      go (some j) (some k) q = eq-eqb (band_of T k) (band_of T j) (sym (eqb-true (band_of T j) (band_of T k) q))

  -- two sends meet each other
  turned : (v w : Passage) → is_send T H v ≡ true → meets G T H v w ≡ true → (is_send T H w ≡ true) × (meets G T H w v ≡ true)
  turned v w s q =
      swapped (is_send T H v) (is_send T H w) (others w v) (others v w) (disturb T v w) (disturb T w v) (leb v.ready (w.end + G)) (leb w.ready (v.end + G)) s
      (λ h. (others_is v w).1 (λ e. (others_is w v).0 h (sym e))) (band_turned v w) q

  -- row i, a send, meets none of the rows before it, where none of them collides
  pub none_earlier : (l : List ℕ) (n i : ℕ) → i < n → is_send T H (row_passage l i) ≡ true → ((k : ℕ) → k < i → collides G T H (rows_of l n) (row_passage l k) ≡ false)
      → only (meets G T H (row_passage l i)) (rows_of l i) ≡ []
  none_earlier l n i h s f = rows_none (meets G T H (row_passage l i)) l 0 i (λ k a b. go k (omega (arith, b)) (meets G T H (row_passage l i) (row_passage l k)) refl)
    where
      go : (k : ℕ) → k < i → (t : Bool) → meets G T H (row_passage l i) (row_passage l k) ≡ t → t ≡ false
      go k b true q =
          let w = turned (row_passage l i) (row_passage l k) s q in
          let c : collides G T H (rows_of l n) (row_passage l k) ≡ true = rw (w.0, rows_some (meets G T H (row_passage l k)) l n 0 i (omega arith) (omega arith) w.1) in
          clash (sym (f k b) ∙ c)
      go k b false q = refl
