-- The bands of a table: written and read back, read and in the limits. Assumes nothing.
use mathlib.Core.Path.{◌≡◌, refl, sym, ap, ◌∙◌}
use mathlib.Core.Bool.{Bool, true, false, cond}
use mathlib.Core.List.{List, [], ◌∷◌, ◌++◌}
use Prim.Native.Nat.{ℕ, zero, suc, ◌+◌, ◌≤◌, ◌<◌}
use native.Mathlib.Omega.{arith}
use borrow.Author.Tests.{leb-true, leb-false, le-leb}
use lib.Dec.{leb}
use lib.ListN.{length, take, drop, replicate, length-replicate, take-append-drop}
use lib.Seq.{drop-drop, take-append_seam, drop-append_seam, length-take-le}
use Rattle.model.specs.Lists.{all, All, empty, more}
use Rattle.model.specs.Bytes.{band_bytes}
use Rattle.model.specs.Limits.{BandsIn}
use Rattle.model.specs.Reader.{byte, body_start, bands_at, bands_fine}
use Rattle.model.proofs.Basics.Bools.{and_is}

-- each number passes the test exactly if each is small
all_small : (n : ℕ) (l : List ℕ) → all (λ b. leb b n) l ≡ true → All (λ b. b ≤ n) l
all_small n [] e = empty
all_small n (b ∷ l) e = let h = (and_is (leb b n) (all (λ b. leb b n) l)).0 e in more (leb-true b n h.0) (all_small n l h.1)

small_all : (n : ℕ) {l : List ℕ} → All (λ b. b ≤ n) l → all (λ b. leb b n) l ≡ true
small_all n empty = refl
small_all n (more {x = b} h a) = rw (le-leb b n h) (small_all n a)

-- the bands of version 1, all 0, pass it
pub zeros_small : (n : ℕ) → all (λ b. leb b 3) (replicate n 0) ≡ true
zeros_small zero = refl
zeros_small (suc n) = zeros_small n

-- what is read is in the limits
pub bands_in : (bs : List ℕ) → 7 ≤ length bs → bands_fine bs ≡ true → BandsIn (byte bs 0) (byte bs 4) (bands_at bs)
bands_in bs long e =
    let h = (and_is (leb (body_start bs) (length bs)) (all (λ b. leb b 3) (bands_at bs))).0 e in
    record {
      count = count (leb 2 (byte bs 0)) (leb-true (body_start bs) (length bs) h.0);
      most = all_small 3 (bands_at bs) h.1;
      first = λ v. first (leb 2 (byte bs 0)) refl v;
    }
  where
    count : (b : Bool) → 7 + cond b (byte bs 4) 0 ≤ length bs → length (cond b (take (byte bs 4) (drop 7 bs)) (replicate (byte bs 4) 0)) ≡ byte bs 4
    count true fits = length-take-le (byte bs 4) (drop 7 bs) (simp lib.ListN.length-drop (omega arith))
    count false fits = length-replicate (byte bs 4) 0

    first : (b : Bool) → leb 2 (byte bs 0) ≡ b → byte bs 0 < 2 → cond b (take (byte bs 4) (drop 7 bs)) (replicate (byte bs 4) 0) ≡ replicate (byte bs 4) 0
    first true q v = absurd (omega (arith, leb-true 2 (byte bs 0) q))
    first false q v = refl

-- the bytes after the header are those of the bands, then those of the components
pub bands_said : (bs : List ℕ) → drop 7 bs ≡ band_bytes (byte bs 0) (bands_at bs) ++ drop (body_start bs) bs
bands_said bs = go (leb 2 (byte bs 0))
  where
    go : (b : Bool) → drop 7 bs ≡ cond b (cond b (take (byte bs 4) (drop 7 bs)) (replicate (byte bs 4) 0)) [] ++ drop (7 + cond b (byte bs 4) 0) bs
    go true = sym (take-append-drop (byte bs 4) (drop 7 bs)) ∙ ap (λ l. take (byte bs 4) (drop 7 bs) ++ l) (drop-drop (byte bs 4) 7 bs)
    go false = refl

-- ## Written and read back: behind the header stand the bands of a table, and then R
module _ (bs bands R : List ℕ) (is : BandsIn (byte bs 0) (byte bs 4) bands) (rest : drop 7 bs ≡ band_bytes (byte bs 0) bands ++ R) (long : 7 ≤ length bs) where
  pub start_back : drop (body_start bs) bs ≡ R
  start_back = go (leb 2 (byte bs 0)) rest
    where
      go : (b : Bool) → drop 7 bs ≡ cond b bands [] ++ R → drop (7 + cond b (byte bs 4) 0) bs ≡ R
      go true e = sym (drop-drop (byte bs 4) 7 bs) ∙ ap (drop (byte bs 4)) e ∙ ap (λ n. drop n (bands ++ R)) (sym is.count) ∙ drop-append_seam bands R
      go false e = e

  pub bands_back : bands_at bs ≡ bands
  bands_back = go (leb 2 (byte bs 0)) refl rest
    where
      go : (b : Bool) → leb 2 (byte bs 0) ≡ b → drop 7 bs ≡ cond b bands [] ++ R → cond b (take (byte bs 4) (drop 7 bs)) (replicate (byte bs 4) 0) ≡ bands
      go true q e = ap (take (byte bs 4)) e ∙ ap (λ n. take n (bands ++ R)) (sym is.count) ∙ take-append_seam bands R
      go false q e = sym (is.first (omega (arith, leb-false 2 (byte bs 0) q)))

  pub fine_back : bands_fine bs ≡ true
  fine_back = (and_is (leb (body_start bs) (length bs)) (all (λ b. leb b 3) (bands_at bs))).1 (
    le-leb (body_start bs) (length bs) (go (leb 2 (byte bs 0)) rest),
    ap (all (λ b. leb b 3)) bands_back ∙ small_all 3 is.most,
  )
    where
      go : (b : Bool) → drop 7 bs ≡ cond b bands [] ++ R → 7 + cond b (byte bs 4) 0 ≤ length bs
      go true e = omega (arith, ap length e, lib.ListN.length-drop 7 bs, lib.ListN.length-append bands R, is.count)
      go false e = omega arith
