-- The items of an edge, by its kind; pairs with the channels before them. Assumes nothing.
use mathlib.Core.Path.{◌≡◌, refl, sym, ap, subst, ◌∙◌}
use mathlib.Core.Bool.{Bool, true, false, cond, ◌||◌}
use mathlib.Core.List.{List, [], ◌∷◌}
use Prim.Native.Nat.{ℕ, zero, suc, ◌+◌, ◌-◌, ◌*◌, ◌≤◌, ◌<◌}
use native.Mathlib.Omega.{arith}
use lib.Dec.{leb, eqb}
use lib.ListN.{length, drop, get_or, length-drop}
use lib.Seq.{get_or-drop, drop-drop}
use native.Mathlib.Numerals.{add-one}
use Rattle.std.specs.List.{list_any, range_with_len}
use Rattle.model.specs.declared.Sizes.{Sizes}
use Rattle.model.specs.Reader.{byte, ok, fault, ◌then◌, part, many, listed, pair_fine, pair_at, read_pair, read_pairs, read_update, update_fine, update_at, read_channel, read_items}
use Rattle.parts.specs.Place.{Rest, left, failed, skim, passes, channels_before}
use Rattle.parts.specs.declared.Kind.TheVariants.{Updates}
use Rattle.parts.proofs.Skim.{was_failed, keeps, first_of, part_is, part_short, part_bad}

-- ## Items by their kind

-- the values of fixed parts do not move the place
pub same_many : {A B : Type 0} (w : ℕ) (fine : List ℕ → Bool) (f : List ℕ → A) (g : List ℕ → B) (n : ℕ) (bs : List ℕ)
    → skim (many (part w fine f) n bs) ≡ skim (many (part w fine g) n bs)
unfolding many
same_many w fine f g zero bs = refl
same_many w fine f g (suc n) bs = go (same_many w fine f g n (drop w bs)) (leb w (length bs)) (fine bs)
  where
    go : skim (many (part w fine f) n (drop w bs)) ≡ skim (many (part w fine g) n (drop w bs)) → (s t : Bool)
        → skim (cond s (cond t (ok (f bs) (drop w bs)) (fault 5)) (fault 4) then λ a r. many (part w fine f) n r then λ l q. ok (a ∷ l) q)
        ≡ skim (cond s (cond t (ok (g bs) (drop w bs)) (fault 5)) (fault 4) then λ a r. many (part w fine g) n r then λ l q. ok (a ∷ l) q)
    go e true true = keeps (many (part w fine f) n (drop w bs)) (λ l. f bs ∷ l) ∙ e ∙ sym (keeps (many (part w fine g) n (drop w bs)) (λ l. g bs ∷ l))
    go e true false = refl
    go e false t = refl

module _ (s : Sizes) (kind n : ℕ) (bs : List ℕ) where
  pub items_internal : kind ≡ 0 → skim (read_items s kind n bs) ≡ skim (many (passes Updates s) n bs)
  unfolding read_items
  items_internal e = rw e (keeps (many (read_update s) n bs) _ ∙ same_many 4 (update_fine s) update_at (λ x. tt) n bs)

  pub items_send : kind ≡ 1 → skim (read_items s kind n bs) ≡ skim (read_channel s bs)
  unfolding read_items
  items_send e = rw e (keeps (read_channel s bs) _)

  pub items_receive : 2 ≤ kind → skim (read_items s kind n bs) ≡ skim (read_pairs s n [] bs)
  unfolding read_items
  items_receive h =
      let two : kind ≡ suc (suc (kind - 2)) = omega arith in
      ap (λ (k : ℕ). skim (read_items s k n bs)) two ∙ keeps (read_pairs s n [] bs) _

-- ## The channels before a pair

-- the last number of a range may be tried first
module _ (test : ℕ → Bool) where
  swapped : (a b c : Bool) → a || (b || c) ≡ b || (a || c)
  swapped true true c = refl
  swapped true false c = refl
  swapped false true c = refl
  swapped false false c = refl

  any_last : (a n : ℕ) → list_any test (range_with_len a (suc n)) ≡ test (a + n) || list_any test (range_with_len a n)
  any_last a zero = let e : a + 0 ≡ a = omega arith in rw e
  any_last a (suc n) =
      let e : a + 1 + n ≡ a + suc n = omega arith in
      let rest = ap (λ (k : ℕ). test k || list_any test (range_with_len (a + 1) n)) e in
      ap (λ (found : Bool). test a || found) (any_last (a + 1) n ∙ rest) ∙ swapped (test a) (test (a + suc n)) (list_any test (range_with_len (a + 1) n))

-- one of the first n pairs has the channel
pub any_listed : (h : List ℕ) (channel n : ℕ) → list_any (λ k. eqb (byte h (k * 2)) channel) (range_with_len 0 n) ≡ listed channel (channels_before h n)
unfolding channels_before
any_listed h channel zero = refl
any_listed h channel (suc n) =
    let e : 0 + n ≡ n = omega arith in
    any_last (λ k. eqb (byte h (k * 2)) channel) 0 n ∙ rw e (ap (λ (found : Bool). eqb (byte h (n * 2)) channel || found) (any_listed h channel n))

-- ## Pairs, read in a loop, of which k are left

module _ (s : Sizes) (seen bs : List ℕ) (k : ℕ) where
  pair_fails : {n : ℕ} → skim (read_pair s bs) ≡ failed n → skim (read_pairs s (suc k) seen bs) ≡ failed n
  unfolding read_pairs
  pair_fails e = rw (was_failed (read_pair s bs) e)

  pair_twice : read_pair s bs ≡ ok (pair_at bs) (drop 2 bs) → listed (byte bs 0) seen ≡ true → skim (read_pairs s (suc k) seen bs) ≡ failed 6
  unfolding read_pairs
  pair_twice e t = rw (e, t)

  pair_good : read_pair s bs ≡ ok (pair_at bs) (drop 2 bs) → listed (byte bs 0) seen ≡ false → skim (read_pairs s (suc k) seen bs) ≡ skim (read_pairs s k (byte bs 0 ∷ seen) (drop 2 bs))
  unfolding read_pairs
  pair_good e t = rw (e, t) (keeps (read_pairs s k (byte bs 0 ∷ seen) (drop 2 bs)) (λ l. pair_at bs ∷ l))

-- the pair at `at`, after i pairs from `from` on, with k to be read after it
module _ (s : Sizes) (p : List ℕ) (from at i n k : ℕ) (x : Rest) (h : n ≡ suc k) (inv : skim (read_pairs s n (channels_before (drop from p) i) (drop at p)) ≡ x) where
  now : skim (read_pairs s (suc k) (channels_before (drop from p) i) (drop at p)) ≡ x
  now = subst (λ (m : ℕ). skim (read_pairs s m (channels_before (drop from p) i) (drop at p)) ≡ x) h inv

  pub pairs_short : length p - at < 2 → x ≡ failed 4
  pairs_short e = sym now ∙ pair_fails s (channels_before (drop from p) i) (drop at p) k (part_short 2 (pair_fine s) pair_at p at e)

  pub pairs_bad : at + 2 ≤ length p → pair_fine s (drop at p) ≡ false → x ≡ failed 5
  pairs_bad f e = sym now ∙ pair_fails s (channels_before (drop from p) i) (drop at p) k (part_bad 2 (pair_fine s) pair_at p at f e)

  fits : at + 2 ≤ length p → 2 ≤ length (drop at p)
  fits f = simp length-drop (omega arith)

  pub pairs_twice : at + 2 ≤ length p → pair_fine s (drop at p) ≡ true → listed (get_or p at 0) (channels_before (drop from p) i) ≡ true → x ≡ failed 6
  pairs_twice f e t =
      sym now
      ∙ pair_twice s (channels_before (drop from p) i) (drop at p) k (part_is 2 (pair_fine s) pair_at (drop at p) (fits f) e) (rw (first_of p at) t)

  -- the next pair's channel stands in front of those before it
  next_seen : at ≡ from + i * 2 → byte (drop at p) 0 ∷ channels_before (drop from p) i ≡ channels_before (drop from p) (suc i)
  unfolding channels_before
  next_seen e = ap (λ (b : ℕ). b ∷ channels_before (drop from p) i) (first_of p at ∙ ap (λ (j : ℕ). get_or p j 0) e ∙ sym (get_or-drop from p (i * 2) 0))

  pub pairs_turn : at ≡ from + i * 2 → at + 2 ≤ length p → pair_fine s (drop at p) ≡ true
      → listed (get_or p at 0) (channels_before (drop from p) i) ≡ false
      → skim (read_pairs s k (channels_before (drop from p) (i + 1)) (drop (at + 2) p)) ≡ x
  pairs_turn a f e t =
      rw (add-one i, ← next_seen a, ← drop-drop 2 at p)
      (sym (pair_good s (channels_before (drop from p) i) (drop at p) k (part_is 2 (pair_fine s) pair_at (drop at p) (fits f) e) (rw (first_of p at) t)) ∙ now)

pub pairs_done : (s : Sizes) (seen bs : List ℕ) (k : ℕ) (x : Rest) → k ≤ 0 → skim (read_pairs s k seen bs) ≡ x → x ≡ left bs
unfolding read_pairs
pairs_done s seen bs zero x h inv = sym inv
pairs_done s seen bs (suc k) x h inv = absurd (omega arith)
