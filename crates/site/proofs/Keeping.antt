-- A site as four horizons and four airtimes: what each call leaves there. Assumes nothing.
use mathlib.Core.Path.{◌≡◌, refl, sym, ap, ap₂, ◌∙◌}
use mathlib.Core.Bool.{Bool, true, false, cond, ◌&&◌, ◌||◌}
use mathlib.Core.List.{List, [], ◌∷◌}
use mathlib.Core.Option.{Option, none, some}
use Prim.Native.Nat.{ℕ, zero, suc, ◌+◌, ◌≤◌, ◌<◌}
use native.Mathlib.Omega.{arith}
use borrow.Author.Tests.{lt-ltb, le-ltb, le-leb, lt-leb, eqb-true, eq-eqb, ne_eqb}
use lib.Dec.{eqb}
use lib.ListN.{length, get_or, set}
use Rattle.model.specs.Lists.{all, is_none}
use Rattle.site.specs.declared.Networks.{Networks}
use Rattle.site.specs.Airtime.{Load, place_at, placed, airtime_held, in_use, shares_horizon, putting, taking}
use Rattle.site.specs.Lent.{held_of, place_in, site_in, horizon_held, written, carried, refusing, answered}

-- ## One place

-- what a place holds, by the test whether it is empty
abbrev given : Bool → ℕ → ℕ → Option Load
given t h a = cond t none (some (record { horizon = h; airtime = a }))

pub airtime_none : (h a : ℕ) → h ≡ 0 → 0 ≡ airtime_held (held_of h a)
airtime_none h a e = sym (ap (λ (t : Bool). airtime_held (given t h a)) (eq-eqb h 0 e))

pub airtime_some : (h a : ℕ) → (h ≡ 0 → ⊥) → a ≡ airtime_held (held_of h a)
airtime_some h a n = sym (ap (λ (t : Bool). airtime_held (given t h a)) (ne_eqb h 0 n))

pub horizon_kept : (h a : ℕ) → horizon_held (held_of h a) ≡ h
horizon_kept h a = go (eqb h 0) refl
  where
    go : (t : Bool) → eqb h 0 ≡ t → horizon_held (given t h a) ≡ h
    go true e = sym (eqb-true h 0 e)
    go false e = refl

pub airtime_kept : (h a : ℕ) → (h ≡ 0 → a ≡ 0) → airtime_held (held_of h a) ≡ a
airtime_kept h a z = go (eqb h 0) refl
  where
    go : (t : Bool) → eqb h 0 ≡ t → airtime_held (given t h a) ≡ a
    go true e = sym (z (eqb-true h 0 e))
    go false e = refl

pub held_some : (h a : ℕ) → 1 ≤ h → held_of h a ≡ some (record { horizon = h; airtime = a })
held_some h a l = ap (λ (t : Bool). given t h a) (ne_eqb h 0 (λ e. omega arith))

pub shares_is : (h a x : ℕ) → eqb h 0 || eqb h x ≡ shares_horizon x (held_of h a)
shares_is h a x = go (eqb h 0)
  where
    go : (t : Bool) → t || eqb h x ≡ shares_horizon x (given t h a)
    go true = refl
    go false = refl

-- four tests
pub four_all : (p q r s : Bool) → (p && q) && (r && s) ≡ p && (q && (r && (s && true)))
four_all true true true true = refl
four_all true true true false = refl
four_all true true false s = refl
four_all true false r s = refl
four_all false q r s = refl

-- ## Four places

four_is : (xs : List ℕ) → length xs ≡ 4 → xs ≡ get_or xs 0 0 ∷ get_or xs 1 0 ∷ get_or xs 2 0 ∷ get_or xs 3 0 ∷ []
four_is [] e = absurd (omega arith)
four_is (a ∷ []) e = absurd (omega arith)
four_is (a ∷ b ∷ []) e = absurd (omega arith)
four_is (a ∷ b ∷ c ∷ []) e = absurd (omega arith)
four_is (a ∷ b ∷ c ∷ d ∷ []) e = refl
four_is (a ∷ b ∷ c ∷ d ∷ x ∷ xs) e = absurd (omega arith)

-- by the number of a place
pub by_place : (P : ℕ → Type 0) → P 0 → P 1 → P 2 → P 3 → (k : ℕ) → k < 4 → P k
by_place P a b c d zero h = a
by_place P a b c d (suc zero) h = b
by_place P a b c d (suc (suc zero)) h = c
by_place P a b c d (suc (suc (suc zero))) h = d
by_place P a b c d (suc (suc (suc (suc k)))) h = absurd (omega arith)

pub at_place : (s : Networks) (k : ℕ) → k < 4 → place_at (site_in s) k ≡ place_in s k
at_place s = by_place (λ k. place_at (site_in s) k ≡ place_in s k) refl refl refl refl

pub written_there : (s : Networks) (o : Option Load) (k : ℕ) → k < 4 → place_at (placed (site_in s) k o) k ≡ o
written_there s o = by_place (λ k. place_at (placed (site_in s) k o) k ≡ o) refl refl refl refl

-- one place written
module _ (s : Networks) (h a : ℕ) (z : h ≡ 0 → a ≡ 0) where
  abbrev after : List ℕ → List ℕ → Networks
  after hs ts = record { limit = s.limit; horizons = hs; airtimes = ts; in_use = 0; number = 0; component = 255 }

  places_after : (k : ℕ) → k < 4 → (site_in (after (written s.horizons k h) (written s.airtimes k a))).places ≡ set (site_in s).places k (held_of h a)
  places_after = by_place (λ k. (site_in (after (written s.horizons k h) (written s.airtimes k a))).places ≡ set (site_in s).places k (held_of h a)) refl refl refl refl

  -- the site afterwards, as the code puts it together
  pub place_set : length s.horizons ≡ 4 → length s.airtimes ≡ 4 → (k : ℕ) → k < 4 → {u : ℕ} → u ≡ in_use (site_in (after (set s.horizons k h) (set s.airtimes k a))).places
      → record { limit = s.limit; horizons = set s.horizons k h; airtimes = set s.airtimes k a; in_use = u; number = 0; component = 255 } ≡ carried s k (placed (site_in s) k (held_of h a))
  place_set long wide k l {u} e =
      let f : set s.horizons k h ≡ written s.horizons k h = ap (λ (x : List ℕ). set x k h) (four_is s.horizons long) in
      let g : set s.airtimes k a ≡ written s.airtimes k a = ap (λ (x : List ℕ). set x k a) (four_is s.airtimes wide) in
      let p : place_at (placed (site_in s) k (held_of h a)) k ≡ held_of h a = written_there s (held_of h a) k l in
      let i : h ≡ horizon_held (place_at (placed (site_in s) k (held_of h a)) k) = sym (ap horizon_held p ∙ horizon_kept h a) in
      let j : a ≡ airtime_held (place_at (placed (site_in s) k (held_of h a)) k) = sym (ap airtime_held p ∙ airtime_kept h a z) in
      let w : u ≡ in_use (set (site_in s).places k (held_of h a)) = e ∙ ap₂ (λ (x y : List ℕ). in_use (site_in (after x y)).places) f g ∙ ap in_use (places_after k l) in
      ap₂ (λ (x y : List ℕ). record { limit = s.limit; horizons = x; airtimes = y; in_use = u; number = 0; component = 255 })
      (f ∙ ap (λ (v : ℕ). written s.horizons k v) i)
      (g ∙ ap (λ (v : ℕ). written s.airtimes k v) j)
      ∙ ap (λ (n : ℕ). record { limit = s.limit; horizons = written s.horizons k (horizon_held (place_at (placed (site_in s) k (held_of h a)) k)); airtimes = written s.airtimes k (airtime_held (place_at (placed (site_in s) k (held_of h a)) k)); in_use = n; number = 0; component = 255 }) w

-- ## Putting

module _ (s : Networks) (k : ℕ) (l : Load) where
  pub put_outside : 4 ≤ k → refusing s 26 255 ≡ answered s k (putting (site_in s) k l)
  put_outside h = rw (le-ltb k 4 h)

  empty_is : k < 4 → is_none (place_at (site_in s) k) ≡ is_none (place_in s k)
  empty_is h = ap is_none (at_place s k h)

  filled : (get_or s.horizons k 0 ≡ 0 → ⊥) → is_none (place_in s k) ≡ false
  filled n = ap (λ (t : Bool). is_none (given t (get_or s.horizons k 0) (get_or s.airtimes k 0))) (ne_eqb (get_or s.horizons k 0) 0 n)

  free : get_or s.horizons k 0 ≡ 0 → is_none (place_in s k) ≡ true
  free e = ap (λ (t : Bool). is_none (given t (get_or s.horizons k 0) (get_or s.airtimes k 0))) (eq-eqb (get_or s.horizons k 0) 0 e)

  pub put_filled : k < 4 → (get_or s.horizons k 0 ≡ 0 → ⊥) → refusing s 26 255 ≡ answered s k (putting (site_in s) k l)
  put_filled h n = rw (lt-ltb k 4 h, empty_is h ∙ filled n)

  module _ (h : k < 4) (e : get_or s.horizons k 0 ≡ 0) where
    pub put_strange : {b : Bool} → b ≡ all (shares_horizon l.horizon) (site_in s).places → b ≡ false → refusing s 27 255 ≡ answered s k (putting (site_in s) k l)
    put_strange q f = rw (lt-ltb k 4 h, empty_is h ∙ free e, sym q ∙ f)

    module _ {b : Bool} (q : b ≡ all (shares_horizon l.horizon) (site_in s).places) (f : b ≡ true) where
      pub put_full : {u : ℕ} → u ≡ in_use (site_in s).places → s.limit < u + l.airtime → refusing s 28 255 ≡ answered s k (putting (site_in s) k l)
      put_full x m = rw (lt-ltb k 4 h, empty_is h ∙ free e, sym q ∙ f, lt-leb (in_use (site_in s).places + l.airtime) s.limit (omega (arith, x)))

      pub put_fits : {u : ℕ} → u ≡ in_use (site_in s).places → u + l.airtime ≤ s.limit → carried s k (placed (site_in s) k (some l)) ≡ answered s k (putting (site_in s) k l)
      put_fits x m = rw (lt-ltb k 4 h, empty_is h ∙ free e, sym q ∙ f, le-leb (in_use (site_in s).places + l.airtime) s.limit (omega (arith, x)))

-- ## Taking

module _ (s : Networks) (k : ℕ) where
  pub take_outside : 4 ≤ k → refusing s 26 255 ≡ answered s k (taking (site_in s) k)
  take_outside h = rw (le-ltb k 4 h)

  pub take_empty : k < 4 → get_or s.horizons k 0 ≡ 0 → refusing s 26 255 ≡ answered s k (taking (site_in s) k)
  take_empty h e = rw (lt-ltb k 4 h, ap is_none (at_place s k h) ∙ ap (λ (t : Bool). is_none (given t (get_or s.horizons k 0) (get_or s.airtimes k 0))) (eq-eqb (get_or s.horizons k 0) 0 e))

  pub take_filled : k < 4 → (get_or s.horizons k 0 ≡ 0 → ⊥) → carried s k (placed (site_in s) k none) ≡ answered s k (taking (site_in s) k)
  take_filled h n = rw (lt-ltb k 4 h, ap is_none (at_place s k h) ∙ ap (λ (t : Bool). is_none (given t (get_or s.horizons k 0) (get_or s.airtimes k 0))) (ne_eqb (get_or s.horizons k 0) 0 n))
