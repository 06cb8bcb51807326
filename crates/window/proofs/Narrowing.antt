-- The window that clock bounds leave, narrowed from bound to bound. Assumes nothing.
use mathlib.Core.Path.{◌≡◌, refl, sym, ◌∙◌}
use mathlib.Core.Bool.{Bool, true, false, cond}
use mathlib.Core.List.{List, [], ◌∷◌}
use Prim.Native.Nat.{ℕ, suc, ◌+◌, ◌-◌, min, max, ◌≤◌, ◌<◌}
use native.Mathlib.Omega.{arith}
use lib.Dec.{eqb}
use lib.ListN.{drop}
use Rattle.model.specs.declared.ClockGuard.{ClockGuard}
use Rattle.model.specs.declared.Location.{Location}
use Rattle.model.specs.Reader.{clock_guard_at}
use Rattle.model.specs.Places.{list_at}
use Rattle.model.specs.Window.{clock_at, ready_of, past_of}
use Rattle.window.specs.Views.{past_from}
use Rattle.window.proofs.Rests.{next, no_more}

-- the invariant leaves as much
pub past_is : (l : Location) (gs : List ClockGuard) (xs : List ℕ) → past_of l gs xs ≡ past_from (suc l.bound - clock_at xs l.clock) gs xs
unfolding past_from
past_is l [] xs = refl
past_is l (g ∷ gs) xs = rw (past_is l gs xs)

-- so what bounds leave of the ticks that the invariant leaves is what both leave
pub past_left : (l : Location) (gs : List ClockGuard) (xs : List ℕ) (left p : ℕ) → left ≡ suc l.bound - clock_at xs l.clock → p ≡ past_from left gs xs → p ≡ past_of l gs xs
past_left l gs xs left p e f = f ∙ rw e (sym (past_is l gs xs))

-- one bound's share
abbrev share : ClockGuard → List ℕ → ℕ → ℕ
share g xs p = cond (eqb g.high 65535) p (min (suc g.high - clock_at xs g.clock) p)

-- it may come first or last
swap : (s t : Bool) (a b p : ℕ) → cond s (cond t p (min a p)) (min b (cond t p (min a p))) ≡ cond t (cond s p (min b p)) (min a (cond s p (min b p)))
swap true true a b p = refl
swap true false a b p = refl
swap false true a b p = refl
swap false false a b p = omega arith

pub share_first : (g : ClockGuard) (gs : List ClockGuard) (xs : List ℕ) (p : ℕ) → past_from (share g xs p) gs xs ≡ share g xs (past_from p gs xs)
unfolding past_from
share_first g [] xs p = refl
share_first g (f ∷ gs) xs p =
    rw (share_first g gs xs p)
    (swap (eqb f.high 65535) (eqb g.high 65535) (suc g.high - clock_at xs g.clock) (suc f.high - clock_at xs f.clock) (past_from p gs xs))

-- what a decoded bound and the clock that was read give
module _ (xs : List ℕ) (g g' : ClockGuard) (i w : ℕ) {r : ℕ} (p : g ≡ g') (q : i ≡ g.clock) where
  pub ready_as : r ≡ max (g.low - clock_at xs i) w → r ≡ max (g'.low - clock_at xs g'.clock) w
  ready_as e = e ∙ rw (q, p)

  pub past_as : r ≡ cond (eqb g.high 65535) w (min (suc g.high - clock_at xs i) w) → r ≡ share g' xs w
  past_as e = e ∙ rw (q, p)

module _ (h : List ℕ) (at k : ℕ) (xs : List ℕ) (e : 0 < k) where
  pub ready_turn : (r r' x : ℕ) → r' ≡ max ((clock_guard_at (drop at h)).low - clock_at xs (clock_guard_at (drop at h)).clock) r
      → max r (ready_of (list_at clock_guard_at 5 k (drop at h)) xs) ≡ x → max r' (ready_of (list_at clock_guard_at 5 (k - 1) (drop (at + 5) h)) xs) ≡ x
  ready_turn r r' x q i = let j = rw (next clock_guard_at 5 h at k e) at i in omega arith

  pub past_turn : (p p' x : ℕ) → p' ≡ share (clock_guard_at (drop at h)) xs p
      → past_from p (list_at clock_guard_at 5 k (drop at h)) xs ≡ x → past_from p' (list_at clock_guard_at 5 (k - 1) (drop (at + 5) h)) xs ≡ x
  unfolding past_from
  past_turn p p' x q i =
      let j = rw (next clock_guard_at 5 h at k e) at i in
      rw q (share_first (clock_guard_at (drop at h)) (list_at clock_guard_at 5 (k - 1) (drop (at + 5) h)) xs p ∙ j)

module _ (bs : List ℕ) (k : ℕ) (xs : List ℕ) (e : k ≤ 0) where
  pub ready_done : (r x : ℕ) → max r (ready_of (list_at clock_guard_at 5 k bs) xs) ≡ x → r ≡ x
  ready_done r x i = let j = rw (no_more clock_guard_at 5 bs k e) at i in omega arith

  pub past_done : (p x : ℕ) → past_from p (list_at clock_guard_at 5 k bs) xs ≡ x → p ≡ x
  unfolding past_from
  past_done p x i = rw (no_more clock_guard_at 5 bs k e) at i
