-- A clock bound that is told is one of the edge's: the first with which alone the edge is ready no sooner, or over no later. Assumes nothing.
use mathlib.Core.Path.{◌≡◌, refl}
use mathlib.Core.Bool.{Bool, true, false, cond, not}
use mathlib.Core.List.{List, [], ◌∷◌}
use Prim.Native.Nat.{ℕ, suc, ◌+◌, ◌-◌, ◌*◌, min, ◌≤◌, ◌<◌}
use native.Mathlib.Omega.{arith}
use borrow.Author.Tests.{ltb-true}
use lib.Dec.{ltb, eqb}
use lib.ListN.{length, take, drop}
use Rattle.model.specs.declared.ClockGuard.{ClockGuard}
use Rattle.model.specs.declared.Location.{Location}
use Rattle.model.specs.Lists.{All, empty, more, place_of}
use Rattle.model.specs.Reader.{clock_guard_at}
use Rattle.model.specs.Places.{list_at}
use Rattle.model.specs.Window.{clock_at, ready_of, past_of}
use Rattle.parts.proofs.Skim.{tail}
use Rattle.window.proofs.Rests.{tail_long}
use Rattle.text.specs.Words.{field}
use Rattle.reason_text.specs.ReasonText.{wider, by_words}

module _ (l : Location) (xs : List ℕ) where
  ready_there : (gs : List ClockGuard) (r : ℕ) → 0 < r → r ≤ ready_of gs xs → place_of (λ g. not (ltb (ready_of (g ∷ []) xs) r)) gs < length gs
  ready_there [] r h k = absurd (omega arith)
  ready_there (g ∷ gs) r h k = go (λ q. ready_there gs r h q) (ltb (ready_of (g ∷ []) xs) r) refl
    where
      go : (r ≤ ready_of gs xs → place_of (λ g. not (ltb (ready_of (g ∷ []) xs) r)) gs < length gs) → (t : Bool) → ltb (ready_of (g ∷ []) xs) r ≡ t
          → cond (not t) 0 (suc (place_of (λ g. not (ltb (ready_of (g ∷ []) xs) r)) gs)) < suc (length gs)
      go ih true q = let m = ih (omega (arith, ltb-true (ready_of (g ∷ []) xs) r q)) in omega (arith, m)
      go ih false q = omega arith

  past_there : (gs : List ClockGuard) (p : ℕ) → p < past_of l [] xs → past_of l gs xs ≤ p → place_of (λ g. not (ltb p (past_of l (g ∷ []) xs))) gs < length gs
  past_there [] p h k = absurd (omega arith)
  past_there (g ∷ gs) p h k = go (λ q. past_there gs p h q) (eqb g.high 65535) refl (ltb p (past_of l (g ∷ []) xs)) refl k
    where
      go : (past_of l gs xs ≤ p → place_of (λ g. not (ltb p (past_of l (g ∷ []) xs))) gs < length gs) → (n : Bool) → eqb g.high 65535 ≡ n → (t : Bool)
          → ltb p (cond n (past_of l [] xs) (min (suc g.high - clock_at xs g.clock) (past_of l [] xs))) ≡ t
          → cond n (past_of l gs xs) (min (suc g.high - clock_at xs g.clock) (past_of l gs xs)) ≤ p
          → cond (not t) 0 (suc (place_of (λ g. not (ltb p (past_of l (g ∷ []) xs))) gs)) < suc (length gs)
      go ih n e false q k = omega arith
      go ih true e true q k = omega (arith, ih k)
      go ih false e true q k = omega (arith, ih (omega (arith, ltb-true p _ q, k)))

  pub deciding_there : (over : Bool) (gs : List ClockGuard) → wider over l gs xs [] ≡ true → place_of (λ g. not (wider over l gs xs (g ∷ []))) gs < length gs
  deciding_there true gs h = past_there gs (past_of l gs xs) (ltb-true (past_of l gs xs) (past_of l [] xs) h) (omega arith)
  deciding_there false gs h = ready_there gs (ready_of gs xs) (ltb-true 0 (ready_of gs xs) h) (omega arith)

-- ## As the code finds it

one_at : {A : Type 0} (value : List ℕ → A) (w : ℕ) (h : List ℕ) → list_at value w 1 h ≡ value h ∷ []
unfolding list_at
one_at value w h = refl

none_at : {A : Type 0} (value : List ℕ → A) (w : ℕ) (h : List ℕ) → list_at value w 0 h ≡ []
unfolding list_at
none_at value w h = refl

-- one bound of those left may be asked for its window
pub one_asked : (h : List ℕ) (at : ℕ) → at + 5 ≤ length h → (clock_guard_at (drop at h)).clock < 4
    → (1 * 5 ≤ length (take (length h - at) (drop at h))) × All (λ g. g.clock < 4) (list_at clock_guard_at 5 1 (take (length h - at) (drop at h)))
one_asked h at k q = (tail_long h at 5 k, rw (tail h at, one_at clock_guard_at 5 (drop at h)) (more {x = clock_guard_at (drop at h)} q empty))

pub none_asked : (h : List ℕ) → (0 * 5 ≤ length h) × All (λ g. g.clock < 4) (list_at clock_guard_at 5 0 h)
none_asked h = (omega arith, rw (none_at clock_guard_at 5 h) empty)

module _ (l : Location) (xs : List ℕ) (gs : List ClockGuard) (over : Bool) {r p all-ready All-past : ℕ} (a : all-ready ≡ ready_of gs xs) (b : All-past ≡ past_of l gs xs) where
  pub one_wider : (h : List ℕ) (at : ℕ) → r ≡ ready_of (list_at clock_guard_at 5 1 (take (length h - at) (drop at h))) xs
      → p ≡ past_of l (list_at clock_guard_at 5 1 (take (length h - at) (drop at h))) xs → cond over (ltb All-past p) (ltb r all-ready) ≡ wider over l gs xs (clock_guard_at (drop at h) ∷ [])
  one_wider h at c d = rw (a, b, c, d, tail h at, one_at clock_guard_at 5 (drop at h))

  pub none_wider : (h : List ℕ) → r ≡ ready_of (list_at clock_guard_at 5 0 h) xs → p ≡ past_of l (list_at clock_guard_at 5 0 h) xs
      → cond over (ltb All-past p) (ltb r all-ready) ≡ wider over l gs xs []
  none_wider h c d = rw (a, b, c, d, none_at clock_guard_at 5 h)

-- ## In words

module _ (otherwise : List ℕ) (over : Bool) (l : Location) (gs : List ClockGuard) (xs : List ℕ) where
  pub by_bound : {n : ℕ} → wider over l gs xs [] ≡ true → n ≡ place_of (λ g. not (wider over l gs xs (g ∷ []))) gs → field " by clock bound " n ≡ by_words otherwise over l gs xs
  by_bound h q = rw (h, ← q)

  pub by_other : wider over l gs xs [] ≡ false → otherwise ≡ by_words otherwise over l gs xs
  by_other h = rw h
