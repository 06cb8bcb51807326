-- The pairs behind a listen, front to back: a loop that counts down. Assumes nothing.
use mathlib.Core.Path.{◌≡◌, refl, sym, ap, ◌∙◌}
use mathlib.Core.Bool.{Bool, true, false}
use mathlib.Core.List.{List}
use Prim.Native.Nat.{ℕ, zero, suc, ◌+◌, ◌-◌, ◌≤◌, ◌<◌}
use native.Mathlib.Omega.{arith}
use borrow.Author.Tests.{eq-eqb, ne_eqb}
use lib.Dec.{eqb}
use lib.ListN.{drop}
use lib.Seq.{get_or-drop, drop-drop}
use Rattle.model.specs.Lists.{any}
use Rattle.model.specs.Reader.{byte}
use Rattle.model.specs.Places.{list_at}
use Rattle.model.specs.Window.{paired}
use Rattle.model.specs.Machine.{pair_at}

counted : (i : ℕ) → 0 < i → i ≡ suc (i - 1)
counted i h = omega arith

-- i pairs from `at` on
module _ (p : List ℕ) (k at i : ℕ) where
  -- one of them has the channel
  abbrev pub listed : Bool
  listed = any (λ q. eqb q.channel k) (list_at pair_at 4 i (drop at p))

  -- the location of the first that has it
  abbrev pub location : ℕ
  location = paired (list_at pair_at 4 i (drop at p)) k 0

-- the first of them has the channel, or those behind it decide
module _ (p : List ℕ) (k at i : ℕ) (h : 0 < i) where
  pub found : byte p (at + 1) ≡ k → listed p k at i ≡ true
  unfolding list_at
  found e = ap (listed p k at) (counted i h) ∙ rw (eq-eqb (byte (drop at p) 1) k (get_or-drop at p 1 0 ∙ e))

  pub passed : (byte p (at + 1) ≡ k → ⊥) → listed p k at i ≡ listed p k (at + 4) (i - 1)
  unfolding list_at
  passed n = ap (listed p k at) (counted i h) ∙ rw (ne_eqb (byte (drop at p) 1) k (λ e. n (sym (get_or-drop at p 1 0) ∙ e)), drop-drop 4 at p)

  pub location_found : byte p (at + 1) ≡ k → location p k at i ≡ byte p (at + 3)
  unfolding list_at
  location_found e = ap (location p k at) (counted i h) ∙ rw (eq-eqb (byte (drop at p) 1) k (get_or-drop at p 1 0 ∙ e)) (get_or-drop at p 3 0)

  pub location_passed : (byte p (at + 1) ≡ k → ⊥) → location p k at i ≡ location p k (at + 4) (i - 1)
  unfolding list_at
  location_passed n = ap (location p k at) (counted i h) ∙ rw (ne_eqb (byte (drop at p) 1) k (λ e. n (sym (get_or-drop at p 1 0) ∙ e)), drop-drop 4 at p)

-- none left
pub none_listed : (p : List ℕ) (k at i : ℕ) → i ≤ 0 → listed p k at i ≡ false
unfolding list_at
none_listed p k at zero h = refl
none_listed p k at (suc i) h = absurd (omega arith)

pub no-location : (p : List ℕ) (k at i : ℕ) → i ≤ 0 → location p k at i ≡ 0
unfolding list_at
no-location p k at zero h = refl
no-location p k at (suc i) h = absurd (omega arith)
