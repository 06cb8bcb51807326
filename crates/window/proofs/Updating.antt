-- Updates in order, from update to update. Assumes nothing.
use mathlib.Core.Path.{◌≡◌, refl, ◌∙◌}
use mathlib.Core.Bool.{Bool, true, false, cond}
use mathlib.Core.List.{List, []}
use mathlib.Core.Option.{Option, none, some}
use Prim.Native.Nat.{ℕ, ◌+◌, ◌-◌, ◌≤◌, ◌<◌}
use native.Mathlib.Omega.{arith}
use lib.IntN.{ℤ, ◌+ℤ◌}
use lib.ListN.{drop, set}
use Rattle.model.specs.declared.Update.{Update}
use Rattle.model.specs.Reader.{update_at}
use Rattle.model.specs.Places.{list_at}
use Rattle.model.specs.Window.{value_at, in_range, new_value, updated}
use Rattle.std.specs.Prelude.{Some, None}
use Rattle.std.specs.Prelude.{Option as Found}
use Rattle.window.specs.Views.{new_of}
use Rattle.window.proofs.Rests.{next, no_more}

-- ## What a new value says

new_fits : (z y : ℤ) → new_of z ≡ Some y → (in_range z ≡ true) × (y ≡ z)
new_fits z y = go (in_range z)
  where
    go : (b : Bool) → cond b (Some z) None ≡ Some y → (b ≡ true) × (y ≡ z)
    go true e = (refl, cc)
    go false e = let n : ◌≡◌ {A = ℕ} 0 1 = cc in absurd (omega arith)

new_out : (z : ℤ) → new_of z ≡ None → in_range z ≡ false
new_out z = go (in_range z)
  where
    go : (b : Bool) → cond b (Some z) None ≡ None → b ≡ false
    go true e = let n : ◌≡◌ {A = ℕ} 0 1 = cc in absurd (omega arith)
    go false e = refl

-- the value that a decoded update gives to a variable that was read
pub new_as : (vs : List ℤ) (u u' : Update) (i : ℕ) (x : ℤ) {r : Found ℤ} → u ≡ u' → i ≡ u.variable → x ≡ value_at vs i
    → r ≡ new_of (cond u.adds (x +ℤ u.number) u.number) → r ≡ new_of (new_value u' vs)
new_as vs u u' i x p q s e = e ∙ rw (s, q, p)

-- ## The loop

module _ (h : List ℕ) (at k : ℕ) (vs : List ℤ) (x : Option (List ℤ)) (i : updated (list_at update_at 4 k (drop at h)) vs ≡ x) where
  pub update_stop : 0 < k → new_of (new_value (update_at (drop at h)) vs) ≡ None → none ≡ x
  unfolding updated
  update_stop e o = let f = new_out (new_value (update_at (drop at h)) vs) o in rw (next update_at 4 h at k e, f) at i

  pub update_turn : 0 < k → (j : ℕ) (y : ℤ) → j ≡ (update_at (drop at h)).variable → new_of (new_value (update_at (drop at h)) vs) ≡ Some y
      → updated (list_at update_at 4 (k - 1) (drop (at + 4) h)) (set vs j y) ≡ x
  unfolding updated
  update_turn e j y v o =
      let f = new_fits (new_value (update_at (drop at h)) vs) y o in
      rw (v, f.1) (rw (next update_at 4 h at k e, f.0) at i)

  pub update_done : k ≤ 0 → some vs ≡ x
  unfolding updated
  update_done e = rw (no_more update_at 4 (drop at h) k e) at i

-- an edge without updates
pub no_updates : (us : List Update) (vs : List ℤ) → us ≡ [] → some vs ≡ updated us vs
unfolding updated
no_updates us vs e = rw e
