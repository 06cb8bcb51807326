-- The first update that leaves the range, one update after the other. Assumes nothing.
use mathlib.Core.Path.{◌≡◌, refl, sym, ap, ◌∙◌}
use mathlib.Core.Bool.{Bool, true, false, cond}
use mathlib.Core.List.{List, [], ◌∷◌}
use mathlib.Core.Option.{none, some}
use Prim.Native.Nat.{ℕ, suc, ◌+◌, ◌-◌, ◌<◌, ◌≤◌}
use native.Mathlib.Numerals.{add-one}
use native.Mathlib.Omega.{arith}
use lib.IntN.{ℤ}
use lib.ListN.{length, take, drop, set}
use Rattle.model.specs.declared.Update.{Update}
use Rattle.model.specs.Lists.{All, empty, more}
use Rattle.model.specs.Reader.{update_at}
use Rattle.model.specs.Places.{list_at}
use Rattle.model.specs.Window.{in_range, new_value, updated}
use Rattle.parts.proofs.Skim.{tail}
use Rattle.std.specs.Prelude.{Option as Found}
use Rattle.std.specs.Prelude.{Some, None}
use Rattle.window.specs.Views.{option_of}
use Rattle.window.proofs.Rests.{next, no_more, all_first, all_rest}
use Rattle.opening_place.specs.Opening.{first_out}

-- one update carried out: it leaves the range, or the others follow
module _ (u : Update) (us : List Update) (vs : List ℤ) (i : ℕ) where
  pub out_here : none ≡ updated (u ∷ []) vs → first_out i (u ∷ us) vs ≡ some i
  unfolding first_out updated
  out_here = go (in_range (new_value u vs))
    where
      go : (b : Bool) → none ≡ cond b (some (set vs u.variable (new_value u vs))) none
          → cond b (first_out (suc i) us (set vs u.variable (new_value u vs))) (some i) ≡ some i
      go true q = let z : ◌≡◌ {A = ℕ} 0 1 = cc in absurd (omega arith)
      go false q = refl

  pub out_later : (after : List ℤ) → some after ≡ updated (u ∷ []) vs → first_out i (u ∷ us) vs ≡ first_out (suc i) us after
  unfolding first_out updated
  out_later after = go (in_range (new_value u vs))
    where
      go : (b : Bool) → some after ≡ cond b (some (set vs u.variable (new_value u vs))) none
          → cond b (first_out (suc i) us (set vs u.variable (new_value u vs))) (some i) ≡ first_out (suc i) us after
      go true q = let e : set vs u.variable (new_value u vs) ≡ after = cc in ap (first_out (suc i) us) e
      go false q = let z : ◌≡◌ {A = ℕ} 0 1 = cc in absurd (omega arith)

-- ## In a loop over their bytes

-- the updates from number `done` on, which stand at a place
abbrev pub rest : List ℕ → ℕ → ℕ → ℕ → List Update
rest bytes count at done = list_at update_at 4 (count - done) (drop at bytes)

pub rest_first : (bytes : List ℕ) (count : ℕ) → list_at update_at 4 count bytes ≡ rest bytes count 0 0
rest_first bytes count = let m : count ≡ count - 0 = omega arith in ap (λ k. list_at update_at 4 k bytes) m

module _ (bytes : List ℕ) (count at done : ℕ) (left : done < count) where
  cons : rest bytes count at done ≡ update_at (drop at bytes) ∷ rest bytes count (at + 4) (done + 1)
  cons =
      let m : count - done - 1 ≡ count - (done + 1) = omega arith in
      next update_at 4 bytes at (count - done) (omega arith) ∙ ap (λ k. update_at (drop at bytes) ∷ list_at update_at 4 k (drop (at + 4) bytes)) m

  -- the next one may be carried out
  pub one_asked : All (λ u. u.variable < 4) (rest bytes count at done) → All (λ u. u.variable < 4) (list_at update_at 4 1 (take (length bytes - at) (drop at bytes)))
  unfolding list_at
  one_asked a = rw (tail bytes at) (more {x = update_at (drop at bytes)} (all_first update_at 4 bytes at (count - done) (omega arith) a) empty)

  pub rest_asked : All (λ u. u.variable < 4) (rest bytes count at done) → All (λ u. u.variable < 4) (rest bytes count (at + 4) (done + 1))
  rest_asked a =
      let m : count - done - 1 ≡ count - (done + 1) = omega arith in
      rw (← m) (all_rest update_at 4 bytes at (count - done) (omega arith) a)

  module _ (vs : List ℤ) (r : Found (List ℤ)) (is : option_of r ≡ updated (list_at update_at 4 1 (take (length bytes - at) (drop at bytes))) vs) where
    carried : option_of r ≡ updated (update_at (drop at bytes) ∷ []) vs
    unfolding list_at
    carried = rw (tail bytes at) at is

    pub stops_here : r ≡ None → first_out done (rest bytes count at done) vs ≡ some done
    stops_here e =
        ap (λ us. first_out done us vs) cons
        ∙ out_here (update_at (drop at bytes)) (rest bytes count (at + 4) (done + 1)) vs done (sym (ap option_of e) ∙ carried)

    pub goes_on : {after : List ℤ} → r ≡ Some after → first_out done (rest bytes count at done) vs ≡ first_out (done + 1) (rest bytes count (at + 4) (done + 1)) after
    goes_on {after} e =
        ap (λ us. first_out done us vs) cons
        ∙ out_later (update_at (drop at bytes)) (rest bytes count (at + 4) (done + 1)) vs done after (sym (ap option_of e) ∙ carried)
        ∙ ap (λ k. first_out k (rest bytes count (at + 4) (done + 1)) after) (sym (add-one done))

pub none_left : (bytes : List ℕ) (count at done : ℕ) (vs : List ℤ) → count ≤ done → first_out done (rest bytes count at done) vs ≡ none
unfolding first_out
none_left bytes count at done vs h = rw (no_more update_at 4 (drop at bytes) (count - done) (omega arith)) refl

pub no_updates : (vs : List ℤ) {us : List Update} → us ≡ [] → none ≡ first_out 0 us vs
unfolding first_out
no_updates vs q = rw q refl
