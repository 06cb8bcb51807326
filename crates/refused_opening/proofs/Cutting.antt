-- Reasons and updates at an entry without the clocks and variables that its component lacks. Assumes nothing.
use mathlib.Core.Path.{◌≡◌, refl, ap, ◌∙◌}
use mathlib.Core.Bool.{Bool, true, false, cond}
use mathlib.Core.List.{List, ◌∷◌}
use mathlib.Core.Option.{Option, none, some}
use Prim.Native.Nat.{ℕ, suc, ◌<◌}
use lib.Dec.{eqb}
use lib.IntN.{ℤ}
use lib.ListN.{length, take, set}
use lib.Seq.{take-set-lt}
use Rattle.model.specs.declared.Update.{Update}
use Rattle.model.specs.Lists.{All, empty, more, only}
use Rattle.model.specs.declared.TableHeader.{TableHeader}
use Rattle.model.specs.Table.{Component, no_location, location_of, arc_of}
use Rattle.model.specs.Limits.{ComponentIn}
use Rattle.model.specs.Window.{Entry, Pick, blocked, windowless, choice, new_value}
use Rattle.model.proofs.Basics.Walk.{all_at}
use Rattle.model.proofs.Schedule.Own.{all_then}
use Rattle.model.proofs.Window.Choice.{choice_taken}
use Rattle.opening_place.specs.Opening.{reasons, first_out, overflow_with, out_of, overflow}
use Rattle.schedule.specs.Going.{cut}
use Rattle.schedule.proofs.Cut.{blocked_cut, windowless_cut, new_cut, arc_updates, choice_cut}
use Rattle.refused_opening.specs.Counting.{leaving_of, reasons_among}

-- ## What is selected

module _ {A : Type 0} {P : A → Type 0} (f : A → Bool) where
  all_only : {xs : List A} → All P xs → All P (only f xs)
  all_only empty = empty
  all_only (more {x = x} {xs = xs} p a) = go (f x) (all_only a)
    where
      go : (b : Bool) → All P (only f xs) → All P (cond b (x ∷ only f xs) (only f xs))
      go true r = more p r
      go false r = r

only_same : {A : Type 0} (f g : A → Bool) {xs : List A} → All (λ x. f x ≡ g x) xs → only f xs ≡ only g xs
only_same f g empty = refl
only_same f g (more {x = x} {xs = xs} p a) = rw (p, only_same f g a)

-- ## Updates

out_cut : (n i : ℕ) {us : List Update} (vs : List ℤ) → All (λ u. u.variable < n) us → first_out i us (take n vs) ≡ first_out i us vs
unfolding first_out
out_cut n i vs empty = refl
out_cut n i vs (more {x = u} {xs = us} h a) =
    rw (new_cut n u vs h, ← take-set-lt n vs u.variable (new_value u vs) h, out_cut n (suc i) (set vs u.variable (new_value u vs)) a)

-- ## A component in the limits

module _ (channels : TableHeader) (C : Component) (i : ComponentIn channels C) (e : Entry) (there : e.location < length C.locations) where
  -- the reasons are those with all four clocks and variables
  pub reasons_cut : reasons_among (location_of C e.location) e C.arcs ≡ reasons C (cut C e)
  reasons_cut =
      let l = location_of C e.location in
      let k = (all_at no_location i.locations e.location there).clock in
      let b : only (blocked e) (leaving_of e C.arcs) ≡ only (blocked (cut C e)) (leaving_of e C.arcs) = only_same (blocked e) (blocked (cut C e))
      (all_only (λ a. eqb a.edge.source e.location) (all_then (λ a q. blocked_cut C e a (all_then (λ g r. r.variable) q.data_guards)) i.arcs)) in
      let w : only (windowless l e) (leaving_of e C.arcs) ≡ only (windowless l (cut C e)) (leaving_of e C.arcs) = only_same (windowless l e) (windowless l (cut C e))
      (all_only (λ a. eqb a.edge.source e.location)
      (all_then (λ a q. windowless_cut C e a (all_then (λ g r. r.variable) q.data_guards) l k (all_then (λ g r. r.clock) q.clock_guards)) i.arcs)) in
      rw (b, w)

  -- so is the update out of range
  pub overflow_cut : overflow C e ≡ overflow C (cut C e)
  overflow_cut = go (choice C e) refl ∙ ap (out_of C (cut C e)) (back (choice_cut channels C i e there))
    where
      back : {A : Type 0} {x y : A} → x ≡ y → y ≡ x
      back q = cc

      go : (k : Option Pick) → choice C e ≡ k → out_of C e (choice C e) ≡ out_of C (cut C e) (choice C e)
      go none q = rw q refl
      go (some p) q =
          rw q (ap (overflow_with p.edge) (back (out_cut C.variables 0 e.values (arc_updates channels C i p.edge (choice_taken C e q).there))))

-- ## What is told of an edge taken

module _ (C : Component) (e : Entry) where
  pub none_taken : choice C e ≡ none → overflow C e ≡ none
  none_taken q = rw q refl

  pub one_taken : {p : Pick} {o : Option ℕ} → choice C e ≡ some p → o ≡ first_out 0 (arc_of C p.edge).updates e.values → overflow C e ≡ overflow_with p.edge o
  one_taken {p} q r = rw (q, r) refl
