-- The assignments of a step out do what a passage does when it is left: updates in order, then masked clocks become 0. Assumes nothing.
use mathlib.Core.Path.{◌≡◌, refl, sym, ap, subst, ◌∙◌}
use mathlib.Core.Bool.{Bool, true, false, cond}
use mathlib.Core.List.{List, [], ◌∷◌, ◌++◌, map}
use mathlib.Core.Option.{Option, none, some}
use Prim.Native.Nat.{ℕ, zero, suc, ◌+◌}
use native.Mathlib.Omega.{arith}
use lib.IntN.{ℤ, ◌+ℤ◌}
use lib.ListN.{length, set, length-append}
use lib.Seq.{set_at, append_snoc}
use Rattle.model.specs.declared.Update.{Update}
use Rattle.model.specs.Lists.{only, from, below}
use Rattle.model.specs.Table.{Arc, Component}
use Rattle.model.specs.Window.{value_at, in_range, new_value, updated, masked, aged}
use Rattle.uppaal.specs.Xta.{Name, Assignment, sets_to, adds, resets}
use Rattle.uppaal.specs.XtaNetwork.{Stand, assigned, onto, all_assigned}
use Rattle.uppaal.specs.Export.{assignment_of, assignments_of}

abbrev at_with : Name → List ℕ → List ℤ → Stand
at_with n xs vs = record { at = n; clocks = xs; values = vs }

-- two lists of assignments, one after the other
assigned_append : (bs cs : List Assignment) (x : Stand) → all_assigned (bs ++ cs) x ≡ onto (all_assigned bs x) (all_assigned cs)
unfolding all_assigned
assigned_append [] cs x = refl
assigned_append (b ∷ bs) cs x = go (assigned b x) (λ y. assigned_append bs cs y)
  where
    go : (o : Option Stand) → ((y : Stand) → all_assigned (bs ++ cs) y ≡ onto (all_assigned bs y) (all_assigned cs))
        → onto o (all_assigned (bs ++ cs)) ≡ onto (onto o (all_assigned bs)) (all_assigned cs)
    go none f = refl
    go (some y) f = f y

-- an update that stays in range, as an assignment
one_updated : (u : Update) (n : Name) (xs : List ℕ) (vs : List ℤ) → in_range (new_value u vs) ≡ true
    → assigned (assignment_of u) (at_with n xs vs) ≡ some (at_with n xs (set vs u.variable (new_value u vs)))
one_updated u n xs vs e = go u.adds e
  where
    new : Bool → ℤ
    new b = cond b (value_at vs u.variable +ℤ u.number) u.number

    go : (b : Bool) → in_range (new b) ≡ true
        → assigned (cond b (adds u.variable u.number) (sets_to u.variable u.number)) (at_with n xs vs) ≡ some (at_with n xs (set vs u.variable (new b)))
    go true h = rw h
    go false h = rw h

-- updates that stay in range, as assignments
pub updates_assigned : (us : List Update) (n : Name) (xs : List ℕ) (vs ws : List ℤ) → updated us vs ≡ some ws
    → all_assigned (map assignment_of us) (at_with n xs vs) ≡ some (at_with n xs ws)
unfolding updated all_assigned
updates_assigned [] n xs vs ws e = let q : vs ≡ ws = cc in ap (λ (l : List ℤ). some (at_with n xs l)) q
updates_assigned (u ∷ us) n xs vs ws e = go (in_range (new_value u vs)) refl e (λ h. updates_assigned us n xs (set vs u.variable (new_value u vs)) ws h)
  where
    go : (t : Bool) → in_range (new_value u vs) ≡ t → cond t (updated us (set vs u.variable (new_value u vs))) none ≡ some ws
        → (updated us (set vs u.variable (new_value u vs)) ≡ some ws → all_assigned (map assignment_of us) (at_with n xs (set vs u.variable (new_value u vs))) ≡ some (at_with n xs ws))
        → onto (assigned (assignment_of u) (at_with n xs vs)) (all_assigned (map assignment_of us)) ≡ some (at_with n xs ws)
    go true t h f = ap (λ (o : Option Stand). onto o (all_assigned (map assignment_of us))) (one_updated u n xs vs t) ∙ f h
    go false t h f = let z : ◌≡◌ {A = ℕ} 0 1 = cc in absurd (omega arith)

-- the resets, from clock i on; the clocks before it stand as they are
resets_from : (mask d : ℕ) (n : Name) (vs : List ℤ) (xs : List ℕ) (ys : List ℕ) (i k : ℕ) → length ys ≡ i → length xs ≡ k
    → all_assigned (map resets (only (masked mask) (from i k))) (at_with n (ys ++ map (λ x. x + d) xs) vs) ≡ some (at_with n (ys ++ aged mask d i xs) vs)
unfolding all_assigned aged
resets_from mask d n vs [] ys i zero l m = refl
resets_from mask d n vs [] ys i (suc k) l m = absurd (omega arith)
resets_from mask d n vs (x ∷ xs) ys i zero l m = absurd (omega arith)
resets_from mask d n vs (x ∷ xs) ys i (suc k) l m = go (masked mask i) (λ y. resets_from mask d n vs xs (ys ++ (y ∷ [])) (suc i) k (omega (arith, length-append ys (y ∷ []))) (omega arith))
  where
    rest : List ℕ
    rest = map (λ z. z + d) xs

    seam : (y : ℕ)
        → all_assigned (map resets (only (masked mask) (from (suc i) k))) (at_with n (ys ++ (y ∷ []) ++ rest) vs) ≡ some (at_with n (ys ++ (y ∷ []) ++ aged mask d (suc i) xs) vs)
        → all_assigned (map resets (only (masked mask) (from (suc i) k))) (at_with n (ys ++ (y ∷ rest)) vs) ≡ some (at_with n (ys ++ (y ∷ aged mask d (suc i) xs)) vs)
    seam y e =
        subst (λ (l : List ℕ). all_assigned (map resets (only (masked mask) (from (suc i) k))) (at_with n (ys ++ (y ∷ rest)) vs) ≡ some (at_with n l vs)) (append_snoc ys y (aged mask d (suc i) xs))
        (subst (λ (l : List ℕ). all_assigned (map resets (only (masked mask) (from (suc i) k))) (at_with n l vs) ≡ some (at_with n (ys ++ (y ∷ []) ++ aged mask d (suc i) xs) vs)) (append_snoc ys y rest) e)

    go : (b : Bool)
        → ((y : ℕ) → all_assigned (map resets (only (masked mask) (from (suc i) k))) (at_with n (ys ++ (y ∷ []) ++ rest) vs) ≡ some (at_with n (ys ++ (y ∷ []) ++ aged mask d (suc i) xs) vs))
        → all_assigned (map resets (cond b (i ∷ only (masked mask) (from (suc i) k)) (only (masked mask) (from (suc i) k)))) (at_with n (ys ++ ((x + d) ∷ rest)) vs)
        ≡ some (at_with n (ys ++ (cond b 0 (x + d) ∷ aged mask d (suc i) xs)) vs)
    go true f =
        ap (λ (l : List ℕ). all_assigned (map resets (only (masked mask) (from (suc i) k))) (at_with n l vs)) (set_at ys (x + d) rest 0 i l)
        ∙ seam 0 (f 0)
    go false f = seam (x + d) (f (x + d))

-- the assignments of a step out: where the updates stay in range, they are done, and the clocks have aged
pub left_assigned : (C : Component) (a : Arc) (n : Name) (d : ℕ) (xs : List ℕ) (vs ws : List ℤ) → length xs ≡ C.clocks → updated a.updates vs ≡ some ws
    → all_assigned (assignments_of C.clocks a) (at_with n (map (λ x. x + d) xs) vs) ≡ some (at_with n (aged a.edge.mask d 0 xs) ws)
unfolding assignments_of
left_assigned C a n d xs vs ws h e =
    assigned_append (map assignment_of a.updates) (map resets (only (masked a.edge.mask) (below C.clocks))) (at_with n (map (λ x. x + d) xs) vs)
    ∙ ap (λ (o : Option Stand). onto o (all_assigned (map resets (only (masked a.edge.mask) (below C.clocks))))) (updates_assigned a.updates n (map (λ x. x + d) xs) vs ws e)
    ∙ resets_from a.edge.mask d n ws xs [] 0 C.clocks refl h
