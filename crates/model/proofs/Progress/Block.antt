-- How much a node has to do in one block: at most 641 in a location's, at most 658 in an edge's, the choose at its end included. Assumes nothing.
use mathlib.Core.Path.{◌≡◌, refl, sym, ap, ◌∙◌}
use mathlib.Core.Bool.{Bool, true, false, cond}
use mathlib.Core.List.{List, [], ◌∷◌, ◌++◌, map, append_assoc}
use Prim.Native.Nat.{ℕ, ◌≤◌, ◌<◌}
use native.Mathlib.Omega.{arith}
use lib.ListN.{length}
use Rattle.model.specs.declared.Action.{Action}
use Rattle.model.specs.declared.Action.TheVariants.{Internal, Send, Receive}
use Rattle.model.specs.declared.Update.{Update}
use Rattle.model.specs.Lists.{all, All, empty, more, below}
use Rattle.model.specs.Table.{TableHeader, Arc, Component, arc_of}
use Rattle.model.specs.Limits.{ComponentIn}
use Rattle.model.specs.Window.{masked}
use Rattle.model.specs.Program.{Statement, set_to, add_to, age, reset, enter, take_edge, choose, update_of, work_of, ageing, location_block, edge_block}
use Rattle.model.proofs.Basics.Bools.{and_is}
use Rattle.model.proofs.Basics.Words.{all_join}
use Rattle.model.proofs.Program.BlockLaw.{tests}
use Rattle.model.proofs.Program.Size.{all_quads}
use Rattle.model.proofs.Program.NodeSize.{location_count, edge_counted}
use Rattle.model.proofs.Node.Choosing.{trials_at}
use Rattle.model.proofs.Progress.Weight.{weight, plain, tests_plain, weight_plain}

-- a list of plain statements
abbrev Plain : List Statement → Type 0
Plain xs = All (λ x. plain x ≡ true) xs

-- ## A location's block

-- tests are plain
all_plain : (xs : List Statement) → all tests xs ≡ true → Plain xs
all_plain [] e = empty
all_plain (x ∷ xs) e = let h = (and_is (tests x) (all tests xs)).0 e in more (tests_plain x h.0) (all_plain xs h.1)

-- the second of two lists is no longer than both
quads_after : (xs ys : List Statement) → all_quads ys ≤ all_quads (xs ++ ys)
quads_after [] ys = omega arith
quads_after (x ∷ xs) ys = omega (arith, quads_after xs ys)

-- what is left of a location's block weighs at most 641
pub location_light : {channels : TableHeader} {C : Component} → ComponentIn channels C → (xs ys : List Statement) (l : ℕ) → xs ++ ys ≡ trials_at C l → all tests ys ≡ true
    → weight (ys ++ (take_edge ∷ [])) ≤ 641
unfolding location_block
location_light {channels} {C} fits xs ys l e h =
    omega (
      arith,
      weight_plain (all_plain ys h) (take_edge ∷ []),
      quads_after xs (ys ++ (take_edge ∷ [])),
      ap all_quads (sym (append_assoc xs ys (take_edge ∷ [])) ∙ ap (λ (x : List Statement). x ++ (take_edge ∷ [])) e),
      location_count channels C fits l,
    )

-- ## An edge's block

-- an update is plain
pub update_plain : (u : Update) → plain (update_of u) ≡ true
update_plain u = by u.adds
  where
    by : (b : Bool) → plain (cond b (add_to u.variable u.number) (set_to u.variable u.number)) ≡ true
    by true = refl
    by false = refl

-- so is what is done to a clock
pub ageing_plain : (mask i : ℕ) → plain (ageing mask i) ≡ true
ageing_plain mask i = by (masked mask i)
  where
    by : (b : Bool) → plain (cond b (reset i) (age i)) ≡ true
    by true = refl
    by false = refl

-- what is made of each is plain
made_plain : {A : Type 0} (f : A → Statement) → ((x : A) → plain (f x) ≡ true) → (xs : List A) → Plain (map f xs)
made_plain f h [] = empty
made_plain f h (x ∷ xs) = more (h x) (made_plain f h xs)

-- so is the work
work_plain : (a : Arc) (act : Action) → Plain (work_of a act)
work_plain a Internal = all_join (made_plain update_of update_plain a.updates) (more refl empty)
work_plain a (Send k) = more refl empty
work_plain a Receive = more refl empty

-- an edge's block weighs at most 658
pub edge_light : {channels : TableHeader} {C : Component} → ComponentIn channels C → (e : ℕ) → e < length C.arcs → weight (edge_block C e) ≤ 658
unfolding edge_block
edge_light {channels} {C} fits e h =
    let a = arc_of C e in
    let W = work_of a a.edge.action in
    let M = map (ageing a.edge.mask) (below C.clocks) in
    let E = enter a.edge.destination ∷ choose ∷ [] in
    omega (
      arith,
      weight_plain (work_plain a a.edge.action) (M ++ E),
      weight_plain (made_plain (ageing a.edge.mask) (ageing_plain a.edge.mask) (below C.clocks)) E,
      edge_counted channels C fits e h,
    )
