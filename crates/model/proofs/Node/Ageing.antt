-- A node between its work and the next location's block: the statements there age the clocks as the schedule does, enter, and choose. Assumes nothing.
use mathlib.Core.Path.{◌≡◌, refl, sym, ap, subst, ◌∙◌}
use mathlib.Core.Bool.{Bool, true, false, cond}
use mathlib.Core.List.{List, [], ◌∷◌, ◌++◌, map, append-nil}
use mathlib.Core.Option.{none}
use Prim.Native.Nat.{ℕ, suc, ◌+◌}
use native.Mathlib.Omega.{arith}
use lib.ListN.{length, set, length-append}
use lib.Seq.{set_at, get_or_at, append_snoc}
use Rattle.model.specs.Lists.{from, or_else}
use Rattle.model.specs.Table.{Component}
use Rattle.model.specs.Window.{Entry, aged, masked, clock_at}
use Rattle.model.specs.Program.{Statement, age, reset, enter, choose, ageing, location_block}
use Rattle.model.specs.Machine.{Node, exec, finish, to, location_code}
use Rattle.model.specs.Run.{stand, stand_at, stand_of, elsewhere}
use Rattle.model.proofs.Schedule.Passages.{length_aged}
use Rattle.model.proofs.Node.Choosing.{Coded, Placed, Choosing, trials_at}

-- ## Clocks aged

aged_snoc : (mask d i : ℕ) (xs : List ℕ) (x : ℕ) → aged mask d i (xs ++ (x ∷ [])) ≡ aged mask d i xs ++ (cond (masked mask (i + length xs)) 0 (x + d) ∷ [])
unfolding aged
aged_snoc mask d i [] x = let e : i ≡ i + 0 = omega arith in ap (λ (j : ℕ). cond (masked mask j) 0 (x + d) ∷ []) e
aged_snoc mask d i (y ∷ xs) x =
    let e : suc i + length xs ≡ i + suc (length xs) = omega arith in
    ap (λ (l : List ℕ). cond (masked mask i) 0 (y + d) ∷ l) (aged_snoc mask d (suc i) xs x ∙ ap (λ (j : ℕ). aged mask d (suc i) xs ++ (cond (masked mask j) 0 (x + d) ∷ [])) e)

-- the statements from the ageing of clock i on, so many clocks
abbrev pub ageing_from : ℕ → ℕ → ℕ → ℕ → List Statement
ageing_from mask destination i n = map (ageing mask) (from i n) ++ (enter destination ∷ choose ∷ [])

-- A node that has finished the work of its passage i − 1 and heads for the entry `at`, which that passage leads to: the clocks `old` are aged
-- by n + d, the clocks `young` are not yet. t + d is the entry's tick; a message taken says where it goes.
pub record Ageing (C : Component) (i : ℕ) (at : Entry) (r : Node) : Type 0 where
  pub placed : Placed C at
  pub mask : ℕ
  pub destination : ℕ
  pub old : List ℕ
  pub young : List ℕ
  pub leads : aged mask (r.n + r.d) 0 (old ++ young) ≡ at.clocks
  pub clocks : r.clocks ≡ aged mask (r.n + r.d) 0 old ++ young
  pub rest : r.rest ≡ ageing_from mask destination (length old) (length young)
  pub values : r.values ≡ at.values
  pub base : r.t + r.d ≡ at.tick
  pub goes : or_else r.goes destination ≡ at.location
  pub kept : r.kept ≡ none
  pub sleeps : r.sleeps ≡ i

-- a clock's statement stands elsewhere than at sleep, work or take
ageing_stand : (mask i : ℕ) → stand (ageing mask i) ≡ elsewhere
ageing_stand mask i = go (masked mask i)
  where
    go : (t : Bool) → stand (cond t (reset i) (age i)) ≡ elsewhere
    go true = refl
    go false = refl

-- neither at sleep nor at work
pub ageing_elsewhere : {C : Component} {i : ℕ} {at : Entry} {r : Node} → Ageing C i at r → stand_of r ≡ elsewhere
ageing_elsewhere {C} {i} {at} {r} g = rw g.rest (go g.young)
  where
    go : (ys : List ℕ) → stand_at (ageing_from g.mask g.destination (length g.old) (length ys)) ≡ elsewhere
    go [] = refl
    go (y ∷ ys) = ageing_stand g.mask (length g.old)

-- one clock more
pub age_step : {C : Component} {i : ℕ} {at : Entry} {r : Node} (p : List ℕ) (g : Ageing C i at r) (y : ℕ) (ys : List ℕ) → g.young ≡ y ∷ ys
    → Ageing C i at (finish p r r.rest)
unfolding exec
age_step {C} {i} {at} {r} p g y ys e =
    subst (λ (l : List Statement). Ageing C i at (finish p r l)) (sym (g.rest ∙ ap (λ (l : List ℕ). ageing_from mask g.destination j (length l)) e)) (go (masked mask j) refl)
  where
    j : ℕ
    j = length g.old

    mask : ℕ
    mask = g.mask

    grown : ℕ
    grown = r.n + r.d

    more : List Statement
    more = ageing_from mask g.destination (suc j) (length ys)

    A : List ℕ
    A = aged mask grown 0 g.old

    was : r.clocks ≡ A ++ (y ∷ ys)
    was = g.clocks ∙ ap (λ (l : List ℕ). A ++ l) e

    long : length A ≡ j
    long = length_aged mask grown 0 g.old

    put : (z : ℕ) → set r.clocks j z ≡ A ++ (z ∷ ys)
    put z = ap (λ (l : List ℕ). set l j z) was ∙ set_at A y ys z j long

    val : clock_at r.clocks j ≡ y
    val = ap (λ (l : List ℕ). clock_at l j) was ∙ get_or_at A y ys 0 j long

    len : length (g.old ++ (y ∷ [])) ≡ suc j
    len = length-append g.old (y ∷ []) ∙ (let z : j + 1 ≡ suc j = omega arith in z)

    clocks' : (t : Bool) → masked mask j ≡ t → A ++ (cond t 0 (y + grown) ∷ ys) ≡ aged mask grown 0 (g.old ++ (y ∷ [])) ++ ys
    clocks' t q =
        let k : 0 + j ≡ j = omega arith in
        sym (append_snoc A (cond t 0 (y + grown)) ys)
        ∙ ap (λ (l : List ℕ). l ++ ys)
        (sym (aged_snoc mask grown 0 g.old y ∙ ap (λ (b : Bool). A ++ (cond b 0 (y + grown) ∷ [])) (ap (masked mask) k ∙ q)))

    rest' : more ≡ ageing_from mask g.destination (length (g.old ++ (y ∷ []))) (length ys)
    rest' = ap (λ (n : ℕ). ageing_from mask g.destination n (length ys)) (sym len)

    leads' : aged mask grown 0 ((g.old ++ (y ∷ [])) ++ ys) ≡ at.clocks
    leads' = ap (aged mask grown 0) (append_snoc g.old y ys ∙ ap (λ (l : List ℕ). g.old ++ l) (sym e)) ∙ g.leads

    made : (xs : List ℕ) → xs ≡ aged mask grown 0 (g.old ++ (y ∷ [])) ++ ys
        → Ageing C i at (record { rest = more; location = r.location; clocks = xs; values = r.values; t = r.t; n = r.n; d = r.d; edge = r.edge; goes = r.goes; tried = r.tried; kept = r.kept; sleeps = r.sleeps })
    made xs q =
        record {
          placed = g.placed;
          mask = mask;
          destination = g.destination;
          old = g.old ++ (y ∷ []);
          young = ys;
          leads = leads';
          clocks = q;
          rest = rest';
          values = g.values;
          base = g.base;
          goes = g.goes;
          kept = g.kept;
          sleeps = g.sleeps;
        }

    go : (t : Bool) → masked mask j ≡ t → Ageing C i at (exec p (to r more) (cond t (reset j) (age j)))
    go true q = made _ (put 0 ∙ clocks' true q)
    go false q = made _ (put (clock_at r.clocks j + grown) ∙ (ap (λ (z : ℕ). A ++ ((z + grown) ∷ ys)) val ∙ clocks' false q))

-- ## Entered

-- A node that has entered: at the choose.
pub record Entered (C : Component) (i : ℕ) (at : Entry) (r : Node) : Type 0 where
  pub placed : Placed C at
  pub rest : r.rest ≡ choose ∷ []
  pub location : r.location ≡ at.location
  pub clocks : r.clocks ≡ at.clocks
  pub values : r.values ≡ at.values
  pub base : r.t + r.d ≡ at.tick
  pub goes : r.goes ≡ none
  pub kept : r.kept ≡ none
  pub sleeps : r.sleeps ≡ i

-- neither at sleep nor at work
pub entered_elsewhere : {C : Component} {i : ℕ} {at : Entry} {r : Node} → Entered C i at r → stand_of r ≡ elsewhere
entered_elsewhere g = rw g.rest

-- "Enter goes to location k, after a message to the paired one."
pub enter_step : {C : Component} {i : ℕ} {at : Entry} {r : Node} (p : List ℕ) (g : Ageing C i at r) → g.young ≡ [] → Entered C i at (finish p r r.rest)
unfolding exec
enter_step {C} {i} {at} {r} p g e =
    subst (λ (l : List Statement). Entered C i at (finish p r l)) (sym (g.rest ∙ ap (λ (l : List ℕ). ageing_from g.mask g.destination (length g.old) (length l)) e))
    (record {
      placed = g.placed;
      rest = refl;
      location = g.goes;
      clocks = g.clocks ∙ (ap (λ (l : List ℕ). aged g.mask (r.n + r.d) 0 g.old ++ l) e ∙ (append-nil (aged g.mask (r.n + r.d) 0 g.old) ∙ whole));
      values = g.values;
      base = g.base;
      goes = refl;
      kept = g.kept;
      sleeps = g.sleeps;
    })
  where
    whole : aged g.mask (r.n + r.d) 0 g.old ≡ at.clocks
    whole = ap (aged g.mask (r.n + r.d) 0) (sym (append-nil g.old) ∙ ap (λ (l : List ℕ). g.old ++ l) (sym e)) ∙ g.leads

-- "Choose goes to the present location's block."
pub choose_step : {p : List ℕ} {C : Component} {i : ℕ} {at : Entry} {r : Node} → Coded p C → Entered C i at r → Choosing C i at (finish p r r.rest)
unfolding exec location_block
choose_step {p} {C} {i} {at} {r} coded g =
    subst (λ (l : List Statement). Choosing C i at (finish p r l)) (sym g.rest)
    (record {
      placed = g.placed;
      past = [];
      left = trials_at C at.location;
      rest = ap (location_code p) g.location ∙ coded.locations at.location g.placed.location;
      block = refl;
      location = g.location;
      clocks = g.clocks;
      values = g.values;
      base = g.base;
      goes = g.goes;
      sleeps = g.sleeps;
      begun = r.tried;
      judged = rw g.kept;
    })
