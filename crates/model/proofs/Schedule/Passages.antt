-- What holds of each passage of a schedule, of two that follow each other, and along the list. Assumes nothing.
use mathlib.Core.Path.{◌≡◌, refl, sym, ap, subst, ◌∙◌}
use mathlib.Core.Bool.{Bool, true, false, cond}
use mathlib.Core.List.{List, [], ◌∷◌}
use mathlib.Core.Option.{Option, none, some}
use mathlib.Core.Logic.{◌⊎◌, inl, inr, by_cases}
use Prim.Native.Nat.{ℕ, zero, suc, ◌+◌, ◌-◌, ◌≤◌, ◌<◌}
use native.Mathlib.Omega.{arith}
use native.Mathlib.Decide.{ℕ_discrete}
use lib.IntN.{ℤ, pos}
use lib.ListN.{length, set, replicate, length-set, length-replicate}
use Rattle.model.specs.declared.Update.{Update}
use Rattle.model.specs.Lists.{All, empty, more, or_else}
use Rattle.model.specs.Table.{Arc, Component, Table, size, component_of, arc_of}
use Rattle.model.specs.Window.{Entry, in_range, new_value, updated, masked, aged, channel_of, leaves}
use Rattle.model.specs.Schedule.{Passage, own, with_message, start_entry}
use Rattle.model.specs.Checks.{no_passage, passage_at}
use Rattle.model.specs.Chains.{Opens, Chain, last, link, Chained, Before, Ordered, IsSchedule}
use Rattle.model.specs.Chains.{none as no-passage, more as first-passage}
use Rattle.model.proofs.Reader.Parts.{some_clash}
use Rattle.model.proofs.Basics.Walk.{all_at}
use Rattle.model.proofs.Window.Opening.{Opened, opened}
use Rattle.model.proofs.Schedule.Own.{in_all, all_in, in_own}

-- ## Clocks and values at an entry

-- as many clocks and values as the component has, no clock above the tick, each value in range
pub record EntryIn (C : Component) (at : Entry) : Type 0 where
  pub clocks : length at.clocks ≡ C.clocks
  pub below : All (λ x. x ≤ at.tick) at.clocks
  pub values : length at.values ≡ C.variables
  pub ranged : All (λ z. in_range z ≡ true) at.values

-- clocks that age are as many
pub length_aged : (mask grown i : ℕ) (xs : List ℕ) → length (aged mask grown i xs) ≡ length xs
unfolding aged
length_aged mask grown i [] = refl
length_aged mask grown i (x ∷ xs) = ap suc (length_aged mask grown (suc i) xs)

-- clocks that are at most t are at most t + grown when aged
aged_below : {t : ℕ} (mask grown i : ℕ) {xs : List ℕ} → All (λ x. x ≤ t) xs → All (λ x. x ≤ t + grown) (aged mask grown i xs)
unfolding aged
aged_below mask grown i empty = empty
aged_below {t} mask grown i (more {x = x} h a) = more (go (masked mask i)) (aged_below mask grown (suc i) a)
  where
    go : (b : Bool) → cond b 0 (x + grown) ≤ t + grown
    go true = omega arith
    go false = omega arith

-- what holds of each, and of a new one, holds of each after it is stored
all_set : {A : Type 0} {P : A → Type 0} {xs : List A} (i : ℕ) {x : A} → All P xs → P x → All P (set xs i x)
all_set i empty p = empty
all_set zero (more q a) p = more p a
all_set (suc i) (more q a) p = more q (all_set i a p)

-- as many values as before, each in range
abbrev Kept : List ℤ → List ℤ → Type 0
Kept vs ys = (length ys ≡ length vs) × All (λ z. in_range z ≡ true) ys

-- updates that stay in range keep the values' number and range
pub updated_kept : (us : List Update) (vs : List ℤ) {ys : List ℤ} → All (λ z. in_range z ≡ true) vs → updated us vs ≡ some ys
    → (length ys ≡ length vs) × All (λ z. in_range z ≡ true) ys
unfolding updated
updated_kept [] vs {ys} a e = let q : vs ≡ ys = cc in subst (Kept vs) q (refl, a)
updated_kept (u ∷ us) vs {ys} a e = go (λ b h. updated_kept us (set vs u.variable (new_value u vs)) b h) (in_range (new_value u vs)) refl e
  where
    go : (All (λ z. in_range z ≡ true) (set vs u.variable (new_value u vs)) → updated us (set vs u.variable (new_value u vs)) ≡ some ys → Kept (set vs u.variable (new_value u vs)) ys)
        → (t : Bool) → in_range (new_value u vs) ≡ t → cond t (updated us (set vs u.variable (new_value u vs))) none ≡ some ys → Kept vs ys
    go ih true t h = let k = ih (all_set u.variable a t) h in (k.0 ∙ length-set vs u.variable (new_value u vs), k.1)
    go ih false t h = some_clash (sym h)

-- where a component starts
pub start_in : (C : Component) → EntryIn C (start_entry C)
start_in C =
    record { clocks = length-replicate C.clocks 0; below = low C.clocks; values = length-replicate C.variables (pos 0); ranged = zeros C.variables }
  where
    zeros : (n : ℕ) → All (λ z. in_range z ≡ true) (replicate n (pos 0))
    zeros zero = empty
    zeros (suc n) = more refl (zeros n)

    low : (n : ℕ) → All (λ x. x ≤ 0) (replicate n 0)
    low zero = empty
    low (suc n) = more {x = 0} (omega arith) (low n)

-- where a passage leads to
pub leaves_in : {C : Component} (a : Arc) (m : Option ℕ) (end : ℕ) {at : Entry} → at.tick ≤ end → EntryIn C at → EntryIn C (leaves a m end at)
unfolding leaves
leaves_in {C} a m end {at} l h =
    let k = go (updated a.updates at.values) refl in
    let e : at.tick + (end - at.tick) ≡ end = omega arith in
    record {
      clocks = length_aged a.edge.mask (end - at.tick) 0 at.clocks ∙ h.clocks;
      below = subst (λ t. All (λ x. x ≤ t) (aged a.edge.mask (end - at.tick) 0 at.clocks)) e (aged_below a.edge.mask (end - at.tick) 0 h.below);
      values = k.0 ∙ h.values;
      ranged = k.1;
    }
  where
    go : (o : Option (List ℤ)) → updated a.updates at.values ≡ o → Kept at.values (or_else o at.values)
    go none e = (refl, h.ranged)
    go (some ys) e = updated_kept a.updates at.values h.ranged e

-- ## Each passage

-- what holds of a passage of component c, up to the horizon H
pub record Entered (H c : ℕ) (C : Component) (v : Passage) : Type 0 where
  pub component : v.component ≡ c
  pub opens : Opens c C v.entry v
  pub opened : Opened c C v.entry (with_message v (channel_of (arc_of C v.edge)))
  pub early : v.entry.tick ≤ v.ready
  pub wide : v.ready < v.end
  pub entry : EntryIn C v.entry
  pub tick : (v.entry.tick ≡ 0) ⊎ (v.entry.tick < H)

-- b is the passage after a, of component c
pub record Follows (H c : ℕ) (C : Component) (a b : Passage) : Type 0 where
  pub below : a.end < H
  pub component : b.component ≡ c
  pub entry : b.entry ≡ leaves (arc_of C a.edge) a.message a.end a.entry
  pub tick : b.entry.tick ≡ a.end

module _ (H c : ℕ) (C : Component) where
  -- a passage opened at an entry
  enters : {at : Entry} {v : Passage} → Opens c C at v → EntryIn C at → (at.tick ≡ 0) ⊎ (at.tick < H) → Entered H c C v
  enters {at} {v} o i t = go (opened c C at o)
    where
      go : Opened c C at (with_message v (channel_of (arc_of C v.edge))) → Entered H c C v
      go k =
          let e : at ≡ v.entry = sym k.entry in
          let o' : Opens c C v.entry v = subst (λ x. Opens c C x v) e o in
          record {
            component = k.component;
            opens = o';
            opened = opened c C v.entry o';
            early = subst (λ (x : Entry). x.tick ≤ v.ready) e k.early;
            wide = k.wide;
            entry = subst (EntryIn C) e i;
            tick = subst (λ (x : Entry). (x.tick ≡ 0) ⊎ (x.tick < H)) e t;
          }

  -- the passages of a chain
  chain_entered : {v : Passage} {ws : List Passage} → Entered H c C v → Chain H c C v ws → All (Entered H c C) (v ∷ ws)
  unfolding leaves
  chain_entered e (last h) = more e empty
  chain_entered {v} e (link {w = w} h o k) =
      more e (chain_entered (enters {v = w} o (leaves_in (arc_of C v.edge) v.message v.end (omega (arith, e.early, e.wide)) e.entry) (inr h)) k)

  -- a passage that opens where v leads to follows v
  pub opens_follows : (v w : Passage) → v.end < H → Opens c C (leaves (arc_of C v.edge) v.message v.end v.entry) w → Follows H c C v w
  unfolding leaves
  opens_follows v w h o =
      let k = opened c C (leaves (arc_of C v.edge) v.message v.end v.entry) o in
      record { below = h; component = k.component; entry = k.entry; tick = ap (λ (x : Entry). x.tick) k.entry }

  -- each follows the one before
  chain_follows : {v : Passage} {ws : List Passage} → Chain H c C v ws → (i : ℕ) → suc i < length (v ∷ ws) → Follows H c C (passage_at (v ∷ ws) i) (passage_at (v ∷ ws) (suc i))
  chain_follows (last h) i k = absurd (omega arith)
  chain_follows {v} (link {w = w} h o l) zero k = opens_follows v w h o
  chain_follows (link h o l) (suc i) k = chain_follows l i (omega arith)

  -- the last reaches the horizon
  chain_reaches : {v : Passage} {ws : List Passage} → Chain H c C v ws → (i : ℕ) → suc i ≡ length (v ∷ ws) → H ≤ (passage_at (v ∷ ws) i).end
  chain_reaches (last h) zero e = h
  chain_reaches (last h) (suc i) e = absurd (omega arith)
  chain_reaches (link h o l) zero e = absurd (omega arith)
  chain_reaches (link h o l) (suc i) e = chain_reaches l i (omega arith)

-- ## The laws

-- what opens before is entered no later
pub before_tick : (v w : Passage) → Before v w → v.entry.tick ≤ w.entry.tick
before_tick v w (inl q) = omega arith
before_tick v w (inr q) = omega (arith, q.0)

-- passage i opens before passage j
pub ordered_at : {S : List Passage} → Ordered S → (i j : ℕ) → i < j → j < length S → Before (passage_at S i) (passage_at S j)
ordered_at no-passage i j h k = absurd (omega arith)
ordered_at (first-passage a o) i zero h k = absurd (omega arith)
ordered_at (first-passage a o) zero (suc j) h k = all_at no_passage a j (omega arith)
ordered_at (first-passage a o) (suc i) (suc j) h k = ordered_at o i j (omega arith) (omega arith)

module _ {limit : ℕ} {T : Table} {H : ℕ} {S : List Passage} (s : IsSchedule limit T H S) where
  -- what holds of each passage
  pub entered : All (λ v. Entered H v.component (component_of T v.component) v) S
  entered = in_all S (λ v i. all_in (mine v.component (s.chains v.component (all_in s.present i))) (in_own i))
    where
      mine : (c : ℕ) → Chained H c (component_of T c) (own c S) → All (Entered H c (component_of T c)) (own c S)
      mine c k = subst (All (Entered H c (component_of T c))) (sym k.is)
          (chain_entered H c (component_of T c) (enters H c (component_of T c) {v = k.head} k.starts (start_in (component_of T c)) (inl refl)) k.chain)

  -- entry ticks never fall
  pub never_falls : (i j : ℕ) → i ≤ j → j < length S → (passage_at S i).entry.tick ≤ (passage_at S j).entry.tick
  never_falls i j h k = by_cases (ℕ_discrete i j) (λ e. subst (λ n. (passage_at S i).entry.tick ≤ (passage_at S n).entry.tick) e (omega arith)) (λ n. before_tick (passage_at S i) (passage_at S j) (ordered_at s.order i j (omega arith) k))

  module _ (c : ℕ) (h : c < size T) where
    -- a component's first passage starts as the component does
    pub first_entry : (0 < length (own c S)) × ((passage_at (own c S) 0).entry ≡ start_entry (component_of T c))
    first_entry =
        let k = s.chains c h in
        (omega (arith, ap length k.is), ap (λ l. (passage_at l 0).entry) k.is ∙ (opened c (component_of T c) (start_entry (component_of T c)) k.starts).entry)

    -- a component's next passage is entered where the one before leads to, at its end
    pub next_follows : (i : ℕ) → suc i < length (own c S) → Follows H c (component_of T c) (passage_at (own c S) i) (passage_at (own c S) (suc i))
    next_follows i =
        let k = s.chains c h in
        subst (λ l. suc i < length l → Follows H c (component_of T c) (passage_at l i) (passage_at l (suc i))) (sym k.is) (chain_follows H c (component_of T c) k.chain i)

    -- a component's last passage reaches the horizon
    pub last_reaches : (i : ℕ) → suc i ≡ length (own c S) → H ≤ (passage_at (own c S) i).end
    last_reaches i =
        let k = s.chains c h in
        subst (λ l. suc i ≡ length l → H ≤ (passage_at l i).end) (sym k.is) (chain_reaches H c (component_of T c) k.chain i)
