-- Works finished in any order, filled up as the schedule says, are a passing of the network up to any tick of the horizon. Assumes nothing.
use mathlib.Core.Path.{◌≡◌, refl, sym, ap, subst, ◌∙◌}
use mathlib.Core.Logic.{by_cases}
use native.Mathlib.Decide.{ℕ_discrete}
use mathlib.Core.List.{List, [], ◌∷◌, ◌++◌}
use mathlib.Core.Option.{Option, none, some}
use Prim.Native.Nat.{ℕ, zero, suc, ◌+◌, ◌≤◌, ◌<◌}
use native.Mathlib.Omega.{arith}
use lib.ListN.{length}
use Rattle.model.specs.Lists.{◌∈◌, All, empty, more, accepted}
use Rattle.model.specs.Table.{Table, size}
use Rattle.model.specs.Schedule.{Passage, own}
use Rattle.model.specs.Checks.{checked}
use Rattle.model.specs.Chains.{IsSchedule}
use Rattle.model.specs.Network.{Work}
use Rattle.model.specs.Order.{work_tick, placed, placed_all, by_tick}
use Rattle.model.specs.Apart.{work_node}
use Rattle.model.proofs.Basics.Words.{all_join}
use Rattle.model.proofs.Schedule.Own.{all_then}
use Rattle.model.proofs.Network.Links.{Links, schedule_linked, next_later, next_links}
use Rattle.model.proofs.Network.Passing.{Passing, passing_start}
use Rattle.model.proofs.Network.Order.{Moved, Comes, stop, next, InTurn, Ordered, all_placed, comes_sorted, passes}
use Rattle.model.proofs.Network.Fill.{Ahead, turn}

-- one after the other
pub comes_then : {T : Table} {A B Z : ℕ → List Passage} {ws us : List Work} → Comes T A ws B → Comes T B us Z → Comes T A (ws ++ us) Z
comes_then {T} {us = us} (stop e) (stop f) = stop (λ d h. f d h ∙ e d h)
comes_then {T} (stop e) (next {B = M} f c) = next (record { at = f.at; moved = λ d h. subst (λ (y : List Passage). Moved (f.at d) y (M d)) (e d h) (f.moved d h); timely = f.timely; is = f.is }) c
comes_then (next f c) k = next f (comes_then c k)

-- no more is ahead afterwards
pub comes_fewer : {T : Table} {A Z : ℕ → List Passage} {ws : List Work} → Comes T A ws Z → (d : ℕ) → d < size T → length (Z d) ≤ length (A d)
comes_fewer (stop e) d h = omega (arith, ap length (e d h))
comes_fewer {A = A} (next {B = B} f c) d h = omega (arith, comes_fewer c d h, go (f.at d) (f.moved d h))
  where
    go : (x : Option Passage) → Moved x (A d) (B d) → length (B d) ≤ length (A d)
    go none e = omega (arith, ap length e)
    go (some v) e = omega (arith, ap length e)

-- linked passages are in turn
links_turn : {H : ℕ} {C : _} {v : Passage} (vs : List Passage) → Links H C v vs → InTurn (v ∷ vs)
links_turn [] k = (tt, tt)
links_turn (w ∷ ws) k = ((next_later k).0, links_turn ws (next_links k))

module _ (limit : ℕ) (T : Table) (H : ℕ) (S : List Passage) (sched : IsSchedule limit T H S) (ok : checked 0 T H S ≡ accepted S) where
  -- what was filled in from tick τ on, up to tick m, each work before tick u
  pub record Round (τ m u : ℕ) (A : ℕ → List Passage) (n : ℕ) : Type 0 where
    pub then' : ℕ → List Passage
    pub works : List Work
    pub comes : Comes T A works then'
    pub ahead : Ahead limit T H S sched ok m then'
    pub fewer : (d : ℕ) → d < size T → (x : Passage) → x ∈ then' d → x ∈ A d
    pub later : (d : ℕ) → d < n → (x : Passage) → x ∈ then' d → m < x.end
    pub fills : All (λ w. (c : ℕ) × (c < size T) × (v : Passage) × (v ∈ A c) × (v.end ≡ work_tick w) × (work_node w ≡ c) × (work_tick w < u)) works

  -- the first n components, at one tick
  round : (n : ℕ) {τ : ℕ} {A : ℕ → List Passage} → n ≤ size T → τ < H → Ahead limit T H S sched ok τ A → Round τ τ (suc τ) A n
  round zero l b g = record { then' = _; works = []; comes = stop (λ d h. refl); ahead = g; fewer = λ d h x m. m; later = λ d h. absurd (omega arith); fills = empty }
  round (suc n) {τ} {A} l b g =
      let r = round n (omega arith) b g in
      let t = turn limit T H S sched ok r.ahead n (omega arith) b in
      record {
        then' = t.then';
        works = r.works ++ t.works;
        comes = comes_then r.comes t.comes;
        ahead = t.ahead;
        fewer = λ d h x m. r.fewer d h x (t.fewer d h x m);
        later = λ d h x m. last r.later t.fewer t.later d h x m;
        fills =
            all_join r.fills
            (all_then (λ w f. (n, omega arith, f.passage, r.fewer n (omega arith) f.passage f.among, f.ends ∙ sym f.tick, f.node, omega (arith, f.tick))) t.fills);
      }
    where
      last : {P Q : ℕ → List Passage} → ((d : ℕ) → d < n → (x : Passage) → x ∈ P d → τ < x.end) → ((d : ℕ) → d < size T → (x : Passage) → x ∈ Q d → x ∈ P d) → ((x : Passage) → x ∈ Q n → τ < x.end)
          → (d : ℕ) → d < suc n → (x : Passage) → x ∈ Q d → τ < x.end
      last {P} {Q} f s z d h x m = by_cases (ℕ_discrete d n) (λ e. z x (subst (λ (i : ℕ). x ∈ Q i) e m)) (λ e. f d (omega (arith, e)) x (s d (omega arith) x m))

  -- tick by tick
  pub fill : (n : ℕ) {τ : ℕ} {A : ℕ → List Passage} → τ + n ≤ H → Ahead limit T H S sched ok τ A → Round τ (τ + n) (τ + n) A 0
  fill zero {τ} {A} b g =
      let e : τ ≡ τ + 0 = omega arith in
      record { then' = A; works = []; comes = stop (λ d h. refl); ahead = subst (λ (i : ℕ). Ahead limit T H S sched ok i A) e g; fewer = λ d h x m. m; later = λ d h. absurd (omega arith); fills = empty }
  fill (suc n) {τ} {A} b g =
      let r = round (size T) (omega arith) (omega arith) g in
      let k = fill n {τ = suc τ} (omega arith) (record { rest = r.ahead.rest; before = λ c h x m. omega (arith, r.later c h x m); paired = r.ahead.paired }) in
      let e : suc τ + n ≡ τ + suc n = omega arith in
      record {
        then' = k.then';
        works = r.works ++ k.works;
        comes = comes_then r.comes k.comes;
        ahead = subst (λ (i : ℕ). Ahead limit T H S sched ok i k.then') e k.ahead;
        fewer = λ d h x m. r.fewer d h x (k.fewer d h x m);
        later = λ d h. absurd (omega arith);
        fills =
            all_join (all_then (λ w f. (f.0, f.1, f.2, f.3, f.4, f.5, omega (arith, f.6))) r.fills)
            (all_then (λ w f. (f.0, f.1, f.2, r.fewer f.0 f.1 f.2 f.3, f.4, f.5, omega (arith, f.6))) k.fills);
      }

  -- the passages of the schedule are in turn
  ordered : Ordered T (λ c. own c S)
  ordered c h = let k = schedule_linked limit T H S sched c h in subst InTurn (sym k.is) (links_turn k.tail k.linked)

  -- Works that have come, from the start on, each in its window and none after tick m, of which the passages still ahead end at m or later.
  pub path_of : (m : ℕ) → m ≤ H → (ws : List Work) {A : ℕ → List Passage} → Comes T (λ c. own c S) ws A → All (λ w. work_tick w ≤ m) ws
      → ((d : ℕ) → d < size T → (v : Passage) (vs : List Passage) → A d ≡ v ∷ vs → m ≤ v.end) → Passing T H S m A (by_tick ws)
  unfolding placed_all
  path_of m b ws {A} c a z =
      let r = comes_sorted T ws [] ordered tt (stop (λ d h. refl)) c in
      passes T H S (by_tick ws) m b (omega arith) (passing_start limit T H S sched) r.0 r.1 (all_of ws [] a empty) z
    where
      put : (w : Work) (xs : List Work) → work_tick w ≤ m → All (λ x. (0 ≤ work_tick x) × (work_tick x ≤ m)) xs → All (λ x. (0 ≤ work_tick x) × (work_tick x ≤ m)) (placed w xs)
      put w xs p q = all_placed T w xs (omega arith, p) q

      all_of : (us xs : List Work) → All (λ w. work_tick w ≤ m) us → All (λ x. (0 ≤ work_tick x) × (work_tick x ≤ m)) xs → All (λ x. (0 ≤ work_tick x) × (work_tick x ≤ m)) (placed_all xs us)
      all_of [] xs p q = q
      all_of (u ∷ us) xs (more p ps) q = all_of us (placed u xs) ps (put u xs p q)
