-- Nodes that start together: demand 3 for nodes that wake apart gives demand 3, where there are no offsets. Assumes nothing.
use mathlib.Core.Path.{◌≡◌, refl, sym, ap, ap₂, subst, ◌∙◌}
use mathlib.Core.Bool.{Bool, cond, ◌&&◌}
use mathlib.Core.List.{List, [], ◌∷◌, ◌++◌, map, append-nil}
use Prim.Native.Nat.{ℕ, zero, suc, pred, ◌+◌, ◌-◌, ◌≤◌, ◌<◌}
use native.Mathlib.Omega.{arith}
use borrow.Author.Tests.{le-ltb}
use lib.Dec.{ltb}
use lib.ListN.{length, get_or}
use lib.Seq.{append_snoc}
use Rattle.model.specs.Lists.{All, empty, more, only, from, below}
use Rattle.model.specs.Table.{Read, size, component_of}
use Rattle.model.specs.Schedule.{Passage, own}
use Rattle.model.specs.Network.{Work, one, two, start, passages_on, observations_on}
use Rattle.model.specs.Order.{work_tick, placed, placed_all, by_tick}
use Rattle.model.specs.Run.{Setting, setting_to, offset_in, own_tick, Run, Result, node_of, stand_of, run}
use Rattle.model.specs.Demand3.{state_after, Begins, observations_of, is_late_end, reached, late_in, is_late, DueIn, NotDueIn, EarlyIn, Barred, absent, early, pending, Ended, horizon, used_up, late, not_allowed, Refused, no_node, not_due, due, Demand3}
use Rattle.model.specs.Apart.{own_work, work_node, most, EndedApart, RefusedApart, asleep, BarredApart, Demand3Apart}
use Rattle.model.specs.Apart.{absent as absent-apart, early as early-apart, pending as pending-apart}
use Rattle.model.specs.Apart.{no_node as no_node_apart, not_due as not_due_apart, due as due-apart}
use Rattle.model.proofs.Basics.Words.{all_join}
use Rattle.model.proofs.Schedule.Own.{all_then}
use Rattle.model.proofs.Network.Order.{Sorted}

-- ## In the order of ticks already

-- a work that no other one follows is put at the end
placed_last : (w : Work) (xs : List Work) → All (λ x. work_tick x ≤ work_tick w) xs → placed w xs ≡ xs ++ (w ∷ [])
unfolding placed
placed_last w [] a = refl
placed_last w (x ∷ xs) (more p a) =
    ap (λ (b : Bool). cond b (w ∷ x ∷ xs) (x ∷ placed w xs)) (le-ltb (work_tick w) (work_tick x) p) ∙ ap (λ (l : List Work). x ∷ l) (placed_last w xs a)

-- works that stand in the order of their ticks stay so
placed-all : (done ws : List Work) → Sorted ws → All (λ x. All (λ y. work_tick x ≤ work_tick y) ws) done → placed_all done ws ≡ done ++ ws
unfolding placed_all
placed-all done [] s a = sym (append-nil done)
placed-all done (w ∷ ws) s a =
    ap (λ (l : List Work). placed_all l ws) (placed_last w done (all_then (λ x k. first k) a))
    ∙ (placed-all (done ++ (w ∷ [])) ws s.1 (all_join (all_then (λ x k. rest k) a) (more s.0 empty)) ∙ append_snoc done w ws)
  where
    first : {P : Work → Type 0} → All P (w ∷ ws) → P w
    first (more p q) = p

    rest : {P : Work → Type 0} → All P (w ∷ ws) → All P ws
    rest (more p q) = q

by-tick : (ws : List Work) → Sorted ws → by_tick ws ≡ ws
by-tick ws s = placed-all [] ws s empty

-- ## Without offsets

-- no node has one
none_at : (f : ℕ → ℕ) → ((c : ℕ) → f c ≡ 0) → (i n c : ℕ) → get_or (map f (from i n)) c 0 ≡ 0
none_at f h i zero c = refl
none_at f h i (suc n) zero = h i
none_at f h i (suc n) (suc c) = none_at f h (suc i) n c

-- the greatest of equal numbers
most_same : (f : ℕ → ℕ) (b : ℕ) → ((c : ℕ) → f c ≡ b) → (i n : ℕ) → most (map f (from i (suc n))) ≡ b
most_same f b h i zero = omega (arith, h i)
most_same f b h i (suc n) = omega (arith, h i, most_same f b h (suc i) n)

-- every clock is the common one
pub same_clock : (t : Read) (H : ℕ) (S : List Passage) (c τ : ℕ) → own_tick (setting_to t H S) c τ ≡ τ
same_clock t H S c τ = omega (arith, none_at (offset_in []) (λ i. refl) 0 (size t.table) c)

module _ (t : Read) (H : ℕ) (S : List Passage) (cs : List ℕ) (some_node : 0 < size t.table) (sorted : Sorted (run (setting_to t H S) cs).state.works) (d : Demand3Apart t H S [] cs) where
  abbrev g : Setting
  g = setting_to t H S

  abbrev R : Result
  R = run g cs

  same : (c τ : ℕ) → own_tick g c τ ≡ τ
  same c τ = same_clock t H S c τ

  -- the path reaches the common tick
  reach' : d.last.tick ≡ reached R
  reach' = d.reach ∙ go (size t.table) some_node
    where
      go : (n : ℕ) → 0 < n → most (map (λ c. own_tick g c (reached R)) (below n)) ≡ reached R
      go zero h = absurd (omega arith)
      go (suc n) h = most_same (λ c. own_tick g c (reached R)) (reached R) (λ c. same c (reached R)) 0 n

  -- nothing is filled in
  unfilled : d.filled ≡ []
  unfilled = go d.filled d.fills
    where
      go : (ws : List Work) → All (λ w. (work_node w < size t.table) × (own_tick g (work_node w) (reached R) ≤ work_tick w) × (work_tick w < d.last.tick)) ws → ws ≡ []
      go [] a = refl
      go (w ∷ ws) (more p a) = absurd (omega (arith, p.1, p.2, reach', same (work_node w) (reached R)))

  -- each work is its own
  own_same : (ws : List Work) → map (own_work g) ws ≡ ws
  own_same [] = refl
  own_same (one c k ∷ ws) = ap₂ (λ (n : ℕ) (l : List Work). one c n ∷ l) (same c k) (own_same ws)
  own_same (two a b k τ ∷ ws) = ap₂ (λ (n : ℕ) (l : List Work). two a b k n ∷ l) (same a τ) (own_same ws)

  worked' : by_tick (map (own_work g) R.state.works ++ d.filled) ≡ R.state.works
  worked' =
      ap by_tick (ap₂ (λ (xs ys : List Work). xs ++ ys) (own_same R.state.works) unfilled ∙ append-nil R.state.works)
      ∙ by-tick R.state.works sorted

  -- late by its own clock is late
  late_same : (s : Run) (c : ℕ) → late_in (own c S) (own_tick g c s.tick) (node_of s c) (stand_of (node_of s c)) ≡ is_late S s c
  late_same s c = ap (λ (n : ℕ). late_in (own c S) n (node_of s c) (stand_of (node_of s c))) (same c s.tick)

  ended' : EndedApart t H S [] cs → Ended t H S cs
  ended' (horizon x y z) = horizon x y (λ c h. sym (late_same R.state c) ∙ z c h)
  ended' (used_up x y z) = used_up x y z
  ended' (late x) = late x
  ended' (not_allowed x y z) = not_allowed x y z

  refused' : (b : ℕ) → RefusedApart t H S [] cs b → Refused t H S cs b
  refused' b (no_node_apart x y) = no_node x y
  refused' b (asleep x y) = absurd (omega arith)
  refused' b (not_due_apart x y) =
      not_due x (subst (λ (n : ℕ). NotDueIn (own b S) n (node_of R.state b) (stand_of (node_of R.state b))) (same b R.state.tick) y)
  refused' b (due-apart x c y w z) =
      due x c y (subst (λ (n : ℕ). DueIn (own c S) n (node_of R.state c) (stand_of (node_of R.state c))) (same c R.state.tick) z)

  barred' : (s : Run) (b : ℕ) → Barred t.table S s b → BarredApart t H S [] cs s b
  barred' s b (absent x y) = absent-apart x y
  barred' s b (early x y) = early-apart x (subst (λ (n : ℕ). EarlyIn (own b S) n (node_of s b) (stand_of (node_of s b))) (sym (same b s.tick)) y)
  barred' s b (pending x c y z) =
      pending-apart x c y (omega arith) (subst (λ (n : ℕ). DueIn (own c S) n (node_of s c) (stand_of (node_of s c))) (sym (same c s.tick)) z)

  -- the law
  pub together : Demand3 t H S cs
  together =
      record {
        path = d.path;
        last = d.last;
        valid = d.valid;
        reach = reach';
        scheduled = d.scheduled;
        kept = d.kept;
        worked = d.worked ∙ worked';
        observed = λ c h.
            subst
            (λ (n : ℕ).
            Begins (observations_of c R)
            (observations_on (component_of t.table c) c n (passages_on t.table c (start t.table) d.path) (map (λ v. v.edge) (own c S))))
            (same c (reached R) ∙ sym reach')
            (d.observed c h);
        complete = λ c h.
            subst (λ (n : ℕ).
            length (only (λ v. ltb v.ready n) (own c S)) ≤ length (observations_of c R) + cond (is_late_end R && late_in (own c S) n (node_of R.state c) (stand_of (node_of R.state c))) 1 0)
            (same c R.state.tick)
            (d.complete c h);
        listener = d.listener;
        late_ends = λ k i c h l. d.late_ends k i c h (l.0, late_same (state_after t H S cs (suc k)) c ∙ l.1);
        late_is = λ e. let l = d.late_is e in (l.0, l.1, (l.2.0, sym (late_same (state_after t H S cs (suc (pred R.state.used))) R.node) ∙ l.2.1));
        node = d.node;
        used = d.used;
        ticks = d.ticks;
        ended = ended' d.ended;
        not_before = d.not_before;
        refused = λ e. refused' _ (d.refused e);
        allowed = λ k i b. d.allowed k i (barred' (state_after t H S cs k) _ b);
      }
