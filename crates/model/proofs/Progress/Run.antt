-- From every state that a run goes on from, some list of choices leads to the horizon; and of no list are more carried out than are left. Assumes nothing.
use mathlib.Core.Path.{◌≡◌, refl, sym, ap, subst, ◌∙◌}
use mathlib.Core.Logic.{◌⊎◌, inl, inr}
use mathlib.Core.Bool.{Bool, true, false, cond}
use mathlib.Core.List.{List, [], ◌∷◌, ◌++◌}
use Prim.Native.Nat.{ℕ, zero, suc, ◌+◌, ◌-◌, ◌≤◌, ◌<◌}
use native.Mathlib.Omega.{arith}
use borrow.Author.Tests.{eqb-true, eqb-false, ne_eqb}
use lib.Dec.{eqb}
use lib.ListN.{length}
use Rattle.model.specs.Lists.{empty, more, Bytes}
use Rattle.model.specs.Table.{Read, size}
use Rattle.model.specs.Schedule.{Passage}
use Rattle.model.specs.Run.{setting_at, Run, ends, Outcome, forbidden, on, over, ticked, continue, choose1, run_from}
use Rattle.model.proofs.Basics.Bools.{clash}
use Rattle.model.proofs.Run.Tied.{Given, Tied}
use Rattle.model.proofs.Run.Tick.{Live, Leads, no, onward, arrives, breaks}
use Rattle.model.proofs.Run.Send.{choice_leads}
use Rattle.model.proofs.Progress.Move.{toil_of, whose, choice_falls}
use Rattle.model.proofs.Progress.Tick.{none_late, tick_allowed, tick_is}

module _ {t : Read} {H : ℕ} {S : List Passage} {offs : List ℕ} (G : Given t H S offs) where
  -- ## One choice

  -- what is left until the horizon
  abbrev pub left : Run → ℕ
  left s = (H - s.tick) + toil_of t S s

  -- choice b carried out in state s, to state u: it is a byte, one more is used, the run goes on from u, and less is left
  record Done (s : Run) (b : ℕ) (u : Run) : Type 0 where
    pub byte : b < 256
    pub used : u.used ≡ suc s.used
    pub live : Live G u
    pub less : left u < left s

  -- so it is with every choice that the run goes on after
  carries : {s : Run} → Live G s → (b : ℕ) {u : Run} → choose1 (setting_at t H S offs) s b ≡ on u → Done s b u
  carries {s} k b {u} e = go (subst (Leads G s b) e (choice_leads G k b)) (whose G k.tied b u e)
    where
      go : Leads G s b (on u) → (b ≡ 255) ⊎ (b < size t.table) → Done s b u
      go (onward w l f i o) (inl q) =
          record {
            byte = omega arith;
            used = f;
            live = l;
            less =
                let is = tick_is t H S offs s u (subst (λ (c : ℕ). choose1 (setting_at t H S offs) s c ≡ on u) q e) in
                subst (λ (x : Run). left x < left s) (sym is) (omega (arith, k.below));
          }
      go (onward w l f i o) (inr h) =
          let same : u.tick ≡ s.tick = i ∙ ap (λ (x : Bool). cond x (suc s.tick) s.tick) (ne_eqb b 255 (λ q. omega (arith, G.limits.most_components))) in
          record {
            byte = omega (arith, G.limits.most_components);
            used = f;
            live = l;
            less = omega (arith, choice_falls G k.tied b h u e, same);
          }

  -- a run from here carries out no more choices than are left
  pub uses : (cs : List ℕ) {s : Run} → Live G s → (run_from (setting_at t H S offs) cs s).state.used ≤ s.used + left s
  unfolding run_from
  uses [] {s} k = omega arith
  uses (b ∷ bs) {s} k = go (choose1 (setting_at t H S offs) s b) refl (choice_leads G k b) (λ u l. uses bs l)
    where
      go : (o : Outcome) → choose1 (setting_at t H S offs) s b ≡ o → Leads G s b o → ((u : Run) → Live G u → (run_from (setting_at t H S offs) bs u).state.used ≤ u.used + left u)
          → (continue s o (λ v. run_from (setting_at t H S offs) bs v)).state.used ≤ s.used + left s
      go forbidden e no ih = omega arith
      go (on u) e (onward w l f i o) ih = let d = carries k b e in omega (arith, ih u d.live, d.used, d.less)
      go (over u x y) e (arrives f p i) ih = omega (arith, k.below)
      go (over u x y) e (breaks d f p) ih = omega (arith, k.below)

  -- ## To the horizon

  -- a choice of a node that is allowed
  record Able (s : Run) : Type 0 where
    pub node : ℕ
    pub next : Run
    pub is : choose1 (setting_at t H S offs) s node ≡ on next

  -- a list of choices that leads to the horizon, by a tick of the state before; each a byte, and each carried out
  pub record Arrival (s : Run) : Type 0 where
    pub choices : List ℕ
    pub before : Run
    pub live : Live G before
    pub tied : Tied G (ticked before)
    pub tick : suc before.tick ≡ H
    pub is : run_from (setting_at t H S offs) choices s ≡ ends (ticked before) 0 255
    pub bytes : Bytes choices
    pub used : suc before.used ≡ s.used + length choices

  -- one node: it can be chosen or not
  can : {s : Run} → Live G s → (c : ℕ) → c < size t.table → Able s ⊎ (choose1 (setting_at t H S offs) s c ≡ forbidden)
  can {s} k c h = go (choose1 (setting_at t H S offs) s c) refl (choice_leads G k c)
    where
      no_tick : c ≡ 255 → ⊥
      no_tick e = omega (arith, G.limits.most_components)

      go : (o : Outcome) → choose1 (setting_at t H S offs) s c ≡ o → Leads G s c o → Able s ⊎ (choose1 (setting_at t H S offs) s c ≡ forbidden)
      go forbidden e no = inr e
      go (on u) e (onward w l f i o) = inl (record { node = c; next = w; is = e })
      go (over u x y) e (arrives f p i) = absurd (no_tick f)
      go (over u x y) e (breaks d f p) = absurd (no_tick f)

  -- the nodes of low numbers: one can be chosen, or none
  look : {s : Run} → Live G s → (n : ℕ) → n ≤ size t.table → Able s ⊎ ((c : ℕ) → c < n → choose1 (setting_at t H S offs) s c ≡ forbidden)
  look k zero h = inr (λ c i. absurd (omega arith))
  look {s} k (suc n) h = go (can k n (omega arith)) (look k n (omega arith))
    where
      go : Able s ⊎ (choose1 (setting_at t H S offs) s n ≡ forbidden) → Able s ⊎ ((c : ℕ) → c < n → choose1 (setting_at t H S offs) s c ≡ forbidden)
          → Able s ⊎ ((c : ℕ) → c < suc n → choose1 (setting_at t H S offs) s c ≡ forbidden)
      go (inl a) b = inl a
      go (inr a) (inl b) = inl b
      go (inr a) (inr b) = inr each
        where
          each : (c : ℕ) → c < suc n → choose1 (setting_at t H S offs) s c ≡ forbidden
          each c i = by (eqb c n) refl
            where
              by : (x : Bool) → eqb c n ≡ x → choose1 (setting_at t H S offs) s c ≡ forbidden
              by true q = subst (λ (j : ℕ). choose1 (setting_at t H S offs) s j ≡ forbidden) (sym (eqb-true c n q)) a
              by false q = b c (omega (arith, eqb-false c n q))

  -- one choice more
  further : {s u : Run} → Live G s → (b : ℕ) → choose1 (setting_at t H S offs) s b ≡ on u → Arrival u → Arrival s
  unfolding run_from
  further {s} {u} k b e a =
      let d = carries k b e in
      record {
        choices = b ∷ a.choices;
        before = a.before;
        live = a.live;
        tied = a.tied;
        tick = a.tick;
        is = ap (λ (o : Outcome). continue s o (λ v. run_from (setting_at t H S offs) a.choices v)) e ∙ a.is;
        bytes = more d.byte a.bytes;
        used = omega (arith, a.used, d.used);
      }

  -- the last tick
  finally : {s : Run} → Live G s → choose1 (setting_at t H S offs) s 255 ≡ over (ticked s) 0 255 → Tied G (ticked s) → suc s.tick ≡ H → Arrival s
  unfolding run_from
  finally {s} k e p i =
      record {
        choices = 255 ∷ [];
        before = s;
        live = k;
        tied = p;
        tick = i;
        is = ap (λ (o : Outcome). continue s o (λ v. run_from (setting_at t H S offs) [] v)) e;
        bytes = more {x = 255} (omega arith) empty;
        used = omega arith;
      }

  -- Every node that can be chosen is, and where none can a tick is; so much is left at most.
  pub arrive : (n : ℕ) {s : Run} → Live G s → left s ≤ n → Arrival s
  arrive zero k l = absurd (omega (arith, k.below))
  arrive (suc n) {s} k l = go (look k (size t.table) (omega arith)) (λ u m i. arrive n m i)
    where
      go : Able s ⊎ ((c : ℕ) → c < size t.table → choose1 (setting_at t H S offs) s c ≡ forbidden) → ((u : Run) → Live G u → left u ≤ n → Arrival u) → Arrival s
      go (inl a) ih = let d = carries k a.node a.is in further k a.node a.is (ih a.next d.live (omega (arith, d.less)))
      go (inr still) ih = tick (choose1 (setting_at t H S offs) s 255) refl (choice_leads G k 255)
        where
          tick : (o : Outcome) → choose1 (setting_at t H S offs) s 255 ≡ o → Leads G s 255 o → Arrival s
          tick forbidden e no = absurd (tick_allowed G k still e)
          tick (on u) e (onward w m f i o) = further k 255 e (ih w m (omega (arith, (carries k 255 e).less)))
          tick (over u x y) e (arrives f p i) = finally k e p i
          tick (over u x y) e (breaks d f p) = clash (sym (none_late G k still d p.there) ∙ p.late)

  -- choices that are used up, with more of them to the horizon
  pub record Longer (s : Run) (cs : List ℕ) : Type 0 where
    pub more : List ℕ
    pub arrival : Arrival s
    pub is : arrival.choices ≡ cs ++ more

  -- where choices are used up there are more
  pub arrive_after : (cs : List ℕ) {s : Run} → Live G s → (run_from (setting_at t H S offs) cs s).end ≡ 1 → Longer s cs
  unfolding run_from further
  arrive_after [] {s} k e = let a = arrive (left s) k (omega arith) in record { more = a.choices; arrival = a; is = refl }
  arrive_after (b ∷ bs) {s} k e = go (choose1 (setting_at t H S offs) s b) refl (choice_leads G k b) e (λ u l f. arrive_after bs l f)
    where
      go : (o : Outcome) → choose1 (setting_at t H S offs) s b ≡ o → Leads G s b o → (continue s o (λ v. run_from (setting_at t H S offs) bs v)).end ≡ 1
          → ((u : Run) → Live G u → (run_from (setting_at t H S offs) bs u).end ≡ 1 → Longer u bs) → Longer s (b ∷ bs)
      go forbidden q no f ih = absurd (omega arith)
      go (on u) q (onward w l h i o) f ih =
          let a = ih w l f in
          record { more = a.more; arrival = further k b q a.arrival; is = ap (λ (x : List ℕ). b ∷ x) a.is }
      go (over u x y) q (arrives h p i) f ih = absurd (omega arith)
      go (over u x y) q (breaks d h p) f ih = absurd (omega arith)
