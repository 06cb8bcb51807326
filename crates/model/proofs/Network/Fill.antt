-- What the schedule has the nodes do that are behind: from passages ahead none of which ends before a tick, to passages ahead none of which
-- ends before a later one. Assumes nothing.
use mathlib.Core.Path.{◌≡◌, refl, sym, ap, subst, ◌∙◌}
use mathlib.Core.Logic.{inr}
use mathlib.Core.Bool.{Bool, true, false, cond}
use mathlib.Core.List.{List, [], ◌∷◌, ◌++◌}
use mathlib.Core.Option.{Option, none, some}
use Prim.Native.Nat.{ℕ, ◌+◌, ◌≤◌, ◌<◌}
use native.Mathlib.Omega.{arith}
use borrow.Author.Tests.{eqb-true, eqb-false, eq-eqb, ne_eqb}
use lib.Dec.{eqb}
use Rattle.model.specs.declared.Action.{Action}
use Rattle.model.specs.declared.Action.TheVariants.{Internal, Send, Receive}
use Rattle.model.specs.Lists.{◌∈◌, here, there, All, empty, more, accepted}
use Rattle.model.specs.Table.{Table, Component, size, component_of, arc_of}
use Rattle.model.specs.Window.{sends, receives, channel_of, listens}
use Rattle.model.specs.Schedule.{Passage, passage_arc, own, names}
use Rattle.model.specs.Checks.{is_send, checked}
use Rattle.model.specs.Chains.{IsSchedule}
use Rattle.model.specs.Network.{Work, one, two}
use Rattle.model.specs.Order.{work_tick}
use Rattle.model.specs.Apart.{work_node}
use Rattle.model.proofs.Basics.Members.{in_append, not_in}
use Rattle.model.proofs.Checks.Heard.{Listener, heard_law, sender_law, hears_is, others_is, send_is}
use Rattle.model.proofs.Schedule.Own.{all_in, own_in}
use Rattle.model.proofs.Network.Links.{Links, first_fits, each_fits, later_ready, next_links, schedule_linked}
use Rattle.model.proofs.Network.Steps.{Alone, internal, timeout}
use Rattle.model.proofs.Network.Passing.{Partners}
use Rattle.model.proofs.Network.Partners.{Paired, paired_without, without_one, without_two, component_there, windows, heard_message, alone_unpaired, together_paired}
use Rattle.model.proofs.Network.Order.{Moved, Fires, Comes, stop, next}
use Rattle.model.proofs.Network.Order.{alone as does-alone, both as does-both}

-- a last part of linked passages is linked
pub links_from : {H : ℕ} {C : Component} (fin : List Passage) (h : Passage) (t : List Passage) → Links H C h t → (v : Passage) (vs : List Passage) → fin ++ (v ∷ vs) ≡ h ∷ t → Links H C v vs
links_from {H} {C} [] h t k v vs e =
    let a : v ≡ h = cc in
    let b : vs ≡ t = cc in
    subst (λ (x : Passage). Links H C x vs) (sym a) (subst (λ (x : List Passage). Links H C h x) (sym b) k)
links_from {H} {C} (f ∷ fin) h [] k v vs e = absurd (nothing fin (let z : fin ++ (v ∷ vs) ≡ [] = cc in z))
  where
    nothing : (l : List Passage) → l ++ (v ∷ vs) ≡ [] → ⊥
    nothing [] q = let z : ◌≡◌ {A = ℕ} 0 1 = cc in omega arith
    nothing (y ∷ l) q = let z : ◌≡◌ {A = ℕ} 0 1 = cc in omega arith
links_from {H} {C} (f ∷ fin) h (w ∷ t) k v vs e = links_from fin w t (next_links k) v vs (let z : fin ++ (v ∷ vs) ≡ w ∷ t = cc in z)

module _ (limit : ℕ) (T : Table) (H : ℕ) (S : List Passage) (sched : IsSchedule limit T H S) (ok : checked 0 T H S ≡ accepted S) where
  -- the passages ahead: last parts of the schedule's, none ends before the tick, and of each pair both are ahead or neither is
  pub record Ahead (τ : ℕ) (A : ℕ → List Passage) : Type 0 where
    pub rest : (c : ℕ) → c < size T → (fin : List Passage) × (fin ++ A c ≡ own c S)
    pub before : (c : ℕ) → c < size T → (x : Passage) → x ∈ A c → τ ≤ x.end
    pub paired : Paired limit T H S sched A

  -- a work filled in at the tick: of a passage that ends there
  pub record Filled (A : ℕ → List Passage) (τ : ℕ) (w : Work) (c : ℕ) : Type 0 where
    pub there : c < size T
    pub node : work_node w ≡ c
    pub tick : work_tick w ≡ τ
    pub passage : Passage
    pub among : passage ∈ A c
    pub ends : passage.end ≡ τ

  -- component c has nothing ahead that ends at the tick, once it has finished what does
  pub record Turn (τ : ℕ) (A : ℕ → List Passage) (c : ℕ) : Type 0 where
    pub then' : ℕ → List Passage
    pub works : List Work
    pub comes : Comes T A works then'
    pub ahead : Ahead τ then'
    pub fewer : (d : ℕ) → d < size T → (x : Passage) → x ∈ then' d → x ∈ A d
    pub later : (x : Passage) → x ∈ then' c → τ < x.end
    pub fills : All (λ w. Filled A τ w c) works

  module _ {τ : ℕ} {A : ℕ → List Passage} (g : Ahead τ A) where
    linked : (c : ℕ) → c < size T → (v : Passage) (vs : List Passage) → A c ≡ v ∷ vs → Links H (component_of T c) v vs
    linked c h v vs e =
        let k = schedule_linked limit T H S sched c h in
        let r = g.rest c h in
        links_from r.0 k.head k.tail k.linked v vs (ap (λ (l : List Passage). r.0 ++ l) (sym e) ∙ (r.1 ∙ k.is))

    ahead_own : (c : ℕ) → c < size T → (x : Passage) → x ∈ A c → (x ∈ S) × (x.component ≡ c)
    ahead_own c h x m = let r = g.rest c h in own_in c S (subst (λ (l : List Passage). x ∈ l) r.1 ((in_append r.0 (A c)).1 (inr m)))

    -- the first passage ahead of one component taken away
    cut : ℕ → List Passage → (ℕ → List Passage) → ℕ → List Passage
    cut c vs B d = cond (eqb d c) vs (B d)

    -- nothing ends now
    quiet : (c : ℕ) → ((x : Passage) → x ∈ A c → τ < x.end) → Turn τ A c
    quiet c l = record { then' = A; works = []; comes = stop (λ d h. refl); ahead = g; fewer = λ d h x m. m; later = l; fills = empty }

    module _ (c : ℕ) (h : c < size T) (v : Passage) (vs : List Passage) (e : A c ≡ v ∷ vs) (end : v.end ≡ τ) (below : τ < H) where
      k : Links H (component_of T c) v vs
      k = linked c h v vs e

      o : (v ∈ S) × (v.component ≡ c)
      o = ahead_own c h v (subst (λ (l : List Passage). v ∈ l) (sym e) (here refl))

      -- what is left of it ends later
      left_later : (x : Passage) → x ∈ vs → τ < x.end
      left_later x m = omega (arith, later_ready k x m, (each_fits k x (there m)).window)

      -- a work of c alone
      by_itself : Alone (component_of T c) τ v → Turn τ A c
      by_itself a =
          record {
            then' = B;
            works = one c τ ∷ [];
            comes = next fires (stop (λ d l. refl));
            ahead =
                record {
                  rest = λ d l. rest d l (eqb d c) refl;
                  before = λ d l x m. g.before d l x (fewer d l x m);
                  paired =
                      paired_without limit T H S sched A B g.paired (without_one limit T H S sched A B c v vs o.1 k e same others)
                      (alone_unpaired limit T H S sched ok τ v o.0 (subst (λ (i : ℕ). Alone (component_of T i) τ v) (sym o.1) a));
                };
            fewer = fewer;
            later = λ x m. left_later x (subst (λ (l : List Passage). x ∈ l) same m);
            fills = more (record { there = h; node = refl; tick = refl; passage = v; among = subst (λ (l : List Passage). v ∈ l) (sym e) (here refl); ends = end }) empty;
          }
        where
          B : ℕ → List Passage
          B d = cond (eqb d c) vs (A d)

          same : B c ≡ vs
          same = rw (eq-eqb c c refl)

          others : (d : ℕ) → d < size T → (d ≡ c → ⊥) → B d ≡ A d
          others d l n = rw (ne_eqb d c n)

          at : ℕ → Option Passage
          at d = cond (eqb d c) (some v) none

          fires : Fires T (one c τ) A B
          fires =
              record {
                at = at;
                moved = λ d l. moved d (eqb d c) refl;
                timely = λ d l x p. timely d x (eqb d c) p;
                is = does-alone c τ h v (rw (eq-eqb c c refl)) (λ d l n. rw (ne_eqb d c n)) a;
              }
            where
              moved : (d : ℕ) (t : Bool) → eqb d c ≡ t → Moved (cond t (some v) none) (A d) (cond t vs (A d))
              moved d true q = ap A (eqb-true d c q) ∙ e
              moved d false q = refl

              timely : (d : ℕ) (x : Passage) (t : Bool) → cond t (some v) none ≡ some x → (x.ready ≤ τ) × (τ ≤ x.end)
              timely d x true p =
                  let i : v ≡ x = cc in
                  let w = (first_fits k).window in
                  (omega (arith, ap (λ (y : Passage). y.ready) i, ap (λ (y : Passage). y.end) i), omega (arith, ap (λ (y : Passage). y.end) i))
              timely d x false p = absurd (let z : ◌≡◌ {A = ℕ} 0 1 = cc in omega arith)

          rest : (d : ℕ) → d < size T → (t : Bool) → eqb d c ≡ t → (fin : List Passage) × (fin ++ cond t vs (A d) ≡ own d S)
          rest d l true q =
              let r = g.rest c h in
              let i : (r.0 ++ (v ∷ [])) ++ vs ≡ own c S = lib·snoc r.0 ∙ (ap (λ (y : List Passage). r.0 ++ y) (sym e) ∙ r.1) in
              (r.0 ++ (v ∷ []), subst (λ (n : ℕ). (r.0 ++ (v ∷ [])) ++ vs ≡ own n S) (sym (eqb-true d c q)) i)
            where
              lib·snoc : (l : List Passage) → (l ++ (v ∷ [])) ++ vs ≡ l ++ (v ∷ vs)
              lib·snoc [] = refl
              lib·snoc (y ∷ l) = ap (λ (z : List Passage). y ∷ z) (lib·snoc l)
          rest d l false q = g.rest d l

          fewer : (d : ℕ) → d < size T → (x : Passage) → x ∈ B d → x ∈ A d
          fewer d l x m = go (eqb d c) refl m
            where
              go : (t : Bool) → eqb d c ≡ t → x ∈ cond t vs (A d) → x ∈ A d
              go true q n = subst (λ (y : List Passage). x ∈ y) (sym (ap A (eqb-true d c q) ∙ e)) (there n)
              go false q n = n

      -- a receive that ends now has no message: its send would have ended before
      silent : listens (arc_of (component_of T c) v.edge) ≡ true → v.message ≡ none
      silent receive = go v.message refl
        where
          receive' : listens (passage_arc T v) ≡ true
          receive' = subst (λ (i : ℕ). listens (arc_of (component_of T i) v.edge) ≡ true) (sym o.1) receive

          present : v ∈ A v.component
          present = subst (λ (i : ℕ). v ∈ A i) (sym o.1) (subst (λ (l : List Passage). v ∈ l) (sym e) (here refl))

          go : (m : Option ℕ) → v.message ≡ m → m ≡ none
          go none q = refl
          go (some n) q =
              let s = sender_law 0 T H S (windows limit T H S sched) v n receive' (sym (all_in sched.messages o.0) ∙ q) in
              let i = (g.paired s.passage v s.listed o.0 s.sends s.hears).1 present in
              absurd (omega (arith, g.before s.passage.component (component_there limit T H S sched s.passage s.listed) s.passage i, s.later))

      -- a send that ends now: its partner is ahead, and takes the message
      module _ (n : ℕ) (channel : channel_of (arc_of (component_of T c) v.edge) ≡ some n) where
        ch : channel_of (passage_arc T v) ≡ some n
        ch = subst (λ (i : ℕ). channel_of (arc_of (component_of T i) v.edge) ≡ some n) (sym o.1) channel

        send : is_send T H v ≡ true
        send = (send_is T H v).1 (n, ch, omega (arith, (first_fits k).window))

        l : Listener 0 T S v
        l = heard_law 0 T H S ok v o.0 send

        abbrev r : Passage
        r = l.passage

        abbrev b : ℕ
        b = r.component

        hb : b < size T
        hb = component_there limit T H S sched r l.listed

        differ : c ≡ b → ⊥
        differ i = (others_is r v).0 ((hears_is 0 T r v).0 l.hears).1 (sym i ∙ sym o.1)

        partners : Partners T c v b r n
        partners =
            let q = (hears_is 0 T r v).0 l.hears in
            record {
              differ = differ;
              channel = channel;
              receives = q.0;
              named = subst (λ (x : Option ℕ). names (passage_arc T r) x ≡ true) ch q.2;
              message = heard_message limit T H S sched ok v r o.0 l.listed send l.hears ∙ ch;
            }

        present : r ∈ A b
        present = (g.paired v r o.0 l.listed send l.hears).0 (subst (λ (i : ℕ). v ∈ A i) (sym o.1) (subst (λ (x : List Passage). v ∈ x) (sym e) (here refl)))

        -- it is the first ahead
        first : (us : List Passage) × (A b ≡ r ∷ us)
        first = found (A b) refl present
          where
            found : (x : List Passage) → A b ≡ x → r ∈ x → (us : List Passage) × (A b ≡ r ∷ us)
            found [] i m = absurd (not_in m)
            found (w ∷ us) i (here q) = (us, i ∙ ap (λ (y : Passage). y ∷ us) (sym q))
            found (w ∷ us) i (there m) =
                absurd (omega (
                  arith,
                  later_ready (linked b hb w us i) r m,
                  g.before b hb w (subst (λ (y : List Passage). w ∈ y) (sym i) (here refl)),
                  l.earlier,
                  (first_fits k).window,
                ))

        abbrev us : List Passage
        us = first.0

        abbrev M : ℕ → List Passage
        M d = cond (eqb d c) vs (A d)

        abbrev B : ℕ → List Passage
        B d = cond (eqb d b) us (M d)

        first_m : M c ≡ vs
        first_m = rw (eq-eqb c c refl)

        kept_m : (d : ℕ) → d < size T → (d ≡ c → ⊥) → M d ≡ A d
        kept_m d y i = rw (ne_eqb d c i)

        first_b : B b ≡ us
        first_b = rw (eq-eqb b b refl)

        kept_b : (d : ℕ) → d < size T → (d ≡ b → ⊥) → B d ≡ M d
        kept_b d y i = rw (ne_eqb d b i)

        fewer₂ : (d : ℕ) → d < size T → (x : Passage) → x ∈ B d → x ∈ A d
        fewer₂ d y x m = go (eqb d b) refl (eqb d c) refl m
          where
            go : (t : Bool) → eqb d b ≡ t → (u : Bool) → eqb d c ≡ u → x ∈ cond t us (cond u vs (A d)) → x ∈ A d
            go true q u p i = subst (λ (z : List Passage). x ∈ z) (sym (ap A (eqb-true d b q) ∙ first.1)) (there i)
            go false q true p i = subst (λ (z : List Passage). x ∈ z) (sym (ap A (eqb-true d c p) ∙ e)) (there i)
            go false q false p i = i

        at₂ : ℕ → Option Passage
        at₂ d = cond (eqb d b) (some r) (cond (eqb d c) (some v) none)

        fires₂ : Fires T (two c b n τ) A B
        unfolding at₂
        fires₂ =
            record {
              at = at₂;
              moved = λ d y. moved d (eqb d b) refl (eqb d c) refl;
              timely = λ d y x p. timely x (eqb d b) (eqb d c) p;
              is = does-both c b n τ h hb v r (rw (ne_eqb c b differ, eq-eqb c c refl)) (rw (eq-eqb b b refl)) (λ d y i j. rw (ne_eqb d c i, ne_eqb d b j)) partners;
            }
          where
            moved : (d : ℕ) (t : Bool) → eqb d b ≡ t → (u : Bool) → eqb d c ≡ u → Moved (cond t (some r) (cond u (some v) none)) (A d) (cond t us (cond u vs (A d)))
            moved d true q u p = ap A (eqb-true d b q) ∙ first.1
            moved d false q true p = ap A (eqb-true d c p) ∙ e
            moved d false q false p = refl

            timely : (x : Passage) (t u : Bool) → cond t (some r) (cond u (some v) none) ≡ some x → (x.ready ≤ τ) × (τ ≤ x.end)
            timely x true u p =
                let i : r ≡ x = cc in
                let w = (first_fits k).window in
                (omega (arith, l.earlier, ap (λ (y : Passage). y.ready) i), omega (arith, l.later, ap (λ (y : Passage). y.end) i))
            timely x false true p =
                let i : v ≡ x = cc in
                let w = (first_fits k).window in
                (omega (arith, ap (λ (y : Passage). y.ready) i), omega (arith, ap (λ (y : Passage). y.end) i))
            timely x false false p = absurd (let z : ◌≡◌ {A = ℕ} 0 1 = cc in omega arith)

        rest₂ : (d : ℕ) → d < size T → (fin : List Passage) × (fin ++ B d ≡ own d S)
        rest₂ d y = go (eqb d b) refl (eqb d c) refl
          where
            snoc₂ : (z : List Passage) (x : Passage) (xs : List Passage) → (z ++ (x ∷ [])) ++ xs ≡ z ++ (x ∷ xs)
            snoc₂ [] x xs = refl
            snoc₂ (q ∷ z) x xs = ap (λ (j : List Passage). q ∷ j) (snoc₂ z x xs)

            one_off : (i : ℕ) → i < size T → (x : Passage) (xs : List Passage) → A i ≡ x ∷ xs → d ≡ i → (fin : List Passage) × (fin ++ xs ≡ own d S)
            one_off i z x xs p j =
                let q = g.rest i z in
                (q.0 ++ (x ∷ []), subst (λ (m : ℕ). (q.0 ++ (x ∷ [])) ++ xs ≡ own m S) (sym j) (snoc₂ q.0 x xs ∙ (ap (λ (f : List Passage). q.0 ++ f) (sym p) ∙ q.1)))

            go : (t : Bool) → eqb d b ≡ t → (u : Bool) → eqb d c ≡ u → (fin : List Passage) × (fin ++ cond t us (cond u vs (A d)) ≡ own d S)
            go true q u p = one_off b hb r us first.1 (eqb-true d b q)
            go false q true p = one_off c h v vs e (eqb-true d c p)
            go false q false p = g.rest d y

        with_partner : Turn τ A c
        with_partner =
            record {
              then' = B;
              works = two c b n τ ∷ [];
              comes = next fires₂ (stop (λ d y. refl));
              ahead =
                  record {
                    rest = rest₂;
                    before = λ d y x m. g.before d y x (fewer₂ d y x m);
                    paired =
                        paired_without limit T H S sched A B g.paired
                        (without_two limit T H S sched A M B (without_one limit T H S sched A M c v vs o.1 k e first_m kept_m)
                        (without_one limit T H S sched M B b r us refl (linked b hb r us first.1) (kept_m b hb (λ i. differ (sym i)) ∙ first.1) first_b kept_b))
                        (together_paired limit T H S sched ok v r o.0 l.listed send l.hears);
                  };
              fewer = fewer₂;
              later = λ x m. left_later x (subst (λ (z : List Passage). x ∈ z) (kept_b c h differ ∙ first_m) m);
              fills = more (record { there = h; node = refl; tick = refl; passage = v; among = subst (λ (z : List Passage). v ∈ z) (sym e) (here refl); ends = end }) empty;
            }

      -- what it does, by its edge
      pub turns : Turn τ A c
      turns = go (arc_of (component_of T c) v.edge).edge.action refl
        where
          go : (x : Action) → (arc_of (component_of T c) v.edge).edge.action ≡ x → Turn τ A c
          go Internal q = by_itself (internal q)
          go (Send n) q = with_partner n (ap sends q)
          go Receive q = by_itself (timeout q (silent (ap receives q)) (sym end))

    -- each component in turn
    pub turn : (c : ℕ) → c < size T → τ < H → Turn τ A c
    turn c h below = go (A c) refl
      where
        go : (xs : List Passage) → A c ≡ xs → Turn τ A c
        go [] e = quiet c (λ x m. absurd (not_in (subst (λ (l : List Passage). x ∈ l) e m)))
        go (v ∷ vs) e = by_end (eqb v.end τ) refl
          where
            by_end : (t : Bool) → eqb v.end τ ≡ t → Turn τ A c
            by_end true q = turns c h v vs e (eqb-true v.end τ q) below
            by_end false q = quiet c (λ x m. later x (subst (λ (l : List Passage). x ∈ l) e m))
              where
                first : τ < v.end
                first = omega (arith, eqb-false v.end τ q, g.before c h v (subst (λ (l : List Passage). v ∈ l) (sym e) (here refl)))

                later : (x : Passage) → x ∈ (v ∷ vs) → τ < x.end
                later x (here i) = omega (arith, first, ap (λ (y : Passage). y.end) i)
                later x (there i) = omega (arith, first, later_ready (linked c h v vs e) x i, (each_fits (linked c h v vs e) x (there i)).window)
