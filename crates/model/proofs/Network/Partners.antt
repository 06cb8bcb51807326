-- Sends and the receives that hear them: on a passing of the network the work of both is finished, or of neither. Assumes nothing.
use mathlib.Core.Path.{◌≡◌, refl, sym, ap, subst, ◌∙◌}
use mathlib.Core.Logic.{◌↔◌, ◌⊎◌, inl, inr}
use mathlib.Core.Bool.{Bool, true, false}
use mathlib.Core.List.{List, ◌∷◌}
use mathlib.Core.Option.{some}
use Prim.Native.Nat.{ℕ, ◌+◌, ◌≤◌, ◌<◌}
use native.Mathlib.Omega.{arith}
use borrow.Author.Tests.{eqb-true, eqb-false, le-leb}
use lib.Dec.{eqb}
use Rattle.model.specs.Lists.{◌∈◌, here, there, accepted}
use Rattle.model.specs.Table.{Table, size, component_of, arc_of}
use Rattle.model.specs.Window.{sends, receives, channel_of, listens}
use Rattle.model.specs.Schedule.{Passage, passage_arc, own, names, others}
use Rattle.model.specs.Checks.{near, is_send, is_receive, may_hear, checked}
use Rattle.model.specs.Chains.{IsSchedule}
use Rattle.model.proofs.Basics.Bools.{clash}
use Rattle.model.proofs.Reader.Parts.{some_clash}
use Rattle.model.proofs.Checks.Heard.{Windows, send_is, hears_is, others_is, heard_law, single_law, message_law}
use Rattle.model.proofs.Schedule.Own.{all_in, in_own}
use Rattle.model.proofs.Network.Passage.{Fits}
use Rattle.model.proofs.Network.Links.{Links, first_fits, each_fits, later_ready, schedule_linked}
use Rattle.model.proofs.Network.Steps.{Alone, internal, timeout, sends_only}

-- ## Passages that are no longer ahead

-- B is A without those passages of S of which P holds
pub record Without (S : List Passage) (A B : ℕ → List Passage) (P : Passage → Type 0) : Type 0 where
  pub back : (x : Passage) → x ∈ S → x ∈ B x.component → x ∈ A x.component
  pub split : (x : Passage) → x ∈ S → x ∈ A x.component → P x ⊎ (x ∈ B x.component)
  pub gone : (x : Passage) → x ∈ S → P x → x ∈ B x.component → ⊥

module _ (limit : ℕ) (T : Table) (H : ℕ) (S : List Passage) (sched : IsSchedule limit T H S) where
  -- the component of a passage is there
  pub component_there : (x : Passage) → x ∈ S → x.component < size T
  component_there x m = all_in sched.present m

  -- each passage of a schedule fits
  pub fits_in : (x : Passage) → x ∈ S → Fits (component_of T x.component) x
  fits_in x m =
      let k = schedule_linked limit T H S sched x.component (component_there x m) in
      each_fits k.linked x (subst (λ (l : List Passage). x ∈ l) k.is (in_own m))

  -- every window has a tick
  pub windows : Windows S
  windows x m = omega (arith, (fits_in x m).window)

  -- the first passage ahead of one component is taken away
  pub without_one : (A B : ℕ → List Passage) (c : ℕ) (v : Passage) (vs : List Passage) → v.component ≡ c → Links H (component_of T c) v vs → A c ≡ v ∷ vs → B c ≡ vs
      → ((d : ℕ) → d < size T → (d ≡ c → ⊥) → B d ≡ A d) → Without S A B (λ x. x ≡ v)
  without_one A B c v vs own_c k ea eb other =
      record {
        back = λ x m i. back x m i (eqb x.component c) refl;
        split = λ x m i. split x m i (eqb x.component c) refl;
        gone = λ x m e i. gone (subst (λ (y : Passage). y ∈ B y.component) e i);
      }
    where
      at : (x : Passage) → eqb x.component c ≡ true → x.component ≡ c
      at x q = eqb-true x.component c q

      off : (x : Passage) → x ∈ S → eqb x.component c ≡ false → B x.component ≡ A x.component
      off x m q = other x.component (component_there x m) (eqb-false x.component c q)

      back : (x : Passage) → x ∈ S → x ∈ B x.component → (t : Bool) → eqb x.component c ≡ t → x ∈ A x.component
      back x m i true q =
          let j : x ∈ vs = subst (λ (l : List Passage). x ∈ l) (ap B (at x q) ∙ eb) i in
          subst (λ (l : List Passage). x ∈ l) (sym (ap A (at x q) ∙ ea)) (there j)
      back x m i false q = subst (λ (l : List Passage). x ∈ l) (off x m q) i

      first : (x : Passage) → x.component ≡ c → x ∈ (v ∷ vs) → (x ≡ v) ⊎ (x ∈ B x.component)
      first x j (here e) = inl e
      first x j (there n) = inr (subst (λ (l : List Passage). x ∈ l) (sym (ap B j ∙ eb)) n)

      split : (x : Passage) → x ∈ S → x ∈ A x.component → (t : Bool) → eqb x.component c ≡ t → (x ≡ v) ⊎ (x ∈ B x.component)
      split x m i true q = first x (at x q) (subst (λ (l : List Passage). x ∈ l) (ap A (at x q) ∙ ea) i)
      split x m i false q = inr (subst (λ (l : List Passage). x ∈ l) (sym (off x m q)) i)

      gone : v ∈ B v.component → ⊥
      gone i =
          let n : v ∈ vs = subst (λ (l : List Passage). v ∈ l) (ap B own_c ∙ eb) i in
          omega (arith, later_ready k v n, (first_fits k).window)

  -- one after the other
  pub without_two : (A B D : ℕ → List Passage) {P Q : Passage → Type 0} → Without S A B P → Without S B D Q → Without S A D (λ x. P x ⊎ Q x)
  without_two A B D a b =
      record {
        back = λ x m i. a.back x m (b.back x m i);
        split = λ x m i. elim (a.split x m i) [
          | inl p ↦ inl (inl p)
          | inr j ↦ elim (b.split x m j) [ inl q ↦ inl (inr q) | inr k ↦ inr k ]
        ];
        gone = λ x m e i. elim e [ inl p ↦ a.gone x m p (b.back x m i) | inr q ↦ b.gone x m q i ];
      }

  -- ## Pairs

  -- a send below the horizon and a receive that hears it: both are ahead, or neither is
  abbrev pub Paired : (ℕ → List Passage) → Type 0
  Paired A = (s r : Passage) → s ∈ S → r ∈ S → is_send T H s ≡ true → may_hear 0 T r s ≡ true → (s ∈ A s.component) ↔ (r ∈ A r.component)

  -- so at the start
  pub paired_start : Paired (λ c. own c S)
  paired_start s r ms mr es h = (λ i. in_own mr, λ i. in_own ms)

  -- so where both of a pair are taken away, or neither is
  pub paired_without : (A B : ℕ → List Passage) {P : Passage → Type 0} → Paired A → Without S A B P
      → ((s r : Passage) → s ∈ S → r ∈ S → is_send T H s ≡ true → may_hear 0 T r s ≡ true → P s ↔ P r) → Paired B
  paired_without A B {P} p w both s r ms mr es h = (
    λ i. elim (w.split r mr ((p s r ms mr es h).0 (w.back s ms i))) [
      | inl q ↦ absurd (w.gone s ms ((both s r ms mr es h).1 q) i)
      | inr j ↦ j
    ],
    λ i. elim (w.split s ms ((p s r ms mr es h).1 (w.back r mr i))) [
      | inl q ↦ absurd (w.gone r mr ((both s r ms mr es h).0 q) i)
      | inr j ↦ j
    ],
  )

  module _ (ok : checked 0 T H S ≡ accepted S) where
    -- the message of a receive that hears a send is a channel
    pub heard_message : (s r : Passage) → s ∈ S → r ∈ S → is_send T H s ≡ true → may_hear 0 T r s ≡ true → r.message ≡ channel_of (passage_arc T s)
    heard_message s r ms mr es h =
        let l = heard_law 0 T H S ok s ms es in
        let e : r ≡ l.passage = l.unique r mr h in
        let early : r.ready < s.ready = omega (arith, l.earlier, ap (λ (x : Passage). x.ready) e) in
        let late : s.end < r.end = omega (arith, l.later, ap (λ (x : Passage). x.end) e) in
        all_in sched.messages mr ∙ message_law 0 T H S windows ok s r ms mr es h early late

    -- a passage whose work is finished alone is in no pair
    pub alone_unpaired : (τ : ℕ) (v : Passage) → v ∈ S → Alone (component_of T v.component) τ v → (s r : Passage) → s ∈ S → r ∈ S → is_send T H s ≡ true → may_hear 0 T r s ≡ true
        → (s ≡ v) ↔ (r ≡ v)
    alone_unpaired τ v m a s r ms mr es h = (
      λ e. absurd (not_send a (subst (λ (x : Passage). is_send T H x ≡ true) e es)),
      λ e. absurd (not_heard a e),
    )
      where
        k : (j : ℕ) × (channel_of (passage_arc T s) ≡ some j) × (s.ready < H)
        k = (send_is T H s).0 es

        not_send : Alone (component_of T v.component) τ v → is_send T H v ≡ true → ⊥
        not_send (internal e) f = some_clash (sym ((send_is T H v).0 f).1 ∙ ap sends e)
        not_send (timeout e n t) f = some_clash (sym ((send_is T H v).0 f).1 ∙ ap sends e)

        not_heard : Alone (component_of T v.component) τ v → r ≡ v → ⊥
        not_heard (internal e) i =
            let l : listens (passage_arc T v) ≡ true = subst (λ (x : Passage). is_receive T x ≡ true) i ((hears_is 0 T r s).0 h).0 in
            clash (sym (ap receives e) ∙ l)
        not_heard (timeout e n t) i = some_clash (sym (ap (λ (x : Passage). x.message) (sym i) ∙ heard_message s r ms mr es h ∙ k.1) ∙ n)

    -- a send and a receive that finish together are a pair, and in no other
    pub together_paired : (v w : Passage) → v ∈ S → w ∈ S → is_send T H v ≡ true → may_hear 0 T w v ≡ true
        → (s r : Passage) → s ∈ S → r ∈ S → is_send T H s ≡ true → may_hear 0 T r s ≡ true → ((s ≡ v) ⊎ (s ≡ w)) ↔ ((r ≡ v) ⊎ (r ≡ w))
    together_paired v w mv mw ev hw s r ms mr es h = (
      λ e. elim e [
        | inl i ↦
            let l = heard_law 0 T H S ok v mv ev in
            inr (l.unique r mr (subst (λ (x : Passage). may_hear 0 T r x ≡ true) i h) ∙ sym (l.unique w mw hw))
        | inr i ↦ absurd (not_both w (subst (λ (x : Passage). is_send T H x ≡ true) i es) ((hears_is 0 T w v).0 hw).0)
      ],
      λ e. elim e [
        | inl i ↦ absurd (not_both v ev (subst (λ (x : Passage). is_receive T x ≡ true) i ((hears_is 0 T r s).0 h).0))
        | inr i ↦ inl (single_law 0 T H S ok w s v mw ms mv es ev (subst (λ (x : Passage). may_hear 0 T x s ≡ true) i h) hw)
      ],
    )
      where
        not_both : (x : Passage) → is_send T H x ≡ true → is_receive T x ≡ true → ⊥
        not_both x f g = let c = (send_is T H x).0 f in clash (sym (sends_only (passage_arc T x) c.0 c.1) ∙ g)

    -- a passage in its send window, and one in its receive window that names the channel: the second hears the first
    pub hears_now : (τ a b k : ℕ) (v w : Passage) → v ∈ S → w ∈ S → v.component ≡ a → w.component ≡ b → (a ≡ b → ⊥)
        → channel_of (arc_of (component_of T a) v.edge) ≡ some k → listens (arc_of (component_of T b) w.edge) ≡ true
        → names (arc_of (component_of T b) w.edge) (some k) ≡ true → v.ready ≤ τ → τ ≤ v.end → w.ready ≤ τ → τ ≤ w.end → τ < H
        → (is_send T H v ≡ true) × (may_hear 0 T w v ≡ true)
    hears_now τ a b k v w mv mw ca cb ne ch li na r₁ e₁ r₂ e₂ below =
        let ch' : channel_of (passage_arc T v) ≡ some k = subst (λ (c : ℕ). channel_of (arc_of (component_of T c) v.edge) ≡ some k) (sym ca) ch in
        let li' : listens (passage_arc T w) ≡ true = subst (λ (c : ℕ). listens (arc_of (component_of T c) w.edge) ≡ true) (sym cb) li in
        let na' : names (passage_arc T w) (some k) ≡ true = subst (λ (c : ℕ). names (arc_of (component_of T c) w.edge) (some k) ≡ true) (sym cb) na in
        let share : near 0 w v ≡ true = rw (le-leb w.ready (v.end + 0) (omega arith), le-leb v.ready (w.end + 0) (omega arith)) in
        let other : others w v ≡ true = (others_is w v).1 (λ e. ne (sym ca ∙ sym e ∙ cb)) in (
          (send_is T H v).1 (k, ch', omega arith),
          (hears_is 0 T w v).1 (li', other, ap (names (passage_arc T w)) ch' ∙ na', share),
        )
