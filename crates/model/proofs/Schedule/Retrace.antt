-- The schedule's loop goes along a schedule as specs/Chains.antt says it: each next passage is the one that the loop opens. Assumes nothing.
use mathlib.Core.Path.{◌≡◌, refl, sym, ap, ap₂, subst, ◌∙◌}
use mathlib.Core.Bool.{cond}
use mathlib.Core.List.{List, [], ◌∷◌, ◌++◌, map, append-nil}
use mathlib.Core.Option.{Option, none, some}
use mathlib.Core.Logic.{inl, inr}
use Prim.Native.Nat.{ℕ, zero, suc, ◌≤◌, ◌<◌}
use native.Mathlib.Omega.{arith}
use borrow.Author.Tests.{lt-ltb, le-ltb}
use lib.ListN.{length, get_or, set, length-set, length-map}
use lib.Seq.{append_snoc}
use Rattle.model.specs.Lists.{◌∈◌, here, All, more, snoc, Answer, accepted, ◌after◌}
use Rattle.model.specs.Table.{Component, Table, size, component_of, arc_of}
use Rattle.model.specs.Window.{channel_of, leaves}
use Rattle.model.specs.Schedule.{Passage, passage_arc, own, message_in, opening, next, closing, while_below, go_on, OpenedSoFar}
use Rattle.model.specs.Schedule.{opened as Opening-of}
use Rattle.model.specs.Checks.{no_passage, passage_at}
use Rattle.model.specs.Chains.{Opens, Chain, last, link, Before, Ordered}
use Rattle.model.specs.Chains.{more as first-passage}
use Rattle.model.proofs.Schedule.Passages.{opens_follows, before_tick}
use Rattle.model.proofs.Schedule.Soonest.{EndsBefore, next_closes, closes_next}
use Rattle.model.proofs.Schedule.Messages.{put, same_message, message_put, message_bare}
use Rattle.model.proofs.Schedule.Own.{at_set, all_in, in_all, own_here, own_other, own_in}

-- ## Lists

module _ {A B : Type 0} (f : A → B) where
  -- element i after f
  pub at_map : (xs : List A) (i : ℕ) (d : A) (e : B) → i < length xs → get_or (map f xs) i e ≡ f (get_or xs i d)
  at_map [] i d e h = absurd (omega arith)
  at_map (x ∷ xs) zero d e h = refl
  at_map (x ∷ xs) (suc i) d e h = at_map xs i d e (omega arith)

  -- one more at the end, after f
  pub map_snoc : (xs : List A) (x : A) → map f (snoc xs x) ≡ snoc (map f xs) (f x)
  map_snoc [] x = refl
  map_snoc (y ∷ xs) x = ap (λ l. f y ∷ l) (map_snoc xs x)

  -- one stored, after f
  pub map_set : (xs : List A) (i : ℕ) (x : A) → map f (set xs i x) ≡ set (map f xs) i (f x)
  map_set [] i x = refl
  map_set (y ∷ xs) zero x = refl
  map_set (y ∷ xs) (suc i) x = ap (λ l. f y ∷ l) (map_set xs i x)

-- ## Chains taken apart

module _ {H c : ℕ} {C : Component} where
  -- a chain of one reaches the horizon
  pub chain_last : {v : Passage} → Chain H c C v [] → H ≤ v.end
  chain_last (last h) = h

  -- a longer chain
  pub chain_link : {v w : Passage} {ws : List Passage} → Chain H c C v (w ∷ ws)
      → (v.end < H) × Opens c C (leaves (arc_of C v.edge) v.message v.end v.entry) w × Chain H c C w ws
  chain_link (link h o k) = (h, o, k)

-- ## One turn

-- where what closes next is not below H the loop stops
while_stops : (H : ℕ) (on : Passage → Answer (List Passage)) (vs : List Passage) (o : Option Passage) → ((v : Passage) → o ≡ some v → H ≤ v.end) → while_below H on vs o ≡ accepted vs
while_stops H on vs none f = refl
while_stops H on vs (some v) f = ap (λ t. cond t (on v) (accepted vs)) (le-ltb v.end H (f v refl))

-- where it is below H the loop goes on
while_goes : (H : ℕ) (on : Passage → Answer (List Passage)) (vs : List Passage) (v : Passage) → v.end < H → while_below H on vs (some v) ≡ on v
while_goes H on vs v h = ap (λ t. cond t (on v) (accepted vs)) (lt-ltb v.end H h)

module _ (T : Table) (H : ℕ) (S : List Passage) where
  -- the passage as it is opened, its message not yet sought
  abbrev pub bare : Passage → Passage
  bare v = put (λ x. channel_of (passage_arc T x)) v

  -- what is known of each passage
  pub record Fine (v : Passage) : Type 0 where
    pub component : v.component < size T
    pub wide : v.entry.tick < v.end
    pub message : v.message ≡ message_in T H S v

  -- the loop has opened P, of which cur are open, and has yet to open rest
  pub record Along (room : ℕ) (P cur rest : List Passage) : Type 0 where
    pub split : S ≡ P ++ rest
    pub full : length cur ≡ size T
    pub each : (c : ℕ) → c < size T → (passage_at cur c).component ≡ c
    pub message : (c : ℕ) → c < size T → (passage_at cur c).message ≡ message_in T H S (passage_at cur c)
    pub chains : (c : ℕ) → c < size T → Chain H c (component_of T c) (passage_at cur c) (own c rest)
    pub fine : All Fine rest
    pub order : Ordered rest
    pub few : length rest ≤ room

  -- nothing is left to open: the loop stops
  ends : (room : ℕ) (P cur : List Passage) → Along room P cur [] → (v : Passage) → next (map bare cur) ≡ some v → H ≤ v.end
  ends room P cur a v e =
      let k = next_closes (map bare cur) e in
      let h : k.place < length cur = omega (arith, k.there, length-map cur bare) in
      let q : v ≡ bare (passage_at cur k.place) = k.is ∙ at_map bare cur k.place no_passage no_passage h in
      subst (λ (x : Passage). H ≤ x.end) (sym q) (chain_last (a.chains k.place (omega (arith, a.full))))

  -- w is the next to open
  module _ (room : ℕ) (P cur : List Passage) (w : Passage) (rest : List Passage) (before : All (Before w) rest) (o : Ordered rest) (fw : Fine w) (fr : All Fine rest)
      (a : Along (suc room) P cur (w ∷ rest)) where
    -- w's component
    abbrev i : ℕ
    i = w.component

    -- its open passage
    abbrev v : Passage
    v = passage_at cur i

    -- it is there
    hi : i < length cur
    hi = omega (arith, fw.component, a.full)

    -- v's chain goes on with w
    linked : (v.end < H) × Opens i (component_of T i) (leaves (arc_of (component_of T i) v.edge) v.message v.end v.entry) w × Chain H i (component_of T i) w (own i rest)
    linked = chain_link (subst (Chain H i (component_of T i) v) (own_here i w rest refl) (a.chains i fw.component))

    -- w is entered at v's end
    w_entry : w.entry.tick ≡ v.end
    w_entry = (opens_follows H i (component_of T i) v w linked.0 linked.1).tick

    -- the passages yet to open, of another component
    other : (j : ℕ) → (j ≡ i → ⊥) → own j (w ∷ rest) ≡ own j rest
    other j n = own_other j w rest (λ e. n (sym e))

    -- v ends before every other open passage
    ends_before : (j : ℕ) → j < size T → (j ≡ i → ⊥) → EndsBefore v (passage_at cur j)
    ends_before j h n = go (own j rest) refl (subst (Chain H j (component_of T j) (passage_at cur j)) (other j n) (a.chains j h))
      where
        go : (ws : List Passage) → own j rest ≡ ws → Chain H j (component_of T j) (passage_at cur j) ws → EndsBefore v (passage_at cur j)
        go [] e k = inl (omega (arith, linked.0, chain_last k))
        go (x ∷ ws) e k =
            let t = opens_follows H j (component_of T j) (passage_at cur j) x (chain_link k).0 (chain_link k).1 in
            let b : Before w x = all_in before (own_in j rest (subst (λ l. x ∈ l) (sym e) (here refl))).0 in
            elim b [ inl q ↦ inl (omega (arith, q, t.tick, w_entry)) | inr q ↦ inr (omega (arith, q.0, t.tick, w_entry), omega (arith, q.1, t.component, a.each i fw.component, a.each j h)) ]

    -- v is what closes next
    closes : next (map bare cur) ≡ some (bare v)
    closes =
        closes_next (map bare cur) i (omega (arith, length-map cur bare, hi))
        (λ j h n. (let k : j < length cur = omega (arith, length-map cur bare) in
        subst (λ x. EndsBefore x (passage_at (map bare cur) j)) (sym (at_map bare cur i no_passage no_passage hi))
        (subst (EndsBefore (bare v)) (sym (at_map bare cur j no_passage no_passage k)) (ends_before j (omega (arith, a.full)) n))))
        ∙ ap some (at_map bare cur i no_passage no_passage hi)

    -- what is yet to open ends no earlier than v
    no_earlier : All (λ s. v.end ≤ s.end) (w ∷ rest)
    no_earlier = more {x = w} (omega (arith, fw.wide, w_entry)) (in_all rest (λ x m. omega (arith, before_tick w x (all_in before m), (all_in fr m).wide, w_entry)))

    -- v's message is found among what is open or closed
    found : message_in T H (map bare P) (bare v) ≡ v.message
    found =
        message_bare T H (map bare P) v (channel_of (passage_arc T v)) ∙ message_put (λ x. channel_of (passage_arc T x)) T H P v
        ∙ sym (ap (λ l. message_in T H l v) a.split ∙ same_message T H v P no_earlier) ∙ sym (a.message i fw.component)

    -- w opens
    opens : opening v.component (component_of T v.component) (closing T H (map bare P) (bare v)) ≡ accepted (bare w)
    opens =
        ap (λ m. opening v.component (component_of T v.component) (leaves (passage_arc T v) m v.end v.entry)) found
        ∙ ap (λ n. opening n (component_of T n) (leaves (arc_of (component_of T n) v.edge) v.message v.end v.entry)) (a.each i fw.component)
        ∙ linked.1

    -- what holds of w, and of every other open passage as before, holds of those now open
    now : (Q : ℕ → Passage → Type 0) → Q i w → ((c : ℕ) → c < size T → (c ≡ i → ⊥) → Q c (passage_at cur c)) → (c : ℕ) → c < size T → Q c (passage_at (set cur i w) c)
    now Q q f c h = at_set cur i w hi Q q c (f c h)

    -- the loop goes on with what is left
    goes : Along room (snoc P w) (set cur i w) rest
    goes =
        record {
          split = a.split ∙ sym (append_snoc P w rest);
          full = length-set cur i w ∙ a.full;
          each = now (λ c x. x.component ≡ c) refl (λ c h n. a.each c h);
          message = now (λ c x. x.message ≡ message_in T H S x) fw.message (λ c h n. a.message c h);
          chains = now (λ c x. Chain H c (component_of T c) x (own c rest)) linked.2 (λ c h n. subst (Chain H c (component_of T c) (passage_at cur c)) (other c n) (a.chains c h));
          fine = fr;
          order = o;
          few = omega (arith, a.few);
        }

    -- the passages after w opened
    planned : Opening-of (record { listed = map bare P; current = map bare cur }) (bare w) ≡ record { listed = map bare (snoc P w); current = map bare (set cur i w) }
    planned = ap₂ (λ (l k : List Passage). record { listed = l; current = k }) (sym (map_snoc bare P w)) (sym (map_set bare cur i w))

    -- one turn of the loop
    turn : go_on T H (suc room) (record { listed = map bare P; current = map bare cur }) ≡ go_on T H room (record { listed = map bare (snoc P w); current = map bare (set cur i w) })
    unfolding go_on
    turn =
        ap (while_below H on (map bare P)) closes ∙ while_goes H on (map bare P) (bare v) linked.0 ∙ ap (λ r. r after λ x. go_on T H room (Opening-of p x)) opens
        ∙ ap (go_on T H room) planned
      where
        p : OpenedSoFar
        p = record { listed = map bare P; current = map bare cur }

        on : Passage → Answer (List Passage)
        on x = opening x.component (component_of T x.component) (closing T H (map bare P) x) after λ y. go_on T H room (Opening-of p y)

  -- the whole loop
  pub retrace : (room : ℕ) (P cur rest : List Passage) → Along room P cur rest → go_on T H room (record { listed = map bare P; current = map bare cur }) ≡ accepted (map bare S)
  unfolding go_on
  retrace zero P cur [] a = while_stops H _ (map bare P) (next (map bare cur)) (ends zero P cur a) ∙ ap (λ l. accepted (map bare l)) (sym (a.split ∙ append-nil P))
  retrace (suc room) P cur [] a = while_stops H _ (map bare P) (next (map bare cur)) (ends (suc room) P cur a) ∙ ap (λ l. accepted (map bare l)) (sym (a.split ∙ append-nil P))
  retrace zero P cur (w ∷ rest) a = absurd (omega (arith, a.few))
  retrace (suc room) P cur (w ∷ rest) a = go (λ x. retrace room (snoc P w) (set cur w.component w) rest x) a.order a.fine
    where
      go : (Along room (snoc P w) (set cur w.component w) rest
          → go_on T H room (record { listed = map bare (snoc P w); current = map bare (set cur w.component w) }) ≡ accepted (map bare S)) → Ordered (w ∷ rest) → All Fine (w ∷ rest)
          → go_on T H (suc room) (record { listed = map bare P; current = map bare cur }) ≡ accepted (map bare S)
      go ih (first-passage b o) (more f fs) = turn room P cur w rest b o f fs a ∙ ih (goes room P cur w rest b o f fs a)
