-- What the schedule's loop adds: chains, in the order of opening, with the messages of the finished list. Assumes nothing.
use mathlib.Core.Path.{◌≡◌, refl, sym, ap, subst, ◌∙◌}
use mathlib.Core.Bool.{Bool, true, false, cond}
use mathlib.Core.List.{List, [], ◌∷◌, ◌++◌, map, append-nil}
use mathlib.Core.Option.{Option, none, some}
use mathlib.Core.Logic.{◌⊎◌, inl, inr, by_cases}
use Prim.Native.Nat.{ℕ, zero, suc, ◌≤◌, ◌<◌}
use native.Mathlib.Omega.{arith}
use native.Mathlib.Decide.{ℕ_discrete}
use borrow.Author.Tests.{ltb-true, ltb-false}
use lib.Dec.{ltb}
use lib.ListN.{length, set, length-set}
use lib.Seq.{append_snoc, get_or-set_same, get_or-set_other}
use Rattle.model.specs.Lists.{All, empty, more, Answer, accepted, refused, ◌after◌}
use Rattle.model.specs.Table.{Table, size, component_of, arc_of}
use Rattle.model.specs.Window.{Entry, leaves}
use Rattle.model.specs.Schedule.{Passage, own, message_in, with_message, opening, next, closing, while_below, go_on, OpenedSoFar}
use Rattle.model.specs.Schedule.{opened as Opening-of}
use Rattle.model.specs.Checks.{no_passage, passage_at}
use Rattle.model.specs.Chains.{Opens, Chain, last, link, Before, Ordered}
use Rattle.model.specs.Chains.{none as no-passage, more as first-passage}
use Rattle.model.proofs.Reader.Parts.{refused_clash, accepted_same, after_ok, some_clash}
use Rattle.model.proofs.Window.Opening.{Opened, opened}
use Rattle.model.proofs.Schedule.Soonest.{NoLater, Closes, next_closes, next_none}
use Rattle.model.proofs.Schedule.Messages.{same_message, put}
use Rattle.model.proofs.Schedule.Own.{at_set, own_here, own_other}

-- the loop accepts: it stops where it stands, or a passage closes below H and what follows accepts
pub while_ok : (H : ℕ) (on : Passage → Answer (List Passage)) (vs : List Passage) (o : Option Passage) {W : List Passage} → while_below H on vs o ≡ accepted W
    → ((vs ≡ W) × ((v : Passage) → o ≡ some v → H ≤ v.end)) ⊎ ((v : Passage) × (o ≡ some v) × (v.end < H) × (on v ≡ accepted W))
while_ok H on vs none e = inl (accepted_same e, λ v q. some_clash (sym q))
while_ok H on vs (some v) {W} e = go (ltb v.end H) refl e
  where
    go : (t : Bool) → ltb v.end H ≡ t → cond t (on v) (accepted vs) ≡ accepted W
        → ((vs ≡ W) × ((x : Passage) → some v ≡ some x → H ≤ x.end)) ⊎ ((x : Passage) × (some v ≡ some x) × (x.end < H) × (on x ≡ accepted W))
    go true t h = inr (v, refl, ltb-true v.end H t, h)
    go false t h = inl (accepted_same h, λ x q. (let z : v ≡ x = cc in subst (λ (y : Passage). H ≤ y.end) z (ltb-false v.end H t)))

-- u opened before x ends: at an earlier tick, or at the same tick in a component of a lower number
abbrev pub Earlier : Passage → Passage → Type 0
Earlier u x = (u.entry.tick < x.end) ⊎ ((u.entry.tick ≡ x.end) × (u.component < x.component))

module _ (T : Table) (H : ℕ) where
  -- the passage with the message that is sought among those
  abbrev pub told : List Passage → Passage → Passage
  told W v = put (message_in T H W) v

  -- one passage of each component is open
  pub record Sound (p : OpenedSoFar) : Type 0 where
    pub full : length p.current ≡ size T
    pub each : (c : ℕ) → c < size T → (passage_at p.current c).component ≡ c

  -- what the loop adds to the passages opened so far, with so much room
  pub record Added (room : ℕ) (p : OpenedSoFar) (W : List Passage) : Type 0 where
    pub more : List Passage
    pub is : W ≡ p.listed ++ more
    pub few : length more ≤ room
    pub present : All (λ v. v.component < size T) more
    pub late : (m : ℕ) → ((c : ℕ) → c < size T → m ≤ (passage_at p.current c).end) → All (λ v. m ≤ v.end) more
    pub later : (u : Passage) → ((c : ℕ) → c < size T → Earlier u (passage_at p.current c)) → All (Before u) more
    pub order : Ordered more
    pub chains : (c : ℕ) → c < size T → Chain H c (component_of T c) (told W (passage_at p.current c)) (map (told W) (own c more))

  -- the loop stops: every open passage reaches H
  stops : (room : ℕ) (p : OpenedSoFar) → ((c : ℕ) → c < size T → H ≤ (passage_at p.current c).end) → Added room p p.listed
  stops room p h =
      record {
        more = [];
        is = sym (append-nil p.listed);
        few = omega arith;
        present = empty;
        late = λ m f. empty;
        later = λ u f. empty;
        order = no-passage;
        chains = λ c k. last (h c k);
      }

  -- one turn: v, the open passage of component i, closes; w opens
  module _ (p : OpenedSoFar) (s : Sound p) (v w : Passage) (k : Closes p.current v) (i : ℕ) (at : k.place ≡ i) (below : v.end < H)
      (o : opening i (component_of T i) (closing T H p.listed v) ≡ accepted w) where
    -- the component is there
    hi : i < size T
    hi = omega (arith, s.full, k.there)

    -- v is its open passage
    is_v : v ≡ passage_at p.current i
    is_v = k.is ∙ ap (passage_at p.current) at

    -- v is of the component
    v_component : v.component ≡ i
    v_component = ap (λ (x : Passage). x.component) is_v ∙ s.each i hi

    -- what the opening says of w
    w_opened : Opened i (component_of T i) (closing T H p.listed v) w
    w_opened = opened i (component_of T i) (closing T H p.listed v) o

    -- w is entered at v's end
    w_entry : w.entry.tick ≡ v.end
    unfolding leaves
    w_entry = ap (λ (x : Entry). x.tick) w_opened.entry

    -- w ends after v
    w_end : v.end < w.end
    w_end = omega (arith, w_entry, ap (λ (x : Entry). x.tick) w_opened.entry, w_opened.early, w_opened.wide)

    -- w is the component's open passage now
    here : passage_at (set p.current w.component w) i ≡ w
    here = subst (λ n. passage_at (set p.current n w) i ≡ w) (sym w_opened.component) (get_or-set_same p.current i w no_passage (omega (arith, s.full, hi)))

    -- the open passages of the others are as before
    there : (c : ℕ) → (c ≡ i → ⊥) → passage_at (set p.current w.component w) c ≡ passage_at p.current c
    there c n = subst (λ m. passage_at (set p.current m w) c ≡ passage_at p.current c) (sym w_opened.component) (get_or-set_other p.current i c w no_passage n)

    -- what holds of w, and of every other open passage as before, holds of those now open
    now : (P : ℕ → Passage → Type 0) → P i w → ((c : ℕ) → c < size T → (c ≡ i → ⊥) → P c (passage_at p.current c))
        → (c : ℕ) → c < size T → P c (passage_at (set p.current w.component w) c)
    now P a f c h =
        subst (λ m. P c (passage_at (set p.current m w) c)) (sym w_opened.component) (at_set p.current i w (omega (arith, s.full, hi)) P a c (f c h))

    -- one passage of each component is open again
    sound : Sound (Opening-of p w)
    sound = record { full = length-set p.current w.component w ∙ s.full; each = now (λ c x. x.component ≡ c) w_opened.component (λ c h n. s.each c h) }

    module _ (room : ℕ) (W : List Passage) (a : Added room (Opening-of p w) W) where
      -- w is the first of those added
      is' : W ≡ p.listed ++ (w ∷ a.more)
      is' = a.is ∙ append_snoc p.listed w a.more

      -- w and all after it end no earlier than any m that the open passages reach
      late' : (m : ℕ) → ((c : ℕ) → c < size T → m ≤ (passage_at p.current c).end) → All (λ x. m ≤ x.end) (w ∷ a.more)
      late' m f =
          let e : m ≤ v.end = subst (λ (x : Passage). m ≤ x.end) (sym is_v) (f i hi) in
          more {x = w} (omega (arith, w_end)) (a.late m (now (λ c x. m ≤ x.end) (omega (arith, w_end)) (λ c h n. f c h)))

      -- who opened before v ends opened before w
      first : (u : Passage) → Earlier u v → Before u w
      first u (inl q) = inl (omega (arith, w_entry))
      first u (inr q) = inr (q.0 ∙ sym w_entry, omega (arith, q.1, v_component, w_opened.component))

      -- who opened before v ends opened before w ends
      soon : (u : Passage) → Earlier u v → Earlier u w
      soon u (inl q) = inl (omega (arith, w_end))
      soon u (inr q) = inl (omega (arith, q.0, w_end))

      -- who opened before the open passages end opened before w and all after it
      later' : (u : Passage) → ((c : ℕ) → c < size T → Earlier u (passage_at p.current c)) → All (Before u) (w ∷ a.more)
      later' u f =
          let e : Earlier u v = subst (Earlier u) (sym is_v) (f i hi) in
          more (first u e) (a.later u (now (λ c x. Earlier u x) (soon u e) (λ c h n. f c h)))

      -- every other open passage closes later than v
      others_later : (c : ℕ) → c < size T → (c ≡ i → ⊥) → Earlier w (passage_at p.current c)
      others_later c h n =
          let x = passage_at p.current c in
          let l : NoLater v x = k.first c (omega (arith, s.full)) in
          by_cases (ℕ_discrete v.end x.end)
          (λ q. inr (w_entry ∙ q, omega (arith, l.component q, s.each c h, w_opened.component, v_component, n)))
          (λ q. inl (omega (arith, w_entry, l.end)))

      -- w and all after it are in the order of opening
      order' : Ordered (w ∷ a.more)
      order' = first-passage (a.later w (now (λ c x. Earlier w x) (inl (omega (arith, w_entry, w_end))) others_later)) a.order

      -- the message at closing is the one in the finished list
      same : message_in T H p.listed v ≡ message_in T H W v
      same = sym (ap (λ xs. message_in T H xs v) is' ∙ same_message T H v p.listed (late' v.end (λ c h. (k.first c (omega (arith, s.full))).end)))

      -- w opens where v leads to, with the message of the finished list
      opens : Opens i (component_of T i) (leaves (arc_of (component_of T i) v.edge) (message_in T H W v) v.end v.entry) (told W w)
      opens =
          ap (λ m. opening i (component_of T i) (leaves (arc_of (component_of T i) v.edge) m v.end v.entry)) (sym same)
          ∙ ap (λ n. opening i (component_of T i) (leaves (arc_of (component_of T n) v.edge) (message_in T H p.listed v) v.end v.entry)) (sym v_component)
          ∙ o
          ∙ ap (λ m. accepted (with_message w m)) w_opened.message

      -- the chains, with w in that of its component
      chains' : (c : ℕ) → c < size T → Chain H c (component_of T c) (told W (passage_at p.current c)) (map (told W) (own c (w ∷ a.more)))
      chains' c h = by_cases (ℕ_discrete c i)
          (λ q. subst (λ m. Chain H m (component_of T m) (told W (passage_at p.current m)) (map (told W) (own m (w ∷ a.more)))) (sym q)
          (subst (λ x. Chain H i (component_of T i) (told W x) (map (told W) (own i (w ∷ a.more)))) is_v
          (subst (λ ws. Chain H i (component_of T i) (told W v) (map (told W) ws)) (sym (own_here i w a.more w_opened.component))
          (link below opens (subst (λ x. Chain H i (component_of T i) (told W x) (map (told W) (own i a.more))) here (a.chains i hi))))))
          (λ n. subst (λ ws. Chain H c (component_of T c) (told W (passage_at p.current c)) (map (told W) ws)) (sym (own_other c w a.more (λ e. n (sym e ∙ w_opened.component))))
          (subst (λ x. Chain H c (component_of T c) (told W x) (map (told W) (own c a.more))) (there c n) (a.chains c h)))

      -- what the loop adds, with w as the first
      adds : Added (suc room) p W
      adds =
          record {
            more = w ∷ a.more;
            is = is';
            few = omega (arith, a.few);
            present = more {x = w} (omega (arith, w_opened.component, hi)) a.present;
            late = late';
            later = later';
            order = order';
            chains = chains';
          }

  -- where nothing that is open closes below H, every open passage reaches H
  high : (p : OpenedSoFar) → Sound p → ((v : Passage) → next p.current ≡ some v → H ≤ v.end) → (c : ℕ) → c < size T → H ≤ (passage_at p.current c).end
  high p s f c h = go (next p.current) refl
    where
      go : (o : Option Passage) → next p.current ≡ o → H ≤ (passage_at p.current c).end
      go none e = absurd (omega (arith, next_none p.current e, s.full))
      go (some v) e = omega (arith, f v e, ((next_closes p.current e).first c (omega (arith, s.full))).end)

  -- the whole loop
  pub loop : (room : ℕ) (p : OpenedSoFar) {W : List Passage} → Sound p → go_on T H room p ≡ accepted W → Added room p W
  unfolding go_on
  loop zero p {W} s e = go (while_ok H _ p.listed (next p.current) e)
    where
      go : ((p.listed ≡ W) × ((v : Passage) → next p.current ≡ some v → H ≤ v.end))
          ⊎ ((v : Passage) × (next p.current ≡ some v) × (v.end < H) × (refused 7 v.component ≡ accepted W)) → Added zero p W
      go (inl q) = subst (Added zero p) q.0 (stops zero p (high p s q.1))
      go (inr q) = refused_clash 7 q.0.component W q.3
  loop (suc room) p {W} s e = go (λ q t h. loop room q t h) (while_ok H _ p.listed (next p.current) e)
    where
      turn : ((q : OpenedSoFar) → Sound q → go_on T H room q ≡ accepted W → Added room q W) → (v : Passage) (k : Closes p.current v) → v.end < H → v.component ≡ k.place
          → (opening v.component (component_of T v.component) (closing T H p.listed v) after λ w. go_on T H room (Opening-of p w)) ≡ accepted W → Added (suc room) p W
      turn ih v k b c h =
          let r = after_ok (opening v.component (component_of T v.component) (closing T H p.listed v)) (λ w. go_on T H room (Opening-of p w)) h in
          let o : opening k.place (component_of T k.place) (closing T H p.listed v) ≡ accepted r.0 =
          subst (λ n. opening n (component_of T n) (closing T H p.listed v) ≡ accepted r.0) c r.1 in
          adds p s v r.0 k k.place refl b o room W (ih (Opening-of p r.0) (sound p s v r.0 k k.place refl b o) r.2)

      go : ((q : OpenedSoFar) → Sound q → go_on T H room q ≡ accepted W → Added room q W) → ((p.listed ≡ W) × ((v : Passage) → next p.current ≡ some v → H ≤ v.end))
          ⊎ ((v : Passage) × (next p.current ≡ some v) × (v.end < H)
          × ((opening v.component (component_of T v.component) (closing T H p.listed v) after λ w. go_on T H room (Opening-of p w)) ≡ accepted W)) → Added (suc room) p W
      go ih (inl q) = subst (Added (suc room) p) q.0 (stops (suc room) p (high p s q.1))
      go ih (inr q) =
          let k = next_closes p.current q.1 in
          let c : q.0.component ≡ k.place = ap (λ (x : Passage). x.component) k.is ∙ s.each k.place (omega (arith, s.full, k.there)) in
          turn ih q.0 k q.2 c q.3
