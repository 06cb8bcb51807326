-- One period more: 10 to 12 are passed again. Assumes nothing.
use mathlib.Core.Path.{◌≡◌, refl, sym, ap, subst, ◌∙◌}
use mathlib.Core.Bool.{Bool, true, false, cond, ◌&&◌}
use mathlib.Core.List.{List, [], ◌∷◌, ◌++◌, map}
use mathlib.Core.Option.{none}
use mathlib.Core.Logic.{◌⊎◌, inl, inr}
use Prim.Native.Nat.{ℕ, suc, ◌+◌, ◌≤◌, ◌<◌}
use native.Mathlib.Omega.{arith}
use borrow.Author.Tests.{ltb-true, lt-ltb, leb-true, le-leb}
use lib.Dec.{leb, ltb}
use lib.ListN.{length, length-append, length-map}
use Rattle.model.specs.Lists.{◌∈◌, here, there, only, first, accepted}
use Rattle.model.specs.Table.{Table, size}
use Rattle.model.specs.Schedule.{Passage, others}
use Rattle.model.specs.Checks.{near, disturb, is_send, is_receive, may_hear, collides, unheard, crowded, checked}
use Rattle.model.specs.Chains.{IsSchedule}
use Rattle.model.proofs.Basics.Bools.{and_is, clash}
use Rattle.model.proofs.Basics.Members.{not_in, in_append, only_is, only_none, only_append, one_left, fewer, fewer_left, not_true_is}
use Rattle.model.proofs.Checks.Independence.{only_map}
use Rattle.model.proofs.Checks.Heard.{Apart, Listener, listener, checked_is, collides_none, unheard_none, crowded_none, send_is, hears_is}
use Rattle.recurrence.proofs.Move.{later, send_later, share_later, hears_later}
use Rattle.recurrence.proofs.Seam.{Joint, starts_early, is_wide, left_ends, send_left, send_right, ear, enters_before, enters_from}

-- ## Words on lists

-- what is in an image is the image of something
pub in_map : {A B : Type 0} (f : A → B) (S : List A) {y : B} → y ∈ map f S → (x : A) × (x ∈ S) × (y ≡ f x)
in_map f [] m = absurd (not_in m)
in_map f (x ∷ S) (here e) = (x, here refl, e)
in_map f (x ∷ S) (there m) = let r = in_map f S m in (r.0, there r.1, r.2)

-- tests that agree leave the same
pub only_same : {A : Type 0} (p q : A → Bool) (S : List A) → ((x : A) → p x ≡ q x) → only p S ≡ only q S
only_same p q [] h = refl
only_same p q (x ∷ S) h = ap (λ t. cond t (x ∷ only p S) (only p S)) (h x) ∙ ap (λ l. cond (q x) (x ∷ l) l) (only_same p q S h)

-- windows that share a tick
shared : (v w : Passage) → near 0 v w ≡ true → (v.ready ≤ w.end) × (w.ready ≤ v.end)
shared v w e =
    let h = (and_is (leb v.ready (w.end + 0)) (leb w.ready (v.end + 0))).0 e in
    let a = leb-true v.ready (w.end + 0) h.0 in
    let b = leb-true w.ready (v.end + 0) h.1 in
    (omega arith, omega arith)

-- ## One period more

module _ (limit : ℕ) (T : Table) (H : ℕ) (S : List Passage) (sched : IsSchedule limit T H S) (ok : checked 0 T H S ≡ accepted S) (a P : ℕ) (below : a + P < H)
    (join_a : Joint limit T H S sched a) (join_b : Joint limit T H S sched (a + P)) where
  -- what is entered before b; what is entered from a on
  abbrev pub left_part : List Passage
  left_part = only (enters_before (a + P)) S

  abbrev pub old_part : List Passage
  old_part = only (enters_from a) S

  abbrev pub grown : List Passage
  grown = left_part ++ map (later P) old_part

  -- the left part
  in_left : {v : Passage} → v ∈ left_part → (v ∈ S) × (v.entry.tick < a + P)
  in_left {v} m = let h = (only_is (enters_before (a + P)) S).0 m in (h.0, ltb-true v.entry.tick (a + P) h.1)

  -- the right part
  in_old : {v : Passage} → v ∈ old_part → (v ∈ S) × (a ≤ v.entry.tick)
  in_old {v} m = let h = (only_is (enters_from a) S).0 m in (h.0, leb-true a v.entry.tick h.1)

  -- a send of the left part is one of S
  left_send : (s : Passage) → s ∈ left_part → is_send T (H + P) s ≡ true → is_send T H s ≡ true
  left_send s m e =
      let h = in_left m in
      let g = (send_is T (H + P) s).0 e in
      (send_is T H s).1 (g.0, g.1, omega (arith, left_ends limit T H S sched (a + P) join_b s h.0 h.1, is_wide limit T H S sched s h.0))

  -- it ends before b
  left_before : (s : Passage) → s ∈ left_part → is_send T (H + P) s ≡ true → s.end < a + P
  left_before s m e = let h = in_left m in (send_left limit T H S sched (a + P) join_b ok s h.0 (left_send s m e) h.1).0

  -- a send of the right part, moved back, is one of S
  old_send : (s : Passage) → is_send T (H + P) (later P s) ≡ true → is_send T H s ≡ true
  old_send s e = sym (send_later P T H s) ∙ e

  -- it starts after a
  old_after : (s : Passage) → s ∈ old_part → is_send T (H + P) (later P s) ≡ true → a < s.ready
  old_after s m e = let h = in_old m in (send_right limit T H S sched a join_a ok s h.0 (old_send s e) h.1).0

  -- windows of the two parts
  left_end : (v : Passage) → v ∈ left_part → v.end ≤ a + P
  left_end v m = let h = in_left m in left_ends limit T H S sched (a + P) join_b v h.0 h.1

  old_ready : (v : Passage) → v ∈ old_part → a ≤ v.ready
  old_ready v m = let h = in_old m in omega (arith, starts_early limit T H S sched v h.0, h.1)

  c : (S ≡ S) × (first (collides 0 T H S) S ≡ none) × (first (unheard 0 T H S) S ≡ none) × (first (crowded 0 T H S) S ≡ none)
  c = (checked_is 0 T H S S).0 ok

  -- 10
  apart : (s : Passage) → s ∈ grown → is_send T (H + P) s ≡ true → (o : Passage) → o ∈ grown → Apart 0 T (H + P) s o
  apart s ms es o mo eo d b sh = go ((in_append left_part (map (later P) old_part)).0 ms) ((in_append left_part (map (later P) old_part)).0 mo)
    where
      go : (s ∈ left_part) ⊎ (s ∈ map (later P) old_part) → (o ∈ left_part) ⊎ (o ∈ map (later P) old_part) → ⊥
      go (inl i) (inl j) = (collides_none 0 T H S).0 c.1 s (in_left i).0 (left_send s i es) o (in_left j).0 (left_send o j eo) d b sh
      go (inl i) (inr j) =
          let r = in_map (later P) old_part j in
          let q = subst (λ (z : Passage). is_send T (H + P) z ≡ true) r.2 eo in
          omega (arith, left_before s i es, old_after r.0 r.1 q, (shared s o sh).1, ap (λ (z : Passage). z.ready) r.2)
      go (inr i) (inl j) =
          let r = in_map (later P) old_part i in
          let q = subst (λ (z : Passage). is_send T (H + P) z ≡ true) r.2 es in
          omega (arith, left_before o j eo, old_after r.0 r.1 q, (shared s o sh).0, ap (λ (z : Passage). z.ready) r.2)
      go (inr i) (inr j) =
          let r = in_map (later P) old_part i in
          let t = in_map (later P) old_part j in
          let q = subst (λ (z : Passage). is_send T (H + P) z ≡ true) r.2 es in
          let u = subst (λ (z : Passage). is_send T (H + P) z ≡ true) t.2 eo in
          let n = subst (λ (z : Passage). others z (later P r.0) ≡ true) t.2 (subst (λ (z : Passage). others o z ≡ true) r.2 d) in
          let y = subst (λ (z : Passage). disturb T (later P r.0) z ≡ true) t.2 (subst (λ (z : Passage). disturb T z o ≡ true) r.2 b) in
          let x = subst (λ (z : Passage). near 0 (later P r.0) z ≡ true) t.2 (subst (λ (z : Passage). near 0 z o ≡ true) r.2 sh) in
          (collides_none 0 T H S).0 c.1 r.0 (in_old r.1).0 (old_send r.0 q) t.0 (in_old t.1).0 (old_send t.0 u) n y (sym (share_later P T H r.0 t.0) ∙ x)

  -- 11: a send of the left part
  heard_left : (s : Passage) → s ∈ left_part → is_send T (H + P) s ≡ true → Listener 0 T grown s
  heard_left s m e =
      let i = in_left m in
      let l = ear limit T H S sched (a + P) join_b ok s i.0 (left_send s m e) in
      let r = l.passage in
      let near = send_left limit T H S sched (a + P) join_b ok s i.0 (left_send s m e) i.1 in
      let left = (only_is (enters_before (a + P)) S).1 (l.listed, lt_test r.entry.tick near.1) in
      let few : length (only (λ r. may_hear 0 T r s) left_part) ≤ 1 = omega (arith, fewer_left (λ r. may_hear 0 T r s) (enters_before (a + P)) S, ap length l.once) in
      let one = one_left ((only_is (λ r. may_hear 0 T r s) left_part).1 (left, l.hears)) few in
      let none_right = (only_none (λ r. may_hear 0 T r s) (map (later P) old_part)).1 (λ y j. (not_true_is (may_hear 0 T y s)).1 (λ h.
      let k = in_map (later P) old_part j in
      omega (arith, near.0, old_ready k.0 k.1, (shared y s ((hears_is 0 T y s).0 h).3).0, ap (λ (z : Passage). z.ready) k.2))) in
      listener 0 T grown s r (only_append (λ r. may_hear 0 T r s) left_part (map (later P) old_part) ∙ ap (λ l. l ++ only (λ r. may_hear 0 T r s) (map (later P) old_part)) one ∙ ap (λ l. r ∷ l) none_right) l.earlier l.later
    where
      lt_test : (n : ℕ) → n < a + P → ltb n (a + P) ≡ true
      lt_test n h = lt-ltb n (a + P) h

  -- 11: a send of the right part
  heard_right : (s : Passage) → s ∈ old_part → is_send T (H + P) (later P s) ≡ true → Listener 0 T grown (later P s)
  heard_right s m e =
      let i = in_old m in
      let l = ear limit T H S sched a join_a ok s i.0 (old_send s e) in
      let r = l.passage in
      let near = send_right limit T H S sched a join_a ok s i.0 (old_send s e) i.1 in
      let mine = (only_is (enters_from a) S).1 (l.listed, le-leb a r.entry.tick near.1) in
      let few : length (only (λ r. may_hear 0 T r s) old_part) ≤ 1 = omega (arith, fewer_left (λ r. may_hear 0 T r s) (enters_from a) S, ap length l.once) in
      let one = one_left ((only_is (λ r. may_hear 0 T r s) old_part).1 (mine, l.hears)) few in
      let none_left = (only_none (λ r. may_hear 0 T r (later P s)) left_part).1 (λ y j. (not_true_is (may_hear 0 T y (later P s))).1 (λ h.
      omega (arith, near.0, left_end y j, (shared y (later P s) ((hears_is 0 T y (later P s)).0 h).3).1))) in
      let moved = only_map (later P) (λ r. may_hear 0 T r (later P s)) old_part
      ∙ ap (map (later P)) (only_same (λ r. may_hear 0 T (later P r) (later P s)) (λ r. may_hear 0 T r s) old_part (λ r. hears_later P T H r s) ∙ one) in
      listener 0 T grown (later P s) (later P r)
      (only_append (λ r. may_hear 0 T r (later P s)) left_part (map (later P) old_part) ∙ ap (λ l. l ++ only (λ r. may_hear 0 T r (later P s)) (map (later P) old_part)) none_left ∙ moved)
      (omega (arith, l.earlier)) (omega (arith, l.later))

  heard : (s : Passage) → s ∈ grown → is_send T (H + P) s ≡ true → Listener 0 T grown s
  heard s m e = elim ((in_append left_part (map (later P) old_part)).0 m) [
    | inl i ↦ heard_left s i e
    | inr j ↦
        let r = in_map (later P) old_part j in
        subst (Listener 0 T grown) (sym r.2) (heard_right r.0 r.1 (subst (λ (z : Passage). is_send T (H + P) z ≡ true) r.2 e))
  ]

  -- 12
  abbrev from : ℕ → Passage → Passage → Bool
  from K r s = is_send T K s && may_hear 0 T r s

  single_left : (r : Passage) → r ∈ left_part → is_receive T r ≡ true → length (only (from (H + P) r) grown) ≤ 1
  single_left r m e =
      let none_right = (only_none (from (H + P) r) (map (later P) old_part)).1 (λ y j. (not_true_is (from (H + P) r y)).1 (λ h.
      let g = (and_is (is_send T (H + P) y) (may_hear 0 T r y)).0 h in
      let k = in_map (later P) old_part j in
      let q = subst (λ (z : Passage). is_send T (H + P) z ≡ true) k.2 g.0 in
      omega (arith, old_after k.0 k.1 q, left_end r m, (shared r y ((hears_is 0 T r y).0 g.1).3).1, ap (λ (z : Passage). z.ready) k.2))) in
      omega (
        arith,
        ap length (only_append (from (H + P) r) left_part (map (later P) old_part)),
        length-append (only (from (H + P) r) left_part) (only (from (H + P) r) (map (later P) old_part)),
        ap length none_right,
        (crowded_none 0 T H S).0 c.3 r (in_left m).0 e,
        fewer_left (from H r) (enters_before (a + P)) S,
        fewer (from H r) (from (H + P) r) left_part (λ x n f.
            let g = (and_is (is_send T (H + P) x) (may_hear 0 T r x)).0 f in (and_is (is_send T H x) (may_hear 0 T r x)).1 (left_send x n g.0, g.1)),
      )

  single_right : (r : Passage) → r ∈ old_part → is_receive T r ≡ true → length (only (from (H + P) (later P r)) grown) ≤ 1
  single_right r m e =
      let none_left = (only_none (from (H + P) (later P r)) left_part).1 (λ y j. (not_true_is (from (H + P) (later P r) y)).1 (λ h.
      let g = (and_is (is_send T (H + P) y) (may_hear 0 T (later P r) y)).0 h in
      omega (arith, left_before y j g.0, old_ready r m, (shared (later P r) y ((hears_is 0 T (later P r) y).0 g.1).3).0))) in
      let moved = only_map (later P) (from (H + P) (later P r)) old_part
      ∙ ap (map (later P)) (only_same (λ s. from (H + P) (later P r) (later P s)) (from H r) old_part (λ s. ap (λ t. t && may_hear 0 T (later P r) (later P s)) (send_later P T H s) ∙ ap (λ t. is_send T H s && t) (hears_later P T H r s))) in
      omega (
        arith,
        ap length (only_append (from (H + P) (later P r)) left_part (map (later P) old_part)),
        length-append (only (from (H + P) (later P r)) left_part) (only (from (H + P) (later P r)) (map (later P) old_part)),
        ap length none_left,
        ap length moved,
        length-map (only (from H r) old_part) (later P),
        (crowded_none 0 T H S).0 c.3 r (in_old m).0 e,
        fewer_left (from H r) (enters_from a) S,
      )

  single : (r : Passage) → r ∈ grown → is_receive T r ≡ true → length (only (from (H + P) r) grown) ≤ 1
  single r m e = elim ((in_append left_part (map (later P) old_part)).0 m) [
    | inl i ↦ single_left r i e
    | inr j ↦
        let k = in_map (later P) old_part j in
        subst (λ (z : Passage). length (only (from (H + P) z) grown) ≤ 1) (sym k.2) (single_right k.0 k.1 (subst (λ (z : Passage). is_receive T z ≡ true) k.2 e))
  ]

  -- 10 to 12 are passed one period later
  pub grown_checked : checked 0 T (H + P) grown ≡ accepted grown
  grown_checked = (checked_is 0 T (H + P) grown grown).1 (
    refl,
    (collides_none 0 T (H + P) grown).1 apart,
    (unheard_none 0 T (H + P) grown).1 heard,
    (crowded_none 0 T (H + P) grown).1 single,
  )
