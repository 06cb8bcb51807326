-- One period more is the schedule one period later. Assumes nothing.
use mathlib.Core.Path.{◌≡◌, refl, sym, ap, ap₂, subst, ◌∙◌}
use mathlib.Core.Bool.{Bool, true, false, cond, ◌&&◌}
use mathlib.Core.List.{List, [], ◌∷◌, ◌++◌, map}
use mathlib.Core.Option.{Option, none, some}
use mathlib.Core.Logic.{◌⊎◌, inl, inr}
use Prim.Native.Nat.{ℕ, suc, ◌+◌, ◌≤◌, ◌<◌}
use native.Mathlib.Omega.{arith}
use borrow.Author.Tests.{ltb-true, lt-ltb, le-ltb, leb-true, le-leb, lt-leb}
use lib.Dec.{leb, ltb, eqb}
use lib.ListN.{length}
use Rattle.model.specs.Lists.{◌∈◌, here, there, only, All, empty, more, accepted}
use Rattle.model.specs.Table.{Component, Table, size, component_of, arc_of}
use Rattle.model.specs.Window.{Entry, channel_of, listens, leaves}
use Rattle.model.specs.Schedule.{Passage, passage_arc, own, heard_by, sooner, earliest, carried, message_in, with_message, start_entry, opening}
use Rattle.model.specs.Chains.{Opens, Chain, last, link, Chained, Before, Ordered, IsSchedule}
use Rattle.model.specs.Chains.{none as no-passage, more as first-passage}
use Rattle.model.proofs.Basics.Members.{not_in, in_append, only_is, not_true_is, earliest_append, earliest_same}
use Rattle.model.proofs.Checks.Independence.{only_map}
use Rattle.model.proofs.Schedule.Own.{all_in, in_all, all_then, all_map, own_append, own_in}
use Rattle.model.proofs.Window.Opening.{Opened, opened}
use Rattle.model.proofs.Schedule.Messages.{same_message}
use Rattle.model.proofs.Checks.Heard.{heard_is}
use Rattle.model.proofs.Schedule.Scheduled.{ordered_append}
use Rattle.model.proofs.Schedule.Passages.{Entered, entered, Follows, opens_follows}
use Rattle.recurrence.proofs.Move.{later_entry, later, opening_later, chain_later, message_later, before_later}
use Rattle.recurrence.proofs.Seam.{Joint, starts_early, is_wide, left_ends, enters_before, enters_from, none_left, split_at}
use Rattle.recurrence.proofs.Apart.{in_map, left_part, old_part, grown}

-- ## Words on lists

-- two tests, in either order
pub only_swap : {A : Type 0} (p q : A → Bool) (S : List A) → only p (only q S) ≡ only q (only p S)
only_swap p q [] = refl
only_swap p q (x ∷ S) = go (only_swap p q S) (p x) refl (q x) refl
  where
    go : only p (only q S) ≡ only q (only p S) → (s : Bool) → p x ≡ s → (t : Bool) → q x ≡ t
        → only p (cond t (x ∷ only q S) (only q S)) ≡ only q (cond s (x ∷ only p S) (only p S))
    go ih true e true f = ap (λ k. cond k (x ∷ only p (only q S)) (only p (only q S))) e ∙ ap (λ l. x ∷ l) ih ∙ sym (ap (λ k. cond k (x ∷ only q (only p S)) (only q (only p S))) f)
    go ih true e false f = ih ∙ sym (ap (λ k. cond k (x ∷ only q (only p S)) (only q (only p S))) f)
    go ih false e true f = ap (λ k. cond k (x ∷ only p (only q S)) (only p (only q S))) e ∙ ih
    go ih false e false f = ih

-- tests that agree on the members find the same
pub earliest_agree : (p q : Passage → Bool) (vs : List Passage) (b : Option Passage) → ((x : Passage) → x ∈ vs → p x ≡ q x) → earliest p vs b ≡ earliest q vs b
earliest_agree p q [] b h = refl
earliest_agree p q (s ∷ vs) b h =
    ap (λ t. earliest p vs (cond t (sooner b s) b)) (h s (here refl)) ∙ earliest_agree p q vs (cond (q s) (sooner b s) b) (λ x m. h x (there m))

-- ## Order

pub ordered_only : (p : Passage → Bool) {S : List Passage} → Ordered S → Ordered (only p S)
ordered_only p no-passage = no-passage
ordered_only p (first-passage {v = v} {vs = vs} b o) = go (ordered_only p o) (p v)
  where
    go : Ordered (only p vs) → (t : Bool) → Ordered (cond t (v ∷ only p vs) (only p vs))
    go ih true = first-passage (in_all (only p vs) (λ x i. all_in b ((only_is p vs).0 i).0)) ih
    go ih false = ih

pub ordered_later : (d : ℕ) {S : List Passage} → Ordered S → Ordered (map (later d) S)
ordered_later d no-passage = no-passage
ordered_later d (first-passage {v = v} b o) = first-passage (all_map (later d) (all_then (λ w k. before_later d v w k) b)) (ordered_later d o)

-- ## Messages

module _ (T : Table) (v : Passage) where
  -- a horizon that all lie below
  message_horizon : (H K : ℕ) (vs : List Passage) → H ≤ K → ((s : Passage) → s ∈ vs → s.ready < H) → message_in T K vs v ≡ message_in T H vs v
  unfolding message_in
  message_horizon H K vs l f =
      ap (λ o. cond (listens (passage_arc T v)) (carried T o) (channel_of (passage_arc T v)))
      (earliest_agree (heard_by T K v) (heard_by T H v) vs none (λ s m. let h = f s m in rw (lt-ltb s.ready K (omega arith), lt-ltb s.ready H h)))

  -- what is ready no later is not heard
  message_front : (K : ℕ) (xs ys : List Passage) → ((s : Passage) → s ∈ xs → s.ready ≤ v.ready) → message_in T K (xs ++ ys) v ≡ message_in T K ys v
  unfolding message_in
  message_front K xs ys f =
      ap (λ o. cond (listens (passage_arc T v)) (carried T o) (channel_of (passage_arc T v)))
      (earliest_append (heard_by T K v) xs ys none
      ∙ ap (earliest (heard_by T K v) ys)
      (earliest_same (heard_by T K v) xs none (λ s m. (not_true_is (heard_by T K v s)).1 (λ e. (let h = (heard_is 0 T K v s).0 e in omega (arith, f s m, h.2))))))

-- ## Chains

module _ {H c : ℕ} {C : Component} where
  -- each passage of a chain is entered where the first ends or later, and ends later than it is entered
  pub chain_rising : {v : Passage} {ws : List Passage} → Chain H c C v ws → All (λ w. (v.end ≤ w.entry.tick) × (w.entry.tick < w.end)) ws
  chain_rising (last h) = empty
  chain_rising (link {v = v} {w = w} h o k) =
      let f = opens_follows H c C v w h o in
      let g = opened c C (leaves (arc_of C v.edge) v.message v.end v.entry) o in
      let t = ap (λ (x : Entry). x.tick) g.entry in
      let r : (v.end ≤ w.entry.tick) × (w.entry.tick < w.end) = (omega (arith, f.tick), omega (arith, t, g.early, g.wide)) in
      more {x = w} r (all_then (λ x q. (omega (arith, q.0, r.0, r.1), q.1)) (chain_rising k))

  -- the chain up to the passage entered at x, and another one from there
  plant : (K x : ℕ) → H ≤ K → {v : Passage} {ws : List Passage} → Chain H c C v ws → (w : Passage) → w ∈ ws → w.entry.tick ≡ x → (z : Passage) (zs : List Passage)
      → Opens c C w.entry z → Chain K c C z zs → Chain K c C v (only (enters_before x) ws ++ (z ∷ zs))
  plant K x l (last h) w m e z zs p q = absurd (not_in m)
  plant K x l (link {v = v} {w = y} {ws = ys} h o k) w (here i) e z zs p q =
      let f = opens_follows H c C v y h o in
      let g : y.entry.tick ≡ x = ap (λ (n : Passage). n.entry.tick) (sym i) ∙ e in
      let wide = (all_in (chain_rising (link {v = v} {w = y} {ws = ys} h o k)) (here refl)).1 in
      let none = (none_left x {S = y ∷ ys} (more {x = y} (omega arith) (all_then (λ n t. omega (arith, t.0, wide, g)) (chain_rising k)))).0 in
      let at : w.entry ≡ leaves (arc_of C v.edge) v.message v.end v.entry = ap (λ (n : Passage). n.entry) i ∙ f.entry in
      subst (λ (n : List Passage). Chain K c C v (n ++ (z ∷ zs))) (sym none) (link {v = v} {w = z} (omega arith) (subst (λ (n : Entry). Opens c C n z) at p) q)
  plant K x l (link {v = v} {w = y} {ws = ys} h o k) w (there m) e z zs p q =
      let r = all_in (chain_rising k) m in
      let wide = (all_in (chain_rising (link {v = v} {w = y} {ws = ys} h o k)) (here refl)).1 in
      let early : ltb y.entry.tick x ≡ true = lt-ltb y.entry.tick x (omega (arith, r.0, wide, e)) in
      subst (λ (t : Bool). Chain K c C v (cond t (y ∷ only (enters_before x) ys) (only (enters_before x) ys) ++ (z ∷ zs))) (sym early)
      (link {v = v} {w = y} (omega arith) o (plant K x l k w m e z zs p q))

  -- the chain from the passage entered at x on
  suffix : (x : ℕ) (u : Passage) {v : Passage} {ws : List Passage} → Chain H c C v ws → v.entry.tick < v.end → u ∈ (v ∷ ws) → u.entry.tick ≡ x
      → (us : List Passage) × (only (enters_from x) (v ∷ ws) ≡ u ∷ us) × Chain H c C u us
  suffix x u {v} {ws} k b (here i) e =
      let g : v.entry.tick ≡ x = ap (λ (n : Passage). n.entry.tick) (sym i) ∙ e in
      let all = (none_left x {S = v ∷ ws} (more {x = v} (omega arith) (all_then (λ n t. omega (arith, t.0)) (chain_rising k)))).1 in
      (ws, all ∙ ap (λ (n : Passage). n ∷ ws) (sym i), subst (λ (n : Passage). Chain H c C n ws) (sym i) k)
  suffix x u (last h) b (there m) e = absurd (not_in m)
  suffix x u (link {v = v} {w = y} {ws = ys} h o k) b (there m) e =
      let r = all_in (chain_rising (link {v = v} {w = y} {ws = ys} h o k)) m in
      let wide = (all_in (chain_rising (link {v = v} {w = y} {ws = ys} h o k)) (here refl)).1 in
      let s = suffix x u k wide m e in
      let late : leb x v.entry.tick ≡ false = lt-leb x v.entry.tick (omega (arith, r.0, e)) in
      (s.0, ap (λ (t : Bool). cond t (v ∷ only (enters_from x) (y ∷ ys)) (only (enters_from x) (y ∷ ys))) late ∙ s.1, s.2)

-- ## The whole

-- each component enters at a, and with the same state at a + P
abbrev pub Again : Table → List Passage → ℕ → ℕ → Type 0
Again T S a P = (c : ℕ) → c < size T → (u w : Passage) × (u ∈ own c S) × (w ∈ own c S) × (u.entry.tick ≡ a) × (w.entry ≡ later_entry P u.entry)

module _ (limit : ℕ) (T : Table) (H : ℕ) (S : List Passage) (sched : IsSchedule limit T H S) (a P : ℕ) (below : a + P < H) (longer : 0 < P) (again : Again T S a P) where
  pub joint_a : Joint limit T H S sched a
  joint_a c h = let r = again c h in (r.0, r.2, r.4)

  pub joint_b : Joint limit T H S sched (a + P)
  joint_b c h = let r = again c h in (r.1, r.3, ap (λ (n : Entry). n.tick) r.5 ∙ ap (λ (n : ℕ). n + P) r.4)

  abbrev Left : List Passage
  Left = only (enters_before (a + P)) S

  abbrev Old : List Passage
  Old = only (enters_from a) S

  abbrev G : List Passage
  G = Left ++ map (later P) Old

  in_left : {v : Passage} → v ∈ Left → (v ∈ S) × (v.entry.tick < a + P)
  in_left {v} m = let h = (only_is (enters_before (a + P)) S).0 m in (h.0, ltb-true v.entry.tick (a + P) h.1)

  in_old : {v : Passage} → v ∈ Old → (v ∈ S) × (a ≤ v.entry.tick)
  in_old {v} m = let h = (only_is (enters_from a) S).0 m in (h.0, leb-true a v.entry.tick h.1)

  left_end : (v : Passage) → v ∈ Left → v.end ≤ a + P
  left_end v m = let h = in_left m in left_ends limit T H S sched (a + P) joint_b v h.0 h.1

  in_two : (Q : Passage → Type 0) → ((v : Passage) → v ∈ Left → Q v) → ((v : Passage) → v ∈ Old → Q (later P v)) → All Q G
  in_two Q f g = in_all G (λ x m. elim ((in_append Left (map (later P) Old)).0 m) [
    | inl i ↦ f x i
    | inr j ↦ let r = in_map (later P) Old j in subst Q (sym r.2) (g r.0 r.1)
  ])

  order : Ordered G
  order =
      ordered_append (ordered_only (enters_before (a + P)) sched.order) (ordered_later P (ordered_only (enters_from a) sched.order))
      (in_all Left (λ x m. in_all (map (later P) Old) (λ y n. (let r = in_map (later P) Old n in
      inl (omega (arith, (in_left m).1, (in_old r.1).1, ap (λ (z : Passage). z.entry.tick) r.2))))))

  -- a message of the left part
  message_left : (v : Passage) → v ∈ Left → v.message ≡ message_in T (H + P) G v
  message_left v m =
      let i = in_left m in
      let R = only (enters_from (a + P)) S in
      let late : All (λ s. v.end ≤ s.end) R = in_all R (λ s n.
      let h = (only_is (enters_from (a + P)) S).0 n in
      omega (arith, left_end v m, leb-true (a + P) s.entry.tick h.1, starts_early limit T H S sched s h.0, is_wide limit T H S sched s h.0)) in
      let moved : All (λ s. v.end ≤ s.end) (map (later P) Old) = in_all (map (later P) Old) (λ s n.
      let r = in_map (later P) Old n in
      let j = in_old r.1 in
      omega (arith, left_end v m, j.1, starts_early limit T H S sched r.0 j.0, is_wide limit T H S sched r.0 j.0, ap (λ (z : Passage). z.end) r.2)) in
      all_in sched.messages i.0
      ∙ ap (λ l. message_in T H l v) (sym (split_at (a + P) sched.order))
      ∙ same_message T H v Left late
      ∙ sym (message_horizon T v H (H + P) Left (omega arith) (λ s n. omega (arith, left_end s n, is_wide limit T H S sched s (in_left n).0, below)))
      ∙ sym (same_message T (H + P) v Left moved)

  -- a message of the right part
  message_right : (v : Passage) → v ∈ Old → v.message ≡ message_in T (H + P) G (later P v)
  message_right v m =
      let i = in_old m in
      let E = only (enters_before a) S in
      all_in sched.messages i.0
      ∙ ap (λ l. message_in T H l v) (sym (split_at a sched.order))
      ∙ message_front T v H E Old (λ s n.
      let h = (only_is (enters_before a) S).0 n in
      omega (arith, left_ends limit T H S sched a joint_a s h.0 (ltb-true s.entry.tick a h.1), is_wide limit T H S sched s h.0, starts_early limit T H S sched v i.0, i.1))
      ∙ sym (message_later P T H Old v)
      ∙ sym (message_front T (later P v) (H + P) Left (map (later P) Old) (λ s n.
      omega (arith, left_end s n, is_wide limit T H S sched s (in_left n).0, starts_early limit T H S sched v i.0, i.1)))

  -- the passages of one component
  pub own_grown : (c : ℕ) → own c G ≡ only (enters_before (a + P)) (own c S) ++ map (later P) (only (enters_from a) (own c S))
  own_grown c =
      own_append c Left (map (later P) Old)
      ∙ ap₂ (λ (x y : List Passage). x ++ y) (only_swap (λ (v : Passage). eqb v.component c) (enters_before (a + P)) S)
      (only_map (later P) (λ (v : Passage). eqb v.component c) Old ∙ ap (map (later P)) (only_swap (λ (v : Passage). eqb v.component c) (enters_from a) S))

  chains : (c : ℕ) → c < size T → Chained (H + P) c (component_of T c) (own c G)
  chains c h =
      let k = sched.chains c h in
      let r = again c h in
      let C = component_of T c in
      let o = opened c C (start_entry C) k.starts in
      let zero : k.head.entry.tick ≡ 0 = ap (λ (n : Entry). n.tick) o.entry in
      let u∈ = subst (λ (l : List Passage). r.0 ∈ l) k.is r.2 in
      let w∈ = subst (λ (l : List Passage). r.1 ∈ l) k.is r.3 in
      let wb : r.1.entry.tick ≡ a + P = ap (λ (n : Entry). n.tick) r.5 ∙ ap (λ (n : ℕ). n + P) r.4 in
      let wt : r.1 ∈ k.tail = elim w∈ [ here i ↦ absurd (omega (arith, zero, wb, longer, ap (λ (n : Passage). n.entry.tick) i)) | there m ↦ m ] in
      let s = suffix a r.0 k.chain (omega (arith, zero, o.early, o.wide, ap (λ (n : Entry). n.tick) o.entry)) u∈ r.4 in
      let mine = own_in c S r.2 in
      let e : Entered H c C r.0 = subst (λ (n : ℕ). Entered H n (component_of T n) r.0) mine.1 (all_in (entered sched) mine.0) in
      let opens : Opens c C r.1.entry (later P r.0) = ap (λ (n : Entry). opening c C n) r.5 ∙ opening_later P c C r.0.entry _ e.opens in
      let first : ltb k.head.entry.tick (a + P) ≡ true = lt-ltb k.head.entry.tick (a + P) (omega (arith, zero, longer)) in
      record {
        head = k.head;
        tail = only (enters_before (a + P)) k.tail ++ (later P r.0 ∷ map (later P) s.0);
        is =
            own_grown c
            ∙ ap (λ (l : List Passage). only (enters_before (a + P)) l ++ map (later P) (only (enters_from a) l)) k.is
            ∙ ap (λ (l : List Passage). only (enters_before (a + P)) (k.head ∷ k.tail) ++ map (later P) l) s.1
            ∙ ap (λ (t : Bool). cond t (k.head ∷ only (enters_before (a + P)) k.tail) (only (enters_before (a + P)) k.tail) ++ (later P r.0 ∷ map (later P) s.0)) first;
        starts = k.starts;
        chain = plant (H + P) (a + P) (omega arith) k.chain r.1 wt wb (later P r.0) (map (later P) s.0) opens (chain_later P s.2);
      }

  -- it is the schedule at H + P
  pub grown_schedule : IsSchedule (length G) T (H + P) G
  grown_schedule =
      record {
        few = omega arith;
        present = in_two (λ v. v.component < size T) (λ v m. all_in sched.present (in_left m).0) (λ v m. all_in sched.present (in_old m).0);
        chains = chains;
        messages = in_two (λ v. v.message ≡ message_in T (H + P) G v) message_left message_right;
        order = order;
      }
