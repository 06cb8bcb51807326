-- A schedule cut at a lower horizon is the schedule at that horizon, and 10 to 12 are passed. Assumes nothing.
use mathlib.Core.Path.{◌≡◌, refl, sym, ap, subst, ◌∙◌}
use mathlib.Core.Bool.{Bool, true, false, cond, ◌&&◌}
use mathlib.Core.List.{List, [], ◌∷◌, ◌++◌, map}
use mathlib.Core.Option.{Option, none, some}
use Prim.Native.Nat.{ℕ, suc, ◌+◌, ◌≤◌, ◌<◌}
use native.Mathlib.Omega.{arith}
use borrow.Author.Tests.{ltb-true, ltb-false, lt-ltb, leb-true}
use lib.Dec.{ltb, eqb}
use lib.ListN.{length}
use Rattle.model.specs.Lists.{◌∈◌, here, there, only, All, empty, more, accepted}
use Rattle.model.specs.Table.{Component, Table, size, component_of, arc_of}
use Rattle.model.specs.Window.{Entry, channel_of, listens, leaves}
use Rattle.model.specs.Schedule.{Passage, passage_arc, own, heard_by, earliest, carried, message_in, with_message, start_entry, opening}
use Rattle.model.specs.Checks.{checked, IndependentWithin}
use Rattle.model.specs.Chains.{Opens, Chain, last, link, Chained, IsSchedule}
use Rattle.model.proofs.Basics.Members.{only_is, not_true_is}
use Rattle.model.proofs.Checks.Independence.{independent, independent_part, independent_messages}
use Rattle.model.proofs.Schedule.Own.{all_in, in_all, all_then, all_map, own_put, own_in}
use Rattle.model.proofs.Window.Opening.{opened}
use Rattle.model.proofs.Schedule.Messages.{same_message, put, message_put, message_bare}
use Rattle.model.proofs.Checks.Heard.{Windows, heard_is}
use Rattle.model.proofs.Schedule.Scheduled.{ordered_put}
use Rattle.model.proofs.Schedule.Passages.{opens_follows}
use Rattle.recurrence.proofs.Seam.{starts_early, is_wide, enters_before, enters_from, none_left, split_at}
use Rattle.recurrence.proofs.Grow.{only_swap, earliest_agree, ordered_only, chain_rising}

-- a chain up to a lower horizon, with messages that are the same for what closes below it
trim : {H c : ℕ} {C : Component} (h : ℕ) → h ≤ H → (g : Passage → Option ℕ) {v : Passage} {ws : List Passage} → Chain H c C v ws
    → ((x : Passage) → x ∈ (v ∷ ws) → x.end < h → g x ≡ x.message) → Chain h c C (put g v) (map (put g) (only (enters_before h) ws))
trim h l g (last {v = v} e) f = last {v = put g v} (omega arith)
trim {H} {c} {C} h l g (link {v = v} {w = y} {ws = ys} e o k) f = go (trim h l g k (λ x m. f x (there m))) (ltb v.end h) refl
  where
    first : (y.entry.tick ≡ v.end) × (y.entry.tick < y.end) × All (λ w. (y.end ≤ w.entry.tick) × (w.entry.tick < w.end)) ys
    first =
        let q = opened c C (leaves (arc_of C v.edge) v.message v.end v.entry) o in
        let r = all_in (chain_rising (link {v = v} {w = y} {ws = ys} e o k)) (here refl) in
        ((opens_follows H c C v y e o).tick, r.1, chain_rising k)

    go : Chain h c C (put g y) (map (put g) (only (enters_before h) ys)) → (t : Bool) → ltb v.end h ≡ t → Chain h c C (put g v) (map (put g) (only (enters_before h) (y ∷ ys)))
    go ih true t =
        let b = ltb-true v.end h t in
        subst (λ (q : Bool). Chain h c C (put g v) (map (put g) (cond q (y ∷ only (enters_before h) ys) (only (enters_before h) ys)))) (sym (lt-ltb y.entry.tick h (omega (arith, first.0))))
        (link {v = put g v} {w = put g y} b
        (ap (λ (m : Option ℕ). opening c C (leaves (arc_of C v.edge) m v.end v.entry)) (f v (here refl) b) ∙ o) ih)
    go ih false t =
        let b = ltb-false v.end h t in
        let none = (none_left h {S = y ∷ ys} (more {x = y} (omega (arith, first.0)) (all_then (λ w q. omega (arith, q.0, first.0, first.1)) first.2))).0 in
        subst (λ (q : List Passage). Chain h c C (put g v) (map (put g) q)) (sym none) (last {v = put g v} b)

module _ (limit : ℕ) (T : Table) (H : ℕ) (S : List Passage) (sched : IsSchedule limit T H S) (h : ℕ) (less : h ≤ H) (least : 0 < h) where
  abbrev W : List Passage
  W = only (enters_before h) S

  abbrev pub cut : List Passage
  cut = map (put (message_in T h (only (enters_before h) S))) (only (enters_before h) S)

  -- what closes below h keeps its message
  kept : (v : Passage) → v ∈ S → v.end < h → message_in T h W v ≡ v.message
  unfolding message_in
  kept v m e =
      sym (all_in sched.messages m
      ∙ ap (λ l. message_in T H l v) (sym (split_at h sched.order))
      ∙ same_message T H v W late
      ∙ same)
    where
      late : All (λ s. v.end ≤ s.end) (only (enters_from h) S)
      late = in_all (only (enters_from h) S) (λ s n.
          let q = (only_is (enters_from h) S).0 n in
          omega (arith, leb-true h s.entry.tick q.1, starts_early limit T H S sched s q.0, is_wide limit T H S sched s q.0))

      agree : (s : Passage) → s ∈ W → heard_by T H v s ≡ heard_by T h v s
      agree s n = go (ltb s.end v.end) refl
        where
          go : (t : Bool) → ltb s.end v.end ≡ t → heard_by T H v s ≡ heard_by T h v s
          go true t =
              let w = is_wide limit T H S sched s ((only_is (enters_before h) S).0 n).0 in
              let q = ltb-true s.end v.end t in
              rw (lt-ltb s.ready H (omega arith), lt-ltb s.ready h (omega arith))
          go false t =
              let q = ltb-false s.end v.end t in
              (not_true_is (heard_by T H v s)).1 (λ x. (let y = (heard_is 0 T H v s).0 x in omega (arith, y.4)))
              ∙ sym ((not_true_is (heard_by T h v s)).1 (λ x. (let y = (heard_is 0 T h v s).0 x in omega (arith, y.4))))

      same : message_in T H W v ≡ message_in T h W v
      same = ap (λ o. cond (listens (passage_arc T v)) (carried T o) (channel_of (passage_arc T v))) (earliest_agree (heard_by T H v) (heard_by T h v) W none agree)

  chains : (c : ℕ) → c < size T → Chained h c (component_of T c) (own c cut)
  chains c i =
      let g = message_in T h W in
      let k = sched.chains c i in
      let C = component_of T c in
      let o = opened c C (start_entry C) k.starts in
      let zero : k.head.entry.tick ≡ 0 = ap (λ (n : Entry). n.tick) o.entry in
      let first : ltb k.head.entry.tick h ≡ true = lt-ltb k.head.entry.tick h (omega (arith, zero)) in
      record {
        head = put g k.head;
        tail = map (put g) (only (enters_before h) k.tail);
        is =
            own_put g c W
            ∙ ap (map (put g)) (only_swap (λ (v : Passage). eqb v.component c) (enters_before h) S
            ∙ ap (only (enters_before h)) k.is
            ∙ ap (λ (t : Bool). cond t (k.head ∷ only (enters_before h) k.tail) (only (enters_before h) k.tail)) first);
        starts = k.starts;
        chain = trim h less g k.chain (λ x m e. kept x (own_in c S (subst (λ (l : List Passage). x ∈ l) (sym k.is) m)).0 e);
      }

  -- it is the schedule at h
  pub cut_schedule : IsSchedule (length cut) T h cut
  cut_schedule =
      record {
        few = omega arith;
        present = all_map (put (message_in T h W)) (in_all W (λ v i. all_in sched.present ((only_is (enters_before h) S).0 i).0));
        chains = chains;
        messages = all_map (put (message_in T h W)) (in_all W (λ v i. sym (message_put (message_in T h W) T h W (put (message_in T h W) v) ∙ message_bare T h W v (message_in T h W v))));
        order = ordered_put (message_in T h W) (ordered_only (enters_before h) sched.order);
      }

  wins : Windows S
  wins v m = let w = is_wide limit T H S sched v m in omega arith

  -- 10 to 12 are passed
  pub cut_checked : checked 0 T H S ≡ accepted S → checked 0 T h cut ≡ accepted cut
  cut_checked ok =
      let i = (independent 0 T H S wins).0 ok in
      let p : IndependentWithin 0 T h W = independent_part T h H less 0 S (enters_before h) wins (λ v m r. lt-ltb v.entry.tick h (omega (arith, starts_early limit T H S sched v m))) i in
      let w_w : Windows W = λ v m. wins v ((only_is (enters_before h) S).0 m).0 in
      let q : IndependentWithin 0 T h cut = independent_messages 0 T h W (message_in T h W) w_w p in
      (independent 0 T h cut (λ v m. (let w = is_wide (length cut) T h cut cut_schedule v m in omega arith))).1 q
