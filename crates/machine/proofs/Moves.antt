-- The run's state after a node has moved, and the slices that hold it. Assumes nothing.
use mathlib.Core.Path.{◌≡◌, refl, sym, ap, ap₂, subst, ◌∙◌}
use mathlib.Core.Bool.{Bool, true, false}
use mathlib.Core.List.{List, [], ◌∷◌, ◌++◌, map, append-nil}
use Prim.Native.Nat.{ℕ, suc, ◌+◌, ◌-◌, ◌*◌, ◌≤◌, ◌<◌}
use native.Mathlib.Omega.{arith}
use borrow.Author.Tests.{eqb-true, eqb-false}
use lib.Dec.{eqb}
use lib.IntN.{ℤ}
use lib.ListN.{length, set, length-append}
use lib.Seq.{sets}
use Rattle.model.specs.Lists.{only, below, each}
use Rattle.model.specs.Schedule.{own}
use Rattle.model.specs.Network.{Observation, Work}
use Rattle.model.specs.Machine.{Node, finish}
use Rattle.model.specs.Order.{work_tick}
use Rattle.model.specs.Run.{Counts, Setting, ready_of_nth, Run, takes_part, last_of, no_work, on, moved, finished, choose1, observation_width, written_bytes, with_ticks}
use Rattle.model.proofs.Basics.Members.{only_append}
use Rattle.model.proofs.Network.Reached.{map_append}
use Rattle.model.proofs.Run.FinishTicks.{last_end}
use Rattle.rows.specs.Rows.{rows_of}
use Rattle.registers.specs.Words.{word_in, part_in, wake_tick_in, finish_tick_in}
use Rattle.std.specs.Prelude.{Option, Some}
use Rattle.machine.specs.Running.{counts_at, setting_in, view_in, previous_in, NodeStands, Running}
use Rattle.machine.specs.Chosen.{NodeMoved, After}
use Rattle.machine.proofs.Numbered.{same_below, set_below}
use Rattle.machine.proofs.Frames.{same_view, same_stands, stands_wider}
use Rattle.machine.proofs.Hearing.{node_at}

-- ## When a work finished

module _ (l : List ℕ) (c : ℕ) where
  joined : (ws us : List Work) → map (λ (w : Work). work_tick w - wake_tick_in l c) (only (takes_part c) (ws ++ us)) ≡ map (λ (w : Work). work_tick w - wake_tick_in l c) (only (takes_part c) ws) ++ map (λ (w : Work). work_tick w - wake_tick_in l c) (only (takes_part c) us)
  joined ws us =
      ap (map (λ (w : Work). work_tick w - wake_tick_in l c)) (only_append (takes_part c) ws us)
      ∙ map_append (λ (w : Work). work_tick w - wake_tick_in l c) (only (takes_part c) ws) (only (takes_part c) us)

  -- works of others
  pub previous_none : (ws us : List Work) → only (takes_part c) us ≡ [] → previous_in l c (ws ++ us) ≡ previous_in l c ws
  previous_none ws us e =
      ap (last_of no_work)
      (joined ws us ∙ (ap (λ (xs : List Work). map (λ (w : Work). work_tick w - wake_tick_in l c) (only (takes_part c) ws) ++ map (λ (w : Work). work_tick w - wake_tick_in l c) xs) e
      ∙ append-nil (map (λ (w : Work). work_tick w - wake_tick_in l c) (only (takes_part c) ws))))

  -- its own, last
  pub previous_one : (ws : List Work) (w : Work) → only (takes_part c) (w ∷ []) ≡ w ∷ [] → previous_in l c (ws ++ (w ∷ [])) ≡ work_tick w - wake_tick_in l c
  previous_one ws w e =
      ap (last_of no_work)
      (joined ws (w ∷ []) ∙ ap (λ (xs : List Work). map (λ (x : Work). work_tick x - wake_tick_in l c) (only (takes_part c) ws) ++ map (λ (x : Work). work_tick x - wake_tick_in l c) xs) e)
      ∙ last_end no_work (map (λ (x : Work). work_tick x - wake_tick_in l c) (only (takes_part c) ws)) (work_tick w - wake_tick_in l c)

-- by the same offset
pub previous_wake : (l l' : List ℕ) (c : ℕ) (ws : List Work) → wake_tick_in l' c ≡ wake_tick_in l c → previous_in l' c ws ≡ previous_in l c ws
previous_wake l l' c ws e = ap (λ (k : ℕ). last_of no_work (map (λ (w : Work). work_tick w - k) (only (takes_part c) ws))) e

module _ {program rows : List ℕ} {n : ℕ} {l : List ℕ} {v : List ℤ} {c : ℕ} {q : Node} {l' : List ℕ} {v' : List ℤ} (mv : NodeMoved program rows n l v c q l' v') (count : ℕ) where
  -- the nodes, one of them as it is now
  pub nodes_moved : {ns : List Node} → ns ≡ map (view_in program l v) (below count) → set ns c q ≡ map (view_in program l' v') (below count)
  nodes_moved {ns} e =
      ap₂ (λ (xs : List Node) (x : Node). set xs c x) e (sym mv.view)
      ∙ set_below (view_in program l v) (view_in program l' v') count c (λ i h m. same_view (mv.others i m) program)

  held_same : (i k : ℕ) → 21 ≤ k → k < 25 → word_in l' i k ≡ word_in l i k
  held_same i k a b = go (eqb i c) refl
    where
      go : (t : Bool) → eqb i c ≡ t → word_in l' i k ≡ word_in l i k
      go true e = rw (eqb-true i c e) (mv.fixed k a b)
      go false e = (mv.others i (eqb-false i c e)).words k (omega arith)

  pub wakes_same : (i : ℕ) → wake_tick_in l' i ≡ wake_tick_in l i
  wakes_same i = go (eqb i c) refl
    where
      go : (t : Bool) → eqb i c ≡ t → wake_tick_in l' i ≡ wake_tick_in l i
      go true e = rw (eqb-true i c e) mv.wakes
      go false e = (mv.others i (eqb-false i c e)).words 28 (omega arith)

  -- what the run goes by
  pub setting_moved : (H : ℕ) → setting_in program H rows n l' count ≡ setting_in program H rows n l count
  setting_moved H =
      ap₂ (λ (ks : List Counts) (os : List ℕ). record { program = program; horizon = H; counts = ks; ready = λ j k. ready_of_nth (own j (rows_of rows n)) k; offsets = os })
      (same_below (counts_at l') (counts_at l) count (λ i h. rw (held_same i 23 (omega arith) (omega arith), held_same i 24 (omega arith) (omega arith))))
      (same_below (wake_tick_in l') (wake_tick_in l) count (λ i h. wakes_same i))

  -- each stands, within bounds of its own
  pub stands_moved : (i m : ℕ) → NodeStands program rows n l v i m → NodeStands program rows n l' v' i (m + 131070)
  stands_moved i m a = go (eqb i c) refl
    where
      go : (t : Bool) → eqb i c ≡ t → NodeStands program rows n l' v' i (m + 131070)
      go true e =
          let p = eqb-true i c e in
          subst (λ (j : ℕ). NodeStands program rows n l' v' j (m + 131070)) (sym p) (mv.stands m (subst (λ (j : ℕ). NodeStands program rows n l v j m) p a))
      go false e = stands_wider m (m + 131070) (omega arith) (same_stands (mv.others i (eqb-false i c e)) a)

-- node c has finished its statement, and nothing else has happened to any node
module _ {program rows : List ℕ} {n : ℕ} (H count : ℕ) {c : ℕ} {l : List ℕ} {v : List ℤ} {l' : List ℕ} {v' : List ℤ}
    (mv : NodeMoved program rows n l v c (finish (part_in program l c) (view_in program l v c) (view_in program l v c).rest) l' v') (h : c < count) where
  abbrev g : Setting
  g = setting_in program H rows n l count

  pub finished_is : {s : Run} → Running program rows n l v count s → finished g s c ≡ finish (part_in program l c) (view_in program l v c) (view_in program l v c).rest
  finished_is {s} r =
      ap₂ (λ (p : List ℕ) (x : Node). finish p x x.rest) (sym (r.each c h).part) (node_at program l v count s r.nodes c h)

  pub after_alone : (s : Run) → Running program rows n l v count s → (os : List Observation) (fs : List ℕ) (ws : List Work) (out out' : List ℕ) (written : ℕ) (m : Option ℕ)
      → choose1 g s c ≡ on (moved s c (finished g s c) os fs ws) → m ≡ Some (written + length os) → out' ≡ sets out (written * observation_width) (each written_bytes (with_ticks os fs))
      → length fs ≡ length os → finish_tick_in l' c ≡ previous_in l c (s.works ++ ws) → ((i : ℕ) → (i ≡ c → ⊥) → only (takes_part i) ws ≡ [])
      → After program rows n H count c l s out written m l' v' out'
  after_alone s r os fs ws out out' written m e w b alike mine others =
      record {
        next = moved s c (finished g s c) os fs ws;
        goes = e;
        running =
            record {
              most = r.most;
              listed = r.listed;
              eight = mv.eight;
              nodes = ap (set s.nodes c) (finished_is r) ∙ nodes_moved mv count r.nodes;
              each = λ i k. stands_wider (s.used * 131070 + 131070) (suc s.used * 131070) (omega arith) (stands_moved mv count i (s.used * 131070) (r.each i k));
              finish = λ i k. finish_at i k (eqb i c) refl;
              alike = omega (arith, length-append s.previous fs, length-append s.observations os, r.alike);
            };
        same = setting_moved mv count H;
        tick = refl;
        used = refl;
        seen = os;
        observed = refl;
        ticks = fs;
        noted = refl;
        counted = w;
        bytes = b;
      }
    where
      finish_at : (i : ℕ) → i < count → (t : Bool) → eqb i c ≡ t → finish_tick_in l' i ≡ previous_in l' i (s.works ++ ws)
      finish_at i k true z =
          subst (λ (j : ℕ). finish_tick_in l' j ≡ previous_in l' j (s.works ++ ws)) (sym (eqb-true i c z)) (mine ∙ sym (previous_wake l l' c (s.works ++ ws) (wakes_same mv count c)))
      finish_at i k false z =
          let d = eqb-false i c z in
          (mv.others i d).words 29 (omega arith) ∙ (r.finish i k ∙ (sym (previous_none l i s.works ws (others i d)) ∙ sym (previous_wake l l' i (s.works ++ ws) (wakes_same mv count i))))
