-- A send: refused, or finished with its listener. Assumes nothing.
use mathlib.Core.Path.{◌≡◌, refl, sym, ap, ap₂, subst, ◌∙◌}
use mathlib.Core.Bool.{Bool, true, false, cond, ◌||◌}
use mathlib.Core.List.{List, [], ◌∷◌, ◌++◌, append-nil}
use Prim.Native.Nat.{ℕ, suc, ◌+◌, ◌-◌, ◌*◌, ◌≤◌, ◌<◌}
use native.Mathlib.Omega.{arith}
use borrow.Author.Tests.{eqb-true, eqb-false, eq-eqb, ne_eqb}
use lib.Dec.{eqb}
use lib.IntN.{ℤ}
use lib.ListN.{drop, set}
use Rattle.std.specs.Prelude.{None, Some}
use Rattle.model.specs.Lists.{each}
use Rattle.model.specs.Network.{Work, two}
use Rattle.model.specs.Reader.{byte}
use Rattle.model.specs.Machine.{Node, part_bytes, finish}
use Rattle.model.specs.Run.{Setting, Run, on, node_of, stand_of, listeners, takes_message, messaged, finished, sent, finishes, choose1}
use Rattle.model.proofs.Basics.Bools.{clash}
use Rattle.registers.specs.Words.{word_in, part_in, wake_tick_in, finish_tick_in}
use Rattle.machine.specs.Running.{setting_in, view_in, previous_in, NodeStands, Running}
use Rattle.machine.specs.Chosen.{op_of, NodeMoved, After, Chosen}
use Rattle.machine.proofs.Numbered.{first_none, first_some}
use Rattle.registers.proofs.Frames.{same_trans, same_part}
use Rattle.machine.proofs.Frames.{same_view, same_stands, stands_wider}
use Rattle.machine.proofs.Ops.{stands_sending}
use Rattle.machine.proofs.Choices.{chosen_node}
use Rattle.machine.proofs.Hearing.{node_at, all_nodes, Found}
use Rattle.machine.proofs.Moves.{previous_none, previous_one, previous_wake, wakes_same, nodes_moved, setting_moved, stands_moved, finished_is}
use Rattle.machine.proofs.Alone.{kept_all, offset_at}

-- two nodes moved, one after the other
module _ {program rows : List ℕ} {n : ℕ} (H count k : ℕ) {c i : ℕ} {l : List ℕ} {v : List ℤ} {l' : List ℕ} {v' : List ℤ} {l'' : List ℕ} {v'' : List ℤ}
    (mv : NodeMoved program rows n l v c (finish (part_in program l c) (view_in program l v c) (view_in program l v c).rest) l' v')
    (hv : NodeMoved program rows n l' v' i (takes_message (part_in program l' i) k (view_in program l' v' i)) l'' v'')
    (h : c < count) (m : i < count) (other : i ≡ c → ⊥) (tick : ℕ) (sent-at : finish_tick_in l' c ≡ tick - wake_tick_in l c) (heard-at : finish_tick_in l'' i ≡ tick - wake_tick_in l i) where
  abbrev g : Setting
  g = setting_in program H rows n l count

  message_is : {s : Run} → Running program rows n l v count s → takes_message (part_bytes program i) k (node_of s i) ≡ takes_message (part_in program l' i) k (view_in program l' v' i)
  message_is {s} r =
      ap₂ (λ (p : List ℕ) (x : Node). takes_message p k x) (sym (same_part (mv.others i other) program ∙ (r.each i m).part))
      (node_at program l v count s r.nodes i m ∙ sym (same_view (mv.others i other) program))

  each_stands : (u j : ℕ) → NodeStands program rows n l v j u → NodeStands program rows n l'' v'' j (u + 131070)
  each_stands u j a = go (eqb j c) refl
    where
      go : (t : Bool) → eqb j c ≡ t → NodeStands program rows n l'' v'' j (u + 131070)
      go true e = let q = eqb-true j c e in same_stands (hv.others j (λ z. other (sym z ∙ q))) (stands_moved mv count j u a)
      go false e = stands_moved hv count j u (same_stands (mv.others j (eqb-false j c e)) a)

  after-message : (s : Run) → Running program rows n l v count s → s.tick ≡ tick → (out : List ℕ) (written : ℕ)
      → choose1 g s c ≡ on (messaged s c (finished g s c) i (takes_message (part_bytes program i) k (node_of s i)) k)
      → After program rows n H count c l s out written (Some written) l'' v'' out
  unfolding each
  after-message s r t out written e =
      record {
        next = messaged s c (finished g s c) i (takes_message (part_bytes program i) k (node_of s i)) k;
        goes = e;
        running =
            record {
              most = r.most;
              listed = r.listed;
              eight = hv.eight;
              nodes =
                  ap₂ (λ (x y : Node). set (set s.nodes c x) i y) (finished_is H count mv h r) (message_is r)
                  ∙ nodes_moved hv count (nodes_moved mv count r.nodes);
              each = λ j a. stands_wider (s.used * 131070 + 131070) (suc s.used * 131070) (omega arith) (each_stands (s.used * 131070) j (r.each j a));
              finish = λ j a. finish_at j a (eqb j c) refl (eqb j i) refl ∙ sym (previous_wake l l'' j (s.works ++ (two c i k s.tick ∷ [])) (wakes_same hv count j ∙ wakes_same mv count j));
              alike = r.alike;
            };
        same = setting_moved hv count H ∙ setting_moved mv count H;
        tick = refl;
        used = refl;
        seen = [];
        observed = sym (append-nil s.observations);
        ticks = [];
        noted = sym (append-nil s.previous);
        counted = (let e : written ≡ written + 0 = omega arith in ap (λ (x : ℕ). Some x) e);
        bytes = refl;
      }
    where
      w : Work
      w = two c i k s.tick

      -- a node that has a part in it
      part_in_is : (j : ℕ) → (eqb c j || eqb i j) ≡ true → finish_tick_in l'' j ≡ tick - wake_tick_in l j → finish_tick_in l'' j ≡ previous_in l j (s.works ++ (w ∷ []))
      part_in_is j p f = f ∙ (ap (λ (u : ℕ). u - wake_tick_in l j) (sym t) ∙ sym (previous_one l j s.works w (ap (λ (y : Bool). cond y (w ∷ []) []) p)))

      or_second : (x : Bool) → (x || true) ≡ true
      or_second true = refl
      or_second false = refl

      finish_at : (j : ℕ) → j < count → (x : Bool) → eqb j c ≡ x → (y : Bool) → eqb j i ≡ y → finish_tick_in l'' j ≡ previous_in l j (s.works ++ (w ∷ []))
      finish_at j a true q y z =
          subst (λ (d : ℕ). finish_tick_in l'' d ≡ previous_in l d (s.works ++ (w ∷ []))) (sym (eqb-true j c q))
          (part_in_is c (ap (λ (x : Bool). x || eqb i c) (eq-eqb c c refl)) ((hv.others c (λ u. other (sym u))).words 29 (omega arith) ∙ sent-at))
      finish_at j a false q true z =
          subst (λ (d : ℕ). finish_tick_in l'' d ≡ previous_in l d (s.works ++ (w ∷ []))) (sym (eqb-true j i z))
          (part_in_is i (ap (λ (x : Bool). eqb c i || x) (eq-eqb i i refl) ∙ or_second (eqb c i)) heard-at)
      finish_at j a false q false z =
          let d = eqb-false j c q in
          let e = eqb-false j i z in
          (hv.others j e).words 29 (omega arith) ∙ ((mv.others j d).words 29 (omega arith) ∙ (r.finish j a
          ∙ sym (previous_none l j s.works (w ∷ []) (ap₂ (λ (x y : Bool). cond (x || y) (w ∷ []) []) (ne_eqb c j (λ u. d (sym u))) (ne_eqb i j (λ u. e (sym u)))))))

module _ (program rows : List ℕ) (n H count tick c : ℕ) (l : List ℕ) (v : List ℤ) (out : List ℕ) (written : ℕ) (most : count ≤ 8) (h : c < count)
    (wake : wake_tick_in l c ≤ tick) (o : op_of program l v c ≡ 4) (k : ℕ) (on-channel : k ≡ byte (drop (word_in l c 0) (part_in program l c)) 1) where
  abbrev G : Setting
  G = setting_in program H rows n l count

  sends_by : (s : Run) → Running program rows n l v count s → s.tick ≡ tick → choose1 G s c ≡ sent G s c k (listeners G s c k)
  sends_by s r t =
      chosen_node G s c (omega arith) (omega (arith, all_nodes program l v count s r.nodes)) (omega (arith, t, wake, offset_at program H rows n l count c h))
      ∙ (ap (λ (x : Node). finishes (setting_in program H rows n l count) s c (stand_of x)) (node_at program l v count s r.nodes c h)
      ∙ (ap (finishes (setting_in program H rows n l count) s c) (stands_sending (part_in program l c) (word_in l c 0) o)
      ∙ ap (λ (a : ℕ). sent G s c a (listeners G s c a)) (sym on-channel)))

  -- no node hears it
  pub unheard : Found program l k count c None → Chosen program rows n H count tick c l v out written None l v out
  unheard f =
      kept_all program rows n H count tick c l v out written
      (λ s r t. sends_by s r t ∙ ap (sent (setting_in program H rows n l count) s c k) (nobody s r))
    where
      nobody : (s : Run) → Running program rows n l v count s → listeners G s c k ≡ []
      nobody s r = first_none _ (f.first v G s refl r.nodes)

  -- node i hears it
  pub taken : (i : ℕ) → Found program l k count c (Some i) → {l' : List ℕ} {v' : List ℤ} {l'' : List ℕ} {v'' : List ℤ}
      → NodeMoved program rows n l v c (finish (part_in program l c) (view_in program l v c) (view_in program l v c).rest) l' v'
      → NodeMoved program rows n l' v' i (takes_message (part_in program l' i) k (view_in program l' v' i)) l'' v''
      → finish_tick_in l' c ≡ tick - wake_tick_in l c → finish_tick_in l'' i ≡ tick - wake_tick_in l i
      → Chosen program rows n H count tick c l v out written (Some written) l'' v'' out
  taken i f mv hv sent-at heard-at =
      let w = f.stands i refl in
      record {
        refuses = λ e. clash (sym e);
        keeps = λ e. clash (sym e);
        allows = λ e s r t. after-message H count k mv hv h w.0 w.1 tick sent-at heard-at s r t out written (goes s r t);
        finished = λ e. same_view (hv.others c (λ z. w.1 (sym z))) program ∙ mv.view;
        alone = λ p. absurd (p o);
        two = (i, λ j a d. same_trans (mv.others j a) (hv.others j d));
      }
    where
      goes : (s : Run) → Running program rows n l v count s → s.tick ≡ tick
          → choose1 (setting_in program H rows n l count) s c
          ≡ on (messaged s c (finished (setting_in program H rows n l count) s c) i (takes_message (part_bytes program i) k (node_of s i)) k)
      goes s r t =
          let x = first_some (listeners G s c k) i (f.first v G s refl r.nodes) in
          sends_by s r t ∙ ap (sent (setting_in program H rows n l count) s c k) x.1
