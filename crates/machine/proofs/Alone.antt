-- A node's choice without another node: refused, or finished. Assumes nothing.
use mathlib.Core.Path.{◌≡◌, refl, sym, ap, ap₂, ◌∙◌}
use mathlib.Core.Bool.{Bool, true, false, cond}
use mathlib.Core.List.{List, [], ◌∷◌, ◌++◌, map, append-nil}
use Prim.Native.Nat.{ℕ, ◌+◌, ◌-◌, ◌*◌, ◌≤◌, ◌<◌}
use native.Mathlib.Omega.{arith}
use borrow.Author.Tests.{eqb-true, eqb-false, eq-eqb, ne_eqb}
use lib.Dec.{eqb}
use lib.IntN.{ℤ}
use lib.Seq.{sets}
use Rattle.std.specs.Prelude.{None, Some}
use Rattle.model.specs.Lists.{only, each}
use Rattle.model.specs.Network.{Work, one}
use Rattle.model.specs.Order.{work_tick}
use Rattle.model.specs.Machine.{Node, finish}
use Rattle.model.specs.Run.{offset_of, own_tick, takes_part, last_of, no_work, previous_finish, Run, forbidden, on, sleeping, node_of, stand_of, observes, moved, finished, finishes, choose1, observation_width, Written, written_bytes}
use Rattle.model.proofs.Basics.Bools.{clash}
use Rattle.registers.specs.Words.{word_in, part_in, wake_tick_in, finish_tick_in}
use Rattle.stand.specs.Stands.{may_finish}
use Rattle.machine.specs.Running.{setting_in, view_in, previous_in, finishes_work, Running}
use Rattle.machine.specs.Chosen.{op_of, NodeMoved, observes_now, After, Chosen}
use Rattle.registers.proofs.Frames.{same_refl}
use Rattle.machine.proofs.Ops.{last_stand, stands_last, stands_plain, stands_sleeping}
use Rattle.machine.proofs.Choices.{chosen_node, asleep_node, absent_node, sleep_over, done_alone, refused_sleep, refused_alone}
use Rattle.machine.proofs.Numbered.{at_below}
use Rattle.machine.proofs.Hearing.{node_at, all_nodes}
use Rattle.machine.proofs.Moves.{previous_one, after_alone}

-- what has not been allowed has changed nothing
pub kept_all : (program rows : List ℕ) (n H count tick b : ℕ) (l : List ℕ) (v : List ℤ) (out : List ℕ) (written : ℕ)
    → ((s : Run) → Running program rows n l v count s → s.tick ≡ tick → choose1 (setting_in program H rows n l count) s b ≡ forbidden)
    → Chosen program rows n H count tick b l v out written None l v out
kept_all program rows n H count tick b l v out written f =
    record {
      refuses = λ e. f;
      keeps = λ e. (refl, refl, refl);
      allows = λ e. clash e;
      finished = λ e. clash e;
      alone = λ o i k. same_refl;
      two = (0, λ j a k. same_refl);
    }

-- no such node
pub refused_absent : (program rows : List ℕ) (n H count tick b : ℕ) (l : List ℕ) (v : List ℤ) (out : List ℕ) (written : ℕ) → b < 255 → count ≤ b
    → Chosen program rows n H count tick b l v out written None l v out
refused_absent program rows n H count tick b l v out written h k =
    kept_all program rows n H count tick b l v out written
    (λ s r t. absent_node (setting_in program H rows n l count) s b h (omega (arith, all_nodes program l v count s r.nodes)))

-- the setting's offsets are the nodes' words
pub offset_at : (program : List ℕ) (H : ℕ) (rows : List ℕ) (n : ℕ) (l : List ℕ) (count b : ℕ) → b < count → offset_of (setting_in program H rows n l count) b ≡ wake_tick_in l b
offset_at program H rows n l count b h = at_below (wake_tick_in l) 0 count b h

-- it sleeps until later
pub refused_asleep : (program rows : List ℕ) (n H count tick b : ℕ) (l : List ℕ) (v : List ℤ) (out : List ℕ) (written : ℕ) → count ≤ 8 → b < count → tick < wake_tick_in l b
    → Chosen program rows n H count tick b l v out written None l v out
refused_asleep program rows n H count tick b l v out written most h w =
    kept_all program rows n H count tick b l v out written
    (λ s r t.
    asleep_node (setting_in program H rows n l count) s b (omega arith) (omega (arith, all_nodes program l v count s r.nodes))
    (omega (arith, t, w, offset_at program H rows n l count b h)))

module _ (program rows : List ℕ) (n H count tick b : ℕ) (l : List ℕ) (v : List ℤ) (out : List ℕ) (written : ℕ) (most : count ≤ 8) (h : b < count) (wake : wake_tick_in l b ≤ tick) where
  abbrev R : Node
  R = view_in program l v b

  -- the tick of its own clock
  abbrev own : ℕ
  own = tick - wake_tick_in l b

  module _ (s : Run) (r : Running program rows n l v count s) (t : s.tick ≡ tick) where
    here : node_of s b ≡ R
    here = node_at program l v count s r.nodes b h

    goes_by : choose1 (setting_in program H rows n l count) s b ≡ finishes (setting_in program H rows n l count) s b (stand_of R)
    goes_by =
        chosen_node (setting_in program H rows n l count) s b (omega arith) (omega (arith, all_nodes program l v count s r.nodes))
        (omega (arith, t, wake, offset_at program H rows n l count b h))
        ∙ ap (λ (x : Node). finishes (setting_in program H rows n l count) s b (stand_of x)) here

    clock : own_tick (setting_in program H rows n l count) b s.tick ≡ own
    clock = omega (arith, t, offset_at program H rows n l count b h)

    may_here : (x : Bool) → may_finish own R (stand_of R) ≡ x → may_finish (own_tick (setting_in program H rows n l count) b s.tick) (node_of s b) (stand_of R) ≡ x
    may_here x e = ap₂ (λ (k : ℕ) (y : Node). may_finish k y (stand_of R)) clock here ∙ e

    refusal : (op_of program l v b ≡ 4 → ⊥) → may_finish own R (stand_of R) ≡ false → choose1 (setting_in program H rows n l count) s b ≡ forbidden
    refusal o e = goes_by ∙ go (eqb (op_of program l v b) 0) refl
      where
        go : (x : Bool) → eqb (op_of program l v b) 0 ≡ x → finishes (setting_in program H rows n l count) s b (stand_of R) ≡ forbidden
        go true z =
            let q : stand_of R ≡ sleeping = stands_sleeping (part_in program l b) (word_in l b 0) (eqb-true (op_of program l v b) 0 z) in
            ap (finishes (setting_in program H rows n l count) s b) q
            ∙ refused_sleep (setting_in program H rows n l count) s b (ap (may_finish (own_tick (setting_in program H rows n l count) b s.tick) (node_of s b)) (sym q) ∙ may_here false e)
        go false z =
            refused_alone (setting_in program H rows n l count) s b (stand_of R)
            (stands_plain (part_in program l b) (word_in l b 0) (eqb-false (op_of program l v b) 0 z) o)
            (may_here false e)

    -- when its previous work finished
    previous_is : previous_finish (setting_in program H rows n l count) b s.works ≡ finish_tick_in l b
    previous_is =
        ap (λ (k : ℕ). last_of no_work (map (λ (w : Work). work_tick w - k) (only (takes_part b) s.works))) (offset_at program H rows n l count b h)
        ∙ sym (r.finish b h)

    slept : op_of program l v b ≡ 0 → may_finish own R (stand_of R) ≡ true
        → choose1 (setting_in program H rows n l count) s b ≡ on (moved s b (finished (setting_in program H rows n l count) s b) (observes b (own_tick (setting_in program H rows n l count) b s.tick) (node_of s b) ∷ []) (previous_finish (setting_in program H rows n l count) b s.works ∷ []) [])
    slept o e =
        let q : stand_of R ≡ sleeping = stands_sleeping (part_in program l b) (word_in l b 0) o in
        goes_by
        ∙ (ap (finishes (setting_in program H rows n l count) s b) q
        ∙ sleep_over (setting_in program H rows n l count) s b (ap (may_finish (own_tick (setting_in program H rows n l count) b s.tick) (node_of s b)) (sym q) ∙ may_here true e))

  -- it may not finish its statement
  pub refused : (op_of program l v b ≡ 4 → ⊥) → may_finish own R (stand_of R) ≡ false
      → Chosen program rows n H count tick b l v out written None l v out
  refused o e = kept_all program rows n H count tick b l v out written (λ s r t. refusal s r t o e)

  module _ {l' : List ℕ} {v' : List ℤ} (mv : NodeMoved program rows n l v b (finish (part_in program l b) R R.rest) l' v') (op : ℕ) (is : op ≡ op_of program l v b)
      (f : finish_tick_in l' b ≡ cond (finishes_work op) own (finish_tick_in l b)) (o : op_of program l v b ≡ 4 → ⊥)
      (e : may_finish own R (stand_of R) ≡ true) where
    done_with : (w : ℕ) (out' : List ℕ)
        → ((s : Run) → Running program rows n l v count s → s.tick ≡ tick → After program rows n H count b l s out written (Some w) l' v' out')
        → Chosen program rows n H count tick b l v out written (Some w) l' v' out'
    done_with w out' f =
        record {
          refuses = λ x. clash (sym x);
          keeps = λ x. clash (sym x);
          allows = λ x. f;
          finished = λ x. mv.view;
          alone = λ p i k. mv.others i k;
          two = (b, λ j k p. mv.others j k);
        }

    -- a sleep is over, and is observed
    pub woken : op_of program l v b ≡ 0 → (out' : List ℕ) → out' ≡ sets out (written * observation_width) (written_bytes (record { observation = observes b own R; previous = finish_tick_in l b }))
        → Chosen program rows n H count tick b l v out written (Some (written + 1)) l' v' out'
    unfolding each
    woken z out' w =
        done_with (written + 1) out'
        (λ s r t. after_alone H count mv h s r (observes b (own_tick (setting_in program H rows n l count) b s.tick) (node_of s b) ∷ []) (previous_finish (setting_in program H rows n l count) b s.works ∷ []) [] out out' written (Some (written + 1)) (slept s r t z e) refl
        (w ∙ ap (sets out (written * observation_width)) (same s r t))
        refl
        (f ∙ (ap (λ (k : ℕ). cond (finishes_work k) own (finish_tick_in l b)) (is ∙ z) ∙ (r.finish b h ∙ ap (previous_in l b) (sym (append-nil s.works)))))
        (λ i d. refl))
      where
        -- as it is written
        entry : ℕ → Node → ℕ → Written
        entry k x p = record { observation = observes b k x; previous = p }

        same : (s : Run) → Running program rows n l v count s → s.tick ≡ tick
            → written_bytes (entry own R (finish_tick_in l b))
            ≡ each written_bytes (entry (own_tick (setting_in program H rows n l count) b s.tick) (node_of s b) (previous_finish (setting_in program H rows n l count) b s.works) ∷ [])
        same s r t =
            sym
            (append-nil (written_bytes (entry (own_tick (setting_in program H rows n l count) b s.tick) (node_of s b) (previous_finish (setting_in program H rows n l count) b s.works)))
            ∙ (ap₂ (λ (k : ℕ) (x : Node). written_bytes (entry k x (previous_finish (setting_in program H rows n l count) b s.works))) (clock s r t) (here s r t)
            ∙ ap (λ (p : ℕ). written_bytes (entry own R p)) (previous_is s r t)))

    -- another statement is finished
    pub done : (op_of program l v b ≡ 0 → ⊥) → Chosen program rows n H count tick b l v out written (Some written) l' v' out
    unfolding each
    done z =
        done_with written out
        (λ s r t.
        let d = done_alone (setting_in program H rows n l count) s b (stand_of R) (stands_plain (part_in program l b) (word_in l b 0) z o) (may_here s r t true e) in
        after_alone H count mv h s r [] [] (cond (last_stand (stand_of R)) (one b s.tick ∷ []) []) out out written (Some written) (goes_by s r t ∙ d) (ap Some (omega arith)) refl refl
        (f ∙ (ap (λ (x : Bool). cond x own (finish_tick_in l b)) (ap finishes_work is ∙ stands_last (part_in program l b) (word_in l b 0)) ∙ mine s r t (last_stand (stand_of R))))
        (λ i k. others s i k (last_stand (stand_of R))))
      where
        mine : (s : Run) → Running program rows n l v count s → s.tick ≡ tick → (x : Bool) → cond x own (finish_tick_in l b) ≡ previous_in l b (s.works ++ cond x (one b s.tick ∷ []) [])
        mine s r t true = sym (previous_one l b s.works (one b s.tick) (ap (λ (y : Bool). cond y (one b s.tick ∷ []) []) (eq-eqb b b refl)) ∙ ap (λ (k : ℕ). k - wake_tick_in l b) t)
        mine s r t false = r.finish b h ∙ ap (previous_in l b) (sym (append-nil s.works))

        others : (s : Run) (i : ℕ) → (i ≡ b → ⊥) → (x : Bool) → only (takes_part i) (cond x (one b s.tick ∷ []) []) ≡ []
        others s i k true = ap (λ (y : Bool). cond y (one b s.tick ∷ []) []) (ne_eqb b i (λ q. k (sym q)))
        others s i k false = refl

-- what is written where it sleeps until now
pub observed_now : (program l : List ℕ) (v : List ℤ) (b tick : ℕ) → op_of program l v b ≡ 0 → may_finish tick (view_in program l v b) (stand_of (view_in program l v b)) ≡ true
    → observes_now program l v b tick ≡ true
observed_now program l v b tick z e =
    let q : stand_of (view_in program l v b) ≡ sleeping = stands_sleeping (part_in program l b) (word_in l b 0) z in
    rw (eq-eqb (op_of program l v b) 0 z) (ap (may_finish tick (view_in program l v b)) (sym q) ∙ e)
