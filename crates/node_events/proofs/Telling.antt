-- What each call says in the words of the run. Assumes nothing.
use mathlib.Core.Path.{◌≡◌, refl, sym, ap, ap₂, subst, ◌∙◌}
use mathlib.Core.Bool.{Bool, true, cond, ◌&&◌, not}
use mathlib.Core.List.{List, [], ◌∷◌, ◌++◌, append-nil, append_assoc}
use Prim.Native.Nat.{ℕ, zero, suc, ◌+◌, ◌≤◌, ◌<◌}
use native.Mathlib.Omega.{arith}
use borrow.Author.Tests.{ne_eqb, eq-eqb}
use lib.Dec.{leb, eqb}
use lib.ListN.{length, replicate}
use Rattle.model.specs.Lists.{All, empty, more, ◌∈◌, here, below}
use Rattle.model.specs.Network.{Work, one, two, Observation}
use Rattle.model.specs.Run.{Setting, offset_of, own_tick, previous_finish, Run, observes, finished, names, listeners, began}
use Rattle.model.specs.Run.{hears as hears-in}
use Rattle.model.proofs.Basics.Bools.{clash, and_is}
use Rattle.model.proofs.Basics.Members.{only_is}
use Rattle.node.specs.declared.Counts.{Counts}
use Rattle.node.specs.declared.Node.{Node}
use Rattle.node.specs.Views.{node_of}
use Rattle.lent_node.specs.Step.{highest, may_step, stepped_of, message_of, may_take}
use Rattle.node_events.specs.declared.Running.{Running}
use Rattle.node_events.specs.Events.{fine, op_of, settled, worked, passed, most, hears, saying, counts_of, going, happened_of, begun_of, unbegun}
use Rattle.node_events.specs.Ties.{Holds, Led, Sent}
use Rattle.node_events.specs.Told.{Beside, Fits, Moved, Delivered, Begins, channel_of, Woke, WorkDone, NoWorkDone, NothingCame}
use Rattle.node_events.proofs.Laws.{in_window, fine_awake, fine_timed_out, fine_sent}
use Rattle.node_events.proofs.Tied.{settles, works_out, times-out, sends_to}
use Rattle.node_events.proofs.Tied.{wakes as wakes-so}
use Rattle.node_events.proofs.Played.{fine_is, finished_own, finished_sender, finished_listener}

-- ## Works one after the other

all_same : (w : Work) (ws : List Work) → All (λ v. v ≡ w) ws → ws ≡ replicate (length ws) w
all_same w [] empty = refl
all_same w (v ∷ ws) (more e a) = ap₂ ◌∷◌ e (all_same w ws a)

finished_last : (g : Setting) (c tick n : ℕ) (ws : List Work) → previous_finish g c (ws ++ replicate (suc n) (one c tick)) ≡ own_tick g c tick
finished_last g c tick zero ws = finished_own g ws tick c
finished_last g c tick (suc n) ws =
    sym (ap (previous_finish g c) (append_assoc ws (one c tick ∷ []) (replicate (suc n) (one c tick)))) ∙ finished_last g c tick n (ws ++ (one c tick ∷ []))

-- ## The node beside the run, after choices of its own

module _ {g : Setting} {c : ℕ} {p : List ℕ} where
  -- the same node under other names
  held_as : {u : Run} {k : Counts} {q : Node} (y : Running) → counts_of y ≡ k → y.registers ≡ q → Holds g c p k u q → Holds g c p (counts_of y) u y.registers
  held_as y e d h = record { part = h.part; low = h.low; here = h.here; awake = h.awake; node = h.node ∙ ap₂ (λ (a : Counts) (b : Node). node_of p a b) (sym e) (sym d) }

  moved_to : {s : Run} (x y : Running) {q : Node} {f : ℕ} {os : List Observation} {fs : List ℕ} {ws : List Work} → y ≡ going x q f → Led g c p (counts_of x) s q os fs ws
      → f ≡ previous_finish g c (s.works ++ ws) → Moved g c p s y os fs ws
  moved_to {s} x y e a f =
      record {
        state = a.state;
        chosen = a.chosen;
        alone = a.alone;
        beside =
            record {
              holds = held_as y (ap counts_of e) (ap (λ (v : Running). v.registers) e) a.holds;
              finished = ap (λ (v : Running). v.finished) e ∙ f ∙ sym (ap (previous_finish g c) a.alone.works);
            };
      }

-- ## A node that begins

pub begins_so : (p : List ℕ) (clocks variables : ℕ) → Begins p clocks variables (begun_of p clocks variables)
begins_so p clocks variables g c s b =
    let x = unbegun p clocks variables in
    moved_to x (begun_of p clocks variables) refl (settles p (counts_of x) most x.registers g c s b.holds) (b.finished ∙ sym (ap (previous_finish g c) (append-nil s.works)))

-- ## One node that is told something

module _ (p : List ℕ) (channel tick : ℕ) (x : Running) where
  abbrev k : Counts
  k = counts_of x

  abbrev r : Node
  r = x.registers

  abbrev after : ℕ → Running
  after what = happened_of p what channel tick x

  -- a part of which an event is taken is short enough, and its registers fit: the statement is carried out
  module _ (what : ℕ) (e : saying p what channel tick r ≡ 0) where
    abbrev asked : Bool
    asked = cond (eqb what 0) (eqb (op_of p r) 0) (cond (eqb what 1) (leb 1 (op_of p r) && leb (op_of p r) 3) (cond (eqb what 2) (eqb (op_of p r) 4) (cond (eqb what 3) (hears p channel r) (eqb what 4 && eqb (op_of p r) 5))))

    short : leb (length p) 65535 ≡ true
    short = ((and_is (leb (length p) 65535) asked).0 ((and_is (leb r.t highest) (leb (length p) 65535 && asked)).0 (in_window p what channel tick r e).0).1).0

    may : Fits x → (op_of p r ≡ 2 → ⊥) → may_step p k r ≡ true
    may f n = rw (short, f.0, f.1, ne_eqb (op_of p r) 2 n)

  pub woke_so : (after 0).answer ≡ fine → Woke p tick x (after 0)
  woke_so e f g c s b t =
      let z = fine_is p 0 channel tick x e in
      let w = fine_awake p channel tick r z.0 in
      let a = wakes-so p k r w.0 (may 0 z.0 f (λ q. no_add w.0 q)) g c s b.holds (t ∙ w.1) in
      moved_to x (after 0) z.1
      (subst (λ (n : ℕ). Led g c p k s (stepped_of p k r) (observes c tick (node_of p k r) ∷ []) (n ∷ []) []) (sym b.finished)
      (subst (λ (n : ℕ). Led g c p k s (stepped_of p k r) (observes c n (node_of p k r) ∷ []) (previous_finish g c s.works ∷ []) []) (sym w.1) a))
      (b.finished ∙ sym (ap (previous_finish g c) (append-nil s.works)))
    where
      no_add : op_of p r ≡ 0 → op_of p r ≡ 2 → ⊥
      no_add a q = omega arith

  pub work_done_so : (after 1).answer ≡ fine → WorkDone p tick x (after 1)
  work_done_so e n d g c s b t =
      let z = fine_is p 1 channel tick x e in
      let a = works_out p k r g c s b.holds in
      let same : a.finished ≡ replicate (suc n) (one c s.tick) = all_same (one c s.tick) a.finished a.mine ∙ ap (λ (m : ℕ). replicate m (one c s.tick)) (a.number ∙ d) in
      moved_to x (after 1) z.1 (subst (λ (ws : List Work). Led g c p k s (worked p k r) [] [] ws) same a.led) (sym t ∙ sym (finished_last g c s.tick n s.works))

  pub no_work_done_so : (after 1).answer ≡ fine → NoWorkDone p tick x (after 1)
  no_work_done_so e d g c s b t =
      let z = fine_is p 1 channel tick x e in
      let a = works_out p k r g c s b.holds in
      let same : a.finished ≡ [] = all_same (one c s.tick) a.finished a.mine ∙ ap (λ (m : ℕ). replicate m (one c s.tick)) (a.number ∙ d) in
      subst (λ (q : Node). Led g c p k s q [] [] []) (sym (ap (λ (v : Running). v.registers) z.1)) (subst (λ (ws : List Work). Led g c p k s (worked p k r) [] [] ws) same a.led)

  pub nothing_came_so : (after 4).answer ≡ fine → NothingCame p tick x (after 4)
  nothing_came_so e f g c s b t =
      let z = fine_is p 4 channel tick x e in
      let w = fine_timed_out p channel tick r z.0 in
      moved_to x (after 4) z.1 (times-out p k r w.0 (may 4 z.0 f (λ q. no_add w.0 q)) g c s b.holds (t ∙ w.1)) (sym t ∙ sym (finished_own g s.works s.tick c))
    where
      no_add : op_of p r ≡ 5 → op_of p r ≡ 2 → ⊥
      no_add a q = omega arith

-- ## A message

module _ {g : Setting} {c i : ℕ} {p p' : List ℕ} {s : Run} (x x' : Running) (b : Beside g c p s x) (b' : Beside g i p' s x') (channel m : ℕ) (is : List ℕ) (on-m : channel_of p x ≡ m)
    (to : listeners g s c m ≡ i ∷ is) (fits : Fits x) where
  abbrev y : Running
  y = happened_of p 2 channel (own_tick g c s.tick) x

  abbrev z : Running
  z = happened_of p' 3 m (own_tick g i s.tick) x'

  -- no node is its own listener
  differ : i ≡ c → ⊥
  differ q =
      let w : i ∈ listeners g s c m = subst (λ (l : List ℕ). i ∈ l) (sym to) (here refl) in
      let a = (only_is (λ j. not (eqb j c) && hears-in g m (began g c (Rattle.model.specs.Run.node_of s c)) j (Rattle.model.specs.Run.node_of s j)) (below (length s.nodes))).0 w in
      let d = ((and_is (not (eqb i c)) (hears-in g m (began g c (Rattle.model.specs.Run.node_of s c)) i (Rattle.model.specs.Run.node_of s i))).0 a.1).0 in
      clash (sym (ap not (eq-eqb i c q)) ∙ d)

  module _ (e : y.answer ≡ fine) (e' : z.answer ≡ fine) where
    out_so : (op_of p x.registers ≡ 4) × (x.registers.t ≤ own_tick g c s.tick) × (own_tick g c s.tick ≤ x.registers.t + x.registers.d)
    out_so = fine_sent p channel (own_tick g c s.tick) x.registers (fine_is p 2 channel (own_tick g c s.tick) x e).0

    takes_so : may_take p' m x'.registers ≡ true
    takes_so =
        let w = in_window p' 3 m (own_tick g i s.tick) x'.registers (fine_is p' 3 m (own_tick g i s.tick) x' e').0 in
        ((and_is (leb x'.registers.t highest) (leb (length p') 65535 && hears p' m x'.registers)).0 w.0).1

    no_add : op_of p x.registers ≡ 4 → op_of p x.registers ≡ 2 → ⊥
    no_add a q = omega arith

    gone : Sent g c i m s p (counts_of x) (stepped_of p (counts_of x) x.registers) p' (counts_of x') (message_of p' m x'.registers)
    gone =
        let fit = may p channel (own_tick g c s.tick) x 2 (fine_is p 2 channel (own_tick g c s.tick) x e).0 fits (λ q. no_add out_so.0 q) in
        subst (λ (n : ℕ). Sent g c i n s p (counts_of x) (stepped_of p (counts_of x) x.registers) p' (counts_of x') (message_of p' n x'.registers)) on-m
        (sends_to p p' (counts_of x) (counts_of x') x.registers x'.registers out_so.0 fit (subst (λ (n : ℕ). may_take p' n x'.registers ≡ true) (sym on-m) takes_so) g c i is s
        b.holds b'.holds differ (subst (λ (n : ℕ). listeners g s c n ≡ i ∷ is) (sym on-m) to))

    -- up to what the sender waits for next
    sender_on : Led g c p (counts_of x) gone.state (passed p (counts_of x) x.registers) [] [] []
    sender_on = settles p (counts_of x) most (stepped_of p (counts_of x) x.registers) g c gone.state gone.sender

    listener_holds : Holds g i p' (counts_of x') sender_on.state (message_of p' m x'.registers)
    listener_holds =
        record {
          part = gone.listener.part;
          low = gone.listener.low;
          here = subst (λ (n : ℕ). i < n) (sym sender_on.alone.count) gone.listener.here;
          awake = subst (λ (n : ℕ). offset_of g i ≤ n) (sym sender_on.alone.tick) gone.listener.awake;
          node = sender_on.alone.others i differ ∙ gone.listener.node;
        }

    listener_on : Led g i p' (counts_of x') sender_on.state (settled p' (counts_of x') (message_of p' m x'.registers)) [] [] []
    listener_on = settles p' (counts_of x') most (message_of p' m x'.registers) g i sender_on.state listener_holds

    sender_holds : Holds g c p (counts_of x) listener_on.state (passed p (counts_of x) x.registers)
    sender_holds =
        let h = sender_on.holds in
        record {
          part = h.part;
          low = h.low;
          here = subst (λ (n : ℕ). c < n) (sym listener_on.alone.count) h.here;
          awake = subst (λ (n : ℕ). offset_of g c ≤ n) (sym listener_on.alone.tick) h.awake;
          node = listener_on.alone.others c (λ q. differ (sym q)) ∙ h.node;
        }

    works_are : listener_on.state.works ≡ s.works ++ (two c i m s.tick ∷ [])
    works_are = listener_on.alone.works ∙ append-nil sender_on.state.works ∙ sender_on.alone.works ∙ append-nil gone.state.works ∙ gone.works

    pub delivered : Delivered g c i m p p' s y z
    delivered =
        let left = (fine_is p 2 channel (own_tick g c s.tick) x e).1 in
        let left' = (fine_is p' 3 m (own_tick g i s.tick) x' e').1 in
        record {
          out = gone.state;
          between = sender_on.state;
          state = listener_on.state;
          chosen = gone.chosen;
          sender_goes = sender_on.chosen;
          listener_goes = listener_on.chosen;
          sender =
              record {
                holds = held_as y (ap counts_of left) (ap (λ (v : Running). v.registers) left) sender_holds;
                finished = ap (λ (v : Running). v.finished) left ∙ sym (finished_sender g s.works s.tick c i m) ∙ sym (ap (previous_finish g c) works_are);
              };
          listener =
              record {
                holds = held_as z (ap counts_of left') (ap (λ (v : Running). v.registers) left') listener_on.holds;
                finished = ap (λ (v : Running). v.finished) left' ∙ sym (finished_listener g s.works s.tick c i m differ) ∙ sym (ap (previous_finish g i) works_are);
              };
          tick = listener_on.alone.tick ∙ sender_on.alone.tick ∙ gone.tick;
          observations = listener_on.alone.observations ∙ append-nil sender_on.state.observations ∙ sender_on.alone.observations ∙ append-nil gone.state.observations ∙ gone.observations;
          previous = listener_on.alone.previous ∙ append-nil sender_on.state.previous ∙ sender_on.alone.previous ∙ append-nil gone.state.previous ∙ gone.previous;
          works = works_are;
          count = listener_on.alone.count ∙ sender_on.alone.count ∙ gone.count;
          others = λ j n o. listener_on.alone.others j o ∙ sender_on.alone.others j n ∙ gone.others j n o;
        }
