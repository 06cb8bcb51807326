-- A run does not look at how many sleeps its nodes have finished, but for the ready of the next passage: with so many more at each node, and readies
-- that are told so much later, it runs alike. Assumes nothing.
use mathlib.Core.Path.{◌≡◌, refl, sym, ap, ap₂, subst, ◌∙◌}
use mathlib.Core.Bool.{Bool, true, false, cond, ◌&&◌, not}
use mathlib.Core.List.{List, [], ◌∷◌, ◌++◌}
use mathlib.Core.Option.{Option, none, some}
use Prim.Native.Nat.{ℕ, zero, suc, ◌+◌, ◌-◌, ◌≤◌, ◌<◌}
use native.Mathlib.Omega.{arith}
use borrow.Author.Tests.{ltb-true}
use lib.Dec.{ltb, leb, eqb}
use lib.IntN.{◌+ℤ◌}
use lib.ListN.{length, get_or, set, length-set}
use Rattle.model.specs.Lists.{◌∈◌, here, there, only, below, is_none, All, empty, more}
use Rattle.model.specs.Window.{Pick, value_at, in_range}
use Rattle.model.specs.Program.{Statement, sleep, set_to, add_to, done, send, listen, age, reset, enter, trial, low, high, data_low, data_high, keep, budget, take_edge, choose}
use Rattle.model.specs.Network.{Work, one, Observation}
use Rattle.model.specs.Machine.{Node, to, takes, exec, finish, part_bytes}
use Rattle.model.specs.Run.{Setting, Run, Result, Outcome, forbidden, on, over, Stand, sleeping, sending, listening, finishing, adding, working, taking, elsewhere, nowhere, stand_of, node_of, no_node, window_end, own_tick, awake, began, hears, previous_finish, observes, moved, messaged, ticked, takes_message, finished, sent, listeners, finishes, due, some_due, overdue, late, late_nodes, after_tick, choose1, continue, ends, run_from}
use Rattle.model.proofs.Basics.Bools.{and_is}
use Rattle.model.proofs.Node.Facts.{sleeps_after, exec_sleeps}
use Rattle.recurrence.proofs.Found.{row_in}
use Rattle.recurrence.proofs.Agree.{with_ready, Before, choice_before}

-- ## Nodes that have finished more sleeps

-- a node with another number of finished sleeps
abbrev pub with_sleeps : Node → ℕ → Node
with_sleeps r k =
    record {
      rest = r.rest;
      location = r.location;
      clocks = r.clocks;
      values = r.values;
      t = r.t;
      n = r.n;
      d = r.d;
      edge = r.edge;
      goes = r.goes;
      tried = r.tried;
      kept = r.kept;
      sleeps = k;
    }

-- with so many more
abbrev pub rested : ℕ → Node → Node
rested m r = with_sleeps r (r.sleeps + m)

-- node c so many more, and so on
abbrev pub rested_from : (ℕ → ℕ) → ℕ → List Node → List Node
rested_from m c [] = []
rested_from m c (r ∷ rs) = rested (m c) r ∷ rested_from m (suc c) rs

abbrev pub rested_run : (ℕ → ℕ) → Run → Run
rested_run m s =
    record { tick = s.tick; used = s.used; nodes = rested_from m 0 s.nodes; observations = s.observations; previous = s.previous; works = s.works }

pub rested_length : (m : ℕ → ℕ) (c : ℕ) (rs : List Node) → length (rested_from m c rs) ≡ length rs
rested_length m c [] = refl
rested_length m c (r ∷ rs) = ap suc (rested_length m (suc c) rs)

pub rested_at : (m : ℕ → ℕ) (c : ℕ) (rs : List Node) (i : ℕ) → i < length rs → get_or (rested_from m c rs) i no_node ≡ rested (m (c + i)) (get_or rs i no_node)
rested_at m c [] i h = absurd (omega arith)
rested_at m c (r ∷ rs) zero h = ap (λ (k : ℕ). rested (m k) r) (let z : c ≡ c + 0 = omega arith in z)
rested_at m c (r ∷ rs) (suc i) h =
    rested_at m (suc c) rs i (omega arith) ∙ ap (λ (k : ℕ). rested (m k) (get_or rs i no_node)) (let z : suc c + i ≡ c + suc i = omega arith in z)

rested_set : (m : ℕ → ℕ) (c : ℕ) (rs : List Node) (i : ℕ) (q : Node) → set (rested_from m c rs) i (rested (m (c + i)) q) ≡ rested_from m c (set rs i q)
rested_set m c [] i q = refl
rested_set m c (r ∷ rs) zero q = ap (λ (k : ℕ). rested (m k) q ∷ rested_from m (suc c) rs) (let z : c + 0 ≡ c = omega arith in z)
rested_set m c (r ∷ rs) (suc i) q =
    ap (λ (l : List Node). rested (m c) r ∷ l)
    (ap (λ (k : ℕ). set (rested_from m (suc c) rs) i (rested (m k) q)) (let z : c + suc i ≡ suc c + i = omega arith in z) ∙ rested_set m (suc c) rs i q)

-- ## One statement

rested_exec : (p : List ℕ) (k : ℕ) (r : Node) (s : Statement) → exec p (rested k r) s ≡ rested k (exec p r s)
unfolding exec
rested_exec p k r sleep = ap (with_sleeps r) (let z : suc (r.sleeps + k) ≡ suc r.sleeps + k = omega arith in z)
rested_exec p k r (set_to v z) = refl
rested_exec p k r (add_to v z) = refl
rested_exec p k r done = refl
rested_exec p k r (send a) = refl
rested_exec p k r (listen qs) = refl
rested_exec p k r (age i) = refl
rested_exec p k r (reset i) = refl
rested_exec p k r (enter l) = refl
rested_exec p k r trial = refl
rested_exec p k r (low i x) = refl
rested_exec p k r (high i x) = refl
rested_exec p k r (data_low v x) = refl
rested_exec p k r (data_high v x) = refl
rested_exec p k r (keep e) = refl
rested_exec p k r (budget x) = refl
rested_exec p k r take_edge = go r.kept
  where
    go : (o : Option Pick) → takes (rested k r) p o ≡ rested k (takes r p o)
    go none = refl
    go (some x) = refl
rested_exec p k r choose = refl

rested_finish : (p : List ℕ) (k : ℕ) (r : Node) (ss : List Statement) → finish p (rested k r) ss ≡ rested k (finish p r ss)
rested_finish p k r [] = refl
rested_finish p k r (s ∷ ss) = rested_exec p k (to r ss) s

rested_takes : (p : List ℕ) (a k : ℕ) (r : Node) → takes_message p a (rested k r) ≡ rested k (takes_message p a r)
rested_takes p a k r =
    ap (λ (q : Node). record { rest = q.rest; location = q.location; clocks = q.clocks; values = q.values; t = q.t; n = q.n; d = q.d; edge = q.edge; goes = (takes_message p a r).goes; tried = q.tried; kept = q.kept; sleeps = q.sleeps }) (rested_finish p k r r.rest)

-- sleeps are never undone
after_more : (s : Statement) (n : ℕ) → n ≤ sleeps_after s n
after_more sleep n = omega arith
after_more (set_to v z) n = omega arith
after_more (add_to v z) n = omega arith
after_more done n = omega arith
after_more (send a) n = omega arith
after_more (listen qs) n = omega arith
after_more (age i) n = omega arith
after_more (reset i) n = omega arith
after_more (enter l) n = omega arith
after_more trial n = omega arith
after_more (low i x) n = omega arith
after_more (high i x) n = omega arith
after_more (data_low v x) n = omega arith
after_more (data_high v x) n = omega arith
after_more (keep e) n = omega arith
after_more (budget x) n = omega arith
after_more take_edge n = omega arith
after_more choose n = omega arith

pub finish_more : (p : List ℕ) (r : Node) (ss : List Statement) → r.sleeps ≤ (finish p r ss).sleeps
finish_more p r [] = omega arith
finish_more p r (s ∷ ss) = omega (arith, after_more s r.sleeps, exec_sleeps p (to r ss) s)

-- ## So many sleeps at least

pub data Slept (least : ℕ → ℕ) : ℕ → List Node → Type 0 where
  nobody : {c : ℕ} → Slept least c []
  also : {c : ℕ} {r : Node} {rs : List Node} → least c ≤ r.sleeps → Slept least (suc c) rs → Slept least c (r ∷ rs)

pub slept_at : {least : ℕ → ℕ} {c : ℕ} {rs : List Node} → Slept least c rs → (i : ℕ) → i < length rs → least (c + i) ≤ (get_or rs i no_node).sleeps
slept_at nobody i h = absurd (omega arith)
slept_at {least} {c} (also l s) zero h = omega (arith, ap least (let z : c + 0 ≡ c = omega arith in z))
slept_at {least} {c} (also l s) (suc i) h = omega (arith, slept_at s i (omega arith), ap least (let z : suc c + i ≡ c + suc i = omega arith in z))

pub slept_set : {least : ℕ → ℕ} {c : ℕ} {rs : List Node} → Slept least c rs → (i : ℕ) (q : Node) → (i < length rs → least (c + i) ≤ q.sleeps) → Slept least c (set rs i q)
slept_set nobody i q h = nobody
slept_set {least} {c} (also l s) zero q h = also {c = c} {r = q} (omega (arith, h (omega arith), ap least (let z : c + 0 ≡ c = omega arith in z))) s
slept_set {least} {c} (also l s) (suc i) q h = also l (slept_set s i q (λ k. omega (arith, h (omega arith), ap least (let z : suc c + i ≡ c + suc i = omega arith in z))))

-- ## The same choice

abbrev pub rested_outcome : (ℕ → ℕ) → Outcome → Outcome
rested_outcome m forbidden = forbidden
rested_outcome m (on s) = on (rested_run m s)
rested_outcome m (over s e n) = over (rested_run m s) e n

outcome_if : (m : ℕ → ℕ) (b : Bool) (x y : Outcome) → cond b (rested_outcome m x) (rested_outcome m y) ≡ rested_outcome m (cond b x y)
outcome_if m true x y = refl
outcome_if m false x y = refl

only_same : {A : Type 0} (p q : A → Bool) (xs : List A) → ((x : A) → x ∈ xs → p x ≡ q x) → only p xs ≡ only q xs
only_same p q [] f = refl
only_same p q (x ∷ xs) f = ap₂ (λ (b : Bool) (l : List _). cond b (x ∷ l) l) (f x (here refl)) (only_same p q xs (λ y i. f y (there i)))

due_rested : (g : Setting) (now k : ℕ) (r : Node) (s : Stand) → due g now (rested k r) s ≡ due g now r s
due_rested g now k r sleeping = refl
due_rested g now k r (sending a) = refl
due_rested g now k r (listening qs) = refl
due_rested g now k r finishing = refl
due_rested g now k r (adding v z) = refl
due_rested g now k r working = refl
due_rested g now k r taking = refl
due_rested g now k r elsewhere = refl
due_rested g now k r nowhere = refl

module _ (g : Setting) (f : ℕ → ℕ → Option ℕ) (m least : ℕ → ℕ)
    (agree : (c k now : ℕ) → least c ≤ k → now ≤ g.horizon → overdue g (g.ready c (k + m c)) now ≡ overdue g (f c k) now) where
  some-due : (now c : ℕ) (rs : List Node) → some_due g now c (rested_from m c rs) ≡ some_due (with_ready g f) now c rs
  unfolding some_due
  some-due now c [] = refl
  some-due now c (r ∷ rs) =
      ap₂ (λ (x b : Bool). cond (awake g c now && x) true b) (due_rested g (own_tick g c now) (m c) r (stand_of r)) (some-due now (suc c) rs)

  late_rested : (now c : ℕ) (r : Node) (s : Stand) → least c ≤ r.sleeps → now ≤ g.horizon → late g now c (rested (m c) r) s ≡ late (with_ready g f) now c r s
  late_rested now c r sleeping l h = refl
  late_rested now c r (sending a) l h = refl
  late_rested now c r (listening qs) l h = refl
  late_rested now c r finishing l h = refl
  late_rested now c r (adding v z) l h = refl
  late_rested now c r working l h = refl
  late_rested now c r taking l h = agree c r.sleeps now l h
  late_rested now c r elsewhere l h = agree c r.sleeps now l h
  late_rested now c r nowhere l h = agree c r.sleeps now l h

  late_all : (now c : ℕ) (rs : List Node) → Slept least c rs → now ≤ g.horizon → late_nodes g now c (rested_from m c rs) ≡ late_nodes (with_ready g f) now c rs
  unfolding late_nodes
  late_all now c [] s h = refl
  late_all now c (r ∷ rs) (also l s) h =
      ap₂ (λ (b : Bool) (x : List ℕ). cond b (c ∷ x) x) (late_rested (own_tick g c now) c r (stand_of r) l (omega arith)) (late_all now (suc c) rs s h)

  module _ (s : Run) where
    node_rested : (c : ℕ) → c < length s.nodes → node_of (rested_run m s) c ≡ rested (m c) (node_of s c)
    node_rested c h = rested_at m 0 s.nodes c h ∙ ap (λ (k : ℕ). rested (m k) (node_of s c)) (let z : 0 + c ≡ c = omega arith in z)

    set_rested : (ns : List Node) (c : ℕ) (q : Node) → set (rested_from m 0 ns) c (rested (m c) q) ≡ rested_from m 0 (set ns c q)
    set_rested ns c q = ap (λ (k : ℕ). set (rested_from m 0 ns) c (rested (m k) q)) (let z : c ≡ 0 + c = omega arith in z) ∙ rested_set m 0 ns c q

    finished_rested : (c : ℕ) → c < length s.nodes → finished g (rested_run m s) c ≡ rested (m c) (finished g s c)
    finished_rested c h =
        ap (λ (q : Node). finish (part_bytes g.program c) q q.rest) (node_rested c h) ∙ rested_finish (part_bytes g.program c) (m c) (node_of s c) (node_of s c).rest

    moved_rested : (c : ℕ) → c < length s.nodes → (os : List Observation) (fs : List ℕ) (ws : List Work)
        → moved (rested_run m s) c (finished g (rested_run m s) c) os fs ws ≡ rested_run m (moved s c (finished g s c) os fs ws)
    moved_rested c h os fs ws =
        ap (λ (q : Node). moved (rested_run m s) c q os fs ws) (finished_rested c h)
        ∙ ap (λ (ns : List Node). record { tick = s.tick; used = suc s.used; nodes = ns; observations = s.observations ++ os; previous = s.previous ++ fs; works = s.works ++ ws }) (set_rested s.nodes c (finished g s c))

    -- ## A send

    hears_rested : (k c i : ℕ) → c < length s.nodes → i < length s.nodes
        → hears g k (began g c (node_of (rested_run m s) c)) i (node_of (rested_run m s) i) ≡ hears g k (began g c (node_of s c)) i (node_of s i)
    hears_rested k c i h l = ap₂ (λ (a b : Node). hears g k (began g c a) i b) (node_rested c h) (node_rested i l)

    listeners_rested : (c k : ℕ) → c < length s.nodes → listeners g (rested_run m s) c k ≡ listeners g s c k
    listeners_rested c k h =
        ap (λ (n : ℕ). only (λ i. not (eqb i c) && hears g k (began g c (node_of (rested_run m s) c)) i (node_of (rested_run m s) i)) (below n)) (rested_length m 0 s.nodes)
        ∙ only_same (λ i. not (eqb i c) && hears g k (began g c (node_of (rested_run m s) c)) i (node_of (rested_run m s) i)) (λ i. not (eqb i c) && hears g k (began g c (node_of s c)) i (node_of s i)) (below (length s.nodes))
        (λ i q. ap (λ (b : Bool). not (eqb i c) && b) (hears_rested k c i h (omega (arith, (row_in 0 (length s.nodes) i q).1))))

    sent_rested : (c k : ℕ) (is : List ℕ) → c < length s.nodes → All (λ i. i < length s.nodes) is → sent g (rested_run m s) c k is ≡ rested_outcome m (sent g s c k is)
    sent_rested c k [] h a = refl
    sent_rested c k (i ∷ is) h (more l a) =
        let p = part_bytes g.program i in
        let q = ap (takes_message p k) (node_rested i l) ∙ rested_takes p k (m i) (node_of s i) in
        ap on
        (ap₂ (λ (x y : Node). messaged (rested_run m s) c x i y k) (finished_rested c h) q
        ∙ ap (λ (ns : List Node). record { tick = s.tick; used = suc s.used; nodes = ns; observations = s.observations; previous = s.previous; works = (messaged s c (finished g s c) i (takes_message p k (node_of s i)) k).works })
        (ap (λ (ns : List Node). set ns i (rested (m i) (takes_message p k (node_of s i)))) (set_rested s.nodes c (finished g s c)) ∙ set_rested (set s.nodes c (finished g s c)) i (takes_message p k (node_of s i))))

    -- ## A node

    finishes_rested : (c : ℕ) → c < length s.nodes → (w : Stand) → finishes g (rested_run m s) c w ≡ rested_outcome m (finishes (with_ready g f) s c w)
    finishes_rested c h sleeping =
        ap₂ (λ (r : Node) (x : Outcome). cond (eqb (own_tick g c s.tick) r.t) x forbidden) (node_rested c h)
        (ap (λ (r : Node). on (moved (rested_run m s) c (finished g (rested_run m s) c) (observes c (own_tick g c s.tick) r ∷ []) (previous_finish g c s.works ∷ []) [])) (node_rested c h)
        ∙ ap on (moved_rested c h (observes c (own_tick g c s.tick) (node_of s c) ∷ []) (previous_finish g c s.works ∷ []) []))
        ∙ outcome_if m (eqb (own_tick g c s.tick) (node_of s c).t) _ forbidden
    finishes_rested c h (sending k) =
        ap (sent g (rested_run m s) c k) (listeners_rested c k h)
        ∙ sent_rested c k (listeners g s c k) h (Rattle.model.proofs.Schedule.Own.in_all (listeners g s c k) (λ i q. omega (arith, (row_in 0 (length s.nodes) i ((Rattle.model.proofs.Basics.Members.only_is (λ i. not (eqb i c) && hears g k (began g c (node_of s c)) i (node_of s i)) (below (length s.nodes))).0 q).0).1)))
    finishes_rested c h (listening qs) =
        ap₂ (λ (r : Node) (x : Outcome). cond (eqb (own_tick g c s.tick) (window_end r)) x forbidden) (node_rested c h) (ap on (moved_rested c h [] [] (one c s.tick ∷ [])))
        ∙ outcome_if m (eqb (own_tick g c s.tick) (window_end (node_of s c))) _ forbidden
    finishes_rested c h finishing = ap on (moved_rested c h [] [] (one c s.tick ∷ []))
    finishes_rested c h (adding v z) =
        ap₂ (λ (r : Node) (x : Outcome). cond (in_range (value_at r.values v +ℤ z)) x forbidden) (node_rested c h) (ap on (moved_rested c h [] [] []))
        ∙ outcome_if m (in_range (value_at (node_of s c).values v +ℤ z)) _ forbidden
    finishes_rested c h working = ap on (moved_rested c h [] [] [])
    finishes_rested c h taking =
        ap₂ (λ (r : Node) (x : Outcome). cond (is_none r.kept) forbidden x) (node_rested c h) (ap on (moved_rested c h [] [] []))
        ∙ outcome_if m (is_none (node_of s c).kept) forbidden _
    finishes_rested c h elsewhere = ap on (moved_rested c h [] [] [])
    finishes_rested c h nowhere = refl

    -- ## A tick

    tick_rested : (l : List ℕ) → after_tick g (ticked (rested_run m s)) l ≡ rested_outcome m (after_tick (with_ready g f) (ticked s) l)
    tick_rested [] = outcome_if m (eqb (suc s.tick) g.horizon) (over (ticked s) 0 255) (on (ticked s))
    tick_rested (c ∷ l) = refl

    -- ## A choice

    pub choice_rested : (b : ℕ) → s.tick < g.horizon → Slept least 0 s.nodes → choose1 g (rested_run m s) b ≡ rested_outcome m (choose1 (with_ready g f) s b)
    unfolding choose1
    choice_rested b h o =
        ap₂ (λ (x y : Outcome). cond (eqb b 255) x y) ticks (node (ltb b (length s.nodes) && awake g b s.tick) refl)
        ∙ outcome_if m (eqb b 255) _ _
      where
        ticks : cond (some_due g s.tick 0 (rested_from m 0 s.nodes)) forbidden (after_tick g (ticked (rested_run m s)) (late_nodes g (suc s.tick) 0 (rested_from m 0 s.nodes)))
            ≡ rested_outcome m (cond (some_due (with_ready g f) s.tick 0 s.nodes) forbidden (after_tick (with_ready g f) (ticked s) (late_nodes (with_ready g f) (suc s.tick) 0 s.nodes)))
        ticks =
            ap₂ (λ (x : Bool) (l : List ℕ). cond x forbidden (after_tick g (ticked (rested_run m s)) l)) (some-due s.tick 0 s.nodes) (late_all (suc s.tick) 0 s.nodes o (omega arith))
            ∙ ap (λ (x : Outcome). cond (some_due (with_ready g f) s.tick 0 s.nodes) forbidden x) (tick_rested (late_nodes (with_ready g f) (suc s.tick) 0 s.nodes))
            ∙ outcome_if m (some_due (with_ready g f) s.tick 0 s.nodes) forbidden _

        node : (x : Bool) → ltb b (length s.nodes) && awake g b s.tick ≡ x
            → cond (ltb b (length (rested_from m 0 s.nodes)) && awake g b s.tick) (finishes g (rested_run m s) b (stand_of (node_of (rested_run m s) b))) forbidden
            ≡ rested_outcome m (cond (ltb b (length s.nodes) && awake g b s.tick) (finishes (with_ready g f) s b (stand_of (node_of s b))) forbidden)
        node true e =
            let there : b < length s.nodes = ltb-true b (length s.nodes) ((and_is (ltb b (length s.nodes)) (awake g b s.tick)).0 e).0 in
            ap (λ (n : ℕ). cond (ltb b n && awake g b s.tick) (finishes g (rested_run m s) b (stand_of (node_of (rested_run m s) b))) forbidden) (rested_length m 0 s.nodes)
            ∙ ap (λ (x : Bool). cond x (finishes g (rested_run m s) b (stand_of (node_of (rested_run m s) b))) forbidden) e
            ∙ ap (λ (r : Node). finishes g (rested_run m s) b (stand_of r)) (node_rested b there)
            ∙ finishes_rested b there (stand_of (node_of s b))
            ∙ sym (ap (λ (x : Bool). rested_outcome m (cond x (finishes (with_ready g f) s b (stand_of (node_of s b))) forbidden)) e)
        node false e =
            ap (λ (n : ℕ). cond (ltb b n && awake g b s.tick) (finishes g (rested_run m s) b (stand_of (node_of (rested_run m s) b))) forbidden) (rested_length m 0 s.nodes)
            ∙ ap (λ (x : Bool). cond x (finishes g (rested_run m s) b (stand_of (node_of (rested_run m s) b))) forbidden) e
            ∙ sym (ap (λ (x : Bool). rested_outcome m (cond x (finishes (with_ready g f) s b (stand_of (node_of s b))) forbidden)) e)
