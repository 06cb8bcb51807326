-- Every horizon: a table with a state that comes again is accepted to all of them, and demand 3 holds. Assumes nothing.
use mathlib.Core.Path.{◌≡◌, refl, sym, ap, ap₂, subst, ◌∙◌}
use mathlib.Core.Bool.{Bool, true, false, cond}
use mathlib.Core.List.{List, [], ◌∷◌, ◌++◌, map}
use mathlib.Core.Logic.{inl, inr}
use Prim.Native.Nat.{ℕ, zero, suc, ◌+◌, ◌*◌, ◌-◌, ◌≤◌, ◌<◌}
use native.Mathlib.Omega.{arith}
use borrow.Author.Tests.{ltb-true, ltb-false, lt-ltb, le-ltb, le-leb, eqb-true, eqb-false, eq-eqb}
use lib.Dec.{ltb, eqb}
use lib.ListN.{length}
use Rattle.model.specs.Lists.{◌∈◌, here, there, only, All, empty, more, accepted, ◌after◌}
use Rattle.model.specs.Table.{Component, Table, Read, size, component_of}
use Rattle.model.specs.Reader.{read_table}
use Rattle.model.specs.Limits.{InLimits}
use Rattle.model.specs.Window.{Entry}
use Rattle.model.specs.Schedule.{Passage, own, start_entry, schedule}
use Rattle.model.specs.Checks.{checked, accepted_schedule, accepted_schedule_of, limit}
use Rattle.model.specs.Chains.{Chain, last, link, IsSchedule}
use Rattle.model.specs.Demand3.{Demand3}
use Rattle.recurrence.specs.Recurrence.{timeless, EntersAt, Recurs, accepted_schedule_to, Unending, Endless, Shorter}
use Rattle.model.proofs.Basics.Members.{only_is, in_append}
use Rattle.model.proofs.Schedule.Own.{all_in, in_all, own_in}
use Rattle.model.proofs.Schedule.Exactly.{is-accepted}
use Rattle.model.proofs.Schedule.Passages.{Entered, entered, opens_follows}
use Rattle.model.proofs.Reader.Limits.{read_limits}
use Rattle.model.proofs.Run.Tied.{Given, schedule_at}
use Rattle.model.proofs.Run.Promise.{demand}
use Rattle.model.proofs.Run.Few.{few_at}
use Rattle.model.proofs.Run.Finished.{finishes_hold, on-path}
use Rattle.model.proofs.Progress.Shown.{reaches_at, continues_at}
use Rattle.model.proofs.Progress.Count.{carried_few}
use Rattle.model.proofs.Checks.Independence.{independent}
use Rattle.model.proofs.Window.Opening.{opened}
use Rattle.recurrence.proofs.Move.{later_entry, later}
use Rattle.recurrence.proofs.Seam.{is_wide, enters_before, enters_from}
use Rattle.recurrence.proofs.Apart.{grown_checked}
use Rattle.recurrence.proofs.Grow.{Again, joint_a, joint_b, grown_schedule, chain_rising}
use Rattle.recurrence.proofs.Cut.{cut, cut_schedule, cut_checked}

-- a schedule at a horizon that passes 10 to 12
pub record Passes (T : Table) (H : ℕ) (S : List Passage) : Type 0 where
  pub most : ℕ
  pub sched : IsSchedule most T H S
  pub checks : checked 0 T H S ≡ accepted S

-- ## Up

-- so many periods later
unfoldable pub reach : ℕ → ℕ → ℕ → ℕ
reach zero P H = H
reach (suc k) P H = reach k P (H + P)

pub reach_high : (k P H : ℕ) → 0 < P → k + H ≤ reach k P H
unfolding reach
reach_high zero P H l = omega arith
reach_high (suc k) P H l = omega (arith, reach_high k P (H + P) l)

-- is in the image
in_image : {A B : Type 0} (f : A → B) {x : A} {S : List A} → x ∈ S → f x ∈ map f S
in_image f (here e) = here (ap f e)
in_image f (there m) = there (in_image f m)

-- the pair is there again
pub again_grown : (T : Table) (S : List Passage) (a P : ℕ) → 0 < P → Again T S a P → Again T (only (enters_before (a + P)) S ++ map (later P) (only (enters_from a) S)) a P
again_grown T S a P l f c h =
    let r = f c h in
    let u = r.0 in
    let i = own_in c S r.2 in
    let left = (only_is (enters_before (a + P)) S).1 (i.0, lt-ltb u.entry.tick (a + P) (omega (arith, r.4))) in
    let right = in_image (later P) ((only_is (enters_from a) S).1 (i.0, le-leb a u.entry.tick (omega (arith, r.4)))) in
    let G = only (enters_before (a + P)) S ++ map (later P) (only (enters_from a) S) in
    let mine = eq-eqb u.component c i.1 in (
      u,
      later P u,
      (only_is (λ (v : Passage). eqb v.component c) G).1 ((in_append (only (enters_before (a + P)) S) (map (later P) (only (enters_from a) S))).1 (inl left), mine),
      (only_is (λ (v : Passage). eqb v.component c) G).1 ((in_append (only (enters_before (a + P)) S) (map (later P) (only (enters_from a) S))).1 (inr right), mine),
      r.4,
      refl,
    )

up : (T : Table) (a P : ℕ) → 0 < P → (k H : ℕ) (S : List Passage) → a + P < H → Passes T H S → Again T S a P → (S' : List Passage) × Passes T (reach k P H) S'
unfolding reach
up T a P l zero H S b p f = (S, p)
up T a P l (suc k) H S b p f =
    let G = only (enters_before (a + P)) S ++ map (later P) (only (enters_from a) S) in
    let q : Passes T (H + P) G =
    record {
      most = length G;
      sched = grown_schedule p.most T H S p.sched a P b l f;
      checks = grown_checked p.most T H S p.sched p.checks a P b (joint_a p.most T H S p.sched a P b l f) (joint_b p.most T H S p.sched a P b l f);
    } in
    up T a P l k (H + P) G (omega arith) q (again_grown T S a P l f)

-- ## Down

down : (T : Table) (H h : ℕ) (S : List Passage) → h ≤ H → 0 < h → Passes T H S → (S' : List Passage) × Passes T h S'
down T H h S l n p = (
  cut p.most T H S p.sched h l n,
  record {
    most = length (cut p.most T H S p.sched h l n);
    sched = cut_schedule p.most T H S p.sched h l n;
    checks = cut_checked p.most T H S p.sched h l n p.checks;
  },
)

-- ## 7 does not apply

-- a component's passages are no more than the ticks
chain_few : {H c : ℕ} {C : Component} {v : Passage} {ws : List Passage} → Chain H c C v ws → v.entry.tick < v.end → All (λ w. w.entry.tick < H) (v ∷ ws)
    → length (v ∷ ws) + v.entry.tick ≤ H
chain_few (last h) b (more e a) = omega arith
chain_few {H} {c} {C} (link {v = v} {w = y} {ws = ys} h o k) b (more e a) =
    let r = all_in (chain_rising (link {v = v} {w = y} {ws = ys} h o k)) (here refl) in
    omega (arith, chain_few k r.1 a, r.0)

-- those with a number below n, each number so many times at most
count_below : {A : Type 0} (f : A → ℕ) (h : ℕ) (xs : List A) (n : ℕ) → ((c : ℕ) → c < n → length (only (λ x. eqb (f x) c) xs) ≤ h) → length (only (λ x. ltb (f x) n) xs) ≤ n * h
count_below f h xs zero k = omega (arith, none xs)
  where
    none : (ys : List _) → length (only (λ x. ltb (f x) 0) ys) ≡ 0
    none [] = refl
    none (y ∷ ys) = rw (le-ltb (f y) 0 (omega arith)) (none ys)
count_below f h xs (suc n) k =
    omega (arith, count_below f h xs n (λ c l. k c (omega arith)), k n (omega arith), one_on xs)
  where
    one_on : (ys : List _) → length (only (λ x. ltb (f x) (suc n)) ys) ≡ length (only (λ x. ltb (f x) n) ys) + length (only (λ x. eqb (f x) n) ys)
    one_on [] = refl
    one_on (x ∷ ys) = go (one_on ys) (ltb (f x) n) (eqb (f x) n) refl refl
      where
        go : length (only (λ x. ltb (f x) (suc n)) ys) ≡ length (only (λ x. ltb (f x) n) ys) + length (only (λ x. eqb (f x) n) ys) → (s t : Bool) → ltb (f x) n ≡ s → eqb (f x) n ≡ t
            → length (cond (ltb (f x) (suc n)) (x ∷ only (λ x. ltb (f x) (suc n)) ys) (only (λ x. ltb (f x) (suc n)) ys))
            ≡ length (cond s (x ∷ only (λ x. ltb (f x) n) ys) (only (λ x. ltb (f x) n) ys)) + length (cond t (x ∷ only (λ x. eqb (f x) n) ys) (only (λ x. eqb (f x) n) ys))
        go ih true true p q = absurd (omega (arith, ltb-true (f x) n p, eqb-true (f x) n q))
        go ih true false p q = rw (lt-ltb (f x) (suc n) (omega (arith, ltb-true (f x) n p))) (omega arith)
        go ih false true p q = rw (lt-ltb (f x) (suc n) (omega (arith, eqb-true (f x) n q))) (omega arith)
        go ih false false p q = rw (le-ltb (f x) (suc n) (omega (arith, ltb-false (f x) n p, eqb-false (f x) n q))) (omega arith)

pub all_left : {A : Type 0} (p : A → Bool) {xs : List A} → All (λ x. p x ≡ true) xs → length (only p xs) ≡ length xs
all_left p empty = refl
all_left p (more {x = x} {xs = xs} e a) = ap (λ t. length (cond t (x ∷ only p xs) (only p xs))) e ∙ ap suc (all_left p a)

-- a schedule has no more passages than components times ticks
no_seven : {most : ℕ} (T : Table) (H : ℕ) (S : List Passage) → 0 < H → IsSchedule most T H S → length S ≤ size T * H
no_seven T H S l s = omega (arith, count_below (λ (v : Passage). v.component) H S (size T) mine, all_left (λ (v : Passage). ltb v.component (size T)) (in_all S (λ v i. lt-ltb v.component (size T) (all_in s.present i))))
  where
    mine : (c : ℕ) → c < size T → length (own c S) ≤ H
    mine c h =
        let k = s.chains c h in
        let o = opened c (component_of T c) (start_entry (component_of T c)) k.starts in
        let t = ap (λ (n : Entry). n.tick) o.entry in
        let low : All (λ (w : Passage). w.entry.tick < H) (k.head ∷ k.tail) = in_all (k.head ∷ k.tail) (λ w m.
        let i = own_in c S (subst (λ (x : List Passage). w ∈ x) (sym k.is) m) in
        elim (all_in (entered s) i.0).tick [ inl z ↦ omega arith | inr z ↦ z ]) in
        omega (arith, ap length k.is, chain_few k.chain (omega (arith, t, o.early, o.wide)) low)

-- with a limit that is high enough, 7 to 12 accept it
accepts : (T : Table) (H : ℕ) (S : List Passage) (p : Passes T H S) (most : ℕ) → length S ≤ most → accepted_schedule most 0 T H ≡ accepted S
unfolding accepted_schedule
accepts T H S p most l =
    let s = p.sched in
    ap (λ x. x after λ (X : List Passage). checked 0 T H X) (is-accepted most T H S (record { few = l; present = s.present; chains = s.chains; messages = s.messages; order = s.order })) ∙ p.checks

-- what holds to a horizon to which a schedule passes
unending : (t : Read) (H : ℕ) (S : List Passage) → InLimits t → 1 ≤ H → Passes t.table H S → Unending t H
unfolding accepted_schedule_to
unending t H S i l p =
    let e = accepts t.table H S p (size t.table * H) (no_seven t.table H S l p.sched) in
    let G : Given t H S [] = record { spread = 0; limits = i; least = l; most = p.most; sched = p.sched; checks = p.checks; permitted = λ c k. omega arith } in
    record {
      passages = S;
      planned = e;
      independent = (independent 0 t.table H S (λ v m. (let w = is_wide p.most t.table H S p.sched v m in omega arith))).0 p.checks;
      demand3 = demand G;
      finishes = λ cs. (finishes_hold G cs, on-path G cs);
      reaches = reaches_at G;
      continues = continues_at G;
      few = few_at G;
      uses = carried_few G;
    }

-- ## The laws

passes : (t : Read) (S : List Passage) → accepted_schedule_of t ≡ accepted S → Passes t.table t.horizon S
passes t S e = let g = schedule_at 0 t.table t.horizon limit S e in record { most = limit; sched = g.0; checks = g.1 }

-- an entry without its tick, and its tick
pub entry_is : (at to : Entry) (a P : ℕ) → timeless at ≡ timeless to → at.tick ≡ a → to.tick ≡ a + P → to ≡ later_entry P at
entry_is at to a P e f g =
    let l = ap (λ (x : Entry). x.location) e in
    let c = ap (λ (x : Entry). x.clocks) e in
    let v = ap (λ (x : Entry). x.values) e in
    let n : to.tick ≡ at.tick + P = omega (arith, f, g) in
    sym (ap (λ (x : Entry). record { location = x.location; tick = at.tick + P; clocks = x.clocks; values = x.values }) e
    ∙ ap (λ (k : ℕ). record { location = to.location; tick = k; clocks = to.clocks; values = to.values }) (sym n))

pub again_of : (T : Table) (H : ℕ) (S : List Passage) (a P : ℕ) → Recurs T H S a (a + P) → Again T S a P
again_of T H S a P r c h =
    let k = r.enters c h in
    let u = k.1 in
    let w = k.2 in
    (u.passage, w.passage, u.listed, w.listed, u.tick, entry_is u.passage.entry w.passage.entry a P (u.state ∙ sym w.state) u.tick w.tick)

pub endless : Endless
endless bytes t S e f a b r H l =
    let i = read_limits bytes t e in
    let P = b - a in
    let q : b ≡ a + P = omega (arith, r.before) in
    let r' : Recurs t.table t.horizon S a (a + P) = subst (Recurs t.table t.horizon S a) q r in
    let high = up t.table a P (omega (arith, r.before)) H t.horizon S r'.below (passes t S f) (again_of t.table t.horizon S a P r') in
    let low = down t.table (reach H P t.horizon) H high.0 (omega (arith, reach_high H P t.horizon (omega (arith, r.before)))) l high.1 in
    unending t H low.0 i l low.1

pub shorter : Shorter
shorter bytes t S e f H l m =
    let i = read_limits bytes t e in
    let low = down t.table t.horizon H S m l (passes t S f) in
    unending t H low.0 i l low.1
