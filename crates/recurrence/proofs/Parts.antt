-- A run to a horizon beyond the table's own, in parts: up to the second tick of a pair, then a period at a time, each part with the readies of the
-- table's own rows so many periods later, and with as many sleeps less at each node as those periods have. Assumes nothing.
use mathlib.Core.Path.{◌≡◌, refl, sym, ap, ap₂, subst, ◌∙◌}
use mathlib.Core.Bool.{Bool, true, false, cond}
use mathlib.Core.List.{List, [], ◌∷◌, ◌++◌, map, append_assoc}
use mathlib.Core.Option.{Option, none, some}
use Prim.Native.Nat.{ℕ, zero, suc, ◌+◌, ◌-◌, ◌*◌, ◌≤◌, ◌<◌}
use native.Mathlib.Omega.{arith}
use borrow.Author.Tests.{ltb-true, ltb-false, le-ltb}
use lib.Dec.{ltb, eqb}
use lib.ListN.{length, get_or, take}
use Rattle.model.specs.Lists.{accepted}
use Rattle.model.specs.Table.{Read, size}
use Rattle.model.specs.Reader.{read_table}
use Rattle.model.specs.Schedule.{Passage, own}
use Rattle.model.specs.Checks.{limit, accepted_schedule, accepted_schedule_of, passage_at}
use Rattle.model.specs.Chains.{IsSchedule}
use Rattle.model.specs.Machine.{Node}
use Rattle.model.specs.Run.{Setting, ready_of_nth, setting_to, Run, Result, node_of, no_node, overdue, start_run, run_from, run}
use Rattle.model.proofs.Reader.Limits.{read_limits}
use Rattle.model.proofs.Run.Tied.{Given, schedule_at, given_at}
use Rattle.recurrence.specs.Recurrence.{Recurs, accepted_schedule_to, Unending}
use Rattle.recurrence.specs.Rows.{rows_before, rows_ready}
use Rattle.recurrence.proofs.Every.{again_of, endless}
use Rattle.recurrence.proofs.Index.{ready_at, no_ready}
use Rattle.recurrence.proofs.Place.{same_start}
use Rattle.recurrence.proofs.Beyond.{own_period}
use Rattle.recurrence.proofs.Agree.{with_ready, run_same}
use Rattle.recurrence.proofs.ByRows.{absent, none_ready, agrees, by_rows}
use Rattle.recurrence.proofs.Shift.{with_sleeps, rested, rested_from, rested_run, rested_length, rested_at, Slept, nobody, also}
use Rattle.recurrence.proofs.ShiftRun.{rested_result, run_rested}
use Rattle.recurrence.proofs.Horizons.{at_horizon, Farther, same, reached, farther}
use Rattle.recurrence.proofs.Sleeps.{horizon_sleeps, horizon_full}
use Rattle.recurrence.proofs.Turned.{round_ready, round_agrees, ready_after}
use Rattle.recurrence.proofs.OwnCount.{later_own, later_ready, first_own, first-ready}

-- ## Sleeps more, and more again

-- none more: the same
rested_none : (m : ℕ → ℕ) → ((c : ℕ) → m c ≡ 0) → (c : ℕ) (rs : List Node) → rested_from m c rs ≡ rs
rested_none m z c [] = refl
rested_none m z c (r ∷ rs) = ap₂ (λ (k : ℕ) (l : List Node). with_sleeps r k ∷ l) (omega (arith, z c)) (rested_none m z (suc c) rs)

rested_twice : (m d both : ℕ → ℕ) → ((c : ℕ) → both c ≡ d c + m c) → (c : ℕ) (rs : List Node) → rested_from m c (rested_from d c rs) ≡ rested_from both c rs
rested_twice m d both e c [] = refl
rested_twice m d both e c (r ∷ rs) = ap₂ (λ (k : ℕ) (l : List Node). with_sleeps r k ∷ l) (omega (arith, e c)) (rested_twice m d both e (suc c) rs)

slept_any : (c : ℕ) (rs : List Node) → Slept (λ x. 0) c rs
slept_any c [] = nobody
slept_any c (r ∷ rs) = also {c = c} {r = r} (omega arith) (slept_any (suc c) rs)

slept_all : (least : ℕ → ℕ) (c : ℕ) (rs : List Node) → ((i : ℕ) → i < length rs → least (c + i) ≤ (get_or rs i no_node).sleeps) → Slept least c rs
slept_all least c [] f = nobody
slept_all least c (r ∷ rs) f =
    also {c = c} {r = r} (omega (arith, f 0 (omega arith), ap least (let z : c + 0 ≡ c = omega arith in z)))
    (slept_all least (suc c) rs (λ i h. omega (arith, f (suc i) (omega arith), ap least (let z : suc c + i ≡ c + suc i = omega arith in z))))

-- ## The parts

module _ (bytes : List ℕ) (t : Read) (S : List Passage) (e : read_table bytes ≡ accepted t) (f : accepted_schedule_of t ≡ accepted S)
    (a P : ℕ) (longer : 0 < P) (r : Recurs t.table t.horizon S a (a + P)) (final : t.horizon ≤ a + P + P) where
  short : IsSchedule limit t.table t.horizon S
  short = (schedule_at 0 t.table t.horizon limit S f).0

  -- the run to a horizon, by the rows
  abbrev pub goes : ℕ → Setting
  goes X = with_ready (setting_to t X []) (rows_ready S a (a + P))

  -- the schedule to a horizon
  given_to : (X : ℕ) → 1 ≤ X → (L : List Passage) × Given t X L []
  unfolding accepted_schedule_to
  given_to X l =
      let u = endless bytes t S e f a (a + P) r X l in
      (u.passages, given_at 0 t X (size t.table * X) u.passages [] (read_limits bytes t e) l u.planned (λ c k. omega arith))

  -- ## The run by the rows is the run of the schedule

  pub goes_long : (X : ℕ) → t.horizon ≤ X → {m : ℕ} {L : List Passage} → IsSchedule m t.table X L → (cs : List ℕ) → run (goes X) cs ≡ run (setting_to t X L) cs
  goes_long X l long cs = by_rows t t.horizon X short long l a (a + P) r cs

  -- to the second tick itself
  goes_first : {m : ℕ} {L : List Passage} → IsSchedule m t.table (a + P) L → (cs : List ℕ) → run (goes (a + P)) cs ≡ run (setting_to t (a + P) L) cs
  goes_first {m} {L} first cs = run_same g (rows_ready S a (a + P)) agree (omega arith) cs
    where
      g : Setting
      g = setting_to t (a + P) L

      lower : (c k now : ℕ) → c < size t.table → now ≤ a + P → (b : Bool) → ltb k (length (own c L)) ≡ b → (b' : Bool) → ltb k (length (own c S)) ≡ b'
          → overdue g (ready_of_nth (own c S) k) now ≡ overdue g (ready_of_nth (own c L) k) now
      lower c k now h l true q b' q' =
          let x = ltb-true k (length (own c L)) q in
          let y = same_start t.table (a + P) t.horizon first short (omega (arith, r.below)) (omega arith) c k x in
          ap (λ (o : Option ℕ). overdue g o now) (ready_at (own c S) k y.0 ∙ ap (λ (n : ℕ). some n) y.1 ∙ sym (ready_at (own c L) k x))
      lower c k now h l false q true q' =
          let x = ltb-false k (length (own c L)) q in
          let y = ltb-true k (length (own c S)) q' in
          let z = ready_after t.table t.horizon short (a + P) c k (omega (arith, x, first_own t.table t.horizon short a P longer r c h first)) y in
          ap (λ (o : Option ℕ). overdue g o now) (ready_at (own c S) k y) ∙ le-ltb (passage_at (own c S) k).ready now (omega arith) ∙ sym (ap (λ (o : Option ℕ). overdue g o now) (no_ready (own c L) k x))
      lower c k now h l false q false q' =
          ap (λ (o : Option ℕ). overdue g o now) (no_ready (own c S) k (ltb-false k (length (own c S)) q') ∙ sym (no_ready (own c L) k (ltb-false k (length (own c L)) q)))

      agree : (c k now : ℕ) → now ≤ a + P → overdue g (rows_ready S a (a + P) c k) now ≡ overdue g (ready_of_nth (own c L) k) now
      agree c k now l = agrees t.table t.horizon t.horizon short short (omega arith) a P longer r g c k now (omega (arith, r.below)) ∙ go (ltb c (size t.table)) refl
        where
          go : (b : Bool) → ltb c (size t.table) ≡ b → overdue g (ready_of_nth (own c S) k) now ≡ overdue g (ready_of_nth (own c L) k) now
          go true q = lower c k now (ltb-true c (size t.table) q) l (ltb k (length (own c L))) refl (ltb k (length (own c S))) refl
          go false q =
              let x = ltb-false c (size t.table) q in
              ap (λ (vs : List Passage). overdue g (ready_of_nth vs k) now) (absent t.table t.horizon t.horizon short short (omega arith) short c x ∙ sym (absent t.table t.horizon t.horizon short short (omega arith) first c x))

  -- ## The sleeps at the end of a part

  -- passages before a, and before the second tick; how many a period has
  abbrev pub u : ℕ → ℕ
  u c = rows_before S c a

  abbrev pub w : ℕ → ℕ
  w c = rows_before S c (a + P)

  abbrev pub d : ℕ → ℕ
  d c = w c - u c

  -- the end of part j
  abbrev pub until : ℕ → ℕ
  until j = a + P + j * P

  record Rested (cs : List ℕ) (j : ℕ) : Type 0 where
    pub sleeps : (c : ℕ) → c < size t.table → (node_of (run (goes (until j)) cs).state c).sleeps ≡ w c + j * d c
    pub full : length (run (goes (until j)) cs).state.nodes ≡ size t.table

  rested_there : (cs : List ℕ) (j : ℕ) → (run (goes (until j)) cs).end ≡ 0 → Rested cs j
  rested_there cs zero q =
      let z : until 0 ≡ a + P = omega arith in
      let G = given_to (a + P) (omega arith) in
      let same_run = ap (λ (X : ℕ). run (goes X) cs) z ∙ goes_first G.1.sched cs in
      let q' = sym (ap (λ (x : Result). x.end) same_run) ∙ q in
      record {
        sleeps = λ c h.
            ap (λ (x : Result). (node_of x.state c).sleeps) same_run
            ∙ horizon_sleeps G.1 cs q' c h (first-ready t.table t.horizon short a P longer r c h G.1.sched)
            ∙ first_own t.table t.horizon short a P longer r c h G.1.sched
            ∙ (let y : w c ≡ w c + 0 * d c = omega arith in y);
        full = ap (λ (x : Result). length x.state.nodes) same_run ∙ horizon_full G.1 cs q';
      }
  rested_there cs (suc j) q =
      let G = given_to (until (suc j)) (omega arith) in
      let far : t.horizon ≤ until (suc j) = omega (arith, final) in
      let same_run = goes_long (until (suc j)) far G.1.sched cs in
      let q' = sym (ap (λ (x : Result). x.end) same_run) ∙ q in
      record {
        sleeps = λ c h.
            ap (λ (x : Result). (node_of x.state c).sleeps) same_run
            ∙ horizon_sleeps G.1 cs q' c h (later_ready t.table t.horizon short a P longer r c h (suc j) G.1.sched far)
            ∙ later_own t.table t.horizon short a P longer r c h (suc j) G.1.sched far;
        full = ap (λ (x : Result). length x.state.nodes) same_run ∙ horizon_full G.1 cs q';
      }

  -- ## One part after the other

  -- so many sleeps less in part j, and so many at least
  abbrev pub less : ℕ → ℕ → ℕ
  less j c = j * d c

  abbrev pub low : ℕ → ℕ → ℕ
  low zero c = 0
  low (suc j) c = u c

  -- what part j goes by: the readies of the rows up to the second tick and those entered there, j periods later
  pub record Rounds (ready : ℕ → ℕ → Option ℕ) (j : ℕ) : Type 0 where
    pub there : (c k : ℕ) → c < size t.table → ready c k ≡ round_ready (own c S) (w c) (j * P) k
    pub beyond : (c k : ℕ) → size t.table ≤ c → ready c k ≡ none

  -- part j begins in s, after these choices, whatever others follow
  pub record Part (front : List ℕ) (j : ℕ) (s : Run) : Type 0 where
    pub whole : (X : ℕ) → s.tick < X → (ys : List ℕ) → run (goes X) (front ++ ys) ≡ run_from (goes X) ys (rested_run (less j) s)
    pub slept : Slept (low j) 0 s.nodes
    pub near : s.tick < until j

  pub part_first : Part [] 0 (start_run (goes 0))
  unfolding run
  part_first =
      record {
        whole = λ X h ys. sym (ap (λ (ns : List Node). run_from (goes X) ys (record { tick = 0; used = 0; nodes = ns; observations = []; previous = []; works = [] })) (rested_none (less 0) (λ c. omega arith) 0 (start_run (goes 0)).nodes));
        slept = slept_any 0 (start_run (goes 0)).nodes;
        near = omega arith;
      }

  module _ (front : List ℕ) (j : ℕ) (s : Run) (part : Part front j s) (ready : ℕ → ℕ → Option ℕ) (rounds : Rounds ready j) (ys : List ℕ) where
    agree : (X : ℕ) → X ≤ until j → X ≤ 4294967295 → (c k now : ℕ) → low j c ≤ k → now ≤ X → overdue (goes X) (rows_ready S a (a + P) c (k + less j c)) now ≡ overdue (goes X) (ready c k) now
    agree X l m c k now b h = go (ltb c (size t.table)) refl
      where
        least : (i : ℕ) → low i c ≤ k → 0 < i → u c ≤ k
        least zero x y = absurd (omega arith)
        least (suc i) x y = x

        go : (x : Bool) → ltb c (size t.table) ≡ x → overdue (goes X) (rows_ready S a (a + P) c (k + less j c)) now ≡ overdue (goes X) (ready c k) now
        go true q =
            let there = ltb-true c (size t.table) q in
            round_agrees t.table t.horizon short a P longer r (goes X) c there j k now (least j b) (omega arith) (omega arith) ∙ sym (ap (λ (o : Option ℕ). overdue (goes X) o now) (rounds.there c k there))
        go false q =
            let out = ltb-false c (size t.table) q in
            ap (λ (o : Option ℕ). overdue (goes X) o now) (none_ready t.table t.horizon t.horizon short short (omega arith) a (a + P) c (k + less j c) out ∙ sym (rounds.beyond c k out))

    -- the run to a horizon in this part
    pub part_run : (X : ℕ) → s.tick < X → X ≤ until j → X ≤ 4294967295 → run (goes X) (front ++ ys) ≡ rested_result (less j) (run_from (with_ready (goes X) ready) ys s)
    part_run X b l m = part.whole X b ys ∙ run_rested (goes X) ready (less j) (low j) (agree X l m) ys s b part.slept

    -- ## To a horizon beyond it

    module _ (inside : until j ≤ 4294967295) where
      abbrev here' : Result
      here' = run_from (with_ready (goes (until j)) ready) ys s

      to_end : run (goes (until j)) (front ++ ys) ≡ rested_result (less j) (run_from (with_ready (goes (until j)) ready) ys s)
      to_end = part_run (until j) part.near (omega arith) inside

      from_end : run_from (goes (until j)) ys (rested_run (less j) s) ≡ rested_result (less j) (run_from (with_ready (goes (until j)) ready) ys s)
      from_end = sym (part.whole (until j) part.near ys) ∙ to_end

      beyond_it : (X : ℕ) → until j < X → Farther (goes (until j)) (until j) X ys (rested_run (less j) s) (rested_result (less j) (run_from (with_ready (goes (until j)) ready) ys s))
      beyond_it X l =
          subst (Farther (goes (until j)) (until j) X ys (rested_run (less j) s)) from_end (farther (goes (until j)) (until j) X l ys (rested_run (less j) s) part.near)

      -- it ends otherwise than at the end of the part: so does the run
      pub part_ends : ((run_from (with_ready (goes (until j)) ready) ys s).end ≡ 0 → ⊥) → (X : ℕ) → until j < X
          → run (goes X) (front ++ ys) ≡ rested_result (less j) (run_from (with_ready (goes (until j)) ready) ys s)
      part_ends n X l = go (beyond_it X l)
        where
          go : Farther (goes (until j)) (until j) X ys (rested_run (less j) s) (rested_result (less j) (run_from (with_ready (goes (until j)) ready) ys s))
              → run (goes X) (front ++ ys) ≡ rested_result (less j) (run_from (with_ready (goes (until j)) ready) ys s)
          go (same x q) = part.whole X (omega (arith, part.near)) ys ∙ q
          go (reached x b k v y q) = absurd (n x)

      module _ (arrived : (run_from (with_ready (goes (until j)) ready) ys s).end ≡ 0) where
        abbrev state' : Run
        state' = (run_from (with_ready (goes (until j)) ready) ys s).state

        there : Rested (front ++ ys) j
        there = rested_there (front ++ ys) j (ap (λ (x : Result). x.end) to_end ∙ arrived)

        -- as many nodes as components
        pub part_full : length (run_from (with_ready (goes (until j)) ready) ys s).state.nodes ≡ size t.table
        part_full = sym (rested_length (less j) 0 state'.nodes) ∙ sym (ap (λ (x : Result). length x.state.nodes) to_end) ∙ there.full

        -- each node has finished the sleeps of all passages entered before the second tick
        pub part_sleeps : (c : ℕ) → c < size t.table → (node_of (run_from (with_ready (goes (until j)) ready) ys s).state c).sleeps ≡ w c
        part_sleeps c h =
            let x = ap (λ (x : Result). (node_of x.state c).sleeps) to_end in
            let y = ap (λ (r : Node). r.sleeps) (rested_at (less j) 0 state'.nodes c (omega (arith, part_full))) in
            let z : less j (0 + c) ≡ less j c = ap (less j) (let q : 0 + c ≡ c = omega arith in q) in
            omega (arith, x, y, z, there.sleeps c h)

        -- the next part begins there, with a period's sleeps less
        pub part_next : (s' : Run) → rested_run d s' ≡ (run_from (with_ready (goes (until j)) ready) ys s).state → (n : ℕ) → state'.used ≡ s.used + n → Part (front ++ take n ys) (suc j) s'
        part_next s' turned n count =
            record {
              whole = λ X h zs. ap (run (goes X)) (append_assoc front (take n ys) zs) ∙ part.whole X (omega (arith, part.near, tick_is, h)) (take n ys ++ zs) ∙ go X zs (beyond_it X (omega (arith, tick_is)));
              slept = slept_all u 0 s'.nodes (λ i h. least i (omega (arith, h, nodes_are)));
              near = omega (arith, tick_is);
            }
          where
            tick_is : s'.tick ≡ until j
            tick_is = ap (λ (x : Run). x.tick) turned ∙ arrived_tick (beyond_it (suc (until j)) (omega arith))
              where
                arrived_tick : Farther (goes (until j)) (until j) (suc (until j)) ys (rested_run (less j) s) (rested_result (less j) (run_from (with_ready (goes (until j)) ready) ys s)) → state'.tick ≡ until j
                arrived_tick (same x q) = absurd (x arrived)
                arrived_tick (reached x b k v y q) = b

            nodes_are : length s'.nodes ≡ size t.table
            nodes_are = sym (rested_length d 0 s'.nodes) ∙ ap (λ (x : Run). length x.nodes) turned ∙ part_full

            least : (i : ℕ) → i < size t.table → u (0 + i) ≤ (node_of s' i).sleeps
            least i h =
                let x = ap (λ (x : Run). (node_of x i).sleeps) turned in
                let y = ap (λ (r : Node). r.sleeps) (rested_at d 0 s'.nodes i (omega (arith, nodes_are))) in
                let z : ◌≡◌ {A = ℕ} (0 + i) i = omega arith in
                let fewer = own_period t.table t.horizon S short a P longer (again_of t.table t.horizon S a P r) i h in
                omega (arith, x, y, ap d z, ap u z, part_sleeps i h, fewer)

            states : rested_run (less j) state' ≡ rested_run (less (suc j)) s'
            states =
                ap (rested_run (less j)) (sym turned)
                ∙ ap (λ (ns : List Node). record { tick = s'.tick; used = s'.used; nodes = ns; observations = s'.observations; previous = s'.previous; works = s'.works }) (rested_twice (less j) d (less (suc j)) (λ c. omega arith) 0 s'.nodes)

            go : (X : ℕ) (zs : List ℕ) → Farther (goes (until j)) (until j) X ys (rested_run (less j) s) (rested_result (less j) (run_from (with_ready (goes (until j)) ready) ys s))
                → run_from (goes X) (take n ys ++ zs) (rested_run (less j) s) ≡ run_from (goes X) zs (rested_run (less (suc j)) s')
            go X zs (same x q) = absurd (x arrived)
            go X zs (reached x b k v y q) =
                let k-is : k ≡ n = omega (arith, v, count) in
                ap (λ (m : ℕ). run_from (goes X) (take m ys ++ zs) (rested_run (less j) s)) (sym k-is) ∙ q zs ∙ ap (run_from (goes X) zs) states
