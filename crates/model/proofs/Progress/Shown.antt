-- Something happens: every accepted table has a list of choices that ends with the horizon, with every observation due; no run gets stuck
-- before it; and the call `run` takes such a list, since no run carries out more than 1,000,000 choices. Assumes nothing.
use mathlib.Core.Path.{◌≡◌, refl, sym, ap, subst, ◌∙◌}
use mathlib.Core.Bool.{Bool, true, false, cond}
use mathlib.Core.List.{List, [], ◌∷◌, ◌++◌, map, append-nil}
use Prim.Native.Nat.{ℕ, suc, ◌+◌, ◌-◌, ◌*◌, ◌≤◌, ◌<◌}
use native.Mathlib.Omega.{arith}
use borrow.Author.Tests.{lt-ltb, le-ltb, leb-true, leb-false}
use lib.Dec.{leb, ltb}
use lib.ListN.{length, length-append, length-map}
use lib.Seq.{append_snoc}
use Rattle.model.specs.Lists.{only, All, empty, more, accepted}
use Rattle.model.specs.Table.{Read, size, component_of}
use Rattle.model.specs.Limits.{InLimits}
use Rattle.model.specs.Schedule.{Passage, own}
use Rattle.model.specs.Checks.{limit, accepted_schedule_at, accepted_schedule_of}
use Rattle.model.specs.Network.{observation}
use Rattle.model.specs.Run.{setting_at, offset_in, offset_of, Run, Result, node_of, ticked, run, start_run, observation_width}
use Rattle.model.specs.Calls.{run_call}
use Rattle.model.specs.Apart.{Permitted}
use Rattle.model.specs.Demand3.{observations_of}
use Rattle.model.specs.Progress.{ready_passages, due_of, ReachesBy, Reaches, Continues, UsesAtMost, Happens, Answers, ReachesByApart, ReachesApart, ContinuesApart, UsesAtMostApart, HappensApart}
use Rattle.model.proofs.Basics.Words.{all_join}
use Rattle.model.proofs.Basics.Members.{only_append, only_none}
use Rattle.model.proofs.Schedule.Own.{all_then}
use Rattle.model.proofs.Network.Says.{seen, only_all}
use Rattle.model.proofs.Reader.Limits.{read_limits}
use Rattle.model.proofs.Run.Tied.{Given, schedule_at, given_apart, given, offset_is, Held, coming, waiting, busy, leaving, resting, Tie, shown_by, clock_at, Tied}
use Rattle.model.proofs.Run.Tick.{Live}
use Rattle.model.proofs.Run.Count.{none_missing, fin_ready}
use Rattle.model.proofs.Progress.Run.{Arrival, arrive, left, arrive_after}
use Rattle.model.proofs.Progress.Count.{start_live, carried_few}

-- ## Lists

-- a list of no length
nothing : {A : Type 0} (xs : List A) → length xs ≤ 0 → xs ≡ []
nothing [] h = refl
nothing (x ∷ xs) h = absurd (omega arith)

-- those at the front all hold, and no more are counted: they are all that hold
only_front : {A : Type 0} (p : A → Bool) (xs ys zs : List A) → xs ++ ys ≡ zs → All (λ x. p x ≡ true) xs → length (only p zs) ≤ length xs → only p zs ≡ xs
only_front p xs ys zs e a h =
    split ∙ (ap (λ (l : List _). xs ++ l) (nothing (only p ys) (omega (arith, ap length split, length-append xs (only p ys)))) ∙ append-nil xs)
  where
    split : only p zs ≡ xs ++ only p ys
    split = ap (only p) (sym e) ∙ (only_append p xs ys ∙ ap (λ (l : List _). l ++ only p ys) (only_all p a))

-- ## The observations at the horizon

module _ {t : Read} {H : ℕ} {S : List Passage} {offs : List ℕ} (G : Given t H S offs) {s : Run} (k : Live G s) (p : Tied G (ticked s)) (e : suc s.tick ≡ H) (c : ℕ) (h : c < size t.table) where
  -- the node's tie before the last tick
  abbrev K : Tie t.table H S c (clock_at G s.tick c) (node_of s c) (shown_by c s.observations) (k.tied.ahead c)
  K = k.tied.ties c h

  -- its clock at the horizon
  abbrev last : ℕ
  last = H - offset_in offs c

  last_is : clock_at G (suc s.tick) c ≡ last
  last_is = omega (arith, e, offset_is t H S offs c h)

  -- those that were observed, of a node that is awake: the first of the schedule, all ready before that
  module _ (wake : offset_of (setting_at t H S offs) c ≤ s.tick) where
    further : suc (clock_at G s.tick c) ≡ last
    further = omega (arith, e, offset_is t H S offs c h)

    -- the passages whose work is finished were ready
    fin_before : All (λ v. ltb v.ready last ≡ true) K.fin
    fin_before = all_then (λ v i. lt-ltb v.ready last (omega (arith, further, i))) (fin_ready G k.tied.along c h K)

    front : (rest : List Passage) × ((K.fin ++ K.more) ++ rest ≡ own c S) × All (λ v. ltb v.ready last ≡ true) (K.fin ++ K.more)
    front = go K.held
      where
        Front : List Passage → Type 0
        Front m = (rest : List Passage) × ((K.fin ++ m) ++ rest ≡ own c S) × All (λ v. ltb v.ready last ≡ true) (K.fin ++ m)

        none : K.more ≡ [] → Front K.more
        none m =
            subst Front (sym m)
            (k.tied.ahead c, ap (λ (l : List Passage). l ++ k.tied.ahead c) (append-nil K.fin) ∙ K.whole, all_join fin_before empty)

        go : Held H (component_of t.table c) (clock_at G s.tick c) K.count (node_of s c) (k.tied.ahead c) K.more → Front K.more
        go (coming v vs a m l q) = none m
        go (waiting v vs a m l j q) = none m
        go (busy v vs a m l b j q) =
            subst Front (sym m)
            (vs, append_snoc K.fin v vs ∙ (ap (λ (l : List Passage). K.fin ++ l) (sym a) ∙ K.whole), all_join fin_before (more (lt-ltb v.ready last (omega (arith, further))) empty))
        go (leaving at a m l q) = none m
        go (resting at a m l j q) = none m

    awake_shown : shown_by c s.observations ≡ due_of t S c last
    awake_shown = K.shown ∙ ap (map (seen (component_of t.table c) c)) (sym all)
      where
        few : length (ready_passages S c last) ≤ length (K.fin ++ K.more)
        few =
            let n = subst (λ (now : ℕ). length (ready_passages S c now) ≤ length (shown_by c s.observations) + 0) last_is (none_missing G p.along c h (p.ties c h)) in
            omega (arith, ap length K.shown, length-map (K.fin ++ K.more) (seen (component_of t.table c) c))

        all : ready_passages S c last ≡ K.fin ++ K.more
        all = let f = front in only_front (λ v. ltb v.ready last) (K.fin ++ K.more) f.0 (own c S) f.1 f.2 few

  -- a node that is still asleep shows nothing, and owes nothing
  asleep_shown : s.tick < offset_of (setting_at t H S offs) c → shown_by c s.observations ≡ due_of t S c last
  asleep_shown l =
      k.tied.silent c h l
      ∙ sym
      (ap (map (λ v. observation (component_of t.table c) c v.entry v.edge))
      ((only_none (λ v. ltb v.ready last) (own c S)).1 (λ v m. le-ltb v.ready last (omega (arith, e, offset_is t H S offs c h)))))

  -- the observations are those of all passages that are ready before its clock at the horizon
  due_shown : shown_by c s.observations ≡ due_of t S c last
  due_shown = go (leb (offset_of (setting_at t H S offs) c) s.tick) refl
    where
      go : (x : Bool) → leb (offset_of (setting_at t H S offs) c) s.tick ≡ x → shown_by c s.observations ≡ due_of t S c last
      go true q = awake_shown (leb-true (offset_of (setting_at t H S offs) c) s.tick q)
      go false q = asleep_shown (leb-false (offset_of (setting_at t H S offs) c) s.tick q)

-- ## The law

module _ {t : Read} {H : ℕ} {S : List Passage} {offs : List ℕ} (G : Given t H S offs) where
  -- an arrival from the start
  reaches_by : (A : Arrival G (start_run (setting_at t H S offs))) → ReachesByApart t H S offs A.choices
  unfolding run
  reaches_by A =
      record {
        end = ap (λ (r : Result). r.end) A.is;
        tick = ap (λ (r : Result). r.state.tick) A.is ∙ A.tick;
        shown = λ c h. ap (observations_of c) A.is ∙ due_shown G A.live A.tied A.tick c h;
        bytes = A.bytes;
        used = ap (λ (r : Result). r.state.used) A.is ∙ omega (arith, A.used);
      }

  -- some choices reach the horizon
  reach : ReachesApart t H S offs
  reach = let a = arrive G (left G (start_run (setting_at t H S offs))) (start_live G) (omega arith) in (a.choices, reaches_by a)

  -- and so do some more of any that are used up
  go_on : ContinuesApart t H S offs
  unfolding run
  go_on cs e = let a = arrive_after G cs (start_live G) e in (a.more, subst (ReachesByApart t H S offs) a.is (reaches_by a.arrival))

-- no run carries out more than 744,184 choices
uses_apart : (spread : ℕ) (t : Read) (S : List Passage) (offs : List ℕ) → InLimits t → accepted_schedule_at spread t ≡ accepted S → Permitted spread (size t.table) offs
    → UsesAtMostApart 744184 t t.horizon S offs
uses_apart spread t S offs l a p cs = omega (
  arith,
  carried_few (given_apart spread t S offs l a p) cs,
  (schedule_at spread t.table t.horizon limit S a).0.few,
  l.most_components,
  l.most_horizon,
)

-- every table accepted at a spread reaches its horizon, and no run of it gets stuck
pub happens_apart : HappensApart
happens_apart spread bytes t S r e offs p =
    let l = read_limits bytes t r in
    let G = given_apart spread t S offs l e p in
    (reach G, go_on G, λ cs. omega (arith, uses_apart spread t S offs l e p cs))

-- ## All nodes together

-- without offsets
reached_together : (t : Read) (H : ℕ) (S : List Passage) (cs : List ℕ) → ReachesByApart t H S [] cs → ReachesBy t H S cs
reached_together t H S cs r =
    record {
      end = r.end;
      tick = r.tick;
      shown = λ c h. r.shown c h ∙ ap (due_of t S c) (let z : H - 0 ≡ H = omega arith in z);
      bytes = r.bytes;
      used = r.used;
    }

-- to any horizon: some choices reach it, and so do some more of any that are used up
pub reaches_at : {t : Read} {H : ℕ} {S : List Passage} → Given t H S [] → Reaches t H S
reaches_at {t} {H} {S} G = let r = reach G in (r.0, reached_together t H S r.0 r.1)

pub continues_at : {t : Read} {H : ℕ} {S : List Passage} → Given t H S [] → Continues t H S
continues_at {t} {H} {S} G cs e = let r = go_on G cs e in (r.0, reached_together t H S (cs ++ r.0) r.1)

-- every accepted table reaches its horizon
pub reaches : (t : Read) (S : List Passage) → InLimits t → accepted_schedule_of t ≡ accepted S → Reaches t t.horizon S
reaches t S l a = reaches_at (given t S l a)

-- and no run of it gets stuck
pub continues : (t : Read) (S : List Passage) → InLimits t → accepted_schedule_of t ≡ accepted S → Continues t t.horizon S
continues t S l a = continues_at (given t S l a)

-- and no run of it carries out more than 744,184 choices
pub uses_at_most : (t : Read) (S : List Passage) → InLimits t → accepted_schedule_of t ≡ accepted S → UsesAtMost 744184 t t.horizon S
uses_at_most t S l a = uses_apart 0 t S [] l a (λ c h. omega arith)

-- all three, for every list of numbers that is read as a table and accepted
pub happens : Happens
happens bytes t S r e = let l = read_limits bytes t r in (reaches t S l e, continues t S l e, λ cs. omega (arith, uses_at_most t S l e cs))

-- so the call `run` refuses no choices that reach the horizon
pub answers : Answers
unfolding run_call
answers bytes t S r e choices a lent h =
    let few = uses_at_most t S (read_limits bytes t r) e choices in
    rw (r, e, le-ltb (length lent) (length S * observation_width) h, le-ltb 1000000 (length choices) (omega (arith, few, a.used)))
