-- How many sleeps each node has finished where a run has reached its horizon: as many as it has passages, if all of them were ready before. Assumes
-- nothing.
use mathlib.Core.Path.{◌≡◌, refl, sym, ap, subst, ◌∙◌}
use mathlib.Core.Bool.{true, false}
use mathlib.Core.List.{List, [], ◌∷◌, ◌++◌, append-nil}
use Prim.Native.Nat.{ℕ, zero, suc, ◌+◌, ◌-◌, ◌≤◌, ◌<◌}
use native.Mathlib.Omega.{arith}
use borrow.Author.Tests.{lt-ltb}
use lib.Dec.{ltb}
use lib.ListN.{length, length-append, length-map}
use Rattle.model.specs.Lists.{All}
use Rattle.model.specs.Table.{Component, Read, size, component_of}
use Rattle.model.specs.Schedule.{Passage, own}
use Rattle.model.specs.Machine.{Node}
use Rattle.model.specs.Run.{setting_at, setting_to, Run, Result, Outcome, forbidden, on, over, node_of, ticked, choose1, continue, start_run, run_from, run}
use Rattle.model.proofs.Schedule.Own.{all_then}
use Rattle.model.proofs.Network.Says.{seen, only_all}
use Rattle.model.proofs.Node.Facts.{heading_sleeps}
use Rattle.model.proofs.Run.Tied.{Given, offset_is, Held, coming, waiting, busy, leaving, resting, Tie, clock_at, Tied}
use Rattle.model.proofs.Run.Tick.{Live, Leads, no, onward, arrives, breaks}
use Rattle.model.proofs.Run.Send.{choice_leads}
use Rattle.model.proofs.Run.Count.{readied, none_missing}
use Rattle.model.proofs.Progress.Count.{start_live}

-- as many as are observed, and no more than it has passages
held_sleeps : {H : ℕ} {C : Component} {τ i : ℕ} {r : Node} (fin : List Passage) {ahead more : List Passage} → length fin ≡ i → Held H C τ i r ahead more
    → (r.sleeps ≡ length (fin ++ more)) × (length (fin ++ more) ≤ length (fin ++ ahead))
held_sleeps {H} {C} {τ} {i} {r} fin {ahead} {more} n h = go h
  where
    none : more ≡ [] → r.sleeps ≡ i → (r.sleeps ≡ length (fin ++ more)) × (length (fin ++ more) ≤ length (fin ++ ahead))
    none m s =
        let e : length (fin ++ more) ≡ length fin = ap (λ (l : List Passage). length (fin ++ l)) m ∙ ap length (append-nil fin) in
        (omega (arith, n, s, e), omega (arith, e, length-append fin ahead))

    go : Held H C τ i r ahead more → (r.sleeps ≡ length (fin ++ more)) × (length (fin ++ more) ≤ length (fin ++ ahead))
    go (coming v vs a m l g) = none m (heading_sleeps g)
    go (waiting v vs a m l k g) = none m g.sleeps
    go (busy v vs a m l b k g) =
        let e : length (fin ++ more) ≡ suc (length fin) = ap (λ (l : List Passage). length (fin ++ l)) m ∙ (let z = length-append fin (v ∷ []) in omega (arith, z)) in
        let f : length (fin ++ ahead) ≡ length fin + suc (length vs) = ap (λ (l : List Passage). length (fin ++ l)) a ∙ length-append fin (v ∷ vs) in
        (omega (arith, n, g.sleeps, e), omega (arith, e, f))
    go (leaving at a m l g) = none m (heading_sleeps g)
    go (resting at a m l k g) = none m g.sleeps

module _ {t : Read} {H : ℕ} {S : List Passage} (G : Given t H S []) where
  -- in a state at the horizon
  tied_sleeps : (u : Run) → Tied G u → u.tick ≡ H → (c : ℕ) → c < size t.table → All (λ v. v.ready < H) (own c S) → (node_of u c).sleeps ≡ length (own c S)
  tied_sleeps u p e c h a =
      let k = p.ties c h in
      let r = held_sleeps k.fin k.counts k.held in
      let now : clock_at G u.tick c ≡ H = omega (arith, e, offset_is t H S [] c h) in
      let every : readied H (own c S) ≡ own c S = only_all (λ (v : Passage). ltb v.ready H) (all_then (λ v l. lt-ltb v.ready H l) a) in
      let n = none_missing G p.along c h k in
      omega (
        arith,
        r.0,
        r.1,
        n,
        ap (λ (x : ℕ). length (readied x (own c S))) now,
        ap (λ (l : List Passage). length l) every,
        ap (λ (l : List Passage). length l) k.whole,
        ap length k.shown,
        length-map (k.fin ++ k.more) (seen (component_of t.table c) c),
      )

  -- a run that ends at the horizon has reached such a state
  ends_tied : (cs : List ℕ) {s : Run} → Live G s → (run_from (setting_to t H S) cs s).end ≡ 0 → Tied G (run_from (setting_to t H S) cs s).state × ((run_from (setting_to t H S) cs s).state.tick ≡ H)
  unfolding run_from
  ends_tied [] k e = absurd (omega arith)
  ends_tied (b ∷ bs) {s} k e = go (choose1 (setting_to t H S) s b) (choice_leads G k b) e (λ u l f. ends_tied bs l f)
    where
      go : (o : Outcome) → Leads G s b o → (continue s o (λ v. run_from (setting_to t H S) bs v)).end ≡ 0
          → ((u : Run) → Live G u → (run_from (setting_to t H S) bs u).end ≡ 0 → Tied G (run_from (setting_to t H S) bs u).state × ((run_from (setting_to t H S) bs u).state.tick ≡ H))
          → Tied G (continue s o (λ v. run_from (setting_to t H S) bs v)).state × ((continue s o (λ v. run_from (setting_to t H S) bs v)).state.tick ≡ H)
      go forbidden no f ih = absurd (omega arith)
      go (on u) (onward w l x i o) f ih = ih u l f
      go (over u x y) (arrives q p i) f ih = (p, i)
      go (over u x y) (breaks d q p) f ih = absurd (omega arith)

  -- The law: at the horizon each node has finished as many sleeps as it has passages.
  pub horizon_sleeps : (cs : List ℕ) → (run (setting_to t H S) cs).end ≡ 0 → (c : ℕ) → c < size t.table → All (λ v. v.ready < H) (own c S)
      → (node_of (run (setting_to t H S) cs).state c).sleeps ≡ length (own c S)
  unfolding run
  horizon_sleeps cs e c h a =
      let r = ends_tied cs (start_live G) e in
      tied_sleeps (run_from (setting_to t H S) cs (start_run (setting_to t H S))).state r.0 r.1 c h a

  pub horizon_full : (cs : List ℕ) → (run (setting_to t H S) cs).end ≡ 0 → length (run (setting_to t H S) cs).state.nodes ≡ size t.table
  unfolding run
  horizon_full cs e = (ends_tied cs (start_live G) e).0.full
