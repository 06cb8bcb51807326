-- A path of the network that ends with a tick is realised by choices that end with the horizon only if it keeps to the schedule and the tick is the
-- one to the horizon: the other direction of `realised_to`. Assumes nothing.
use mathlib.Core.Path.{◌≡◌, refl, sym, ap, subst, ◌∙◌}
use mathlib.Core.List.{List, [], ◌∷◌, ◌++◌, map, append-nil}
use mathlib.Core.Option.{some}
use Prim.Native.Nat.{ℕ, suc, pred, ◌<◌}
use native.Mathlib.Omega.{arith}
use Rattle.model.specs.Table.{Table, Read, size, component_of}
use Rattle.model.specs.Schedule.{Passage, own}
use Rattle.model.specs.Network.{State, PathPassage, Label, tick, start, step, follow, passages_on, works_on, observations_on}
use Rattle.model.specs.Run.{Run, Result, Outcome, forbidden, on, over, ticked, Setting, setting_to, setting_at, start_run, choose1, ends, continue, run_from, run}
use Rattle.model.specs.Demand3.{PassAs, observations_of}
use Rattle.model.specs.Progress.{OnSchedule}
use Rattle.model.proofs.Reader.Limits.{read_limits}
use Rattle.model.proofs.Run.Tied.{Given, given, Tied, shown_by}
use Rattle.model.proofs.Run.Tick.{Live, Leads, no, onward, arrives, breaks}
use Rattle.model.proofs.Run.Send.{choice_leads}
use Rattle.model.proofs.Progress.Count.{start_live}
use Rattle.realised.specs.Realised.{shown_on, RealisesTo, OnlyTo}
use Rattle.realised.proofs.Before.{follow_split}
use Rattle.realised.proofs.Follows.{works_longer}
use Rattle.realised.proofs.Law.{tick_leads, tick_passages}
use Rattle.realised.proofs.Only.{keeps, kept_one}

-- choices that end with the horizon: the run before the last tick, and that it is tied after it too
record Arrived {t : Read} {H : ℕ} {S : List Passage} (G : Given t H S []) (s : Run) (choices : List ℕ) : Type 0 where
  pub state : Run
  pub live : Live G state
  pub tied : Tied G (ticked state)
  pub there : suc state.tick ≡ H
  pub is : run_from (setting_at t H S []) choices s ≡ ends (ticked state) 0 255

arrived : {t : Read} {H : ℕ} {S : List Passage} (G : Given t H S []) (choices : List ℕ) {s : Run} → Live G s → (run_from (setting_at t H S []) choices s).end ≡ 0 → Arrived G s choices
unfolding run_from
arrived G [] k e = absurd (omega arith)
arrived {t} {H} {S} G (b ∷ bs) {s} k e = go (choose1 g s b) refl (choice_leads G k b) e (λ u l f. arrived G bs l f)
  where
    g : Setting
    g = setting_at t H S []

    go : (o : Outcome) → choose1 g s b ≡ o → Leads G s b o → (continue s o (λ v. run_from g bs v)).end ≡ 0 → ((u : Run) → Live G u → (run_from g bs u).end ≡ 0 → Arrived G u bs) → Arrived G s (b ∷ bs)
    go forbidden q no f ih = absurd (omega arith)
    go (on u) q (onward w l h i o) f ih =
        let r = ih u l f in
        record { state = r.state; live = r.live; tied = r.tied; there = r.there; is = ap (λ (x : Outcome). continue s x (λ v. run_from g bs v)) q ∙ r.is }
    go (over u x y) q (arrives h p i) f ih = record { state = s; live = k; tied = p; there = i; is = ap (λ (x : Outcome). continue s x (λ v. run_from g bs v)) q }
    go (over u x y) q (breaks d h p) f ih = absurd (omega arith)

module _ {t : Read} {H : ℕ} {S : List Passage} (G : Given t H S []) (path : List Label) (last : State) (valid : follow t.table (start t.table) (path ++ (tick ∷ [])) ≡ some last) (choices : List ℕ)
    (r : RealisesTo t H S (path ++ (tick ∷ [])) last choices) where
  abbrev T : Table
  T = t.table

  abbrev longer : List Label
  longer = path ++ (tick ∷ [])

  ran : Arrived G (start_run (setting_at t H S [])) choices
  unfolding run
  ran = arrived G choices (start_live G) r.end

  result_is : run (setting_to t H S) choices ≡ ends (ticked ran.state) 0 255
  unfolding run
  result_is = ran.is

  -- the path before its last tick
  first : (p : State) × (follow T (start T) path ≡ some p) × (step T p tick ≡ some last)
  first = follow_split T (start T) path tick last valid

  next_tick : last.tick ≡ suc first.0.tick
  next_tick = ap (λ (x : State). x.tick) (tick_leads T first.0 last first.2)

  works_same : works_on T (start T) longer ≡ works_on T (start T) path
  works_same = works_longer G path tick first.1 first.2 ∙ append-nil (works_on T (start T) path)

  ticks_are : suc ran.state.tick ≡ last.tick
  ticks_are = sym (ap (λ (x : Result). x.state.tick) result_is) ∙ r.tick

  works_are : ran.state.works ≡ works_on T (start T) longer
  works_are = sym (ap (λ (x : Result). x.state.works) result_is) ∙ r.works

  -- what the run shows was shown before the tick
  shown_are : (c : ℕ) → c < size T → shown_by c ran.state.observations ≡ shown_on t S path first.0.tick c
  shown_are c h =
      sym (ap (observations_of c) result_is)
      ∙ (r.shown c h
      ∙ (ap (λ (n : ℕ). shown_on t S longer n c) (let z : pred last.tick ≡ first.0.tick = omega (arith, next_tick) in z)
      ∙ ap (λ (ps : List PathPassage). observations_on (component_of T c) c first.0.tick ps (map (λ v. v.edge) (own c S))) (tick_passages T c path first.1 first.2)))

  before_it : OnSchedule T S path first.0 × (first.0.tick < H)
  before_it = keeps G ran.live path first.0 first.1 (let z : ran.state.tick ≡ first.0.tick = omega (arith, ticks_are, next_tick) in z) (works_are ∙ works_same) shown_are

  passed : (c : ℕ) → c < size T → PassAs (passages_on T c (start T) longer) (own c S)
  passed c h = subst (λ (ps : List PathPassage). PassAs ps (own c S)) (sym (tick_passages T c path first.1 first.2)) (before_it.0.scheduled c h)

  keeps_to : OnSchedule T S longer last × (last.tick ≡ H)
  keeps_to =
      (record { valid = valid; scheduled = passed; kept = kept_one G ran.tied longer last valid ticks_are works_are passed }, sym ticks_are ∙ ran.there)

-- ## The law

-- for every list of numbers that is read as a table and accepted
pub only_to : OnlyTo
only_to bytes t S r a path last valid choices k = keeps_to (given t S (read_limits bytes t r) a) path last valid choices k
