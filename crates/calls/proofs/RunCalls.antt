-- The call `run_apart`, from what the checks and the run answer. Assumes nothing.
use mathlib.Core.Path.{◌≡◌, sym, ap, ◌∙◌}
use mathlib.Core.Bool.{Bool, true, false, cond}
use mathlib.Core.List.{List, [], ◌∷◌, ◌++◌}
use Prim.Native.Nat.{ℕ, zero, suc, ◌*◌, ◌≤◌, ◌<◌}
use native.Mathlib.Omega.{arith}
use borrow.Author.Tests.{lt-ltb, le-ltb}
use lib.Dec.{eqb}
use lib.ListN.{length, take, drop}
use Rattle.model.specs.Lists.{Answer, accepted, refused, each}
use Rattle.model.specs.Table.{Read, size}
use Rattle.model.specs.Places.{Valid, read_of}
use Rattle.model.specs.Schedule.{Passage}
use Rattle.model.specs.Checks.{accepted_schedule_at}
use Rattle.model.specs.Run.{Setting, Result, setting_at, run, observation_width, written_bytes, written_in}
use Rattle.model.specs.Demand3.{ticks_in}
use Rattle.model.specs.Apart.{Permitted, Demand3Apart}
use Rattle.model.specs.Calls.{read_at, offsets_fine, not_run, ran, run_with_at, run_planned_at, run_read_at, run_call_at}
use Rattle.model.proofs.Reader.Located.{valid_read}
use Rattle.model.proofs.Observations.Size.{all_long}
use Rattle.model.proofs.Run.CallsApart.{offsets-fine, demanded_apart}
use Rattle.model.proofs.Run.Few.{few_apart}
use Rattle.run.specs.Ends.{PlannedApart}
use Rattle.calls.proofs.Spreading.{read_at_is}

-- ## The offsets

-- the answer, for as many nodes as the table has
pub fine_as : (G nodes count : ℕ) (os : List ℕ) (answer : Bool) → answer ≡ offsets_fine G nodes os → nodes ≡ count → {told : Bool} → answer ≡ told → offsets_fine G count os ≡ told
fine_as G nodes count os answer e n t = sym (ap (λ (k : ℕ). offsets_fine G k os) n) ∙ sym e ∙ t

pub permitted_by : (G count : ℕ) (os : List ℕ) → offsets_fine G count os ≡ true → Permitted G count os
permitted_by G count os e = (offsets-fine G count os).0 e

-- ## Refused by the checks

module _ (G : ℕ) (bs os cs lent : List ℕ) where
  -- 1 to 6, and 19
  pub run_refused : {n c : ℕ} → read_at G bs ≡ refused n c → run_call_at G bs os cs lent ≡ not_run n c lent
  unfolding run_call_at
  run_refused e = ap (λ (a : Answer Read). run_read_at G a os cs lent) e

  module _ (v : Valid bs) (h : G ≤ 1000) where
    of_plan : run_call_at G bs os cs lent ≡ run_planned_at G (read_of bs) (accepted_schedule_at G (read_of bs)) os cs lent
    unfolding run_call_at
    of_plan = ap (λ (a : Answer Read). run_read_at G a os cs lent) (read_at_is G bs v h)

    -- 7 to 12
    pub plan_not_run : {n c : ℕ} → accepted_schedule_at G (read_of bs) ≡ refused n c → run_call_at G bs os cs lent ≡ not_run n c lent
    plan_not_run e = of_plan ∙ ap (λ (a : Answer (List Passage)). run_planned_at G (read_of bs) a os cs lent) e

-- ## A table accepted at the spread

-- so many ticks at most
ticks_most : (cs : List ℕ) → ticks_in cs ≤ length cs
unfolding ticks_in
ticks_most [] = omega arith
ticks_most (b ∷ bs) = go (eqb b 255) (ticks_most bs)
  where
    go : (t : Bool) → ticks_in bs ≤ length bs → cond t (suc (ticks_in bs)) (ticks_in bs) ≤ suc (length bs)
    go true h = omega arith
    go false h = omega arith

length_take_most : (k : ℕ) (xs : List ℕ) → length (take k xs) ≤ length xs
length_take_most zero xs = omega arith
length_take_most (suc k) [] = omega arith
length_take_most (suc k) (x ∷ xs) = omega (arith, length_take_most k xs)

module _ (G : ℕ) (bs os cs lent : List ℕ) (v : Valid bs) (small : G ≤ 1000) (S : List Passage) (p : accepted_schedule_at G (read_of bs) ≡ accepted S) where
  is_run : run_call_at G bs os cs lent ≡ run_with_at G (read_of bs) S os cs lent
  is_run = of_plan G bs os cs lent v small ∙ ap (λ (x : Answer (List Passage)). run_planned_at G (read_of bs) x os cs lent) p

  pub too_short : length lent < length S * observation_width → run_call_at G bs os cs lent ≡ not_run 13 255 lent
  too_short h = is_run ∙ rw (lt-ltb (length lent) (length S * observation_width) h)

  module _ (h : length S * observation_width ≤ length lent) where
    pub too_many : 1000000 < length cs → run_call_at G bs os cs lent ≡ not_run 14 255 lent
    too_many k = is_run ∙ rw (le-ltb (length lent) (length S * observation_width) h, lt-ltb 1000000 (length cs) k)

    module _ (k : length cs ≤ 1000000) where
      pub too-late : offsets_fine G (size (read_of bs).table) os ≡ false → run_call_at G bs os cs lent ≡ not_run 20 255 lent
      too-late o = is_run ∙ rw (le-ltb (length lent) (length S * observation_width) h, le-ltb 1000000 (length cs) k, o)

      pub is_done : offsets_fine G (size (read_of bs).table) os ≡ true
          → run_call_at G bs os cs lent ≡ ran (run (setting_at (read_of bs) (read_of bs).horizon S os) cs) lent
      is_done o = is_run ∙ rw (le-ltb (length lent) (length S * observation_width) h, le-ltb 1000000 (length cs) k, o)

-- ## What the run answers

-- the bytes that a run leaves are those of the call
pub bytes_done : (g : Setting) (cs lent later : List ℕ)
    → later ≡ each written_bytes (written_in (run g cs).state) ++ drop (length (written_in (run g cs).state) * observation_width) lent → later ≡ (ran (run g cs) lent).lent
bytes_done g cs lent later e = e ∙ rw (all_long (written_in (run g cs).state))

module _ (bs : List ℕ) (v : Valid bs) {rows os : List ℕ} {n : ℕ} (P : PlannedApart bs rows n os) (cs : List ℕ) where
  abbrev result : Result
  result = run (setting_at (read_of bs) (read_of bs).horizon P.plan.passages os) cs

  the_demand : Demand3Apart (read_of bs) (read_of bs).horizon P.plan.passages os cs
  the_demand = demanded_apart P.spread bs os cs (read_of bs) P.plan.passages (valid_read bs v) P.plan.accepted_schedule P.permitted

  -- its numbers are small
  pub used_most : result.state.used ≤ length cs
  used_most = the_demand.used

  pub tick_most : result.state.tick ≤ length cs
  tick_most = let k = result.state.used in omega (arith, the_demand.ticks, ticks_most (take k cs), length_take_most k cs)

  -- no more observations than passages
  pub seen_most : length result.state.observations ≤ 1024
  seen_most =
      omega (
        arith,
        few_apart P.spread bs (read_of bs) P.plan.passages (valid_read bs v) P.plan.accepted_schedule os P.permitted cs,
        P.plan.count,
        P.plan.stand.few,
      )
