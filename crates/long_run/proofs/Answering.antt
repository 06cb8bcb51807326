-- The call that runs to a horizon, from what the reader, the schedule, the pair and the count answer. Assumes nothing.
use mathlib.Core.Path.{◌≡◌, refl, sym, ap, ap₂, subst, ◌∙◌}
use mathlib.Core.Bool.{Bool, true, false, cond, ◌&&◌, not}
use mathlib.Core.List.{List, ◌++◌}
use mathlib.Core.Option.{Option as Perhaps, none, some}
use Rattle.std.specs.Prelude.{Option, Some, None}
use Rattle.std.specs.Option.{is_some}
use Prim.Native.Nat.{ℕ, ◌*◌, ◌≤◌, ◌<◌}
use native.Mathlib.Omega.{arith}
use borrow.Author.Tests.{ltb-true, lt-ltb, le-ltb, leb-true, leb-false, lt-leb}
use lib.Dec.{leb, ltb}
use lib.ListN.{length, drop}
use Rattle.model.specs.Lists.{is_none, each, Answer, accepted, refused}
use Rattle.model.specs.Table.{Read}
use Rattle.model.specs.Reader.{read_table}
use Rattle.model.specs.Places.{Valid, read_of}
use Rattle.model.specs.Schedule.{Passage}
use Rattle.model.specs.Checks.{accepted_schedule_of}
use Rattle.model.specs.Run.{Setting, setting_to, run, observation_width, written_bytes, written_in}
use Rattle.model.specs.Calls.{not_run, ran}
use Rattle.model.proofs.Basics.Bools.{and_is, clash}
use Rattle.model.proofs.Observations.Size.{all_long}
use Rattle.model.proofs.Reader.Located.{valid_read}
use Rattle.schedule.specs.Filled.{AcceptedRows}
use Rattle.recurrence.specs.declared.Pair.{Pair}
use Rattle.recurrence.specs.Recurrence.{Recurrence, recurrence, accepted_schedule_to, Unending, reachable, run_on, run_to_planned, run_to_read, run_to_call}
use Rattle.recurrence.proofs.Calls.{reachable_law}
use Rattle.period.specs.Walking.{passages_of, schedule_in}
use Rattle.period.specs.Searching.{PairIs}
use Rattle.long_run.specs.Reached.{PairOf, Reached}

-- ## Refused by the checks

module _ (bs : List ℕ) (X : ℕ) (cs lent : List ℕ) where
  -- 1 to 6
  pub read_not_run : {n c : ℕ} → read_table bs ≡ refused n c → run_to_call bs X cs lent ≡ not_run n c lent
  unfolding run_to_call
  read_not_run e = ap (λ (a : Answer Read). run_to_read a X cs lent) e

  module _ (v : Valid bs) where
    of_plan : run_to_call bs X cs lent ≡ run_to_planned (read_of bs) X (accepted_schedule_of (read_of bs)) cs lent
    unfolding run_to_call
    of_plan = ap (λ (a : Answer Read). run_to_read a X cs lent) (valid_read bs v)

    -- 7 to 12
    pub plan_not_run : {n c : ℕ} → accepted_schedule_of (read_of bs) ≡ refused n c → run_to_call bs X cs lent ≡ not_run n c lent
    plan_not_run e = of_plan ∙ ap (λ (a : Answer (List Passage)). run_to_planned (read_of bs) X a cs lent) e

-- ## 29

-- a pair is found, or there is none
found_is : (o : Perhaps Recurrence) (p : Option Pair) → PairIs o p → is_some p ≡ not (is_none o)
found_is none p e = ap is_some e
found_is (some x) p e = ap is_some e

module _ (bs rows : List ℕ) (n : ℕ) (laid : AcceptedRows bs rows n) where
  same : schedule_in bs ≡ laid.passages
  same = ap (λ (a : Answer (List Passage)). passages_of a) laid.accepted_schedule

  module _ (p : Option Pair) (h X : ℕ) (own : h ≡ (read_of bs).horizon) (pair : h < X → PairOf bs p) where
    -- what was looked at is what 29 asks
    pub reach_is : (ltb 0 X && cond (leb X h) true (is_some p)) ≡ reachable (read_of bs) laid.passages X
    reach_is =
        ap (λ (b : Bool). ltb 0 X && b) (go (leb X h) refl)
        ∙ ap (λ (k : ℕ). ltb 0 X && cond (leb X k) true (not (is_none (recurrence (read_of bs).table (read_of bs).horizon laid.passages)))) own
      where
        go : (b : Bool) → leb X h ≡ b → cond b true (is_some p) ≡ cond b true (not (is_none (recurrence (read_of bs).table (read_of bs).horizon laid.passages)))
        go true e = refl
        go false e =
            found_is (recurrence (read_of bs).table (read_of bs).horizon (schedule_in bs)) p (pair (leb-false X h e))
            ∙ ap (λ (S : List Passage). not (is_none (recurrence (read_of bs).table (read_of bs).horizon S))) same

    -- where it does not refuse
    pub reached : (ltb 0 X && cond (leb X h) true (is_some p)) ≡ true → Reached bs rows n p X
    reached e =
        let both = (and_is (ltb 0 X) (cond (leb X h) true (is_some p))).0 e in
        record {
          rows = laid;
          least = omega (arith, ltb-true 0 X both.0);
          pair = λ k. pair (omega (arith, own, k));
          found = λ k. sym (ap (λ (b : Bool). cond b true (is_some p)) (lt-leb X h (omega (arith, own, k)))) ∙ both.1;
        }

-- all that holds to such a horizon
pub reached_to : {bs rows : List ℕ} {n : ℕ} {p : Option Pair} {X : ℕ} → Valid bs → Reached bs rows n p X → Unending (read_of bs) X
reached_to {bs} {rows} {n} {p} {X} v r =
    reachable_law bs (read_of bs) r.rows.passages (valid_read bs v) r.rows.accepted_schedule X
    (sym (reach_is bs rows n r.rows p (read_of bs).horizon X refl r.pair) ∙ ap₂ (λ (x y : Bool). x && y) (lt-ltb 0 X (omega (arith, r.least))) (go (leb X (read_of bs).horizon) refl))
  where
    go : (b : Bool) → leb X (read_of bs).horizon ≡ b → cond b true (is_some p) ≡ true
    go true e = refl
    go false e = r.found (leb-false X (read_of bs).horizon e)

-- ## A table that is accepted

module _ (bs : List ℕ) (X : ℕ) (cs lent : List ℕ) (v : Valid bs) (S : List Passage) (plan : accepted_schedule_of (read_of bs) ≡ accepted S) where
  is_planned : run_to_call bs X cs lent ≡ cond (reachable (read_of bs) S X) (run_on (read_of bs) X (accepted_schedule_to (read_of bs).table X) cs lent) (not_run 29 255 lent)
  is_planned = of_plan bs X cs lent v ∙ ap (λ (a : Answer (List Passage)). run_to_planned (read_of bs) X a cs lent) plan

  pub not_reached : reachable (read_of bs) S X ≡ false → run_to_call bs X cs lent ≡ not_run 29 255 lent
  not_reached e = is_planned ∙ ap (λ (b : Bool). cond b (run_on (read_of bs) X (accepted_schedule_to (read_of bs).table X) cs lent) (not_run 29 255 lent)) e

  module _ (r : reachable (read_of bs) S X ≡ true) where
    -- all that holds to the horizon
    pub to-horizon : Unending (read_of bs) X
    to-horizon = reachable_law bs (read_of bs) S (valid_read bs v) plan X r

    module _ (L : List Passage) (long : accepted_schedule_to (read_of bs).table X ≡ accepted L) where
      is_on : run_to_call bs X cs lent ≡ run_on (read_of bs) X (accepted L) cs lent
      is_on =
          is_planned
          ∙ ap (λ (b : Bool). cond b (run_on (read_of bs) X (accepted_schedule_to (read_of bs).table X) cs lent) (not_run 29 255 lent)) r
          ∙ ap (λ (a : Answer (List Passage)). run_on (read_of bs) X a cs lent) long

      -- 13
      pub too_short : length lent < length L * observation_width → run_to_call bs X cs lent ≡ not_run 13 255 lent
      too_short h = is_on ∙ ap (λ (b : Bool). cond b (not_run 13 255 lent) (ran (run (setting_to (read_of bs) X L) cs) lent)) (lt-ltb (length lent) (length L * observation_width) h)

      pub is_done : length L * observation_width ≤ length lent → run_to_call bs X cs lent ≡ ran (run (setting_to (read_of bs) X L) cs) lent
      is_done h = is_on ∙ ap (λ (b : Bool). cond b (not_run 13 255 lent) (ran (run (setting_to (read_of bs) X L) cs) lent)) (le-ltb (length lent) (length L * observation_width) h)

-- the bytes that a run leaves are those of the call
pub bytes_done : (g : Setting) (cs lent later : List ℕ)
    → later ≡ each written_bytes (written_in (run g cs).state) ++ drop (length (written_in (run g cs).state) * observation_width) lent → later ≡ (ran (run g cs) lent).lent
bytes_done g cs lent later e = e ∙ rw (all_long (written_in (run g cs).state))
