-- The call that runs to a horizon keeps what it promises. Assumes nothing.
use mathlib.Core.Path.{◌≡◌, refl, sym, ap, subst, ◌∙◌}
use mathlib.Core.Bool.{Bool, true, false, cond, not}
use mathlib.Core.List.{List, []}
use Prim.Native.Nat.{ℕ, ◌+◌, ◌*◌, ◌≤◌, ◌<◌}
use native.Mathlib.Omega.{arith}
use borrow.Author.Tests.{ltb-true}
use lib.Dec.{leb, ltb}
use lib.ListN.{length, drop}
use Rattle.model.specs.declared.Verdict.TheVariants.{Accepted}
use Rattle.model.specs.Lists.{is_none, each, Answer, accepted, refused}
use Rattle.model.specs.Table.{Read, size}
use Rattle.model.specs.Reader.{read_table}
use Rattle.model.specs.Schedule.{Passage}
use Rattle.model.specs.Checks.{accepted_schedule_of}
use Rattle.model.specs.Run.{setting_to, run, observation_width, written_bytes, written_in}
use Rattle.model.specs.Calls.{RunCall, not_run, ran}
use Rattle.model.specs.Observations.{ReadAs}
use Rattle.model.proofs.Basics.Bools.{and_is}
use Rattle.model.proofs.Reader.Limits.{read_limits}
use Rattle.model.proofs.Run.Tied.{Given, given_at}
use Rattle.recurrence.specs.Recurrence.{recurrence, accepted_schedule_to, Unending, reachable, run_on, run_to_planned, run_to_read, run_to_call}
use Rattle.recurrence.proofs.Calls.{reachable_law}
use Rattle.later_runs.specs.RunTo.{RunsTo, RunToTrue}
use Rattle.later_runs.proofs.ReadBack.{read_back}

-- a refusal is no acceptance
not-run : {A : Type 0} (n c : ℕ) (lent : List ℕ) → (not_run n c lent).verdict ≡ Accepted → A
not-run n c lent e = absurd (let w : ◌≡◌ {A = ℕ} 0 1 = cc in omega arith)

pub run_to_true : (table : List ℕ) (H : ℕ) (choices lent : List ℕ) → RunToTrue table H choices lent
unfolding run_to_call accepted_schedule_to
run_to_true table H choices lent t r small v = by_plan (accepted_schedule_of t) refl
  where
    is_read : run_to_call table H choices lent ≡ run_to_planned t H (accepted_schedule_of t) choices lent
    is_read = ap (λ (a : Answer Read). run_to_read a H choices lent) r

    by_plan : (a : Answer (List Passage)) → accepted_schedule_of t ≡ a → RunsTo t H table choices lent
    by_plan (refused n c) e = not-run n c lent (sym (ap (λ (x : RunCall). x.verdict) (is_read ∙ ap (λ (x : Answer (List Passage)). run_to_planned t H x choices lent) e)) ∙ v)
    by_plan (accepted S) e = by_reach (reachable t S H) refl
      where
        is_planned : run_to_call table H choices lent ≡ run_to_planned t H (accepted S) choices lent
        is_planned = is_read ∙ ap (λ (x : Answer (List Passage)). run_to_planned t H x choices lent) e

        by_reach : (b : Bool) → reachable t S H ≡ b → RunsTo t H table choices lent
        by_reach false q = not-run 29 255 lent (sym (ap (λ (x : RunCall). x.verdict) (is_planned ∙ ap (λ (b : Bool). cond b (run_on t H (accepted_schedule_to t.table H) choices lent) (not_run 29 255 lent)) q)) ∙ v)
        by_reach true q = by_room (ltb (length lent) (length u.passages * observation_width)) refl
          where
            u : Unending t H
            u = reachable_law table t S r e H q

            is_on : run_to_call table H choices lent ≡ run_on t H (accepted u.passages) choices lent
            is_on =
                is_planned
                ∙ ap (λ (b : Bool). cond b (run_on t H (accepted_schedule_to t.table H) choices lent) (not_run 29 255 lent)) q
                ∙ ap (λ (x : Answer (List Passage)). run_on t H x choices lent) u.planned

            by_room : (b : Bool) → ltb (length lent) (length u.passages * observation_width) ≡ b → RunsTo t H table choices lent
            by_room true p = not-run 13 255 lent (sym (ap (λ (x : RunCall). x.verdict) (is_on ∙ ap (λ (b : Bool). cond b (not_run 13 255 lent) (ran (run (setting_to t H u.passages) choices) lent)) p)) ∙ v)
            by_room false p =
                let done : run_to_call table H choices lent ≡ ran (run (setting_to t H u.passages) choices) lent = is_on ∙ ap (λ (b : Bool). cond b (not_run 13 255 lent) (ran (run (setting_to t H u.passages) choices) lent)) p in
                record {
                  passages = u.passages;
                  planned = u.planned;
                  demand3 = u.demand3 choices;
                  finishes = u.finishes choices;
                  observations =
                      subst (λ (c : RunCall). ReadAs t.table c.size c.lent (run (setting_to t H u.passages) choices).state) (sym done)
                      (read_back (given u) small choices (drop (length (each written_bytes (written_in (run (setting_to t H u.passages) choices).state))) lent));
                }
              where
                least : 1 ≤ H
                least = omega (arith, ltb-true 0 H ((and_is (ltb 0 H) (cond (leb H t.horizon) true (not (is_none (recurrence t.table t.horizon S))))).0 q).0)

                given : (u : Unending t H) → Given t H u.passages []
                given u = given_at 0 t H (size t.table * H) u.passages [] (read_limits table t r) least u.planned (λ c k. omega arith)
