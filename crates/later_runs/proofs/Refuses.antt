-- What the call that runs to a horizon refuses of an accepted table, and that it refuses nothing else. Assumes nothing.
use mathlib.Core.Path.{◌≡◌, refl, sym, ap, subst, ◌∙◌}
use mathlib.Core.Bool.{Bool, true, false, cond, ◌&&◌, not}
use mathlib.Core.Logic.{◌⊎◌, inl, inr, ◌↔◌}
use mathlib.Core.List.{List}
use mathlib.Core.Option.{Option, none, some}
use Prim.Native.Nat.{ℕ, ◌*◌, ◌≤◌, ◌<◌}
use native.Mathlib.Omega.{arith}
use borrow.Author.Tests.{ltb-true, ltb-false, leb-true, leb-false}
use lib.Dec.{leb, ltb}
use lib.ListN.{length}
use Rattle.model.specs.declared.Verdict.{Verdict}
use Rattle.model.specs.declared.Verdict.TheVariants.{Accepted, Refused}
use Rattle.model.specs.Lists.{is_none, Answer, accepted}
use Rattle.model.specs.Table.{Read}
use Rattle.model.specs.Reader.{read_table}
use Rattle.model.specs.Schedule.{Passage}
use Rattle.model.specs.Chains.{IsSchedule}
use Rattle.model.specs.Checks.{accepted_schedule_of, limit}
use Rattle.model.specs.Run.{setting_to, run, observation_width}
use Rattle.model.specs.Calls.{RunCall, not_run, ran}
use Rattle.model.proofs.Basics.Bools.{and_is, clash}
use Rattle.model.proofs.Reader.Parts.{accepted_same}
use Rattle.model.proofs.Run.Tied.{schedule_at}
use Rattle.recurrence.specs.Recurrence.{Recurs, Recurrence, recurrence, accepted_schedule_to, Unending, reachable, run_on, run_to_planned, run_to_read, run_to_call}
use Rattle.recurrence.proofs.Calls.{reachable_law}
use Rattle.recurrence.proofs.Found.{none_recurs, found_recurs}
use Rattle.later_runs.specs.RunTo.{RefusedTo, RunToRefuses}

-- two refusals with different numbers, and a refusal and an acceptance
other : {A : Type 0} (n m : ℕ) → (n ≡ m → ⊥) → Refused n 255 ≡ Refused m 255 → A
other n m h e = absurd (h (let w : n ≡ m = cc in w))

no_refusal : {A : Type 0} (n c : ℕ) → Accepted ≡ Refused n c → A
no_refusal n c e = absurd (let w : ◌≡◌ {A = ℕ} 0 1 = cc in omega arith)

module _ (table : List ℕ) (H : ℕ) (choices lent : List ℕ) (t : Read) (S : List Passage) (r : read_table table ≡ accepted t) (e : accepted_schedule_of t ≡ accepted S) where
  s : IsSchedule limit t.table t.horizon S
  s = (schedule_at 0 t.table t.horizon limit S e).0

  abbrev Unreached : Type 0
  Unreached = (H ≡ 0) ⊎ ((t.horizon < H) × ((a b : ℕ) → Recurs t.table t.horizon S a b → ⊥))

  -- ## 29

  -- without a pair there is none to be found
  not_reached : reachable t S H ≡ false → Unreached
  not_reached k = at (ltb 0 H) refl k
    where
      paired : (o : Option Recurrence) → recurrence t.table t.horizon S ≡ o → not (is_none o) ≡ false → (a b : ℕ) → Recurs t.table t.horizon S a b → ⊥
      paired none q h a b = none_recurs limit t.table t.horizon S s q a b
      paired (some p) q h a b = clash (sym h)

      beyond : (x : Bool) → leb H t.horizon ≡ x → cond x true (not (is_none (recurrence t.table t.horizon S))) ≡ false → Unreached
      beyond true q h = clash (sym h)
      beyond false q h = inr (leb-false H t.horizon q, paired (recurrence t.table t.horizon S) refl h)

      at : (x : Bool) → ltb 0 H ≡ x → x && cond (leb H t.horizon) true (not (is_none (recurrence t.table t.horizon S))) ≡ false → Unreached
      at false q h = inl (omega (arith, ltb-false 0 H q))
      at true q h = beyond (leb H t.horizon) refl h

  -- a horizon that is run to is none of these
  was_reached : reachable t S H ≡ true → Unreached → ⊥
  was_reached k = at ((and_is (ltb 0 H) (cond (leb H t.horizon) true (not (is_none (recurrence t.table t.horizon S))))).0 k)
    where
      unpaired : (o : Option Recurrence) → recurrence t.table t.horizon S ≡ o → not (is_none o) ≡ true → ((a b : ℕ) → Recurs t.table t.horizon S a b → ⊥) → ⊥
      unpaired none q h n = clash h
      unpaired (some p) q h n = n p.from p.to (found_recurs limit t.table t.horizon S s p q).recurs

      beyond : (x : Bool) → leb H t.horizon ≡ x → cond x true (not (is_none (recurrence t.table t.horizon S))) ≡ true
          → (t.horizon < H) × ((a b : ℕ) → Recurs t.table t.horizon S a b → ⊥) → ⊥
      beyond true q h n = omega (arith, leb-true H t.horizon q, n.0)
      beyond false q h n = unpaired (recurrence t.table t.horizon S) refl h n.1

      at : (ltb 0 H ≡ true) × (cond (leb H t.horizon) true (not (is_none (recurrence t.table t.horizon S))) ≡ true) → Unreached → ⊥
      at h (inl z) = omega (arith, ltb-true 0 H h.0, z)
      at h (inr n) = beyond (leb H t.horizon) refl h.1 n

  -- ## The verdict

  abbrev verdict : Verdict
  verdict = (run_to_call table H choices lent).verdict

  is_planned : run_to_call table H choices lent ≡ run_to_planned t H (accepted S) choices lent
  unfolding run_to_call
  is_planned = ap (λ (a : Answer Read). run_to_read a H choices lent) r ∙ ap (λ (x : Answer (List Passage)). run_to_planned t H x choices lent) e

  by_horizon : reachable t S H ≡ false → RefusedTo t S H lent verdict
  by_horizon k =
      let v : verdict ≡ Refused 29 255 = ap (λ (x : RunCall). x.verdict) (is_planned ∙ ap (λ (b : Bool). cond b (run_on t H (accepted_schedule_to t.table H) choices lent) (not_run 29 255 lent)) k) in
      record {
        horizon = (λ w. not_reached k, λ n. v);
        room = (λ w. other 29 13 (λ h. omega arith) (sym v ∙ w), λ n. absurd (n.0 v));
        otherwise = λ n m. absurd (n v);
      }

  module _ (k : reachable t S H ≡ true) where
    u : Unending t H
    u = reachable_law table t S r e H k

    is_on : run_to_call table H choices lent ≡ run_on t H (accepted u.passages) choices lent
    is_on =
        is_planned
        ∙ ap (λ (b : Bool). cond b (run_on t H (accepted_schedule_to t.table H) choices lent) (not_run 29 255 lent)) k
        ∙ ap (λ (x : Answer (List Passage)). run_on t H x choices lent) u.planned

    by_room : (b : Bool) → ltb (length lent) (length u.passages * observation_width) ≡ b → RefusedTo t S H lent verdict
    by_room b p = at b p (ap (λ (x : RunCall). x.verdict) (is_on ∙ ap (λ (b : Bool). cond b (not_run 13 255 lent) (ran (run (setting_to t H u.passages) choices) lent)) p))
      where
        at : (b : Bool) → ltb (length lent) (length u.passages * observation_width) ≡ b
            → verdict ≡ (cond b (not_run 13 255 lent) (ran (run (setting_to t H u.passages) choices) lent)).verdict → RefusedTo t S H lent verdict
        at true p v =
            record {
              horizon = (λ w. other 13 29 (λ h. omega arith) (sym v ∙ w), λ n. absurd (was_reached k n));
              room = (λ w. (λ x. other 13 29 (λ h. omega arith) (sym v ∙ x), (u.passages, u.planned, ltb-true (length lent) (length u.passages * 36) p)), λ n. v);
              otherwise = λ n m. absurd (m v);
            }
        at false p v =
            record {
              horizon = (λ w. no_refusal 29 255 (sym v ∙ w), λ n. absurd (was_reached k n));
              room = (λ w. no_refusal 13 255 (sym v ∙ w), λ n. absurd (enough n.1));
              otherwise = λ n m. v;
            }
          where
            enough : (P : List Passage) × (accepted_schedule_to t.table H ≡ accepted P) × (length lent < length P * 36) → ⊥
            enough n =
                let same : u.passages ≡ n.0 = accepted_same (sym u.planned ∙ n.1) in
                omega (arith, ap length same, n.2, ltb-false (length lent) (length u.passages * 36) p)

  pub refuses : RefusedTo t S H lent (run_to_call table H choices lent).verdict
  refuses = go (reachable t S H) refl
    where
      go : (b : Bool) → reachable t S H ≡ b → RefusedTo t S H lent verdict
      go false k = by_horizon k
      go true k = by_room k (ltb (length lent) (length (u k).passages * observation_width)) refl

pub run_to_refuses : (table : List ℕ) (H : ℕ) (choices lent : List ℕ) → RunToRefuses table H choices lent
run_to_refuses table H choices lent t S r e = refuses table H choices lent t S r e
