-- The call that runs to a horizon: where 29 does not refuse it, the schedule to that horizon is there, and all that is promised of it; to the table's
-- own horizon it is the call without one. Assumes nothing.
use mathlib.Core.Path.{◌≡◌, refl, sym, ap, ap₂, subst, ◌∙◌}
use mathlib.Core.Bool.{Bool, true, false, cond, ◌&&◌, not}
use mathlib.Core.List.{List}
use mathlib.Core.Option.{Option, none, some}
use Prim.Native.Nat.{ℕ, suc, ◌+◌, ◌*◌, ◌≤◌, ◌<◌}
use native.Mathlib.Omega.{arith}
use borrow.Author.Tests.{ltb-true, lt-ltb, leb-true, leb-false, le-leb, lt-leb, le-ltb}
use lib.Dec.{leb, ltb}
use lib.ListN.{length}
use Rattle.model.specs.declared.Verdict.TheVariants.{Accepted}
use Rattle.model.specs.Lists.{is_none, Answer, accepted, refused}
use Rattle.model.specs.Table.{Read, size}
use Rattle.model.specs.Reader.{read_table}
use Rattle.model.specs.Schedule.{Passage}
use Rattle.model.specs.Checks.{accepted_schedule_of, limit}
use Rattle.model.specs.Chains.{IsSchedule}
use Rattle.model.specs.Run.{setting_of, run}
use Rattle.model.specs.Calls.{RunCall, not_run, ran, run_call}
use Rattle.model.proofs.Basics.Bools.{and_is, clash}
use Rattle.model.proofs.Reader.Limits.{read_limits}
use Rattle.model.proofs.Reader.Parts.{accepted_same}
use Rattle.model.proofs.Run.Tied.{schedule_at}
use Rattle.recurrence.specs.Recurrence.{Recurs, Recurrence, recurrence, accepted_schedule_to, Unending, recurrence_found, recurrence_call, RecurrenceTrue, PairTrue, reachable, run_on, run_to_planned, run_to_read, run_to_call}
use Rattle.recurrence.proofs.Every.{endless, shorter}
use Rattle.recurrence.proofs.Found.{none_recurs, found_recurs}
use Rattle.recurrence.proofs.Count.{same_schedule}

-- a pair that was found
found_of : {A : Type 0} (o : Option A) → not (is_none o) ≡ true → (x : A) × (o ≡ some x)
found_of none e = clash e
found_of (some x) e = (x, refl)

-- 29 does not refuse it: all that is promised holds to that horizon
pub reachable_law : (bytes : List ℕ) (t : Read) (S : List Passage) → read_table bytes ≡ accepted t → accepted_schedule_of t ≡ accepted S → (H : ℕ) → reachable t S H ≡ true → Unending t H
reachable_law bytes t S r e H k =
    let h = (and_is (ltb 0 H) (cond (leb H t.horizon) true (not (is_none (recurrence t.table t.horizon S))))).0 k in
    go (leb H t.horizon) refl (ltb-true 0 H h.0) h.1
  where
    go : (b : Bool) → leb H t.horizon ≡ b → 0 < H → cond b true (not (is_none (recurrence t.table t.horizon S))) ≡ true → Unending t H
    go true q l p = shorter bytes t S r e H (omega arith) (leb-true H t.horizon q)
    go false q l p =
        let f = found_of (recurrence t.table t.horizon S) p in
        let s = (schedule_at 0 t.table t.horizon limit S e).0 in
        let w = found_recurs limit t.table t.horizon S s f.0 f.1 in
        endless bytes t S r e f.0.from f.0.to w.recurs H (omega arith)

-- to the table's own horizon the schedule is the one that was accepted
pub at_home : (bytes : List ℕ) (t : Read) (S : List Passage) → read_table bytes ≡ accepted t → accepted_schedule_of t ≡ accepted S → accepted_schedule_to t.table t.horizon ≡ accepted S
unfolding accepted_schedule_to
at_home bytes t S r e =
    let i = read_limits bytes t r in
    let u = shorter bytes t S r e t.horizon i.least_horizon (omega arith) in
    let same : u.passages ≡ S = same_schedule t.table t.horizon (schedule_at 0 t.table t.horizon (size t.table * t.horizon) u.passages u.planned).0 (schedule_at 0 t.table t.horizon limit S e).0 in
    u.planned ∙ ap accepted same

-- so the call is that without a horizon, for a list that 14 does not refuse
pub same_at_home : (bytes : List ℕ) (t : Read) (S : List Passage) → read_table bytes ≡ accepted t → accepted_schedule_of t ≡ accepted S
    → (choices lent : List ℕ) → length choices ≤ 1000000 → run_to_call bytes t.horizon choices lent ≡ run_call bytes choices lent
unfolding run_to_call run_call
same_at_home bytes t S r e choices lent few =
    let i = read_limits bytes t r in
    let ok : reachable t S t.horizon ≡ true = rw (lt-ltb 0 t.horizon (omega (arith, i.least_horizon)), le-leb t.horizon t.horizon (omega arith)) in
    ap (λ (a : Answer Read). run_to_read a t.horizon choices lent) r
    ∙ ap (λ (a : Answer (List Passage)). run_to_planned t t.horizon a choices lent) e
    ∙ ap (λ (b : Bool). cond b (run_on t t.horizon (accepted_schedule_to t.table t.horizon) choices lent) (not_run 29 255 lent)) ok
    ∙ ap (λ (a : Answer (List Passage)). run_on t t.horizon a choices lent) (at_home bytes t S r e)
    ∙ sym (rw (r, e, le-ltb 1000000 (length choices) few))

-- the pair that is told is the first, there is none where none is told, and where one is told all holds to every horizon
pub pair_true : (table : List ℕ) → PairTrue table
unfolding recurrence_call
pair_true table t S r e =
    rw (r, e)
    (go (recurrence t.table t.horizon S) refl)
  where
    s : IsSchedule limit t.table t.horizon S
    s = (schedule_at 0 t.table t.horizon limit S e).0

    go : (o : Option Recurrence) → recurrence t.table t.horizon S ≡ o → RecurrenceTrue t S (recurrence_found Accepted o)
    go none q = record { first = λ f. clash f; none = λ f a b. none_recurs limit t.table t.horizon S s q a b; endless = λ f. clash f }
    go (some p) q =
        let f = found_recurs limit t.table t.horizon S s p q in
        record { first = λ x. f; none = λ x. clash (sym x); endless = λ x H h. endless table t S r e p.from p.to f.recurs H h }
