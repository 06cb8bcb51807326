-- The call `plan`: which numbers can be planned, what is answered, and that what is written is accepted. Assumes nothing.
use mathlib.Core.Path.{◌≡◌, refl, sym, ap, subst, ◌∙◌}
use mathlib.Core.Logic.{◌↔◌}
use mathlib.Core.Bool.{Bool, true, false, cond, ◌&&◌}
use mathlib.Core.List.{List, ◌++◌}
use Prim.Native.Nat.{ℕ, ◌+◌, ◌*◌, ◌≤◌, ◌<◌}
use native.Mathlib.Omega.{arith}
use borrow.Author.Tests.{le-leb, lt-leb, lt-ltb, ltb-true}
use lib.Dec.{leb, ltb}
use lib.ListN.{length, take, drop}
use lib.Seq.{take_at}
use Rattle.model.specs.declared.Verdict.TheVariants.{Accepted, Refused}
use Rattle.model.specs.Bytes.{table_bytes}
use Rattle.model.specs.Calls.{Call, refusing, laid, number_of}
use Rattle.model.proofs.Basics.Bools.{and_is, le_is}
use Rattle.slot_plan.specs.declared.Slots.{Slots}
use Rattle.slot_plan.specs.Plan.{in_range, width, plannable, Fits, plan_table, plan_call}
use Rattle.slot_plan.specs.PlanSchedule.{PlanAccepted}
use Rattle.slot_plan.proofs.Recurs.{plan_pair}
use Rattle.slot_plan.proofs.Within.{plan_bytes, plan_scheduled, plan_checked, plan_spread}

-- a number in its range
range_is : (most number : ℕ) → (in_range most number ≡ true) ↔ ((1 ≤ number) × (number ≤ most))
range_is most number = (
  λ e. let h = (and_is (leb 1 number) (leb number most)).0 e in ((le_is 1 number).0 h.0, (le_is number most).0 h.1),
  λ h. (and_is (leb 1 number) (leb number most)).1 ((le_is 1 number).1 h.0, (le_is number most).1 h.1),
)

-- a call that gives 0 is not refused
told : (done : Call) (lent : List ℕ) (can enough : Bool) → done.verdict ≡ Accepted
    → number_of (cond can (cond enough done (refusing 13 255 lent)) (refusing 18 255 lent)).verdict ≡ 0
    → (cond can (cond enough done (refusing 13 255 lent)) (refusing 18 255 lent)).verdict ≡ Accepted
told done lent true true a e = a
told done lent true false a e = absurd (omega (arith, e))
told done lent false enough a e = absurd (omega (arith, e))

module _ (slots : Slots) where
  abbrev few : Bool
  few = in_range 7 slots.probes

  abbrev sent : Bool
  sent = few && in_range 1000 slots.slot

  abbrev guarded : Bool
  guarded = sent && in_range 1000 slots.guard

  abbrev ranged : Bool
  ranged = guarded && leb slots.period 30000

  abbrev room : Bool
  room = ltb (slots.probes * width slots) slots.period

  -- the test and the facts
  pub fits_is : (plannable slots ≡ true) ↔ Fits slots
  fits_is = (
    λ e.
        let a = (and_is ranged room).0 e in
        let b = (and_is guarded (leb slots.period 30000)).0 a.0 in
        let c = (and_is sent (in_range 1000 slots.guard)).0 b.0 in
        let d = (and_is few (in_range 1000 slots.slot)).0 c.0 in
        let n = (range_is 7 slots.probes).0 d.0 in
        let s = (range_is 1000 slots.slot).0 d.1 in
        let g = (range_is 1000 slots.guard).0 c.1 in
        record {
          least_probes = n.0;
          most_probes = n.1;
          least_slot = s.0;
          most_slot = s.1;
          least_guard = g.0;
          most_guard = g.1;
          most_period = (le_is slots.period 30000).0 b.1;
          room = ltb-true (slots.probes * width slots) slots.period a.1;
        },
    λ f.
        let d = (and_is few (in_range 1000 slots.slot)).1 ((range_is 7 slots.probes).1 (f.least_probes, f.most_probes), (range_is 1000 slots.slot).1 (f.least_slot, f.most_slot)) in
        let c = (and_is sent (in_range 1000 slots.guard)).1 (d, (range_is 1000 slots.guard).1 (f.least_guard, f.most_guard)) in
        let b = (and_is guarded (leb slots.period 30000)).1 (c, (le_is slots.period 30000).1 f.most_period) in
        (and_is ranged room).1 (b, lt-ltb (slots.probes * width slots) slots.period f.room),
  )

  module _ (lent : List ℕ) where
    -- 18
    pub not_plannable : plannable slots ≡ false → plan_call slots lent ≡ refusing 18 255 lent
    unfolding plan_call
    not_plannable e = rw e

    -- then 13, then the table
    module _ (f : Fits slots) where
      laid_is : plan_call slots lent ≡ laid (length (table_bytes (plan_table slots))) (table_bytes (plan_table slots)) lent
      unfolding plan_call
      laid_is = rw (fits_is.1 f)

      pub too_short : length lent < 29 + 55 * slots.probes → plan_call slots lent ≡ refusing 13 255 lent
      too_short h = laid_is ∙ rw (lt-leb (length (table_bytes (plan_table slots))) (length lent) (omega (arith, plan_bytes slots f, h)))

      pub written : 29 + 55 * slots.probes ≤ length lent
          → plan_call slots lent ≡ record { verdict = Accepted; size = 29 + 55 * slots.probes; lent = table_bytes (plan_table slots) ++ drop (29 + 55 * slots.probes) lent }
      written h =
          laid_is
          ∙ rw (le-leb (length (table_bytes (plan_table slots))) (length lent) (omega (arith, plan_bytes slots f, h)), plan_bytes slots f)

    -- the numbers 13 and 18 are not 0
    pub zero_accepts : number_of (plan_call slots lent).verdict ≡ 0 → (plan_call slots lent).verdict ≡ Accepted
    unfolding plan_call
    zero_accepts e =
        let bytes = table_bytes (plan_table slots) in
        let done : Call = record { verdict = Accepted; size = length bytes; lent = bytes ++ drop (length bytes) lent } in
        told done lent (plannable slots) (leb (length bytes) (length lent)) refl e

  -- every plan written is accepted, and its schedule is the closed form
  pub plan_accepted_in : (f : Fits slots) (rest : List ℕ) → PlanAccepted slots (take (29 + 55 * slots.probes) (table_bytes (plan_table slots) ++ rest))
  plan_accepted_in f rest =
      subst (PlanAccepted slots) (sym (take_at (table_bytes (plan_table slots)) rest (29 + 55 * slots.probes) (plan_bytes slots f)))
      (record { checked = plan_checked slots f; schedule = plan_scheduled slots f; spread = plan_spread slots f; pair = plan_pair slots f })
