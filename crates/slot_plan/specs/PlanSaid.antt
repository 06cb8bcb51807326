-- What `PlanAccepted` says, spelt out without its name: a field less no longer gives this.
use Rattle.std.specs.Prelude.{◌≡◌, true, List, ℕ, ◌<◌}
use Rattle.model.specs.declared.Verdict.TheVariants.{Accepted}
use Rattle.model.specs.Lists.{accepted}
use Rattle.model.specs.Calls.{accepted_schedule_in, check_call_at, check_call}
use Rattle.recurrence.specs.Recurrence.{recurrence_call}
use Rattle.slot_plan.specs.declared.Slots.{Slots}
use Rattle.slot_plan.specs.PlanSchedule.{plan_passages, PlanAccepted}

-- "Every plan written is proved to be accepted", "for every G below g", "Every plan of Wish 4 has such a pair, 0 and p"
pub plan_says : (slots : Slots) (table : List ℕ) → PlanAccepted slots table
    → (check_call table ≡ Accepted) × (accepted_schedule_in table ≡ accepted (plan_passages slots))
    × ((G : ℕ) → G < slots.guard → check_call_at G table ≡ Accepted)
    × (recurrence_call table ≡ record { verdict = Accepted; found = true; from = 0; to = slots.period })
plan_says slots table p = (p.checked, p.schedule, p.spread, p.pair)
