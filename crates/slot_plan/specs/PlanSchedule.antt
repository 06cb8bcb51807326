-- The schedule of a plan in closed form: each passage by its number in its period. The laws in proofs/ say that it is the schedule, up to
-- any number of periods.
use Rattle.std.specs.Prelude.{◌≡◌, true, cond, ℕ, suc, ◌+◌, ◌-◌, ◌*◌, ◌<◌, ltb}
use mathlib.Core.List.{List, [], ◌∷◌, ◌++◌, map}
use Rattle.std.proofs.Math.Option.{Option, none, some}
use Rattle.model.specs.declared.Verdict.TheVariants.{Accepted}
use Rattle.model.specs.Lists.{below, accepted}
use Rattle.model.specs.Window.{Entry}
use Rattle.model.specs.Schedule.{Passage}
use Rattle.model.specs.Calls.{accepted_schedule_in, check_call_at, check_call}
use Rattle.recurrence.specs.Recurrence.{recurrence_call}
use Rattle.slot_plan.specs.declared.Slots.{Slots}
use Rattle.slot_plan.specs.Plan.{begins, send_from, send_to, hear_to}

-- A stay in a location that the edge of the same number alone leaves. The clock was 0 at the tick `base`; it is `clock` at entry, and the
-- window is from `low` to `high` on it.
abbrev pub stays : ℕ → ℕ → ℕ → ℕ → ℕ → ℕ → Option ℕ → Passage
stays component base location clock low high message =
    record {
      component = component;
      edge = location;
      entry = record { location = location; tick = base + clock; clocks = clock ∷ []; values = [] };
      ready = base + low;
      end = base + high;
      message = message;
    }

module _ (slots : Slots) where
  -- probe i, in the period that starts at a tick: it sends, then it rests
  abbrev pub sends : ℕ → ℕ → Passage
  sends base i = stays i base 0 0 (send_from slots i) (send_to slots i) (some i)

  abbrev pub rests : ℕ → ℕ → Passage
  rests base i = stays i base 1 (send_to slots i) (slots.period - 1) slots.period none

  -- the hub's passage number i of a period: for each probe its slot, and behind them the rest
  abbrev pub hub_low : ℕ → ℕ
  hub_low i = cond (ltb i slots.probes) (begins slots i) (slots.period - 1)

  abbrev pub hub_high : ℕ → ℕ
  hub_high i = cond (ltb i slots.probes) (hear_to slots i) slots.period

  abbrev pub hub_message : ℕ → Option ℕ
  hub_message i = cond (ltb i slots.probes) (some i) none

  abbrev pub hub_stays : ℕ → ℕ → Passage
  hub_stays base i = stays slots.probes base i (begins slots i) (hub_low i) (hub_high i) (hub_message i)

  -- The order of opening: at the start of a period all open, by number; then, slot by slot, the probe rests and the hub goes on.
  unfoldable pub slots_from : ℕ → List ℕ → List Passage
  slots_from base [] = []
  slots_from base (i ∷ is) = rests base i ∷ hub_stays base (suc i) ∷ slots_from base is

  unfoldable pub period_at : ℕ → List Passage
  unfolding slots_from
  period_at base = map (sends base) (below slots.probes) ++ (hub_stays base 0 ∷ slots_from base (below slots.probes))

  -- the periods of these numbers, one after the other
  unfoldable pub periods : List ℕ → List Passage
  unfolding period_at
  periods [] = []
  periods (q ∷ qs) = period_at (q * slots.period) ++ periods qs

  -- "H = 2 × p": two periods
  unfoldable pub plan_passages : List Passage
  unfolding periods
  plan_passages = periods (below 2)

  -- "Every plan written is proved to be accepted": what holds of the bytes written
  pub record PlanAccepted (table : List ℕ) : Type 0 where
    pub checked : check_call table ≡ Accepted
    pub schedule : accepted_schedule_in table ≡ accepted plan_passages
    -- "A plan with guard g is proved accepted for every G below g."
    pub spread : (G : ℕ) → G < slots.guard → check_call_at G table ≡ Accepted
    -- "Every plan of Wish 4 has such a pair, 0 and p."
    pub pair : recurrence_call table ≡ record { verdict = Accepted; found = true; from = 0; to = slots.period }
