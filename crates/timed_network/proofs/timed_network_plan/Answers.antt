-- `timed_network::timed_network_plan` meets its contract. Assumes nothing.
use mathlib.Core.Path.{◌≡◌, sym, ap, subst, ◌∙◌}
use mathlib.Core.List.{List}
use Prim.Native.Nat.{ℕ}
use native.Mathlib.Omega.{arith}
use lib.ListN.{take}
use Rattle.model.specs.Calls.{number_of, concerned_of}
use Rattle.slot_plan.specs.declared.Slots.{Slots}
use Rattle.slot_plan.specs.PlanSchedule.{PlanAccepted}
use Rattle.slot_plan.proofs.Planned.{zero_accepts}
use Rattle.timed_network.proofs.timed_network_plan.Goals as goal

same_size : (slots : Slots) (bytes : List ℕ) {size told : ℕ} → told ≡ size → PlanAccepted slots (take size bytes) → PlanAccepted slots (take told bytes)
same_size slots bytes e h = subst (λ (n : ℕ). PlanAccepted slots (take n bytes)) (sym e) h

pub numbers_of-requires : goal.numbers_of-requires
numbers_of-requires c = omega (arith, c.plan-c.ensures.3)

pub returns : goal.returns
returns c = (
  c.numbers_of.ensures.0 ∙ ap number_of c.plan-c.ensures.0,
  c.numbers_of.ensures.1 ∙ ap concerned_of c.plan-c.ensures.0,
  c.numbers_of.ensures.2 ∙ c.plan-c.ensures.1,
  c.plan-c.ensures.2,
  λ z. same_size _ _ c.numbers_of.ensures.2 (c.plan-c.ensures.4 (c.plan-c.ensures.0 ∙ zero_accepts _ _ (sym (ap number_of c.plan-c.ensures.0) ∙ sym c.numbers_of.ensures.0 ∙ z))),
)
