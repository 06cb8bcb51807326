-- What `plan` leaves in the lent bytes. Assumes nothing.
use mathlib.Core.Path.{◌≡◌, ap, ◌∙◌}
use mathlib.Core.List.{List, ◌++◌}
use Prim.Native.Nat.{ℕ, ◌+◌, ◌*◌, ◌≤◌}
use native.Mathlib.Omega.{arith}
use lib.ListN.{length, drop}
use Rattle.model.specs.declared.Verdict.{Verdict}
use Rattle.model.specs.declared.Verdict.TheVariants.{Accepted, Refused}
use Rattle.model.specs.Bytes.{table_bytes}
use Rattle.slot_plan.specs.declared.Slots.{Slots}
use Rattle.slot_plan.specs.Plan.{Fits, plan_table}
use Rattle.slot_plan.proofs.Within.{plan_bytes}
use Rattle.planner.specs.Put.{Put}
use Rattle.planner.proofs.Runs.{put_front}

-- a refusal is no acceptance
pub refused_not_accepted : {A : Type 0} {v : Verdict} {number component : ℕ} → v ≡ Refused number component → v ≡ Accepted → A
refused_not_accepted e a = absurd (let z : ◌≡◌ {A = ℕ} 0 1 = cc in omega arith)

-- the table at the front, the other bytes as they were
pub front : (slots : Slots) (f : Fits slots) {old new : List ℕ} {next : ℕ} → Put old 0 (table_bytes (plan_table slots)) next new
    → 29 + 55 * slots.probes ≤ length old → new ≡ table_bytes (plan_table slots) ++ drop (29 + 55 * slots.probes) old
front slots f {old} h r =
    put_front h (omega (arith, plan_bytes slots f, r)) ∙ ap (λ (n : ℕ). table_bytes (plan_table slots) ++ drop n old) (plan_bytes slots f)
