-- Wrong calls of the worked example of document 01 ("Probe and hub"), refuted by what `Told` says: the probe sleeps until tick 3, and is told at tick 0.
use Rattle.std.specs.Prelude.{◌≡◌, refl, List, [], ◌∷◌, ℕ, length}
use Rattle.std.proofs.Common.{sym, ap, ◌∙◌, arith, leb-true}
use Rattle.model.specs.Cases.{worked}
use Rattle.model.specs.Network.{Observation}
use Rattle.model.specs.Program.{program_bytes, part_of}
use Rattle.model.specs.Machine.{part_bytes, exec}
use Rattle.model.specs.Run.{Setting, setting_of, Run, on, forbidden, choose1, run_from, run, start_nodes, some_due, late_nodes}
use Rattle.node.specs.Views.{rest_at}
use Rattle.node_events.specs.declared.Running.{Running}
use Rattle.node_events.specs.Events.{carried, happened_of, begun_of}
use Rattle.node_events.specs.Ties.{Chosen, no_choice, choice}
use Rattle.node_events.specs.Told.{Beside, Told}

abbrev g : Setting
g = setting_of (worked 20) []

abbrev part : List ℕ
part = part_bytes (program_bytes (worked 20)) 0

-- the probe at its first sleep, as its call left it and as five choices of the run do
abbrev probe : Running
probe = begun_of part 1 0

abbrev state : Run
state = (run g (0 ∷ 0 ∷ 0 ∷ 0 ∷ 0 ∷ [])).state

pub stands : Beside g 0 part state probe
unfolding carried rest_at program_bytes part_of exec run run_from choose1 start_nodes some_due late_nodes
stands = record { holds = record { part = refl; low = leb-true 1 255 refl; here = leb-true 1 2 refl; awake = leb-true 0 0 refl; node = refl }; finished = refl }

-- at tick 0 the run forbids the choice, and the call says early
pub asleep : (choose1 g state 0 ≡ forbidden) × ((happened_of part 0 0 0 probe).answer ≡ 1)
unfolding carried rest_at program_bytes part_of exec run run_from choose1 start_nodes some_due late_nodes
asleep = (refl, refl)

-- no choice leads on where it is forbidden
not_on : (t : Run) → forbidden ≡ on t → ⊥
not_on t q = let z : ◌≡◌ {A = ℕ} 0 1 = cc in omega arith

nowhere : {u : Run} → Chosen g 0 state u → length u.observations ≡ length state.observations
nowhere no_choice = refl
nowhere (choice {t = t} e w) = absurd (not_on t (sym asleep.0 ∙ e))

-- a call that says "fine" then, whatever else it leaves, is not what `Told` says
pub awake_too_early : (y : Running) → y.answer ≡ 0 → Told part 0 0 0 probe y → ⊥
unfolding carried rest_at program_bytes part_of exec run run_from choose1 start_nodes some_due late_nodes
awake_too_early y e d =
    let m = d.woke refl e (refl, refl) g 0 state stands refl in
    let a = nowhere m.chosen in
    let b = ap (λ (l : List Observation). length l) m.alone.observations in
    differ (sym a ∙ b)
  where
    differ : ◌≡◌ {A = ℕ} 0 1 → ⊥
    differ q = omega arith

-- and one that says "early" and has moved the node is none either
pub early_and_moved : (y : Running) → y.answer ≡ 1 → (y.registers ≡ probe.registers → ⊥) → Told part 0 0 0 probe y → ⊥
early_and_moved y e n d = n (ap (λ (z : Running). z.registers) (d.stays (λ q. not_fine (sym e ∙ q))))
  where
    not_fine : ◌≡◌ {A = ℕ} 1 0 → ⊥
    not_fine q = omega arith
