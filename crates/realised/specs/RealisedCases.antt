-- `RealisesBy` and `RealisesTo` held against choices: right ones, and wrong ones that break one of the fields each. A field that is made weaker no
-- longer refutes its wrong choices.
use Rattle.std.specs.Prelude.{◌≡◌, refl, Bool, true, false, ◌&&◌, List, [], ◌∷◌, ◌++◌, ℕ, zero, suc, ◌+◌, ◌<◌, ltb, length, replicate}
use Rattle.std.proofs.Common.{ap, arith, ltb-true, leb-true}
use Rattle.std.proofs.lemmas.Bool.{eqb-false}
use Rattle.model.specs.declared.Action.TheVariants.{Internal}
use Rattle.model.specs.Lists.{all, empty, more, Bytes}
use Rattle.model.specs.Table.{Read}
use Rattle.model.specs.Build.{location, arc, component, network}
use Rattle.model.specs.Checks.{accepted_schedule, accepted_schedule_of}
use Rattle.model.specs.Program.{program_bytes, part_of}
use Rattle.model.specs.Network.{Label, tick, step_in, step_out, follow, passages_on, Work, one, two, works_on, observations_on}
use Rattle.model.specs.Order.{work_tick}
use Rattle.model.specs.Machine.{exec}
use Rattle.model.specs.Run.{setting_to, run, choose1}
use Rattle.model.specs.Demand3.{observations_of}
use Rattle.realised.specs.Realised.{shown_on, RealisesBy, RealisesTo}
use Rattle.model.specs.DemandCases.{visits_of, last_of, neither}
use Rattle.model.specs.DemandWrongs.{twins}

-- these choices realise the path of the table
abbrev pub Realises : Read → List Label → List ℕ → Type 0
Realises t path choices = RealisesBy t t.horizon (visits_of (accepted_schedule_of t)) path (last_of t.table path) choices

-- they realise it to the horizon
abbrev pub Arrives : Read → List Label → List ℕ → Type 0
Arrives t path choices = RealisesTo t t.horizon (visits_of (accepted_schedule_of t)) path (last_of t.table path) choices

-- ## Two components with one and the same window, 3 to 5

-- both nodes to their sleeps, and three ticks
abbrev pub to_the_sleeps : List ℕ
to_the_sleeps = replicate 5 0 ++ replicate 5 1 ++ (255 ∷ 255 ∷ 255 ∷ [])

-- both sleeps
abbrev pub to_the_works : List ℕ
to_the_works = to_the_sleeps ++ (0 ∷ 1 ∷ [])

abbrev pub three_ticks : List Label
three_ticks = tick ∷ tick ∷ tick ∷ []

-- one steps in at 3, the other at 4
abbrev pub apart : List Label
apart = three_ticks ++ (step_in 1 0 ∷ tick ∷ step_in 0 0 ∷ [])

-- both step in at 3, the second first
abbrev pub backwards : List Label
backwards = three_ticks ++ (step_in 1 0 ∷ step_in 0 0 ∷ [])

-- ## One component whose windows touch: 0 to 2, 2 to 4, ..

abbrev pub turning_to : ℕ → Read
turning_to H = network 0 H (component 0 1 0 (location 0 2 ∷ []) (arc 0 0 1 Internal [] [] [] [] ∷ []) ∷ [])

abbrev pub turning : Read
turning = turning_to 20

-- it steps in at 2, and has yet to step out: the next window, ready at 2, is not shown
abbrev pub at_its_end : List Label
at_its_end = tick ∷ tick ∷ step_in 0 0 ∷ []

abbrev pub to_its_end : List ℕ
to_its_end = replicate 5 0 ++ (255 ∷ 255 ∷ 0 ∷ [])

-- The same to a horizon of 3: it steps in at 2 and out, and into its next window, ready at 2, before the tick to the horizon.
abbrev pub to_the_horizon : List Label
to_the_horizon = tick ∷ tick ∷ step_in 0 0 ∷ step_out 0 ∷ tick ∷ []

abbrev pub to_the_last_tick : List ℕ
to_the_last_tick = to_its_end ++ replicate 8 0 ++ (255 ∷ [])

-- ## What is right

abbrev pub RightChoices : Type 0
RightChoices =
    Realises twins backwards (to_the_works ++ (1 ∷ 0 ∷ []))
    × Realises twins three_ticks to_the_works
    × Realises turning at_its_end to_its_end
    × Realises turning (at_its_end ++ (step_out 0 ∷ [])) (to_its_end ++ replicate 8 0)
    × Arrives (turning_to 3) to_the_horizon to_the_last_tick

-- numbers that are bytes, by computing
are_bytes : (ns : List ℕ) → all (λ n. ltb n 256) ns ≡ true → Bytes ns
are_bytes [] h = empty
are_bytes (n ∷ ns) h = go (ltb n 256) refl (all (λ m. ltb m 256) ns) h (are_bytes ns)
  where
    go : (x : Bool) → ltb n 256 ≡ x → (y : Bool) → x && y ≡ true → (y ≡ true → Bytes ns) → Bytes (n ∷ ns)
    go true p y e rest = more (ltb-true n 256 p) (rest e)
    go false p y e rest = absurd (let z : ◌≡◌ {A = ℕ} 0 1 = cc in omega arith)

none_else : (c : ℕ) {A : Type 0} → suc c < 1 → A
none_else c h = absurd (omega arith)

pub right_choices : RightChoices
unfolding accepted_schedule follow passages_on works_on observations_on run program_bytes part_of choose1 exec
right_choices = (
  record { end = refl; used = refl; tick = refl; works = refl; shown = one_way; bytes = are_bytes _ refl; few = leb-true 17 1000000 refl },
  record { end = refl; used = refl; tick = refl; works = refl; shown = no-work; bytes = are_bytes _ refl; few = leb-true 15 1000000 refl },
  record { end = refl; used = refl; tick = refl; works = refl; shown = at-end; bytes = are_bytes _ refl; few = leb-true 8 1000000 refl },
  record { end = refl; used = refl; tick = refl; works = refl; shown = gone_on; bytes = are_bytes _ refl; few = leb-true 16 1000000 refl },
  record { end = refl; used = refl; tick = refl; works = refl; shown = arrived; bytes = are_bytes _ refl; few = leb-true 17 1000000 refl },
)
  where
    -- what the choices show is what the path shows, of component c up to the tick
    Shows : Read → List Label → List ℕ → ℕ → ℕ → Type 0
    Shows t path choices now c =
        observations_of c (run (setting_to t t.horizon (visits_of (accepted_schedule_of t))) choices) ≡ shown_on t (visits_of (accepted_schedule_of t)) path now c

    one_way : (c : ℕ) → c < 2 → Shows twins backwards (to_the_works ++ (1 ∷ 0 ∷ [])) 3 c
    one_way zero h = refl
    one_way (suc zero) h = refl
    one_way (suc (suc c)) h = neither c h

    no-work : (c : ℕ) → c < 2 → Shows twins three_ticks to_the_works 3 c
    no-work zero h = refl
    no-work (suc zero) h = refl
    no-work (suc (suc c)) h = neither c h

    at-end : (c : ℕ) → c < 1 → Shows turning at_its_end to_its_end 2 c
    at-end zero h = refl
    at-end (suc c) h = none_else c h

    gone_on : (c : ℕ) → c < 1 → Shows turning (at_its_end ++ (step_out 0 ∷ [])) (to_its_end ++ replicate 8 0) 2 c
    gone_on zero h = refl
    gone_on (suc c) h = none_else c h

    arrived : (c : ℕ) → c < 1 → Shows (turning_to 3) to_the_horizon to_the_last_tick 2 c
    arrived zero h = refl
    arrived (suc c) h = none_else c h

-- ## What is wrong

abbrev pub WrongChoices : Type 0
WrongChoices =
    -- the works in another order; at another tick
    (Realises twins backwards (to_the_works ++ (0 ∷ 1 ∷ [])) → ⊥)
    × (Realises twins apart (to_the_works ++ (1 ∷ 0 ∷ 255 ∷ [])) → ⊥)
    -- a sleep missing; one that the component has not come to
    × (Realises twins three_ticks to_the_sleeps → ⊥)
    × (Realises turning at_its_end (to_its_end ++ replicate 8 0) → ⊥)
    -- a tick more; a choice more, that is not allowed
    × (Realises twins three_ticks (to_the_works ++ (255 ∷ [])) → ⊥)
    × (Realises twins three_ticks (to_the_works ++ (2 ∷ [])) → ⊥)
    -- to the horizon: used up before it; a choice more, that is never carried out
    × (Arrives (turning_to 3) to_the_horizon (to_its_end ++ replicate 8 0) → ⊥)
    × (Arrives (turning_to 3) to_the_horizon (to_the_last_tick ++ (0 ∷ [])) → ⊥)

-- the component of the first work, and the ticks of all together
abbrev first_node : List Work → ℕ
first_node [] = 256
first_node (one c now ∷ ws) = c
first_node (two a b k now ∷ ws) = a

abbrev ticks_of : List Work → ℕ
ticks_of [] = 0
ticks_of (w ∷ ws) = work_tick w + ticks_of ws

pub wrong_choices : WrongChoices
unfolding accepted_schedule follow passages_on works_on observations_on run program_bytes part_of choose1 exec
wrong_choices = (
  λ h. eqb-false 0 1 refl (ap first_node h.works),
  λ h. eqb-false 6 7 refl (ap ticks_of h.works),
  λ h. eqb-false 0 1 refl (ap length (h.shown 0 (ltb-true 0 2 refl))),
  λ h. eqb-false 2 1 refl (ap length (h.shown 0 (ltb-true 0 1 refl))),
  λ h. eqb-false 4 3 refl h.tick,
  λ h. eqb-false 3 1 refl h.end,
  λ h. eqb-false 1 0 refl h.end,
  λ h. eqb-false 17 18 refl h.used,
)
