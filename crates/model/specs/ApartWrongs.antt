-- Records of runs with offsets that are wrong, with the sentence of demand 3 that each breaks: none of these holds. See `ApartCases`.
use Rattle.std.specs.Prelude.{◌≡◌, refl, List, [], ◌∷◌, ◌++◌, ℕ, zero, suc, ◌≤◌, ◌<◌, length, replicate}
use Rattle.std.proofs.Common.{ap, sym, subst, arith, ltb-true, leb-true}
use Rattle.std.proofs.lemmas.Bool.{eqb-false}
use Rattle.model.specs.declared.Action.TheVariants.{Internal}
use Rattle.model.specs.Lists.{All, more}
use Rattle.model.specs.Table.{Component}
use Rattle.model.specs.Build.{location, clock_guard, arc, component, network}
use Rattle.model.specs.Window.{clock_at}
use Rattle.model.specs.Schedule.{own}
use Rattle.model.specs.Checks.{accepted_schedule}
use Rattle.model.specs.Program.{program_bytes, part_of}
use Rattle.model.specs.Network.{tick, together, follow, passages_on, Work, one, two, works_on, observations_on}
use Rattle.model.specs.Order.{placed, placed_all}
use Rattle.model.specs.Machine.{exec}
use Rattle.model.specs.Run.{setting_at, offset_in, no_node, node_of, stand_of, sending, began, choose1, run}
use Rattle.model.specs.Demand3.{ticks_in, DueIn, HasListener, states, horizon, used_up, late, not_allowed}
use Rattle.model.specs.Apart.{asleep, not_due, due, unwoken, early, pending, own_clock}
use Rattle.model.specs.Apart.{no_node as absent, absent as no_such_node}
use Rattle.model.specs.RefusalCases.{wide, to_the_probes_sleep}
use Rattle.model.specs.DemandCases.{to_horizon, run_of, ending, counting, showing, finishing, hub_at, since, of_hub, of_probe, not_less, not_most, neither}
use Rattle.model.specs.DemandWrongs.{twins, two_hubs, first_work, first_of, is_forbidden, head_of, number}
use Rattle.model.specs.ApartCases.{reach, fills, worked, observed, complete, listener, late_ends, late_is, node, used, ticks, ended, not_before, refused, allowed, Sentence, Told, Says, of_run, telling, filling, of_wide, sent, of_twins, first_slept, second_due, to_behind, first_works, behind, second_late, of_second}

-- ## Records

-- the sentence does not hold of it
abbrev pub Not : Sentence → Told → Type 0
Not f x = Says x f → ⊥

-- it says this end and this node; this tick and so many choices used; these observations; these works finished; another horizon
abbrev pub ending_as : Told → ℕ → ℕ → Told
ending_as x end who = telling x (λ y. ending y end who)

abbrev pub counting_as : Told → ℕ → ℕ → Told
counting_as x now count = telling x (λ y. counting y now count)

abbrev pub working : Told → List Work → Told
working x ws = telling x (λ y. finishing y ws)

abbrev pub horizon_at : Told → ℕ → Told
horizon_at x H = telling x (λ y. to_horizon y H)

-- after these choices one more, which is allowed, and a record that says that it is not
abbrev pub refusing : (List ℕ → Told) → List ℕ → ℕ → Told
refusing run cs b =
    let x = run cs in
    telling (run (cs ++ (b ∷ []))) (λ y. record {
      read = y.read;
      horizon = y.horizon;
      schedule = y.schedule;
      choices = y.choices;
      path = y.path;
      last = y.last;
      result = record { end = 3; node = 255; state = x.common.result.state };
      after = y.after;
    })

-- one more, which is not allowed, and a record that counts it: with that tick and so many choices used
abbrev pub carrying : (List ℕ → Told) → List ℕ → ℕ → ℕ → ℕ → Told
carrying run cs b now count = counting_as (ending_as (run (cs ++ (b ∷ []))) 1 255) now count

abbrev pub probe_and_hub : List ℕ → Told
probe_and_hub cs = of_wide cs []

abbrev pub twin_nodes : List ℕ → Told
twin_nodes cs = of_twins cs [] []

-- the probe past its sleep and yet to send, at tick 5; and the hub began to listen at that tick, at 3 by its clock
abbrev pub yet_to_send : Told
yet_to_send = probe_and_hub to_the_probes_sleep

abbrev pub began_with_it : Told
began_with_it = telling yet_to_send (λ y. hub_at y (since (node_of y.result.state 1) 3))

-- the second node's clock stands at 2, and the path, at 4, is past its ready
abbrev pub before_ready : Told
before_ready = of_twins (first_slept ++ (0 ∷ 255 ∷ [])) first_works []

-- The first node does not finish its work: late at tick 6. The second one is not, at 4 by its clock.
abbrev pub first_late : Told
first_late = twin_nodes (first_slept ++ (255 ∷ 255 ∷ 1 ∷ 255 ∷ []))

-- both nodes wake at tick 1, and are late at 5, 4 by their clocks
abbrev pub both_late : Told
both_late = of_run 2 twins (1 ∷ 1 ∷ []) (replicate 6 255) [] []

-- Two nodes that are ready at 0. The second one, which wakes at tick 2, stands at its sleep all the same, as it does in a run without offsets.
abbrev pub prompt : Component
prompt = component 0 1 0 (location 0 5 ∷ []) (arc 0 0 1 Internal (clock_guard 0 0 65535 ∷ []) [] [] [] ∷ [])

abbrev pub of_prompt : List ℕ → List ℕ → Told
of_prompt os cs = of_run 2 (network 0 20 (prompt ∷ prompt ∷ [])) os cs [] []

abbrev pub asleep_at_sleep : Told
asleep_at_sleep =
    let s = (of_prompt [] (replicate 5 1)).common.result.state in
    telling (of_prompt (0 ∷ 2 ∷ []) (255 ∷ [])) (λ y. record {
      read = y.read;
      horizon = y.horizon;
      schedule = y.schedule;
      choices = y.choices;
      path = y.path;
      last = y.last;
      result = record { end = 3; node = 255; state = run_of 0 0 s.nodes [] [] };
      after = y.after;
    })

-- ## What does not hold

abbrev pub Wrongs : Type 0
Wrongs =
    -- a path that stops at the slowest node's tick; one that goes to the common tick
    Not reach (of_twins to_behind first_works [])
    × Not reach (of_wide (to_the_probes_sleep ++ (0 ∷ [])) (replicate 4 tick ++ (together 0 0 1 0 ∷ tick ∷ [])))
    -- a message at its receiver's tick, at the common tick; a lost one; one between the nodes exchanged, to another node, on another channel; a work of
    -- one node in its place; a work at the common tick
    × Not worked (working sent (two 0 1 0 6 ∷ []))
    × Not worked (working sent (two 0 1 0 4 ∷ []))
    × Not worked (working sent [])
    × Not worked (working sent (two 1 0 0 6 ∷ []))
    × Not worked (working sent (two 0 2 0 5 ∷ []))
    × Not worked (working sent (two 0 1 1 5 ∷ []))
    × Not worked (working sent (one 0 5 ∷ []))
    × Not worked (filling (working behind (one 0 3 ∷ one 1 5 ∷ [])) [])
    -- filled in: the message that was lost; a work of the node that is ahead; one before the node's own clock; one at the path's last tick; one of an
    -- absent node
    × Not fills (filling (working sent []) (two 0 1 0 4 ∷ []))
    × Not fills (filling behind (one 0 5 ∷ []))
    × Not fills (filling behind (one 1 3 ∷ []))
    × Not fills (filling behind (one 1 6 ∷ []))
    × Not fills (filling behind (one 2 5 ∷ []))
    -- an observation at the common tick, of either node; with the common tick for its clock; one before the node's clock is there
    × Not observed (telling sent (λ y. showing y (of_probe 0 0 5 4 ∷ [])))
    × Not observed (telling sent (λ y. showing y (of_hub 0 0 3 1 0 ∷ [])))
    × Not observed (telling sent (λ y. showing y (of_probe 0 0 4 5 ∷ [])))
    × Not observed (telling before_ready (λ y. showing y (of_second ∷ [])))
    -- nothing shown by a node that woke later: of a run that is not late; of one that is, by another node
    × Not complete (telling behind (λ y. showing y (of_probe 0 0 3 3 ∷ [])))
    × Not complete (telling first_late (λ y. showing y (of_probe 0 0 3 3 ∷ [])))
    -- nobody listens to a node that woke later; two do; one that began with the sender, a tick earlier by the clocks
    × Not listener (telling yet_to_send (λ y. hub_at y no_node))
    × Not listener (telling yet_to_send two_hubs)
    × Not listener began_with_it
    -- a run that ends otherwise though a node is late by its clock; late, and not the lowest node
    × Not late_ends (ending_as second_late 1 255)
    × Not late_ends (ending_as both_late 2 1)
    -- late by the common tick; before the node wakes
    × Not late_is (ending_as behind 2 1)
    × Not late_is (ending_as (twin_nodes (255 ∷ [])) 2 1)
    -- a node of a run that is not late; an invented count of choices; ticks counted from the last waking
    × Not node (ending_as behind 1 1)
    × Not used (counting_as behind 6 20)
    × Not ticks (counting_as behind 4 19)
    -- the horizon at the slowest node's clock; while a node is late by its own; used up at the horizon; not allowed, though it is, after it woke
    × Not ended (counting_as (ending_as behind 0 255) 22 19)
    × Not ended (horizon_at (ending_as second_late 0 255) 8)
    × Not ended (horizon_at behind 6)
    × Not ended (refusing probe_and_hub (255 ∷ 255 ∷ []) 1)
    -- a run past the horizon
    × Not not_before (horizon_at behind 5)
    -- refused: a node after it woke; a tick for a node that has not woken; a tick for a sleep that is due at the common tick; a sleep that is due by the
    -- node's clock
    × Not refused (refusing probe_and_hub (255 ∷ 255 ∷ []) 1)
    × Not refused asleep_at_sleep
    × Not refused (refusing twin_nodes first_slept 255)
    × Not refused (refusing twin_nodes second_due 1)
    -- carried out: a node chosen before it wakes; an absent one; a sleep due at the common tick; a tick while a sleep is due by the node's clock
    × Not allowed (carrying probe_and_hub [] 1 0 1)
    × Not allowed (carrying probe_and_hub [] 2 0 1)
    × Not allowed (carrying twin_nodes first_slept 1 3 15)
    × Not allowed (carrying twin_nodes second_due 255 6 18)

-- ## Why not

first_fill : {P : Work → Type 0} {w : Work} {ws : List Work} → All P (w ∷ ws) → P w
first_fill (more p a) = p

none_shown : (n : ℕ) → suc n ≡ 0 → ⊥
none_shown n e = absurd (omega arith)

abbrev IsDue : Told → ℕ → Type 0
IsDue x c =
    let y = x.common in
    let s = y.result.state in
    DueIn (own c y.schedule) (own_clock y.read y.horizon y.schedule x.offsets c s.tick) (node_of s c) (stand_of (node_of s c))

pub wrongs_refuted : Wrongs
unfolding accepted_schedule follow passages_on works_on observations_on run program_bytes part_of choose1 exec states ticks_in placed placed_all
wrongs_refuted = (
  λ h. eqb-false 4 6 refl h,
  λ h. eqb-false 5 4 refl h,
  λ h. eqb-false 4 5 refl (ap (first_work 3) h),
  λ h. eqb-false 4 3 refl (ap (first_work 3) h),
  λ h. eqb-false 0 256 refl (ap (first_work 0) h),
  λ h. eqb-false 0 1 refl (ap (first_work 0) h),
  λ h. eqb-false 1 2 refl (ap (first_work 1) h),
  λ h. eqb-false 0 1 refl (ap (first_work 2) h),
  λ h. eqb-false 1 255 refl (ap (first_work 1) h),
  λ h. eqb-false 5 3 refl (ap second_tick h),
  λ h. not_less 4 4 refl (first_fill h).2,
  λ h. not_most 6 5 refl (first_fill h).1,
  λ h. not_most 4 3 refl (first_fill h).1,
  λ h. not_less 6 6 refl (first_fill h).2,
  λ h. not_less 2 2 refl (first_fill h).0,
  λ h. eqb-false 5 4 refl (ap (first_of (λ o. o.tick)) (h 0 (ltb-true 0 2 refl)).is),
  λ h. eqb-false 3 1 refl (ap (first_of (λ o. o.tick)) (h 1 (ltb-true 1 2 refl)).is),
  λ h. eqb-false 5 4 refl (ap (first_of (λ o. clock_at o.clocks 0)) (h 0 (ltb-true 0 2 refl)).is),
  λ h. none_shown _ (ap length (h 1 (ltb-true 1 2 refl)).is),
  λ h. not_most 1 0 refl (h 1 (ltb-true 1 2 refl)),
  λ h. not_most 1 0 refl (h 1 (ltb-true 1 2 refl)),
  λ h. eqb-false 0 1 refl (ap length (h 0 (leb-true 0 17 refl) 0 (ltb-true 0 2 refl)).1),
  λ h. eqb-false 2 1 refl (ap length (h 0 (leb-true 0 17 refl) 0 (ltb-true 0 2 refl)).1),
  λ h. with_the_sender (h 0 (leb-true 0 17 refl) 0 (ltb-true 0 2 refl)),
  λ h. eqb-false 1 2 refl (h 20 (ltb-true 20 21 refl) 1 (ltb-true 1 2 refl) (refl, refl)).1,
  λ h. not_most 1 0 refl (h 4 (ltb-true 4 5 refl) 0 (ltb-true 0 2 refl) (refl, refl)).2,
  λ h. eqb-false 0 1 refl (ap number (h refl).2.1),
  λ h. eqb-false 0 1 refl (ap number (h refl).2.1),
  λ h. eqb-false 1 255 refl (h (eqb-false 1 2 refl)),
  λ h. not_most 20 19 refl h,
  λ h. eqb-false 4 6 refl h,
  λ h. elim h [ horizon x y z ↦ eqb-false 22 20 refl y | used_up x y z ↦ eqb-false 0 1 refl x | late x ↦ eqb-false 0 2 refl x | not_allowed x y z ↦ eqb-false 0 3 refl x ],
  λ h. elim h [ horizon x y z ↦ eqb-false 1 0 refl (ap number (z 1 (ltb-true 1 2 refl))) | used_up x y z ↦ eqb-false 0 1 refl x | late x ↦ eqb-false 0 2 refl x | not_allowed x y z ↦ eqb-false 0 3 refl x ],
  λ h. elim h [ horizon x y z ↦ eqb-false 1 0 refl x | used_up x y z ↦ not_less 6 6 refl z | late x ↦ eqb-false 1 2 refl x | not_allowed x y z ↦ eqb-false 1 3 refl x ],
  λ h. elim h [ horizon x y z ↦ eqb-false 3 0 refl x | used_up x y z ↦ eqb-false 3 1 refl x | late x ↦ eqb-false 3 2 refl x | not_allowed x y z ↦ eqb-false 0 1 refl (ap is_forbidden z) ],
  λ h. not_less 5 5 refl (h 17 (ltb-true 17 19 refl)),
  λ h. elim (h refl) [ absent x y ↦ not_most 2 1 refl x | asleep x y ↦ not_less 2 2 refl y | not_due x y ↦ y | due x c y z w ↦ eqb-false 1 255 refl x ],
  λ h. elim (h refl) [ absent x y ↦ y refl | asleep x y ↦ not_less 255 2 refl x | not_due x y ↦ not_less 255 2 refl x | due x c y z w ↦ unwoken_due c y z w ],
  λ h. elim (h refl) [ absent x y ↦ y refl | asleep x y ↦ not_less 255 2 refl x | not_due x y ↦ not_less 255 2 refl x | due x c y z w ↦ later c y w ],
  λ h. elim (h refl) [ absent x y ↦ not_most 2 1 refl x | asleep x y ↦ not_less 5 2 refl y | not_due x y ↦ y refl | due x c y z w ↦ eqb-false 1 255 refl x ],
  λ h. h 0 (ltb-true 0 1 refl) (unwoken (ltb-true 1 2 refl) (ltb-true 0 2 refl)),
  λ h. h 0 (ltb-true 0 1 refl) (no_such_node (leb-true 2 2 refl) (eqb-false 2 255 refl)),
  λ h. h 14 (ltb-true 14 15 refl) (early (ltb-true 1 2 refl) (eqb-false 3 1 refl)),
  λ h. h 17 (ltb-true 17 18 refl) (pending refl 1 (ltb-true 1 2 refl) (leb-true 2 5 refl) refl),
)
  where
    -- the tick of the second work
    second_tick : List Work → ℕ
    second_tick [] = 256
    second_tick (w ∷ ws) = first_work 3 ws

    -- the listener is the hub, and began at tick 5
    with_the_sender : HasListener (setting_at wide 20 began_with_it.common.schedule (1 ∷ 2 ∷ [])) (began_with_it.common.after 0) 0 (sending 0) → ⊥
    with_the_sender x =
        not_less 5 5 refl
        (subst (λ (i : ℕ). began (setting_at wide 20 began_with_it.common.schedule (1 ∷ 2 ∷ [])) i (node_of (began_with_it.common.after 0) i) < 5) (ap head_of (sym x.1)) x.2)

    unwoken_due : (c : ℕ) → c < 2 → offset_in asleep_at_sleep.offsets c ≤ 0 → IsDue asleep_at_sleep c → ⊥
    unwoken_due zero h w d = d
    unwoken_due (suc zero) h w d = not_most 2 0 refl w
    unwoken_due (suc (suc c)) h w d = neither c h

    later : (c : ℕ) → c < 2 → IsDue (refusing twin_nodes first_slept 255) c → ⊥
    later zero h d = d
    later (suc zero) h d = eqb-false 3 1 refl d
    later (suc (suc c)) h d = neither c h
