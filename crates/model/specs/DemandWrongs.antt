-- Records of runs that are wrong, with the sentence of demand 3 that each breaks: none of these holds. See `DemandCases`.
use Rattle.std.specs.Prelude.{◌≡◌, refl, Bool, true, false, List, [], ◌∷◌, ◌++◌, ℕ, zero, suc, ◌<◌, length, get_or, replicate}
use Rattle.std.proofs.Common.{ap, sym, subst, arith, ltb-true, leb-true}
use Rattle.std.proofs.Math.Option.{Option, none}
use Rattle.std.proofs.lemmas.Bool.{eqb-false}
use Rattle.model.specs.declared.Action.TheVariants.{Internal, Send}
use Rattle.model.specs.Table.{Component, Read}
use Rattle.model.specs.Build.{location, clock_guard, arc, component, network}
use Rattle.model.specs.Bytes.{unsigned}
use Rattle.model.specs.Window.{Entry, clock_at, value_at}
use Rattle.model.specs.Schedule.{own}
use Rattle.model.specs.Checks.{accepted_schedule}
use Rattle.model.specs.Program.{program_bytes, part_of}
use Rattle.model.specs.Network.{PathPassage, State, Label, tick, step_in, together, step_out, onward, follow, passages_on, Work, one, two, channel_number, works_on, Observation, observations_on}
use Rattle.model.specs.Machine.{exec}
use Rattle.model.specs.Run.{setting_to, no_node, node_of, stand_of, sending, began, Outcome, forbidden, on, over, choose1, run}
use Rattle.model.specs.Demand3.{PassAs, ticks_in, DueIn, HasListener, states, horizon, used_up, late, not_allowed, not_due, due}
use Rattle.model.specs.Demand3.{early, pending}
use Rattle.model.specs.Demand3.{no_node as absent, absent as no_such_node}
use Rattle.model.specs.Cases.{hub, add_one, changed, to_the_send}
use Rattle.model.specs.Cases.{worked as worked_table}
use Rattle.model.specs.DemandCases.{valid, reach, scheduled, kept, worked, observed, complete, listener, late_ends, late_is, node, used, ticks, ended, not_before, refused, allowed, Told, Says, of_run, through, to_horizon, run_of, ending, counting, showing, finishing, hub_at, since, right, of_hub, of_probe, Not, not_less, not_most, neither}

-- ## Tables and runs

-- The worked table with a probe that may wait in L0 past its send window, and has a second edge e2 from L1, ready one tick later: the same schedule.
abbrev pub idle : Component
idle =
    component 0 1 0 (location 0 10 ∷ location 0 10 ∷ [])
    (arc 0 1 0 (Send 0) (clock_guard 0 3 5 ∷ []) [] [] []
    ∷ arc 1 0 1 Internal (clock_guard 0 8 65535 ∷ []) [] [] []
    ∷ arc 1 0 1 Internal (clock_guard 0 9 65535 ∷ []) [] [] []
    ∷ [])

abbrev pub narrow : Read
narrow = changed idle (hub 2 6 add_one)

-- two components with one and the same window, 3 to 5
abbrev pub twin : Component
twin = component 0 1 0 (location 0 5 ∷ []) (arc 0 0 1 Internal (clock_guard 0 3 65535 ∷ []) [] [] [] ∷ [])

abbrev pub twins : Read
twins = network 0 20 (twin ∷ twin ∷ [])

abbrev pub ticks_only : ℕ → List Label
ticks_only n = replicate n tick

-- a path of this table, under no choices
abbrev pub walked : Read → List Label → Told
walked t path = of_run t [] path

-- ticks alone: hub late at 3
abbrev pub hub_late : Told
hub_late = of_run (worked_table 20) (replicate 5 255) (ticks_only 2)

-- no send by its end: probe late at 6
abbrev pub probe_late : Told
probe_late = of_run (worked_table 20) (to_the_send ++ replicate 3 255) (ticks_only 5)

-- the message at 3, then only the hub goes on: probe late at 9, its sleep at 8 missing
abbrev pub probe_missing : Told
probe_missing = of_run (worked_table 20) (to_the_send ++ (0 ∷ replicate 8 1 ++ replicate 6 255)) (ticks_only 5)

-- probe past its sleep and yet to send
abbrev pub yet_to_send : Told
yet_to_send = of_run (worked_table 20) to_the_send (ticks_only 3)

-- after these choices one more, which is allowed, and a record that says that it is not
abbrev pub refusing : List ℕ → ℕ → Told
refusing cs b =
    let x = of_run (worked_table 20) cs [] in
    record {
      read = x.read;
      horizon = x.horizon;
      schedule = x.schedule;
      choices = cs ++ (b ∷ []);
      path = x.path;
      last = x.last;
      result = record { end = 3; node = 255; state = x.result.state };
      after = x.after;
    }

-- hub at its sleep, at 0 and at 2; at its listen at 2, with the probe at its sleep
abbrev pub hub_before_sleep : List ℕ
hub_before_sleep = replicate 5 1

abbrev pub hub_at_sleep : List ℕ
hub_at_sleep = replicate 5 1 ++ (255 ∷ 255 ∷ [])

abbrev pub hub_listens : List ℕ
hub_listens = replicate 5 0 ++ replicate 5 1 ++ (255 ∷ 255 ∷ 1 ∷ [])

-- after these choices one more, which is not allowed, and a record that counts it: with that tick and so many choices used
abbrev pub carrying : List ℕ → ℕ → ℕ → ℕ → Told
carrying cs b now count = counting (ending (of_run (worked_table 20) (cs ++ (b ∷ [])) []) 1 255) now count

-- with a second hub
abbrev pub two_hubs : Told → Told
two_hubs x =
    let s = x.result.state in
    through x (run_of s.tick s.used (s.nodes ++ (node_of s 1 ∷ [])) s.observations s.works)

-- the hub began to listen with the sender
abbrev pub began_with_it : Told
began_with_it = hub_at yet_to_send (since (node_of yet_to_send.result.state 1) 3)

-- Paths that the network allows and that do not pass as the schedule says: a timeout where the schedule has a message; another edge; more
-- passages than the schedule to 5 has; a window that has passed, by one tick, without a step in.
abbrev pub times_out : Told
times_out = walked narrow (ticks_only 6 ++ (step_in 1 0 ∷ []))

abbrev pub other_edge : Told
other_edge =
    walked narrow (ticks_only 3 ++ (together 0 0 1 0 ∷ tick ∷ tick ∷ step_out 0 ∷ tick ∷ step_out 1 ∷ ticks_only 3) ++ (step_in 0 2 ∷ []))

abbrev pub goes_further : Told
goes_further = walked (worked_table 5) (ticks_only 3 ++ (together 0 0 1 0 ∷ tick ∷ tick ∷ step_out 0 ∷ []))

abbrev pub misses_window : Told
misses_window = walked narrow (ticks_only 6)

-- a passage of the probe that began elsewhere
abbrev pub elsewhere : PathPassage
elsewhere = record { entry = record { location = 1; tick = 0; clocks = 0 ∷ []; values = [] }; waiting = none }

-- ## What does not hold

abbrev pub Wrongs : Type 0
Wrongs =
    -- a step that the network does not allow
    Not valid (walked (worked_table 20) (tick ∷ tick ∷ together 0 0 1 0 ∷ []))
    -- a path that stops early; one that passes the late tick
    × Not reach (of_run (worked_table 20) to_the_send (ticks_only 2))
    × Not reach (of_run (worked_table 20) (replicate 5 255) (ticks_only 3))
    -- not as the schedule says, though each of them is a path
    × Not scheduled times_out
    × Not scheduled other_edge
    × Not scheduled goes_further
    × Not kept misses_window
    × Says valid times_out
    × Says valid other_edge
    × Says valid goes_further
    × Says valid misses_window
    -- another location at entry
    × (PassAs (elsewhere ∷ []) (own 0 right.schedule) → ⊥)
    -- a lost message; one between other nodes, on another channel, at another tick; a work of one node in its place
    × Not worked (finishing right [])
    × Not worked (finishing right (two 1 0 0 3 ∷ []))
    × Not worked (finishing right (two 0 1 1 3 ∷ []))
    × Not worked (finishing right (two 0 1 0 4 ∷ []))
    × Not worked (finishing right (one 0 3 ∷ []))
    -- an observation with another edge, location, tick, clock, value; one written twice
    × Not observed (showing right (of_probe 1 0 3 3 ∷ []))
    × Not observed (showing right (of_probe 0 1 3 3 ∷ []))
    × Not observed (showing right (of_probe 0 0 4 3 ∷ []))
    × Not observed (showing right (of_probe 0 0 3 0 ∷ []))
    × Not observed (showing right (of_hub 0 0 2 2 1 ∷ []))
    × Not observed (showing right (of_hub 0 0 2 2 0 ∷ of_hub 0 0 2 2 0 ∷ []))
    -- an observation missing: of a run that is not late; of a node that is not the late one; two of a late node
    × Not complete (showing right (of_probe 0 0 3 3 ∷ []))
    × Not complete (showing probe_late (of_probe 0 0 3 3 ∷ []))
    × Not complete (showing probe_missing (of_hub 0 0 2 2 0 ∷ []))
    -- nobody listens; two do; one that began with the sender
    × Not listener (hub_at yet_to_send no_node)
    × Not listener (two_hubs yet_to_send)
    × Not listener began_with_it
    -- a run that goes on after a node is late; one that ends otherwise; late, and not the lowest node
    × Not late_ends (counting (ending hub_late 1 255) 5 5)
    × Not late_ends (ending hub_late 1 255)
    × Not late_ends (ending probe_late 1 255)
    × Not late_ends (ending (of_run twins (replicate 4 255) (ticks_only 3)) 2 1)
    -- late before the first choice; with an absent node; by a choice that is no tick; when nobody is late; at the end of the window
    × Not late_is (ending (walked (worked_table 20) []) 2 0)
    × Not late_is (ending hub_late 2 2)
    × Not late_is (ending right 2 0)
    × Not late_is (ending (of_run (worked_table 20) (255 ∷ []) (ticks_only 1)) 2 1)
    × Not late_is (ending (of_run (worked_table 20) (to_the_send ++ (255 ∷ 255 ∷ [])) (ticks_only 5)) 2 0)
    -- a node of a run that is not late
    × Not node (ending right 1 0)
    -- an invented count of choices, an invented tick
    × Not used (counting right 3 20)
    × Not ticks (counting right 4 19)
    -- horizon before its tick, and while a node is late
    × Not ended (ending right 0 255)
    × Not ended (to_horizon (ending hub_late 0 255) 3)
    -- used up with a choice left, before the first one, and at the horizon
    × Not ended (counting right 3 18)
    × Not ended (counting right 0 0)
    × Not ended (to_horizon right 3)
    -- not allowed, though it is; an end that is none of the four
    × Not ended (refusing [] 0)
    × Not ended (ending right 4 255)
    -- a run that goes past the horizon
    × Not not_before (to_horizon right 3)
    -- a tick refused with nothing due: no sleep or listen, a sleep that is not, two of them
    × Not refused (refusing [] 255)
    × Not refused (refusing hub_before_sleep 255)
    × Not refused (refusing hub_listens 255)
    -- a statement refused: a trial, a take with an edge kept, a sleep that is due, a listen that is
    × Not refused (refusing [] 0)
    × Not refused (refusing (replicate 4 0) 0)
    × Not refused (refusing hub_at_sleep 1)
    × Not refused (counting (refusing to_the_send 1) 6 15)
    -- carried out, and barred: an absent node, a tick while a sleep is due, a sleep and a listen before they are
    × Not allowed (carrying [] 2 0 1)
    × Not allowed (carrying hub_at_sleep 255 3 8)
    × Not allowed (carrying hub_before_sleep 1 0 6)
    × Not allowed (carrying hub_listens 1 2 14)

-- ## Why not

-- sender (or the only node), receiver, channel, tick; 255 where there is none
abbrev pub work_parts : Work → List ℕ
work_parts (one c t) = c ∷ 255 ∷ 255 ∷ t ∷ []
work_parts (two a b k t) = a ∷ b ∷ k ∷ t ∷ []

abbrev pub first_work : ℕ → List Work → ℕ
first_work i [] = 256
first_work i (w ∷ ws) = get_or (work_parts w) i 256

abbrev pub first_of : (Observation → ℕ) → List Observation → ℕ
first_of f [] = 256
first_of f (o ∷ os) = f o

abbrev pub is_forbidden : Outcome → ℕ
is_forbidden forbidden = 1
is_forbidden (on s) = 0
is_forbidden (over s e n) = 0

abbrev pub head_of : List ℕ → ℕ
head_of [] = 256
head_of (x ∷ xs) = x

abbrev pub number : Bool → ℕ
number true = 1
number false = 0

abbrev IsDue : Told → ℕ → Type 0
IsDue x c = let s = x.result.state in DueIn (own c x.schedule) s.tick (node_of s c) (stand_of (node_of s c))

too_many : (n : ℕ) → suc (suc n) ≡ 1 → ⊥
too_many n e = absurd (omega arith)

pub wrongs_refuted : Wrongs
unfolding accepted_schedule follow passages_on works_on observations_on run program_bytes part_of choose1 exec states ticks_in
wrongs_refuted = (
  λ h. eqb-false 0 1 refl (ap (λ (o : Option State). onward o (λ s. 1) 0) h),
  λ h. eqb-false 2 3 refl h,
  λ h. eqb-false 3 2 refl h,
  λ h. eqb-false 255 0 refl (ap channel_number (h 1 (ltb-true 1 2 refl)).1.1),
  λ h. eqb-false 2 1 refl (h 0 (ltb-true 0 2 refl)).2.1.0,
  λ h. (h 0 (ltb-true 0 2 refl)).2,
  λ h. (h 0 (ltb-true 0 2 refl)).0 (ltb-true 5 6 refl),
  refl,
  refl,
  refl,
  refl,
  λ h. eqb-false 1 0 refl (ap (λ (e : Entry). e.location) h.0),
  λ h. eqb-false 0 256 refl (ap (first_work 0) h),
  λ h. eqb-false 0 1 refl (ap (first_work 0) h),
  λ h. eqb-false 0 1 refl (ap (first_work 2) h),
  λ h. eqb-false 3 4 refl (ap (first_work 3) h),
  λ h. eqb-false 1 255 refl (ap (first_work 1) h),
  λ h. eqb-false 1 0 refl (ap (first_of (λ o. o.edge)) (h 0 (ltb-true 0 2 refl)).is),
  λ h. eqb-false 1 0 refl (ap (first_of (λ o. o.location)) (h 0 (ltb-true 0 2 refl)).is),
  λ h. eqb-false 4 3 refl (ap (first_of (λ o. o.tick)) (h 0 (ltb-true 0 2 refl)).is),
  λ h. eqb-false 0 3 refl (ap (first_of (λ o. clock_at o.clocks 0)) (h 0 (ltb-true 0 2 refl)).is),
  λ h. eqb-false 1 0 refl (ap (first_of (λ o. unsigned (value_at o.values 0))) (h 1 (ltb-true 1 2 refl)).is),
  λ h. too_many _ (ap length (h 1 (ltb-true 1 2 refl)).is),
  λ h. not_most 1 0 refl (h 1 (ltb-true 1 2 refl)),
  λ h. not_most 1 0 refl (h 1 (ltb-true 1 2 refl)),
  λ h. not_most 2 1 refl (h 0 (ltb-true 0 2 refl)),
  λ h. eqb-false 0 1 refl (ap length (h 0 (leb-true 0 15 refl) 0 (ltb-true 0 2 refl)).1),
  λ h. eqb-false 2 1 refl (ap length (h 0 (leb-true 0 15 refl) 0 (ltb-true 0 2 refl)).1),
  λ h. with_the_sender (h 0 (leb-true 0 15 refl) 0 (ltb-true 0 2 refl)),
  λ h. eqb-false 3 5 refl (h 2 (ltb-true 2 5 refl) 1 (ltb-true 1 2 refl) (refl, refl)).0,
  λ h. eqb-false 1 2 refl (h 2 (ltb-true 2 3 refl) 1 (ltb-true 1 2 refl) (refl, refl)).1,
  λ h. eqb-false 1 2 refl (h 17 (ltb-true 17 18 refl) 0 (ltb-true 0 2 refl) (refl, refl)).1,
  λ h. not_most 1 0 refl (h 3 (ltb-true 3 4 refl) 0 (ltb-true 0 2 refl) (refl, refl)).2,
  λ h. not_less 0 0 refl (h refl).0,
  λ h. not_less 2 2 refl (h refl).1,
  λ h. eqb-false 1 255 refl (h refl).2.0,
  λ h. eqb-false 0 1 refl (ap number (h refl).2.1),
  λ h. eqb-false 0 1 refl (ap number (h refl).2.1),
  λ h. eqb-false 0 255 refl (h (eqb-false 1 2 refl)),
  λ h. not_most 20 19 refl h,
  λ h. eqb-false 4 3 refl h,
  λ h. elim h [ horizon x y z ↦ eqb-false 3 20 refl y | used_up x y z ↦ eqb-false 0 1 refl x | late x ↦ eqb-false 0 2 refl x | not_allowed x y z ↦ eqb-false 0 3 refl x ],
  λ h. elim h [ horizon x y z ↦ eqb-false 1 0 refl (ap number (z 1 (ltb-true 1 2 refl))) | used_up x y z ↦ eqb-false 0 1 refl x | late x ↦ eqb-false 0 2 refl x | not_allowed x y z ↦ eqb-false 0 3 refl x ],
  λ h. elim h [ horizon x y z ↦ eqb-false 1 0 refl x | used_up x y z ↦ eqb-false 18 19 refl y | late x ↦ eqb-false 1 2 refl x | not_allowed x y z ↦ eqb-false 1 3 refl x ],
  λ h. elim h [ horizon x y z ↦ eqb-false 1 0 refl x | used_up x y z ↦ eqb-false 0 19 refl y | late x ↦ eqb-false 1 2 refl x | not_allowed x y z ↦ eqb-false 1 3 refl x ],
  λ h. elim h [ horizon x y z ↦ eqb-false 1 0 refl x | used_up x y z ↦ not_less 3 3 refl z | late x ↦ eqb-false 1 2 refl x | not_allowed x y z ↦ eqb-false 1 3 refl x ],
  λ h. elim h [ horizon x y z ↦ eqb-false 3 0 refl x | used_up x y z ↦ eqb-false 3 1 refl x | late x ↦ eqb-false 3 2 refl x | not_allowed x y z ↦ eqb-false 0 1 refl (ap is_forbidden z) ],
  λ h. elim h [ horizon x y z ↦ eqb-false 4 0 refl x | used_up x y z ↦ eqb-false 4 1 refl x | late x ↦ eqb-false 4 2 refl x | not_allowed x y z ↦ eqb-false 4 3 refl x ],
  λ h. not_less 3 3 refl (h 14 (ltb-true 14 19 refl)),
  λ h. elim (h refl) [ absent x y ↦ y refl | not_due x y ↦ not_less 255 2 refl x | due x c y z ↦ none_due c y z ],
  λ h. elim (h refl) [ absent x y ↦ y refl | not_due x y ↦ not_less 255 2 refl x | due x c y z ↦ later c y z ],
  λ h. elim (h refl) [ absent x y ↦ y refl | not_due x y ↦ not_less 255 2 refl x | due x c y z ↦ both_later c y z ],
  λ h. elim (h refl) [ absent x y ↦ not_most 2 0 refl x | not_due x y ↦ y | due x c y z ↦ eqb-false 0 255 refl x ],
  λ h. elim (h refl) [ absent x y ↦ not_most 2 0 refl x | not_due x y ↦ not_most 4 0 refl y | due x c y z ↦ eqb-false 0 255 refl x ],
  λ h. elim (h refl) [ absent x y ↦ not_most 2 1 refl x | not_due x y ↦ y refl | due x c y z ↦ eqb-false 1 255 refl x ],
  λ h. elim (h refl) [ absent x y ↦ not_most 2 1 refl x | not_due x y ↦ y refl | due x c y z ↦ eqb-false 1 255 refl x ],
  λ h. h 0 (ltb-true 0 1 refl) (no_such_node (leb-true 2 2 refl) (eqb-false 2 255 refl)),
  λ h. h 7 (ltb-true 7 8 refl) (pending refl 1 (ltb-true 1 2 refl) refl),
  λ h. h 5 (ltb-true 5 6 refl) (early (ltb-true 1 2 refl) (eqb-false 2 0 refl)),
  λ h. h 13 (ltb-true 13 14 refl) (early (ltb-true 1 2 refl) (eqb-false 6 2 refl)),
)
  where
    -- the listener is hub, and began at 3
    with_the_sender : HasListener (setting_to began_with_it.read began_with_it.horizon began_with_it.schedule) (began_with_it.after 0) 0 (sending 0) → ⊥
    with_the_sender x =
        not_less 3 3 refl
        (subst (λ (i : ℕ). began (setting_to began_with_it.read began_with_it.horizon began_with_it.schedule) i (node_of (began_with_it.after 0) i) < 3) (ap head_of (sym x.1)) x.2)

    none_due : (c : ℕ) → c < 2 → IsDue (refusing [] 255) c → ⊥
    none_due zero h d = d
    none_due (suc zero) h d = d
    none_due (suc (suc c)) h d = neither c h

    later : (c : ℕ) → c < 2 → IsDue (refusing hub_before_sleep 255) c → ⊥
    later zero h d = d
    later (suc zero) h d = eqb-false 2 0 refl d
    later (suc (suc c)) h d = neither c h

    both_later : (c : ℕ) → c < 2 → IsDue (refusing hub_listens 255) c → ⊥
    both_later zero h d = eqb-false 3 2 refl d
    both_later (suc zero) h d = eqb-false 6 2 refl d
    both_later (suc (suc c)) h d = neither c h
