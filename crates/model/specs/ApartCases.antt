-- Demand 3's sentences for nodes that wake apart, held against records of runs with offsets: right ones here, wrong ones in `ApartWrongs`. The sentences
-- that have no clock (`valid`, `scheduled`, `kept`) are those of `Demand3` themselves, and their wrong records stand in `DemandWrongs`.
use Rattle.std.specs.Prelude.{◌≡◌, refl, List, [], ◌∷◌, ◌++◌, ℕ, zero, suc, get_or, replicate}
use Rattle.std.proofs.Common.{ltb-true, leb-true}
use Rattle.std.proofs.lemmas.Bool.{eqb-false}
use Rattle.model.specs.Lists.{empty, more}
use Rattle.model.specs.Table.{Read}
use Rattle.model.specs.Schedule.{Passage}
use Rattle.model.specs.Checks.{accepted_schedule, accepted_schedule_at}
use Rattle.model.specs.Program.{program_bytes, part_of}
use Rattle.model.specs.Network.{State, Label, tick, step_in, together, step_out, follow, passages_on, Work, one, works_on, Observation, observations_on}
use Rattle.model.specs.Order.{placed, placed_all}
use Rattle.model.specs.Machine.{exec}
use Rattle.model.specs.Run.{setting_at, choose1, start_run, run}
use Rattle.model.specs.Demand3.{ticks_in, states, Valid, Scheduled, Kept, ObservedTo, CompleteBy, Listened, LateEndsBy, LateIsBy, AllowedBut, NodeOf, UsedOf, TicksOf, NotBefore, EndsBy, used_up, late}
use Rattle.model.specs.Demand3.{not_allowed as not-allowed}
use Rattle.model.specs.Apart.{own_clock, BarredIn, clock_at_end, ReachApart, Fills, WorkedApart, WhyRefusedApart, asleep, not_due, due, Demand3Apart}
use Rattle.model.specs.RefusalCases.{wide, to_the_probes_sleep}
use Rattle.model.specs.DemandCases.{visits_of, last_of, of_probe, of_hub, not_less, neither}
use Rattle.model.specs.DemandCases.{Told as Common}
use Rattle.model.specs.DemandWrongs.{twins}

-- ## The sentences by name, and what is told of a run

-- the names of the record's fields
pub data Sentence : Type 0 where
  valid : Sentence
  reach : Sentence
  scheduled : Sentence
  kept : Sentence
  fills : Sentence
  worked : Sentence
  observed : Sentence
  complete : Sentence
  listener : Sentence
  late_ends : Sentence
  late_is : Sentence
  node : Sentence
  used : Sentence
  ticks : Sentence
  ended : Sentence
  not_before : Sentence
  refused : Sentence
  allowed : Sentence

-- what is told of any run; the offsets, and the works that are filled in
pub record Told : Type 0 where
  pub common : Common
  pub offsets : List ℕ
  pub filled : List Work

module _ (x : Told) where
  abbrev t : Read
  t = x.common.read

  abbrev H : ℕ
  H = x.common.horizon

  abbrev S : List Passage
  S = x.common.schedule

  abbrev pub clock : ℕ → ℕ → ℕ
  clock = own_clock t H S x.offsets

  abbrev pub Says : Sentence → Type 0
  Says valid = Valid t.table x.common.path x.common.last
  Says reach = ReachApart t H S x.offsets x.common.result x.common.last
  Says scheduled = Scheduled t.table S x.common.path
  Says kept = Kept t.table S x.common.path x.common.last
  Says fills = Fills t H S x.offsets x.common.result x.common.last x.filled
  Says worked = WorkedApart t H S x.offsets x.common.result x.common.path x.filled
  Says observed = ObservedTo (clock_at_end t H S x.offsets x.common.result) t.table S x.common.path x.common.result
  Says complete = CompleteBy clock t.table S x.common.result
  Says listener = Listened t.table S x.common.choices x.common.result x.common.after (setting_at t H S x.offsets)
  Says late_ends = LateEndsBy t.table S x.common.choices x.common.result x.common.after clock
  Says late_is = LateIsBy t.table S x.common.choices x.common.result x.common.after clock
  Says node = NodeOf x.common.result
  Says used = UsedOf x.common.choices x.common.result
  Says ticks = TicksOf x.common.choices x.common.result
  Says ended = EndsBy clock (setting_at t H S x.offsets) t.table S x.common.choices x.common.result
  Says not_before = NotBefore H x.common.result x.common.after
  Says refused = WhyRefusedApart t H S x.offsets x.common.result x.common.choices
  Says allowed = AllowedBut t.table S x.common.choices x.common.result x.common.after (BarredIn t H S x.offsets)

-- a path, what is filled in, and the run's own record and states
abbrev pub told : Read → ℕ → List Passage → List ℕ → List ℕ → List Label → State → List Work → Told
told t H S os cs path last filled =
    record {
      common = record {
        read = t;
        horizon = H;
        schedule = S;
        choices = cs;
        path = path;
        last = last;
        result = run (setting_at t H S os) cs;
        after = λ k. get_or (states (setting_at t H S os) cs (start_run (setting_at t H S os))) k (start_run (setting_at t H S os));
      };
      offsets = os;
      filled = filled;
    }

-- these sentences are the fields of the demand
pub said : {t : Read} {H : ℕ} {S : List Passage} {os cs : List ℕ} (d : Demand3Apart t H S os cs) (f : Sentence)
    → Says (told t H S os cs d.path d.last d.filled) f
said d valid = d.valid
said d reach = d.reach
said d scheduled = d.scheduled
said d kept = d.kept
said d fills = d.fills
said d worked = d.worked
said d observed = d.observed
said d complete = d.complete
said d listener = d.listener
said d late_ends = d.late_ends
said d late_is = d.late_is
said d node = d.node
said d used = d.used
said d ticks = d.ticks
said d ended = d.ended
said d not_before = d.not_before
said d refused = d.refused
said d allowed = d.allowed

-- ## Records to be told

-- of a table, with its schedule at this spread: the run under these offsets and choices, this path, and these works filled in
abbrev pub of_run : ℕ → Read → List ℕ → List ℕ → List Label → List Work → Told
of_run G t os cs path filled = told t t.horizon (visits_of (accepted_schedule_at G t)) os cs path (last_of t.table path) filled

-- the same with something else told
abbrev pub telling : Told → (Common → Common) → Told
telling x f = record { common = f x.common; offsets = x.offsets; filled = x.filled }

abbrev pub filling : Told → List Work → Told
filling x ws = record { common = x.common; offsets = x.offsets; filled = ws }

-- ## Probe and hub: the probe wakes at tick 1, the hub at 2; the message at tick 5 is at 4 by the probe's clock and at 3 by the hub's

abbrev pub of_wide : List ℕ → List Label → Told
of_wide cs path = of_run 2 wide (1 ∷ 2 ∷ []) cs path []

abbrev pub sent : Told
sent = of_wide (to_the_probes_sleep ++ (0 ∷ [])) (replicate 4 tick ++ (together 0 0 1 0 ∷ []))

-- ## Two nodes with one and the same window, 3 to 5: the second one wakes at tick 2

abbrev pub of_twins : List ℕ → List Label → List Work → Told
of_twins cs path filled = of_run 2 twins (0 ∷ 2 ∷ []) cs path filled

-- both at their sleep, tick 3, and the first one's sleep is over
abbrev pub first_slept : List ℕ
first_slept = replicate 5 0 ++ (255 ∷ 255 ∷ []) ++ replicate 5 1 ++ (255 ∷ 0 ∷ [])

-- its work is done; then tick 5, which is 3 by the clock of the second one
abbrev pub second_due : List ℕ
second_due = first_slept ++ (0 ∷ 255 ∷ 255 ∷ [])

-- its sleep is over, and a tick passes: 6 by the first clock and 4 by the second, whose work is yet to be done
abbrev pub to_behind : List ℕ
to_behind = second_due ++ (1 ∷ 255 ∷ [])

abbrev pub first_works : List Label
first_works = tick ∷ tick ∷ tick ∷ step_in 0 0 ∷ tick ∷ []

-- on the path the second one's work is done at its window's end: filled in
abbrev pub both_work : List Label
both_work = first_works ++ (tick ∷ step_in 1 0 ∷ step_out 0 ∷ step_out 1 ∷ tick ∷ [])

abbrev pub behind : Told
behind = of_twins to_behind both_work (one 1 5 ∷ [])

-- two ticks more: the second one is late at 6 by its clock, tick 8
abbrev pub second_late : Told
second_late = of_twins (to_behind ++ (255 ∷ 255 ∷ [])) (both_work ++ (tick ∷ [])) (one 1 5 ∷ [])

-- an observation of the second one at its window's ready
abbrev pub of_second : Observation
of_second = record { component = 1; edge = 0; location = 0; tick = 3; clocks = 3 ∷ []; values = [] }

-- ## What is right

abbrev pub Rights : Type 0
Rights =
    -- the message at its sender's tick
    (Says sent valid × Says sent reach × Says sent scheduled × Says sent kept × Says sent fills × Says sent worked × Says sent observed × Says sent complete
    × Says sent late_is
    × Says sent node
    × Says sent used
    × Says sent ticks
    × Says sent ended
    × Says sent refused
    × (sent.common.result.state.observations ≡ of_hub 0 0 1 1 0 ∷ of_probe 0 0 4 4 ∷ []))
    -- a work filled in for the node that is behind
    × (Says behind valid × Says behind reach × Says behind scheduled × Says behind kept × Says behind fills × Says behind worked × Says behind observed
    × Says behind complete
    × Says behind ended
    × (behind.common.result.state.observations ≡ of_probe 0 0 3 3 ∷ of_second ∷ []))
    -- late by its own clock
    × (Says second_late reach × Says second_late fills × Says second_late worked × Says second_late complete × Says second_late late_is × Says second_late ended)
    -- refused: a node before it wakes; a sleep before it is due by its clock; a tick while it is
    × Says (of_wide (255 ∷ 1 ∷ []) []) refused
    × Says (of_twins (first_slept ++ (1 ∷ [])) [] []) refused
    × Says (of_twins (second_due ++ (255 ∷ [])) [] []) refused
    × Says (of_twins (second_due ++ (255 ∷ [])) [] []) ended

pub rights_hold : Rights
unfolding accepted_schedule follow passages_on works_on observations_on run program_bytes part_of choose1 exec states ticks_in placed placed_all
rights_hold = (
  (
    refl,
    refl,
    passed,
    stepped,
    empty,
    refl,
    shown,
    counted,
    λ e. absurd (eqb-false 1 2 refl e),
    λ e. refl,
    leb-true 18 18 refl,
    refl,
    used_up refl refl (ltb-true 5 20 refl),
    λ e. absurd (eqb-false 1 3 refl e),
    refl,
  ),
  (
    refl,
    refl,
    passed_behind,
    stepped_behind,
    more (ltb-true 1 2 refl, leb-true 4 5 refl, ltb-true 5 6 refl) empty,
    refl,
    shown_behind,
    counted_behind,
    used_up refl refl (ltb-true 6 20 refl),
    refl,
  ),
  (
    refl,
    more (ltb-true 1 2 refl, leb-true 5 5 refl, ltb-true 5 7 refl) empty,
    refl,
    counted_late,
    λ e. (ltb-true 0 21 refl, ltb-true 1 2 refl, (refl, refl)),
    late refl,
  ),
  λ e. asleep (ltb-true 1 2 refl) (ltb-true 1 2 refl),
  λ e. not_due (ltb-true 1 2 refl) (eqb-false 3 1 refl),
  λ e. due refl 1 (ltb-true 1 2 refl) (leb-true 2 5 refl) refl,
  not-allowed refl (ltb-true 17 18 refl) refl,
)
  where
    passed : Says sent scheduled
    passed zero h = (refl, (refl, refl), tt)
    passed (suc zero) h = (refl, (refl, refl), tt)
    passed (suc (suc c)) h = neither c h

    stepped : Says sent kept
    stepped zero h = ((λ e. tt), (leb-true 4 10 refl, (leb-true 4 15 refl, (leb-true 4 20 refl, tt))))
    stepped (suc zero) h = ((λ e. tt), (leb-true 4 10 refl, (leb-true 4 18 refl, (leb-true 4 20 refl, tt))))
    stepped (suc (suc c)) h = neither c h

    shown : Says sent observed
    shown zero h = record { rest = []; is = refl }
    shown (suc zero) h = record { rest = []; is = refl }
    shown (suc (suc c)) h = neither c h

    counted : Says sent complete
    counted zero h = leb-true 0 1 refl
    counted (suc zero) h = leb-true 1 1 refl
    counted (suc (suc c)) h = neither c h

    passed_behind : Says behind scheduled
    passed_behind zero h = (refl, (refl, refl), (refl, tt, tt))
    passed_behind (suc zero) h = (refl, (refl, refl), (refl, tt, tt))
    passed_behind (suc (suc c)) h = neither c h

    stepped_behind : Says behind kept
    stepped_behind zero h = ((λ e. tt), ((λ e. absurd (not_less 10 6 refl e)), (leb-true 6 15 refl, (leb-true 6 20 refl, tt))))
    stepped_behind (suc zero) h = ((λ e. tt), ((λ e. absurd (not_less 10 6 refl e)), (leb-true 6 15 refl, (leb-true 6 20 refl, tt))))
    stepped_behind (suc (suc c)) h = neither c h

    shown_behind : Says behind observed
    shown_behind zero h = record { rest = []; is = refl }
    shown_behind (suc zero) h = record { rest = []; is = refl }
    shown_behind (suc (suc c)) h = neither c h

    counted_behind : Says behind complete
    counted_behind zero h = leb-true 1 1 refl
    counted_behind (suc zero) h = leb-true 1 1 refl
    counted_behind (suc (suc c)) h = neither c h

    counted_late : Says second_late complete
    counted_late zero h = leb-true 1 1 refl
    counted_late (suc zero) h = leb-true 1 2 refl
    counted_late (suc (suc c)) h = neither c h
