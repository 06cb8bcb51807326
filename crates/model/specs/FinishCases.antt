-- The sentences of `Finishes` held against records of runs, of nodes that wake apart where a sentence has a clock: right ones, and wrong ones with the
-- sentence that each breaks. A sentence that is made weaker no longer refutes its wrong records, whatever is done with its proof.
use Rattle.std.specs.Prelude.{◌≡◌, refl, List, [], ◌∷◌, ◌++◌, ℕ, zero, suc, ◌<◌, get_or, replicate}
use Rattle.std.proofs.Common.{ap, arith, ltb-true, leb-true}
use Rattle.std.proofs.lemmas.Bool.{eqb-false}
use Rattle.model.specs.Table.{Read}
use Rattle.model.specs.Build.{network}
use Rattle.model.specs.Schedule.{Passage}
use Rattle.model.specs.Checks.{accepted_schedule}
use Rattle.model.specs.Program.{program_bytes, part_of}
use Rattle.model.specs.Network.{State, Label, tick, step_in, together, step_out, Work, one, two, follow, works_on}
use Rattle.model.specs.Machine.{exec}
use Rattle.model.specs.Run.{setting_at, choose1, run, no_work}
use Rattle.model.specs.Demand3.{Demand3}
use Rattle.model.specs.Finishes.{TickInEach, TicksOfWorks, InPreviousWindows, TicksOnPath, Finishes, OnPath}
use Rattle.model.specs.Cases.{hub, add_one, to_the_send, to_the_second_round, to_the_second_send}
use Rattle.model.specs.Cases.{worked as worked_table}
use Rattle.model.specs.RefusalCases.{to_the_probes_sleep}
use Rattle.model.specs.DemandCases.{recorded, not_most, neither}
use Rattle.model.specs.ApartCases.{Told, told, of_run, telling, of_wide}

-- ## The sentences by name

-- the names of the record's fields, and of the sentence that has a path
pub data Sentence : Type 0 where
  each : Sentence
  ticks : Sentence
  in_previous : Sentence
  on_path : Sentence

abbrev pub Says : Told → Sentence → Type 0
Says x each = TickInEach x.common.result
Says x ticks =
    let y = x.common in
    TicksOfWorks (setting_at y.read y.horizon y.schedule x.offsets) y.read.table y.result
Says x in_previous = InPreviousWindows x.common.read.table x.common.schedule x.common.result
Says x on_path = TicksOnPath x.common.read.table x.common.path x.common.result

-- the sentence does not hold of it
abbrev pub Not : Sentence → Told → Type 0
Not f x = Says x f → ⊥

-- these sentences are the fields of the record, and what is said of the path of demand 3
pub said : {t : Read} {H : ℕ} {S : List Passage} {cs : List ℕ} → Finishes t H S [] cs → OnPath t H S cs → (d : Demand3 t H S cs) (f : Sentence)
    → Says (told t H S [] cs d.path d.last []) f
said F on d each = F.each
said F on d ticks = F.ticks
said F on d in_previous = F.in_previous
said F on d on_path = on d

-- with offsets
pub said_apart : {t : Read} {H : ℕ} {S : List Passage} {os cs : List ℕ} → Finishes t H S os cs → (path : List Label) (last : State) (filled : List Work)
    → let x = told t H S os cs path last filled in Says x each × Says x ticks × Says x in_previous
said_apart F path last filled = (F.each, F.ticks, F.in_previous)

-- ## Records to be told

-- with these ticks in the observations; and with these works finished too
abbrev pub noting : Told → List ℕ → Told
noting x fs =
    telling x (λ y. let s = y.result.state in
    recorded y (record {
      end = y.result.end;
      node = y.result.node;
      state = record { tick = s.tick; used = s.used; nodes = s.nodes; observations = s.observations; previous = fs; works = s.works };
    }))

abbrev pub working : Told → List Work → List ℕ → Told
working x ws fs =
    telling x (λ y. let s = y.result.state in
    recorded y (record {
      end = y.result.end;
      node = y.result.node;
      state = record { tick = s.tick; used = s.used; nodes = s.nodes; observations = s.observations; previous = fs; works = ws };
    }))

-- Probe and hub; the probe wakes at tick 1, the hub at 2. The message at tick 5 is at 4 by the probe's clock and at 3 by the hub's. Then the probe's
-- sleep at tick 9 and its work at 10 (9), the hub's sleep at 11 and its work at 12 (10), the hub's third sleep at 13 and the probe's at 15.
abbrev pub to_third_sleeps : List ℕ
to_third_sleeps =
    to_the_probes_sleep ++ replicate 9 0 ++ replicate 8 1 ++ replicate 4 255 ++ (0 ∷ 255 ∷ []) ++ replicate 9 0 ++ (255 ∷ 1 ∷ 255 ∷ []) ++ replicate 10 1
    ++ (255 ∷ 1 ∷ 255 ∷ 255 ∷ 0 ∷ [])

abbrev pub apart : Told
apart = of_wide to_third_sleeps (replicate 4 tick ++ (together 0 0 1 0 ∷ []))

-- its six observations are those of hub, probe, probe, hub, hub and probe: by the ticks of the third to the last
abbrev pub apart_noting : ℕ → ℕ → ℕ → ℕ → Told
apart_noting probe_second hub_second hub_third probe_third = noting apart (no_work ∷ no_work ∷ probe_second ∷ hub_second ∷ hub_third ∷ probe_third ∷ [])

-- the probe's second work at another tick, which it notes
abbrev pub apart_working : ℕ → ℕ → Told
apart_working now own = working apart (two 0 1 0 5 ∷ one 0 now ∷ one 1 12 ∷ []) (no_work ∷ no_work ∷ 4 ∷ 3 ∷ 10 ∷ own ∷ [])

-- A hub alone, which wakes at tick 2 and hears nobody: its sleep at tick 4, the timeout at 8, which is 6 by its clock, and its second sleep at 11.
abbrev pub unheard : Told
unheard =
    of_run 2 (network 1 20 (hub 2 6 add_one ∷ [])) (2 ∷ []) (255 ∷ 255 ∷ replicate 5 0 ++ (255 ∷ 255 ∷ 0 ∷ []) ++ replicate 4 255 ++ replicate 9 0
    ++ (255 ∷ 255 ∷ 255 ∷ 0 ∷ [])) [] []

-- The worked table, all nodes together: the message at 3, the probe's work at 8, the hub's at 9; to the probe's third sleep at 13.
abbrev pub at_once : Told
at_once =
    of_run 0 (worked_table 20) [] (to_the_send ++ to_the_second_round ++ to_the_second_send)
    (replicate 3 tick ++ (together 0 0 1 0 ∷ tick ∷ tick ∷ step_out 0 ∷ tick ∷ step_out 1 ∷ tick ∷ tick ∷ step_in 0 1 ∷ tick ∷ step_in 1 1 ∷ tick ∷ [])
    ++ (step_out 0 ∷ step_out 1 ∷ replicate 3 tick)) []

-- its six observations are those of hub, probe, probe, hub, hub and probe too
abbrev pub at_once_noting : ℕ → ℕ → ℕ → ℕ → Told
at_once_noting probe_second hub_second hub_third probe_third = noting at_once (no_work ∷ no_work ∷ probe_second ∷ hub_second ∷ hub_third ∷ probe_third ∷ [])

-- ## What is right

abbrev pub Rights : Type 0
Rights =
    -- with offsets; a timeout; all nodes together
    (Says apart each × Says apart ticks × Says apart in_previous × (apart.common.result.state.previous ≡ no_work ∷ no_work ∷ 4 ∷ 3 ∷ 10 ∷ 9 ∷ []))
    × (Says unheard each × Says unheard ticks × Says unheard in_previous × (unheard.common.result.state.previous ≡ no_work ∷ 6 ∷ []))
    × (Says at_once each × Says at_once ticks × Says at_once in_previous × Says at_once on_path
    × (at_once.common.result.state.previous ≡ no_work ∷ no_work ∷ 3 ∷ 3 ∷ 9 ∷ 8 ∷ []))
    -- a work at its window's ready, and at its end
    × (Says (apart_working 9 8) ticks × Says (apart_working 9 8) in_previous)
    × (Says (apart_working 11 10) ticks × Says (apart_working 11 10) in_previous)

-- ## What does not hold

abbrev pub Wrongs : Type 0
Wrongs =
    -- no tick written; one left out; one more
    Not each (noting apart [])
    × Not each (noting apart (no_work ∷ no_work ∷ 4 ∷ 3 ∷ 10 ∷ []))
    × Not each (noting apart (no_work ∷ no_work ∷ 4 ∷ 3 ∷ 10 ∷ 9 ∷ 9 ∷ []))
    -- another node's work, which lies in this node's window too
    × Not ticks (apart_noting 4 3 10 10)
    × Not ticks (apart_noting 4 3 9 9)
    -- the sender's tick for the receiver, the receiver's for the sender
    × Not ticks (apart_noting 4 4 10 9)
    × Not ticks (apart_noting 3 3 10 9)
    -- the common tick: of the message, for either node; of a work alone; of a timeout
    × Not ticks (apart_noting 4 5 10 9)
    × Not ticks (apart_noting 5 3 10 9)
    × Not ticks (apart_noting 4 3 12 9)
    × Not ticks (noting unheard (no_work ∷ 8 ∷ []))
    -- 0 for the first of the one node and of the other; no work for the second
    × Not ticks (noting apart (no_work ∷ 0 ∷ 4 ∷ 3 ∷ 10 ∷ 9 ∷ []))
    × Not ticks (noting apart (0 ∷ no_work ∷ 4 ∷ 3 ∷ 10 ∷ 9 ∷ []))
    × Not ticks (noting unheard (no_work ∷ no_work ∷ []))
    -- the work of the passage before the previous one; that of the passage itself
    × Not ticks (apart_noting 4 3 10 4)
    × Not ticks (apart_noting 4 3 3 9)
    × Not ticks (apart_noting 9 3 10 9)
    -- a tick at which nothing finished: the window's ready, its end
    × Not ticks (apart_noting 4 1 10 9)
    × Not ticks (apart_noting 4 8 10 9)
    × Not ticks (noting unheard (no_work ∷ 2 ∷ []))
    -- in the window of the passage before the previous one; in that of the passage itself
    × Not in_previous (apart_noting 4 3 10 4)
    × Not in_previous (apart_noting 4 3 3 9)
    × Not in_previous (apart_noting 4 3 11 9)
    -- past the window by the common tick; no work
    × Not in_previous (apart_noting 4 3 12 9)
    × Not in_previous (noting unheard (no_work ∷ 8 ∷ []))
    × Not in_previous (noting unheard (no_work ∷ no_work ∷ []))
    -- a work finished a tick before its window, and a tick after it, as the run's record has it
    × Not in_previous (apart_working 8 7)
    × Not in_previous (apart_working 12 11)
    -- of all nodes together: another node's work; 0 for the first; the passage before the previous one; the window's end; no work for the receiver
    × Not on_path (at_once_noting 3 3 9 9)
    × Not on_path (at_once_noting 3 3 10 8)
    × Not on_path (noting at_once (no_work ∷ 0 ∷ 3 ∷ 3 ∷ 9 ∷ 8 ∷ []))
    × Not on_path (noting at_once (0 ∷ no_work ∷ 3 ∷ 3 ∷ 9 ∷ 8 ∷ []))
    × Not on_path (at_once_noting 3 3 9 3)
    × Not on_path (at_once_noting 3 3 3 8)
    × Not on_path (at_once_noting 5 3 9 8)
    × Not on_path (at_once_noting 3 6 9 8)
    × Not on_path (at_once_noting 3 no_work 9 8)
    -- with offsets the receiver's tick is not the path's, at its sender's tick
    × Not on_path apart

-- ## Why

-- the number at a place
abbrev at : ℕ → List ℕ → ℕ
at k l = get_or l k 256

no_other : (c : ℕ) {A : Type 0} → suc c < 1 → A
no_other c h = absurd (omega arith)

pub rights_hold : Rights
unfolding accepted_schedule follow works_on run program_bytes part_of choose1 exec
rights_hold = (
  (refl, told_apart, inside_apart, refl),
  (refl, told_unheard, inside_unheard, refl),
  (refl, told_at_once, inside_at_once, on-path, refl),
  (told_ready, inside_ready),
  (told_end, inside_end),
)
  where
    told_apart : Says apart ticks
    told_apart zero h = record { rest = []; is = refl }
    told_apart (suc zero) h = record { rest = []; is = refl }
    told_apart (suc (suc c)) h = neither c h

    inside_apart : Says apart in_previous
    inside_apart zero h = (leb-true _ _ refl, leb-true _ _ refl, (leb-true _ _ refl, leb-true _ _ refl, tt))
    inside_apart (suc zero) h = (leb-true _ _ refl, leb-true _ _ refl, (leb-true _ _ refl, leb-true _ _ refl, tt))
    inside_apart (suc (suc c)) h = neither c h

    told_unheard : Says unheard ticks
    told_unheard zero h = record { rest = []; is = refl }
    told_unheard (suc c) h = no_other c h

    inside_unheard : Says unheard in_previous
    inside_unheard zero h = (leb-true _ _ refl, leb-true _ _ refl, tt)
    inside_unheard (suc c) h = no_other c h

    told_at_once : Says at_once ticks
    told_at_once zero h = record { rest = []; is = refl }
    told_at_once (suc zero) h = record { rest = []; is = refl }
    told_at_once (suc (suc c)) h = neither c h

    inside_at_once : Says at_once in_previous
    inside_at_once zero h = (leb-true _ _ refl, leb-true _ _ refl, (leb-true _ _ refl, leb-true _ _ refl, tt))
    inside_at_once (suc zero) h = (leb-true _ _ refl, leb-true _ _ refl, (leb-true _ _ refl, leb-true _ _ refl, tt))
    inside_at_once (suc (suc c)) h = neither c h

    on-path : Says at_once on_path
    on-path zero h = record { rest = []; is = refl }
    on-path (suc zero) h = record { rest = []; is = refl }
    on-path (suc (suc c)) h = neither c h

    told_ready : Says (apart_working 9 8) ticks
    told_ready zero h = record { rest = []; is = refl }
    told_ready (suc zero) h = record { rest = []; is = refl }
    told_ready (suc (suc c)) h = neither c h

    inside_ready : Says (apart_working 9 8) in_previous
    inside_ready zero h = (leb-true _ _ refl, leb-true _ _ refl, (leb-true _ _ refl, leb-true _ _ refl, tt))
    inside_ready (suc zero) h = (leb-true _ _ refl, leb-true _ _ refl, (leb-true _ _ refl, leb-true _ _ refl, tt))
    inside_ready (suc (suc c)) h = neither c h

    told_end : Says (apart_working 11 10) ticks
    told_end zero h = record { rest = []; is = refl }
    told_end (suc zero) h = record { rest = []; is = refl }
    told_end (suc (suc c)) h = neither c h

    inside_end : Says (apart_working 11 10) in_previous
    inside_end zero h = (leb-true _ _ refl, leb-true _ _ refl, (leb-true _ _ refl, leb-true _ _ refl, tt))
    inside_end (suc zero) h = (leb-true _ _ refl, leb-true _ _ refl, (leb-true _ _ refl, leb-true _ _ refl, tt))
    inside_end (suc (suc c)) h = neither c h

pub wrongs_refuted : Wrongs
unfolding accepted_schedule follow works_on run program_bytes part_of choose1 exec
wrongs_refuted = (
  λ h. eqb-false 0 6 refl h,
  λ h. eqb-false 5 6 refl h,
  λ h. eqb-false 7 6 refl h,
  λ h. eqb-false 10 9 refl (ap (at 2) (h 0 (ltb-true 0 2 refl)).is),
  λ h. eqb-false 9 10 refl (ap (at 2) (h 1 (ltb-true 1 2 refl)).is),
  λ h. eqb-false 4 3 refl (ap (at 1) (h 1 (ltb-true 1 2 refl)).is),
  λ h. eqb-false 3 4 refl (ap (at 1) (h 0 (ltb-true 0 2 refl)).is),
  λ h. eqb-false 5 3 refl (ap (at 1) (h 1 (ltb-true 1 2 refl)).is),
  λ h. eqb-false 5 4 refl (ap (at 1) (h 0 (ltb-true 0 2 refl)).is),
  λ h. eqb-false 12 10 refl (ap (at 2) (h 1 (ltb-true 1 2 refl)).is),
  λ h. eqb-false 8 6 refl (ap (at 1) (h 0 (ltb-true 0 1 refl)).is),
  λ h. eqb-false 0 no_work refl (ap (at 0) (h 0 (ltb-true 0 2 refl)).is),
  λ h. eqb-false 0 no_work refl (ap (at 0) (h 1 (ltb-true 1 2 refl)).is),
  λ h. eqb-false no_work 6 refl (ap (at 1) (h 0 (ltb-true 0 1 refl)).is),
  λ h. eqb-false 4 9 refl (ap (at 2) (h 0 (ltb-true 0 2 refl)).is),
  λ h. eqb-false 3 10 refl (ap (at 2) (h 1 (ltb-true 1 2 refl)).is),
  λ h. eqb-false 9 4 refl (ap (at 1) (h 0 (ltb-true 0 2 refl)).is),
  λ h. eqb-false 1 3 refl (ap (at 1) (h 1 (ltb-true 1 2 refl)).is),
  λ h. eqb-false 8 3 refl (ap (at 1) (h 1 (ltb-true 1 2 refl)).is),
  λ h. eqb-false 2 6 refl (ap (at 1) (h 0 (ltb-true 0 1 refl)).is),
  λ h. not_most 8 4 refl (h 0 (ltb-true 0 2 refl)).2.0,
  λ h. not_most 9 3 refl (h 1 (ltb-true 1 2 refl)).2.0,
  λ h. not_most 11 10 refl (h 1 (ltb-true 1 2 refl)).2.1,
  λ h. not_most 12 10 refl (h 1 (ltb-true 1 2 refl)).2.1,
  λ h. not_most 8 6 refl (h 0 (ltb-true 0 1 refl)).1,
  λ h. not_most no_work 6 refl (h 0 (ltb-true 0 1 refl)).1,
  λ h. not_most 8 7 refl (h 0 (ltb-true 0 2 refl)).2.0,
  λ h. not_most 11 10 refl (h 0 (ltb-true 0 2 refl)).2.1,
  λ h. eqb-false 9 8 refl (ap (at 2) (h 0 (ltb-true 0 2 refl)).is),
  λ h. eqb-false 10 9 refl (ap (at 2) (h 1 (ltb-true 1 2 refl)).is),
  λ h. eqb-false 0 no_work refl (ap (at 0) (h 0 (ltb-true 0 2 refl)).is),
  λ h. eqb-false 0 no_work refl (ap (at 0) (h 1 (ltb-true 1 2 refl)).is),
  λ h. eqb-false 3 8 refl (ap (at 2) (h 0 (ltb-true 0 2 refl)).is),
  λ h. eqb-false 3 9 refl (ap (at 2) (h 1 (ltb-true 1 2 refl)).is),
  λ h. eqb-false 5 3 refl (ap (at 1) (h 0 (ltb-true 0 2 refl)).is),
  λ h. eqb-false 6 3 refl (ap (at 1) (h 1 (ltb-true 1 2 refl)).is),
  λ h. eqb-false no_work 3 refl (ap (at 1) (h 1 (ltb-true 1 2 refl)).is),
  λ h. eqb-false 3 4 refl (ap (at 1) (h 1 (ltb-true 1 2 refl)).is),
)
