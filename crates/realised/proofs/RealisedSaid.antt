-- What the statements of the converse say, spelt out without their names, for paths of any length: a hypothesis more in one of them, or a field less in
-- what they name, no longer gives these.
use Rattle.std.specs.Prelude.{◌≡◌, List, [], ◌∷◌, ◌++◌, map, ℕ, pred, ◌*◌, ◌≤◌, ◌<◌, length}
use Rattle.std.proofs.Math.Option.{some}
use Rattle.model.specs.Lists.{Bytes, accepted}
use Rattle.model.specs.Table.{Read, size, component_of}
use Rattle.model.specs.Reader.{read_table}
use Rattle.model.specs.Schedule.{Passage, own}
use Rattle.model.specs.Checks.{accepted_schedule_of}
use Rattle.model.specs.Network.{State, Label, tick, start, follow, passages_on, works_on, observations_on}
use Rattle.model.specs.Run.{setting_to, setting_of, run, observation_width}
use Rattle.model.specs.Calls.{ran, run_call}
use Rattle.model.specs.Demand3.{observations_of}
use Rattle.model.specs.Progress.{OnSchedule}
use Rattle.realised.specs.Realised.{RealisesBy, Realised, Only, Exactly, Answered, GoneAlong, Extends, RealisesTo, RealisedTo, OnlyTo}

-- a run of these choices has this path and ends as said; each node shows what the path does up to a tick
abbrev Shows : Read → List Passage → List Label → State → List ℕ → ℕ → ℕ → Type 0
Shows t S path last choices ended shown =
    ((run (setting_to t t.horizon S) choices).end ≡ ended)
    × ((run (setting_to t t.horizon S) choices).state.used ≡ length choices)
    × ((run (setting_to t t.horizon S) choices).state.tick ≡ last.tick)
    × ((run (setting_to t t.horizon S) choices).state.works ≡ works_on t.table (start t.table) path)
    × ((c : ℕ) → c < size t.table
    → observations_of c (run (setting_to t t.horizon S) choices)
    ≡ observations_on (component_of t.table c) c shown (passages_on t.table c (start t.table) path) (map (λ v. v.edge) (own c S)))
    × Bytes choices × (length choices ≤ 1000000)

shows_by : (t : Read) (S : List Passage) (path : List Label) (last : State) (choices : List ℕ) → RealisesBy t t.horizon S path last choices
    → Shows t S path last choices 1 last.tick
shows_by t S path last choices d = (d.end, d.used, d.tick, d.works, d.shown, d.bytes, d.few)

shows_to : (t : Read) (S : List Passage) (path : List Label) (last : State) (choices : List ℕ) → RealisesTo t t.horizon S path last choices
    → Shows t S path last choices 0 (pred last.tick)
shows_to t S path last choices d = (d.end, d.used, d.tick, d.works, d.shown, d.bytes, d.few)

module _ (bytes : List ℕ) (t : Read) (S : List Passage) (r : read_table bytes ≡ accepted t) (e : accepted_schedule_of t ≡ accepted S) (path : List Label) (last : State) where
  pub realised_says : Realised → OnSchedule t.table S path last → last.tick < t.horizon
      → (choices : List ℕ) × Shows t S path last choices 1 last.tick
  realised_says d o l = let x = d bytes t S r e path last o l in (x.0, shows_by t S path last x.0 x.1)

  module _ (f : follow t.table (start t.table) path ≡ some last) where
    pub only_says : Only → (choices : List ℕ) → RealisesBy t t.horizon S path last choices → OnSchedule t.table S path last × (last.tick < t.horizon)
    only_says d choices x = d bytes t S r e path last f choices x

    pub exactly_says : Exactly
        → (OnSchedule t.table S path last → last.tick < t.horizon → (choices : List ℕ) × RealisesBy t t.horizon S path last choices)
        × ((choices : List ℕ) → RealisesBy t t.horizon S path last choices → OnSchedule t.table S path last × (last.tick < t.horizon))
    exactly_says d = let x = d bytes t S r e path last f in (λ o l. x.0 (o, l), λ choices y. x.1 (choices, y))

  pub answered_says : Answered → (choices : List ℕ) → RealisesBy t t.horizon S path last choices → (lent : List ℕ) → length S * observation_width ≤ length lent
      → run_call bytes choices lent ≡ ran (run (setting_of t S) choices) lent
  answered_says d choices x lent l = d bytes t S r e path last choices x lent l

  pub extends_says : Extends → OnSchedule t.table S path last → (choices : List ℕ) → GoneAlong t t.horizon S path last choices
      → (more : List Label) (later : State) → OnSchedule t.table S (path ++ more) later → later.tick < t.horizon
      → (further : List ℕ) × Shows t S (path ++ more) later (choices ++ further) 1 later.tick
  extends_says d o choices g more later p l =
      let x = d bytes t S r e path last o choices g more later p l in
      (x.0, shows_by t S (path ++ more) later (choices ++ x.0) x.1)

  -- to the horizon
  pub realised_to_says : RealisedTo → OnSchedule t.table S (path ++ (tick ∷ [])) last → last.tick ≡ t.horizon
      → (choices : List ℕ) × Shows t S (path ++ (tick ∷ [])) last choices 0 (pred last.tick)
  realised_to_says d o l = let x = d bytes t S r e path last o l in (x.0, shows_to t S (path ++ (tick ∷ [])) last x.0 x.1)

  pub only_to_says : OnlyTo → follow t.table (start t.table) (path ++ (tick ∷ [])) ≡ some last
      → (choices : List ℕ) → RealisesTo t t.horizon S (path ++ (tick ∷ [])) last choices
      → OnSchedule t.table S (path ++ (tick ∷ [])) last × (last.tick ≡ t.horizon)
  only_to_says d f choices x = d bytes t S r e path last f choices x
