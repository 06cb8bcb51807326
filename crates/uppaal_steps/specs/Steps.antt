-- The waiting locations and the transitions of an edge, as they are written from its bytes.
use Rattle.std.specs.Prelude.{◌≡◌, Bool, true, false, cond, List, ◌++◌, map, ℕ, zero, suc, pred, ◌≤◌, ◌<◌, eqb, length}
use Rattle.std.proofs.Math.Option.{Option, none, some}
use Rattle.model.specs.declared.Location.{Location}
use Rattle.model.specs.declared.Action.TheVariants.{Send}
use Rattle.model.specs.Lists.{All, each}
use Rattle.model.specs.Table.{Arc}
use Rattle.model.specs.Reader.{byte}
use Rattle.model.specs.Places.{arc_at}
use Rattle.window.specs.Views.{ArcReady, message_of}
use Rattle.words.specs.Words.{ascii}
use Rattle.uppaal.specs.Xta.{location, waiting, Sync, sends, receives, Transition}
use Rattle.uppaal.specs.XtaText.{atom_text, each_after, name_text, location_text, transition_text}
use Rattle.uppaal.specs.Export.{highs, uppers_from, ends, outcomes, entries, step_in_with, step_out_with}
use Rattle.uppaal_parts.specs.Marks.{mark_of, marked, upper_of}
use Rattle.uppaal_steps.specs.declared.Origin.{Origin}

-- ## The edge at the front, of a table that was read

pub record Writable (b : Bool) (h : List ℕ) : Type 0 where
  pub ready : ArcReady b h
  pub clock_guards : byte h 4 ≤ 4
  pub data_guards : byte h 5 ≤ 4
  pub updates : byte h 0 ≡ 0 → byte h 6 ≤ 4
  pub pairs : length (arc_at b h).pairs ≤ 8
  -- a message is never told as none
  pub sent : (k : ℕ) → Send k ≡ (arc_at b h).edge.action → k < 255
  pub heard : All (λ q. q.channel < 255) (arc_at b h).pairs

-- ## Its upper bounds, one of them marked

unfoldable pub uppers_text : ℕ → Location → Arc → List ℕ
unfolding atom_text each_after
uppers_text t l a = atom_text (mark_of t (upper_of l.clock l.bound)) ++ each_after " && " atom_text (marked (pred t) (highs a.clock_guards))

-- ## Names and channels

-- from a location to a waiting location, and back
abbrev pub arrow_in : ℕ → ℕ → Option ℕ → List ℕ
arrow_in l e m = name_text (location l) ++ (ascii " -> " ++ (name_text (waiting e m) ++ ascii " {"))

abbrev pub arrow_out : ℕ → Option ℕ → ℕ → List ℕ
arrow_out e m l = name_text (waiting e m) ++ (ascii " -> " ++ (name_text (location l) ++ ascii " {"))

-- of an edge of that kind; a message of 255 is none
abbrev pub sync_made : ℕ → ℕ → Option Sync
sync_made zero m = none
sync_made (suc zero) m = cond (eqb m 255) none (some (sends m))
sync_made (suc (suc k)) m = cond (eqb m 255) none (some (receives m))

-- ## Lines: each stands behind another

abbrev pub step_text : Transition → List ℕ
step_text t = ascii ",\n  " ++ transition_text t

-- the step in or out, by its mark
abbrev pub step_with : Bool → Location → ℕ → ℕ → Arc → Option ℕ → ℕ → Transition
step_with true l clocks e a m k = step_in_with e a m (marked k (uppers_from l a))
step_with false l clocks e a m k = step_out_with clocks e a m (marked k (uppers_from l a))

-- of the edge at the front
abbrev pub step_told : Bool → Origin → List ℕ → ℕ → ℕ → List ℕ
step_told inwards o h m k = step_text (step_with inwards o.location o.clocks o.number (arc_at o.budgets h) (message_of m) k)

-- what is written for an outcome: its transitions, or its waiting location
unfoldable pub outcome_text : Bool → Location → ℕ → ℕ → Arc → Option ℕ → List ℕ
unfolding each ends step_in_with step_out_with transition_text location_text
outcome_text true l clocks e a m =
    each step_text (map (step_in_with e a m) (entries (uppers_from l a) a.edge.action m))
    ++ each step_text (map (step_out_with clocks e a m) (ends (uppers_from l a)))
outcome_text false l clocks e a m = ascii ",\n  " ++ location_text (record { name = waiting e m; invariant = uppers_from l a })

abbrev pub outcome_told : Bool → Origin → List ℕ → ℕ → List ℕ
outcome_told steps o h m = outcome_text steps o.location o.clocks o.number (arc_at o.budgets h) (message_of m)

-- and for an edge
unfoldable pub edge_text : Bool → Location → ℕ → ℕ → Arc → List ℕ
unfolding each outcome_text
edge_text steps l clocks e a = each (outcome_text steps l clocks e a) (outcomes a a.edge.action)
