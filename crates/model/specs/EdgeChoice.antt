-- The edge that a component takes at an entry, with the number of edges looked at: wish 5 of document 02, as a call.
use Rattle.std.specs.Prelude.{◌≡◌, refl, Bool, true, false, List, [], ◌∷◌, map, ℕ}
use Rattle.std.proofs.Math.Option.{Option, none, some}
use Rattle.model.specs.declared.Action.TheVariants.{Internal}
use Rattle.model.specs.declared.ClockGuard.{ClockGuard}
use Rattle.model.specs.declared.Verdict.{Verdict}
use Rattle.model.specs.declared.Verdict.TheVariants.{Accepted, Refused}
use Rattle.model.specs.Lists.{All, empty, more, Answer, accepted, refused}
use Rattle.model.specs.Table.{Component, Read, component_of}
use Rattle.model.specs.Reader.{read_table}
use Rattle.model.specs.Build.{location, clock_guard, arc, component}
use Rattle.model.specs.Window.{Entry, Pick, choice, looked}

-- The verdict; whether an edge is taken; its number and its window, counted from the entry, 0 where none is; and the edges looked at.
pub record EdgeChoiceCall : Type 0 where
  pub verdict : Verdict
  pub taken : Bool
  pub edge : ℕ
  pub ready : ℕ
  pub end : ℕ
  pub looked : ℕ

-- an edge was chosen, or none; so many were looked at
abbrev pub chosen_of : Option Pick → ℕ → EdgeChoiceCall
chosen_of none n = record { verdict = Accepted; taken = false; edge = 0; ready = 0; end = 0; looked = n }
chosen_of (some p) n = record { verdict = Accepted; taken = true; edge = p.edge; ready = p.ready; end = p.end; looked = n }

-- refused: nothing is taken, and no edge looked at
abbrev pub not_chosen : ℕ → ℕ → EdgeChoiceCall
not_chosen n c = record { verdict = Refused n c; taken = false; edge = 0; ready = 0; end = 0; looked = 0 }

abbrev pub chosen_in : Answer Read → ℕ → Entry → EdgeChoiceCall
chosen_in (accepted t) c at = chosen_of (choice (component_of t.table c) at) (looked (component_of t.table c) at)
chosen_in (refused n c') c at = not_chosen n c'

-- The call `edge_choice`, of a table that passes 1 to 6: the edge that component c takes as it enters so. It serves whoever asks why an opening
-- is refused with 8, so it asks no more of the table. A component that is absent has no edge; from a location that is absent none leaves.
unfoldable pub edge_choice_call : List ℕ → ℕ → Entry → EdgeChoiceCall
unfolding read_table choice looked
edge_choice_call table c at = chosen_in (read_table table) c at

-- ## Cases

-- a component with one location, x0 ≤ 50, and an internal edge from there for each clock bound
abbrev pub edges_with : List ClockGuard → Component
edges_with guards = component 0 1 0 (location 0 50 ∷ []) (map (λ g. arc 0 0 1 Internal (g ∷ []) [] [] []) guards)

-- a row: the clock bounds, the clock at the entry, and what is chosen and looked at
pub record Row : Type 0 where
  pub guards : List ClockGuard
  pub clock : ℕ
  pub chosen : Option Pick
  pub number : ℕ

abbrev pub Holds : Row → Type 0
Holds r =
    let at : Entry = record { location = 0; tick = 0; clocks = r.clock ∷ []; values = [] } in
    (choice (edges_with r.guards) at ≡ r.chosen) × (looked (edges_with r.guards) at ≡ r.number)

abbrev pub taking : ℕ → ℕ → ℕ → Option Pick
taking e ready end = some (record { edge = e; ready = ready; end = end })

abbrev pub rows : List Row
rows =
    -- the second of four is ready with no delay; of two such the lower one decides
    record { guards = clock_guard 0 3 65535 ∷ clock_guard 0 0 9 ∷ clock_guard 0 0 65535 ∷ clock_guard 0 1 65535 ∷ []; clock = 0; chosen = taking 1 0 9; number = 2 }
    -- ready with no delay, and no window: the search goes on; with one tick more it stops
    ∷ record { guards = clock_guard 0 0 0 ∷ clock_guard 0 0 9 ∷ clock_guard 0 0 9 ∷ []; clock = 0; chosen = taking 1 0 9; number = 2 }
    ∷ record { guards = clock_guard 0 0 1 ∷ clock_guard 0 0 9 ∷ clock_guard 0 0 9 ∷ []; clock = 0; chosen = taking 0 0 1; number = 1 }
    -- none is ready with no delay: all four, wherever the best one stands
    ∷ record { guards = clock_guard 0 5 65535 ∷ clock_guard 0 2 65535 ∷ clock_guard 0 2 65535 ∷ clock_guard 0 4 65535 ∷ []; clock = 0; chosen = taking 1 2 50; number = 4 }
    -- the same edges entered with a clock of 2, and of 5
    ∷ record { guards = clock_guard 0 5 65535 ∷ clock_guard 0 2 65535 ∷ clock_guard 0 2 65535 ∷ clock_guard 0 4 65535 ∷ []; clock = 2; chosen = taking 1 0 48; number = 2 }
    ∷ record { guards = clock_guard 0 5 65535 ∷ clock_guard 0 2 65535 ∷ clock_guard 0 2 65535 ∷ clock_guard 0 4 65535 ∷ []; clock = 5; chosen = taking 0 0 45; number = 1 }
    -- no candidate: all
    ∷ record { guards = clock_guard 0 0 0 ∷ clock_guard 0 60 65535 ∷ []; clock = 0; chosen = none; number = 2 }
    ∷ []

pub cases : All Holds rows
unfolding choice looked
cases = more (refl, refl) (more (refl, refl) (more (refl, refl) (more (refl, refl) (more (refl, refl) (more (refl, refl) (more (refl, refl) empty))))))
