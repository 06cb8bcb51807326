-- `reason_text::sentences::deciding` meets its contract. Assumes nothing.
use mathlib.Core.Path.{◌≡◌}
use mathlib.Core.Bool.{not}
use mathlib.Core.List.{[], ◌∷◌}
use Prim.Native.Nat.{◌+◌, ◌-◌, ◌*◌, ◌≤◌, ◌<◌}
use lib.ListN.{length, drop}
use Rattle.model.specs.Lists.{All, place_of}
use Rattle.model.specs.Reader.{clock_guard_at}
use Rattle.model.specs.Places.{list_at}
use Rattle.reason_text.specs.ReasonText.{wider}
use Rattle.reason_text.proofs.sentences.deciding.Given as goal

abbrev pub invariant-loop-k : goal.invariant-loop-k
invariant-loop-k l =
    (l.at + (l.count - l.k) * 5 ≤ length l.guards) × All (λ g. g.clock < 4) (list_at clock_guard_at 5 (l.count - l.k) (drop l.at l.guards))
    × (l.k + place_of (λ g. not (wider l.over l.location (list_at clock_guard_at 5 l.count l.guards) l.clocks (g ∷ []))) (list_at clock_guard_at 5 (l.count - l.k) (drop l.at l.guards))
    ≡ place_of (λ g. not (wider l.over l.location (list_at clock_guard_at 5 l.count l.guards) l.clocks (g ∷ []))) (list_at clock_guard_at 5 l.count l.guards))
    × (l.k ≤ l.count)
