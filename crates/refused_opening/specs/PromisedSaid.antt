-- What `OpeningTold` says, spelt out without its name: a hypothesis more, or a field less, no longer gives these.
use Rattle.std.specs.Prelude.{◌≡◌, ◌↔◌, List, ℕ, ◌+◌, ◌≤◌, ◌<◌, length}
use Rattle.std.proofs.Math.Option.{none, some}
use Rattle.model.specs.declared.Verdict.TheVariants.{Refused}
use Rattle.model.specs.Lists.{refused}
use Rattle.model.specs.Table.{arc_of}
use Rattle.model.specs.Window.{Pick, choice}
use Rattle.model.specs.Schedule.{opening}
use Rattle.model.specs.Calls.{check_call}
use Rattle.opening_place.specs.declared.RefusedOpening.{RefusedOpening}
use Rattle.opening_place.specs.Opening.{Stop, table_stop, opening_of}
use Rattle.refused_opening.specs.Promised.{Why, OpeningTold}

-- why an opening is refused, by each number
pub why_says : (s : Stop) (r : RefusedOpening) → Why s r
    → ((s.number ≡ 7 → ⊥) → opening s.component s.automaton s.entry ≡ refused s.number s.component) × (s.number ≡ 7 → r.passage ≡ 1024)
    × (s.number ≡ 8 → (choice s.automaton s.entry ≡ none) × (r.leaving ≡ r.blocked + r.windowless))
    × (s.number ≡ 9 → (p : Pick) × (choice s.automaton s.entry ≡ some p) × (r.edge ≡ p.edge) × (r.update < length (arc_of s.automaton p.edge).updates))
why_says s r d = (d.refused, d.seven, d.eight, d.nine)

-- it is told exactly if the table is refused with 7 to 9
pub opening_says : (bs : List ℕ) → OpeningTold bs
    → ((n c : ℕ) → 7 ≤ n → n ≤ 9 → (check_call bs ≡ Refused n c) ↔ ((opening_of bs).number ≡ n) × ((opening_of bs).component ≡ c))
    × ((s : Stop) → table_stop bs ≡ some s → Why s (opening_of bs))
opening_says bs d = (d.verdict, d.why)
