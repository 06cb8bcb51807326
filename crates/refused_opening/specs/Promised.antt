-- What is true of the opening that is told (the law `promised` in proofs/Promised.antt: for any bytes).
use Rattle.std.specs.Prelude.{◌≡◌, ◌↔◌, List, ℕ, ◌+◌, ◌≤◌, ◌<◌, length}
use Rattle.std.proofs.Math.Option.{none, some}
use Rattle.model.specs.declared.Verdict.TheVariants.{Refused}
use Rattle.model.specs.Lists.{refused}
use Rattle.model.specs.Table.{arc_of}
use Rattle.model.specs.Window.{Pick, choice}
use Rattle.model.specs.Schedule.{opening}
use Rattle.model.specs.Calls.{check_call}
use Rattle.opening_place.specs.declared.RefusedOpening.{RefusedOpening}
use Rattle.opening_place.specs.Opening.{Stop, table_stop, opening_of}

-- Why it is refused: 7 at the 1,025th passage; 8 where no edge is taken, and every edge that leaves has one of the two reasons; 9 where an edge is
-- taken, with one of its updates.
pub record Why (s : Stop) (r : RefusedOpening) : Type 0 where
  pub refused : (s.number ≡ 7 → ⊥) → opening s.component s.automaton s.entry ≡ refused s.number s.component
  pub seven : s.number ≡ 7 → r.passage ≡ 1024
  pub eight : s.number ≡ 8 → (choice s.automaton s.entry ≡ none) × (r.leaving ≡ r.blocked + r.windowless)
  pub nine : s.number ≡ 9 → (p : Pick) × (choice s.automaton s.entry ≡ some p) × (r.edge ≡ p.edge) × (r.update < length (arc_of s.automaton p.edge).updates)

-- An opening is told exactly if the verdict on the table is a refusal with 7 to 9, with its number and its component.
pub record OpeningTold (bs : List ℕ) : Type 0 where
  pub verdict : (n c : ℕ) → 7 ≤ n → n ≤ 9 → (check_call bs ≡ Refused n c) ↔ ((opening_of bs).number ≡ n) × ((opening_of bs).component ≡ c)
  pub why : (s : Stop) → table_stop bs ≡ some s → Why s (opening_of bs)
