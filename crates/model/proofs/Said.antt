-- Laws that no contract cites, said again: nothing rests on them, so that a hypothesis more in one of them would be noticed by nothing else. What they
-- prove is proved where they stand.
use mathlib.Core.Path.{◌≡◌, refl}
use mathlib.Core.Logic.{◌↔◌}
use mathlib.Core.List.{List}
use Prim.Native.Nat.{ℕ, ◌≤◌, ◌<◌}
use Rattle.model.specs.declared.Hearing.{Hearing}
use Rattle.model.specs.declared.Hearing.TheVariants.{Nobody, Several, LateStart, EarlyEnd}
use Rattle.model.specs.declared.Verdict.TheVariants.{Refused}
use Rattle.model.specs.Lists.{◌∈◌, accepted}
use Rattle.model.specs.Table.{Table, Read, size, component_of}
use Rattle.model.specs.Limits.{InLimits}
use Rattle.model.specs.Reader.{byte, read_table}
use Rattle.model.specs.Window.{Entry, Spans, choice}
use Rattle.model.specs.Schedule.{Passage, passage_arc, schedule}
use Rattle.model.specs.Chains.{IsSchedule}
use Rattle.model.specs.Checks.{limit, passage_at}
use Rattle.model.specs.Program.{program_bytes}
use Rattle.model.specs.Calls.{check_call_at}
use Rattle.model.specs.Hearings.{FirstAtFault}
use Rattle.model.specs.Versions.{read_table12, choice12, program_bytes12}
use Rattle.model.proofs.Reader.Versions.{same_reading_12, same_program_12}
use Rattle.model.proofs.Schedule.Budgets.{same_choice_of, spanned}
use Rattle.model.proofs.Checks.Told.{told_at_is}

-- ## 11, 15, 16 and 17 by ticks, at every spread

-- the table read, its schedule, and its first send at fault, which has that fault
abbrev FirstFault : ℕ → List ℕ → Hearing → ℕ → Type 0
FirstFault G bytes h c =
    (t : Read) × (S : List Passage) × (i : ℕ) × (read_table bytes ≡ accepted t) × (schedule limit t.table t.horizon ≡ accepted S)
    × FirstAtFault G t.table t.horizon S h i
    × ((passage_at S i).component ≡ c)

module _ (G : ℕ) (bytes : List ℕ) (c : ℕ) where
  pub eleven_said : (check_call_at G bytes ≡ Refused 11 c) ↔ ((G ≤ 1000) × FirstFault G bytes Nobody c)
  eleven_said = told_at_is G bytes Nobody refl c

  pub fifteen_said : (check_call_at G bytes ≡ Refused 15 c) ↔ ((G ≤ 1000) × FirstFault G bytes Several c)
  fifteen_said = told_at_is G bytes Several refl c

  pub sixteen_said : (check_call_at G bytes ≡ Refused 16 c) ↔ ((G ≤ 1000) × FirstFault G bytes LateStart c)
  sixteen_said = told_at_is G bytes LateStart refl c

  pub seventeen_said : (check_call_at G bytes ≡ Refused 17 c) ↔ ((G ≤ 1000) × FirstFault G bytes EarlyEnd c)
  seventeen_said = told_at_is G bytes EarlyEnd refl c

-- ## Versions 1 and 2 by the earlier rule, and version 3's windows as long as their budgets

pub reading_said : (bs : List ℕ) → byte bs 0 < 3 → read_table bs ≡ read_table12 bs
reading_said bs h = same_reading_12 bs h

pub choice_said : (t : Read) → InLimits t → t.version < 3 → (c : ℕ) → c < size t.table → (at : Entry)
    → choice (component_of t.table c) at ≡ choice12 (component_of t.table c) at
choice_said t h v c k at = same_choice_of t h v c k at

pub program_said : (t : Read) → InLimits t → t.version < 3 → program_bytes t ≡ program_bytes12 t
program_said t h v = same_program_12 t h v

pub windows_said : (m : ℕ) (T : Table) (H : ℕ) (S : List Passage) → IsSchedule m T H S → (v : Passage) → v ∈ S → Spans (passage_arc T v).budget v.ready v.end
windows_said m T H S s v i = spanned s v i
