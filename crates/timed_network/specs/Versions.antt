-- Document 02, wish 8, "Edges with a work budget": tables of versions 1 and 2 keep the rule that they had, and every window is as long as its edge's
-- budget.
use Rattle.std.specs.Prelude.{◌≡◌, List, ℕ, ◌+◌, ◌≤◌, ◌<◌}
use Rattle.std.proofs.Math.Option.{some}
use Rattle.model.specs.Lists.{◌∈◌, accepted}
use Rattle.model.specs.Table.{Read, size, component_of}
use Rattle.model.specs.Reader.{byte, read_table}
use Rattle.model.specs.Window.{Entry, choice}
use Rattle.model.specs.Schedule.{Passage, passage_arc, schedule}
use Rattle.model.specs.Checks.{limit}
use Rattle.model.specs.Program.{program_bytes}
use Rattle.model.specs.Calls.{check_call, translate_call}
use Rattle.model.specs.Hearings.{merged_verdict, merged_call}
use Rattle.model.specs.Versions.{read_table12, choice12, program_bytes12, check_call01, translate_call01}

-- "Programs of versions 1 and 2 are compared with the earlier rule": such a table is read, chooses and is translated as before budgets; and one of
-- version 1 is answered as document 01 alone says, with 15 to 17 read as 11.
pub record EarlierRule (table : List ℕ) : Type 0 where
  -- 1. "Is the first byte 1?"
  pub checking : byte table 0 ≡ 1 → merged_verdict (check_call table) ≡ check_call01 table
  pub translating : byte table 0 ≡ 1 → (lent : List ℕ) → merged_call (translate_call table lent) ≡ translate_call01 table lent
  -- the first byte is 1 or 2; both refuse 0
  pub reading : byte table 0 < 3 → read_table table ≡ read_table12 table
  -- "The edge is a candidate if they hold and ready < end": every component, at every entry
  pub choosing : (t : Read) → read_table table ≡ accepted t → t.version < 3 → (c : ℕ) → c < size t.table → (at : Entry)
      → choice (component_of t.table c) at ≡ choice12 (component_of t.table c) at
  -- without statement 12
  pub writing : (t : Read) → read_table table ≡ accepted t → t.version < 3 → program_bytes t ≡ program_bytes12 t

-- "An edge is a candidate only if its window length, end − ready, is also at least the budget; choice, schedule and program follow": every passage of
-- a table's schedule
abbrev pub BudgetsKept : List ℕ → Type 0
BudgetsKept table =
    (t : Read) (S : List Passage) → read_table table ≡ accepted t → schedule limit t.table t.horizon ≡ accepted S
    → (v : Passage) → v ∈ S → (b : ℕ) → (passage_arc t.table v).budget ≡ some b → v.ready + b ≤ v.end
