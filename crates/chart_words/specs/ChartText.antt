-- What is printed of a table: its chart, or the line of its refusal. The worked table's chart is a case.
use Rattle.std.specs.Prelude.{◌≡◌, refl, List, [], ℕ}
use Rattle.model.specs.Lists.{Answer, accepted, refused}
use Rattle.model.specs.Reader.{read_table}
use Rattle.model.specs.Checks.{accepted_schedule}
use Rattle.model.specs.Chart.{chart, chart_in}
use Rattle.model.specs.Cases.{worked_bytes}
use Rattle.text.specs.Words.{ascii, refusal_line}

abbrev pub rows_or : Answer (List ℕ) → List ℕ
rows_or (accepted rows) = rows
rows_or (refused number component) = refusal_line number component

-- for any bytes
unfoldable pub printed_chart : List ℕ → List ℕ
unfolding read_table accepted_schedule chart refusal_line
printed_chart table = rows_or (chart_in table)

-- document 01's worked table, and the empty table
pub worked_chart : printed_chart worked_bytes
    ≡ ascii "C0:    .  .  .  S  S   S  .  .  W  W   W  .  .  S  S   S  .  .  W  W\nC1:    .  .  R  R  R   R  R  .  .  W   W  .  R  R  R   R  R  .  .  W\n"
unfolding printed_chart
worked_chart = refl

pub refused_chart : printed_chart [] ≡ ascii "refused 1 255\n"
unfolding printed_chart
refused_chart = refl
