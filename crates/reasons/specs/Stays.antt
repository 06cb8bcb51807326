-- The passage of a component at a tick, what is known at its entry, and what a question names.
use Rattle.std.specs.Prelude.{◌≡◌, List, ℕ, ◌≤◌, ◌<◌, length}
use Rattle.model.specs.declared.Verdict.TheVariants.{Accepted, Refused}
use Rattle.model.specs.Lists.{Answer, accepted, refused}
use Rattle.model.specs.Table.{size}
use Rattle.model.specs.Places.{read_of, component_in, start_of, Valid}
use Rattle.model.specs.Schedule.{Passage, light}
use Rattle.model.specs.Checks.{passage_at, accepted_schedule_of}
use Rattle.model.specs.Reasons.{passage_number}
use Rattle.window.specs.Views.{entry_of}
use Rattle.rows.specs.Rows.{num, message_of, row_passage}
use Rattle.schedule.specs.Filled.{AcceptedRows}
use Rattle.schedule.specs.Going.{cut}
use Rattle.reasons.specs.declared.Stay.{Stay}
use Rattle.reasons.specs.declared.Asked.{Asked}

-- n rows are the passages of an accepted table's schedule; the component is there, and the tick lies below the horizon
pub record Walked (bs l : List ℕ) (n c tick : ℕ) : Type 0 where
  pub rows : AcceptedRows bs l n
  pub messages : (i : ℕ) → i < n → num l i 6 < 256
  pub present : c < size (read_of bs).table
  pub below : tick < (read_of bs).horizon

-- the row is that of the passage, and the entry is its entry
pub record Stayed (bs l : List ℕ) (n c tick : ℕ) (r : Stay) : Type 0 where
  pub passages : List Passage
  pub accepted_schedule : accepted_schedule_of (read_of bs) ≡ accepted passages
  pub row : r.row ≡ passage_number passages c tick
  pub entry : (passage_at passages r.row).entry ≡ cut (component_in bs c) (entry_of r.at)
  pub there : r.row < n
  pub own : num l r.row 0 ≡ c
  pub shown : row_passage l r.row ≡ light (passage_at passages r.row)
  pub location : r.at.location < length (component_in bs c).locations
  pub early : r.at.tick ≤ tick

-- ## What a question names

-- in the words of the definitions
abbrev pub named_by : List ℕ → Asked → Rattle.model.specs.Reasons.Asked
named_by bs r =
    record {
      component = component_in bs r.component;
      number = r.number;
      passage =
          record {
            component = r.component;
            edge = r.edge;
            entry = cut (component_in bs r.component) (entry_of r.at);
            ready = r.ready;
            end = r.end;
            message = message_of r.message;
          };
    }

-- the component is there, starts there in the table, and has the location; number and tick are small
pub record Present (bs : List ℕ) (r : Asked) : Type 0 where
  pub valid : Valid bs
  pub present : r.component < size (read_of bs).table
  pub start : r.start ≡ start_of bs r.component
  pub location : r.at.location < length (component_in bs r.component).locations
  pub small : r.at.tick ≤ 60000
  pub few : r.number ≤ 1024

abbrev pub Answers : List ℕ → Answer Rattle.model.specs.Reasons.Asked → Asked → Type 0
Answers bs (accepted a) r = (r.verdict ≡ Accepted) × (named_by bs r ≡ a) × Present bs r
Answers bs (refused n d) r = r.verdict ≡ Refused n d
