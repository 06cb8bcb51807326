-- The call that writes an accepted table for UPPAAL (document 02, wish 12).
use Rattle.std.specs.Prelude.{◌≡◌, Bool, true, cond, List, ℕ, ◌≤◌, eqb}
use Rattle.std.proofs.Math.Option.{Option, none, some}
use Rattle.model.specs.Lists.{all, Answer, accepted, refused, ◌after◌}
use Rattle.model.specs.Table.{Component, Table, Read}
use Rattle.model.specs.Reader.{read_table}
use Rattle.model.specs.Schedule.{Passage}
use Rattle.model.specs.Checks.{accepted_schedule, accepted_schedule_of}
use Rattle.model.specs.Calls.{Call, bytes_with}
use Rattle.uppaal.specs.Xta.{System}
use Rattle.uppaal.specs.XtaText.{system_text}
use Rattle.uppaal.specs.XtaReading.{read_text}
use Rattle.uppaal.specs.Declared.{Declared}
use Rattle.uppaal.specs.Export.{system_for}
use Rattle.uppaal.specs.SamePaths.{SamePaths}
use Rattle.uppaal.specs.Dense.{Dense, DenseTime}

-- "Tables with budgets are exported without them only if all are 0"
abbrev pub no_work : Option ℕ → Bool
no_work none = true
no_work (some b) = eqb b 0

abbrev pub budgetless : Component → Bool
budgetless C = all (λ a. no_work a.budget) C.arcs

abbrev pub all_budgetless : Table → Bool
all_budgetless T = all budgetless T.components

-- the text of a table that is read, once its schedule is accepted: "any other is refused with 25"
abbrev pub text_of : Read → Answer (List Passage) → Answer (List ℕ)
text_of t (accepted S) = cond (all_budgetless t.table) (accepted (system_text (system_for t.table))) (refused 25 255)
text_of t (refused n c) = refused n c

-- "Write accepted tables as its textual XTA form": 1 to 12 as `check`
unfoldable pub uppaal_in : List ℕ → Answer (List ℕ)
unfolding read_table accepted_schedule system_text system_for
uppaal_in table = read_table table after (λ t. text_of t (accepted_schedule_of t))

-- the bytes are laid over the front of what was lent, or 13, after 25: "refused with 25 before 13"
unfoldable pub uppaal_call : List ℕ → List ℕ → Call
unfolding uppaal_in
uppaal_call table lent = bytes_with lent (uppaal_in table)

-- what is written has the table's paths
abbrev pub SamePathsOf : List ℕ → Type 0
SamePathsOf table = (t : Read) → read_table table ≡ accepted t → SamePaths t.table (system_for t.table)

-- and nothing else happens between the ticks
abbrev pub DenseTimeOf : List ℕ → Type 0
DenseTimeOf table = (t : Read) → read_table table ≡ accepted t → DenseTime t.table

-- What the bytes say of a table that is read: by the tool's grammar they are a network; each name that it uses is declared, none twice; its
-- paths are the table's; and nothing else happens in it between the ticks.
pub record Carries (table text : List ℕ) : Type 0 where
  pub given : Read
  pub known : read_table table ≡ accepted given
  pub network : System
  pub read : read_text text ≡ some network
  pub declared : Declared network
  pub paths : SamePaths given.table network
  pub time : (n : ℕ) → 1 ≤ n → Dense network n
