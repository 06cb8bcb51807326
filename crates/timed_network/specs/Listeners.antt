-- Document 02, wish 3, "Listener faults told apart", at every spread of wish 6: what 11, 15, 16 and 17 say of a table, by ticks.
use Rattle.std.specs.Prelude.{◌≡◌, List, ◌↔◌, ℕ, ◌≤◌}
use Rattle.model.specs.declared.Hearing.{Hearing}
use Rattle.model.specs.declared.Hearing.TheVariants.{Nobody, Several, LateStart, EarlyEnd}
use Rattle.model.specs.declared.Verdict.{Verdict}
use Rattle.model.specs.declared.Verdict.TheVariants.{Refused}
use Rattle.model.specs.Lists.{accepted}
use Rattle.model.specs.Table.{Read}
use Rattle.model.specs.Reader.{read_table}
use Rattle.model.specs.Schedule.{Passage, schedule}
use Rattle.model.specs.Checks.{limit, passage_at}
use Rattle.model.specs.Hearings.{FirstAtFault}

-- the first passage of the table's schedule at fault is component c's, and that is its fault
pub record FirstFault (G : ℕ) (table : List ℕ) (h : Hearing) (c : ℕ) : Type 0 where
  pub network : Read
  pub passages : List Passage
  pub index : ℕ
  pub read : read_table table ≡ accepted network
  pub planned : schedule limit network.table network.horizon ≡ accepted passages
  pub fault : FirstAtFault G network.table network.horizon passages h index
  pub component : (passage_at passages index).component ≡ c

-- "In the place of 11, for the same passage": the verdict v at the spread G has each of the four numbers exactly if that is the fault
pub record FaultsTold (G : ℕ) (table : List ℕ) (v : Verdict) : Type 0 where
  -- "A send window that shares a tick with no receive window of another component naming its channel remains 11"
  pub nobody : (c : ℕ) → (v ≡ Refused 11 c) ↔ ((G ≤ 1000) × FirstFault G table Nobody c)
  -- "15 stands for several"
  pub several : (c : ℕ) → (v ≡ Refused 15 c) ↔ ((G ≤ 1000) × FirstFault G table Several c)
  -- "16 for the late start"
  pub late : (c : ℕ) → (v ≡ Refused 16 c) ↔ ((G ≤ 1000) × FirstFault G table LateStart c)
  -- "17 for the early end"
  pub early : (c : ℕ) → (v ≡ Refused 17 c) ↔ ((G ≤ 1000) × FirstFault G table EarlyEnd c)
