-- Demand 2 as one statement: "Accepted exactly if it is a network of implementable timed automata in document 01's limits whose schedule needs
-- no global scheduler up to the horizon". A network in the limits, whose bytes these are; its schedule; and what needs no global scheduler,
-- by ticks, whatever offsets up to the spread its nodes have.
use Rattle.std.specs.Prelude.{◌≡◌, List, ℕ}
use Rattle.model.specs.Table.{Read}
use Rattle.model.specs.Limits.{InLimits}
use Rattle.model.specs.Bytes.{table_bytes}
use Rattle.model.specs.Schedule.{Passage}
use Rattle.model.specs.Chains.{IsSchedule}
use Rattle.model.specs.Checks.{limit, IndependentWithin}

pub record AcceptsAt (spread : ℕ) (bytes : List ℕ) : Type 0 where
  pub network : Read
  pub limits : InLimits network
  pub is : bytes ≡ table_bytes network
  pub passages : List Passage
  pub schedule : IsSchedule limit network.table network.horizon passages
  pub independent : IndependentWithin spread network.table network.horizon passages

-- all nodes start together
abbrev pub Accepts : List ℕ → Type 0
Accepts bytes = AcceptsAt 0 bytes
