-- `uppaal_call::are_budgetless` meets its contract. Assumes nothing.
use mathlib.Core.Path.{◌≡◌}
use lib.ListN.{drop}
use Rattle.model.specs.Lists.{all}
use Rattle.model.specs.Places.{read_of}
use Rattle.uppaal.specs.UppaalCall.{budgetless, all_budgetless}
use Rattle.uppaal_call.proofs.are_budgetless.Given as goal

abbrev pub invariant-loop-c : goal.invariant-loop-c
invariant-loop-c l = all budgetless (drop l.c (read_of l.table).table.components) ≡ all_budgetless (read_of l.table).table
