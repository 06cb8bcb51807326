-- `translator::program_length` meets its contract. Assumes nothing.
use mathlib.Core.Path.{◌≡◌}
use Prim.Native.Nat.{◌+◌, ◌≤◌}
use lib.ListN.{length}
use Rattle.model.specs.Places.{read_of}
use Rattle.model.specs.Program.{program_bytes}
use Rattle.translator.proofs.Programs.{nodes_from}
use Rattle.translator.proofs.program_length.Given as goal

abbrev pub invariant-loop-start : goal.invariant-loop-start
invariant-loop-start l = (l.start-index ≤ l.count) × (l.long + length (nodes_from l.table l.start-index) ≡ length (program_bytes (read_of l.table)))
