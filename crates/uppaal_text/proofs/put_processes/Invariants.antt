-- `uppaal_text::put_processes` meets its contract. Assumes nothing.
use Prim.Native.Nat.{◌+◌, ◌*◌, ◌≤◌}
use Rattle.blocks.proofs.Runs.{Writing}
use Rattle.uppaal_text.proofs.Processes.{processes_from}
use Rattle.uppaal_text.proofs.put_processes.Given as goal

abbrev pub invariant-loop-number : goal.invariant-loop-number
invariant-loop-number l = (l.next ≤ l.at + l.number * 8000000) × Writing l.initial.out l.at (processes_from l.table 0) l.out l.next (processes_from l.table l.number)
