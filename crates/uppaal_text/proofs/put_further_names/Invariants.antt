-- `uppaal_text::put_further_names` meets its contract. Assumes nothing.
use Prim.Native.Nat.{◌+◌, ◌-◌, ◌*◌, ◌≤◌}
use Rattle.model.specs.Lists.{each, from}
use Rattle.blocks.proofs.Runs.{Writing}
use Rattle.uppaal_text.specs.Texts.{further_name}
use Rattle.uppaal_text.proofs.put_further_names.Given as goal

abbrev pub invariant-loop-i : goal.invariant-loop-i
invariant-loop-i l = (l.next ≤ l.at + (l.i - 1) * 13) × Writing l.initial.out l.at (each (further_name l.letter) (from 1 (l.count - 1))) l.out l.next (each (further_name l.letter) (from l.i (l.count - l.i)))
