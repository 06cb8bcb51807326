-- `uppaal_steps::heard::put_all` meets its contract. Assumes nothing.
use mathlib.Core.Bool.{true}
use Prim.Native.Nat.{◌+◌, ◌-◌, ◌*◌, ◌≤◌}
use lib.ListN.{drop}
use Rattle.model.specs.Reader.{pair_at}
use Rattle.blocks.proofs.Runs.{Writing}
use Rattle.uppaal_parts.specs.Marks.{all_told}
use Rattle.uppaal_steps.specs.Steps.{outcome_told}
use Rattle.uppaal_steps.proofs.heard.put_all.Given as goal

abbrev pub invariant-loop-k : goal.invariant-loop-k
invariant-loop-k l =
    let tell = λ (q : _). outcome_told true l.fn.origin l.edge (pair_at q).channel in
    (l.next ≤ l.at + l.k * 12500) × Writing l.initial.out l.at (all_told tell 2 l.count l.pairs) l.out l.next (all_told tell 2 (l.count - l.k) (drop (l.k * 2) l.pairs))
