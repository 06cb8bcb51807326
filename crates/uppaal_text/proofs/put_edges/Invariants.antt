-- `uppaal_text::put_edges` meets its contract. Assumes nothing.
use Prim.Native.Nat.{◌+◌, ◌-◌, ◌*◌, ◌≤◌}
use lib.ListN.{length, drop}
use Rattle.model.specs.Reader.{byte}
use Rattle.blocks.specs.FrontEdges.{arcs_at}
use Rattle.blocks.proofs.Runs.{Writing}
use Rattle.translator.specs.Front.{front_component}
use Rattle.uppaal_text.specs.Texts.{ArcsWritable, edges_text}
use Rattle.uppaal_text.proofs.put_edges.Given as goal

abbrev pub invariant-loop-number : goal.invariant-loop-number
invariant-loop-number l =
    let C = front_component l.budgets l.component in
    let left = l.edges - l.number in
    (l.place ≤ length l.component) × (l.next ≤ l.at + l.number * 112500) × ArcsWritable l.budgets (byte l.component 2) left (drop l.place l.component) × Writing l.initial.out l.at (edges_text l.steps C 0 C.arcs) l.out l.next (edges_text l.steps C l.number (arcs_at l.budgets left (drop l.place l.component)))
