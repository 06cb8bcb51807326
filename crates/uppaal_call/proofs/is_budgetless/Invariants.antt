-- `uppaal_call::is_budgetless` meets its contract. Assumes nothing.
use mathlib.Core.Path.{◌≡◌}
use mathlib.Core.Bool.{true}
use Prim.Native.Nat.{◌-◌, ◌≤◌}
use lib.ListN.{length, drop}
use Rattle.model.specs.Reader.{byte}
use Rattle.blocks.specs.FrontEdges.{ArcsFit}
use Rattle.translator.specs.Front.{front_component}
use Rattle.uppaal.specs.UppaalCall.{budgetless}
use Rattle.uppaal_call.proofs.Working.{resting}
use Rattle.uppaal_call.proofs.is_budgetless.Given as goal

abbrev pub invariant-loop : goal.invariant-loop
invariant-loop l =
    let left = byte l.component 6 - l.counter in
    (l.place ≤ length l.component) × ArcsFit true left (drop l.place l.component) × (resting left (drop l.place l.component) ≡ budgetless (front_component true l.component))
