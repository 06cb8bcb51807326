-- `uppaal_text::put_locations` meets its contract. Assumes nothing.
use Prim.Native.Nat.{ℕ, ◌+◌, ◌-◌, ◌*◌, ◌≤◌}
use Rattle.model.specs.Lists.{each, from}
use Rattle.blocks.proofs.Runs.{Writing}
use Rattle.translator.specs.Front.{front_component}
use Rattle.uppaal.specs.Export.{plain_location}
use Rattle.uppaal_text.specs.Texts.{place_text}
use Rattle.uppaal_text.proofs.put_locations.Given as goal

abbrev pub invariant-loop-number : goal.invariant-loop-number
invariant-loop-number l =
    let tell = λ (x : ℕ). place_text (plain_location (front_component l.budgets l.component) x) in
    (l.next ≤ l.at + l.number * 60) × Writing l.initial.out l.at (each tell (from 0 l.count)) l.out l.next (each tell (from l.number (l.count - l.number)))
