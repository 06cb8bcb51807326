-- `parts::channel` meets its contract. Assumes nothing.
use mathlib.Core.Path.{◌≡◌}
use mathlib.Core.Bool.{true, false}
use native.Mathlib.Omega.{arith}
use borrow.Author.Tests.{lt-ltb, le-ltb}
use lib.ListN.{drop}
use Rattle.model.specs.Reader.{byte, channel_fine}
use Rattle.parts.proofs.Skim.{part_good, part_short, part_bad, first_of}
use Rattle.parts.proofs.channel.Goals as goal

pub returns-then-component-at-lt1 : goal.returns-then-component-at-lt1
returns-then-component-at-lt1 c =
    let a = c.args in
    record { says = part_short 1 (channel_fine a.sizes) (λ bs. byte bs 0) a.component.now a.at (omega arith); within = tt }

pub returns-then-sizes-component : goal.returns-then-sizes-component
returns-then-sizes-component c =
    let a = c.args in
    let no : channel_fine a.sizes (drop a.at a.component.now) ≡ false = rw (first_of a.component.now a.at) (le-ltb _ _ c.if-sizes-component.true) in
    record { says = part_bad 1 (channel_fine a.sizes) (λ bs. byte bs 0) a.component.now a.at (omega arith) no; within = tt }

pub returns : goal.returns
returns c =
    let a = c.args in
    let yes : channel_fine a.sizes (drop a.at a.component.now) ≡ true = rw (first_of a.component.now a.at) (lt-ltb _ _ c.if-sizes-component.false) in
    record { says = part_good 1 (channel_fine a.sizes) (λ bs. byte bs 0) a.component.now a.at (omega arith) yes; within = (omega arith, omega arith) }
