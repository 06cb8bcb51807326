-- `observation::held_value` meets its contract. Assumes nothing.
use mathlib.Core.Path.{◌∙◌}
use mir.Syntax.{w16}
use mir.ValLaws.{to_z-of_z}
use borrow.Author.Rules.{rules}
use Rattle.observation.proofs.held_value.Goals as goal

pub returns-then-there : goal.returns-then-there
returns-then-there c =
    let s = c in
    c.complement.ensures ∙ rw (to_z-of_z w16 s.args.value s.ranges.value, c.if-there.true)
