-- `registers::put_value` meets its contract. Assumes nothing.
use mir.ValLaws.{to_z-of_z}
use mir.Syntax.{w16}
use Rattle.registers.proofs.PutParts.{value_stored}
use borrow.Author.Rules.{rules}
use Rattle.registers.proofs.put_value.Goals as goal

pub returns : goal.returns
returns c l =
    let s = c in
    let a = s.args in
    value_stored a.values.now a.c a.a a.value (rw (to_z-of_z w16 a.value s.ranges.value, c.wide.ensures.0)) s.requires.0 s.requires.1 s.requires.2 l
