-- `registers::load_values` meets its contract. Assumes nothing.
use Prim.Native.Nat.{◌+◌, ◌*◌}
use native.Mathlib.Nat.{add-zero}
use borrow.Author.Rules.{rules}
use mir.Syntax.{w16}
use mir.Val.{SFits}
use mir.ValLaws.{to_z-of_z}
use lib.IntN.{pos}
use lib.ListN.{get_or}
use Rattle.registers.proofs.load_values.Goals as goal

pub returns : goal.returns
returns c =
    let s = c in
    let v = s.args.values.now in
    let at = s.args.c * 4 in
    let a : SFits w16 (get_or v at (pos 0)) = search rules in
    let b : SFits w16 (get_or v (at + 1) (pos 0)) = search rules in
    let d : SFits w16 (get_or v (at + 2) (pos 0)) = search rules in
    let e : SFits w16 (get_or v (at + 3) (pos 0)) = search rules in
    rw (to_z-of_z w16 _ a, to_z-of_z w16 _ b, to_z-of_z w16 _ d, to_z-of_z w16 _ e, add-zero)
