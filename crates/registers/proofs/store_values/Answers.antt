-- `registers::store_values` meets its contract. Assumes nothing.
use native.Mathlib.Numerals.{towards_suc}
use native.Mathlib.Omega.{arith}
use borrow.Author.Rules.{rules}
use mir.Syntax.{w16}
use mir.Val.{SFits}
use mir.ValLaws.{to_z-of_z}
use lib.IntN.{pos}
use lib.ListN.{get_or, length-set}
use Rattle.registers.proofs.store_values.Goals as goal

pub bounds-values-at-2 : goal.bounds-values-at-2
bounds-values-at-2 c = simp length-set (omega arith)

pub bounds-values-at-3 : goal.bounds-values-at-3
bounds-values-at-3 c = simp length-set (omega arith)

pub bounds-values-at-4 : goal.bounds-values-at-4
bounds-values-at-4 c = simp length-set (omega arith)

pub returns : goal.returns
returns c =
    let xs = c.args.four in
    let a : SFits w16 (get_or xs 0 (pos 0)) = search rules in
    let b : SFits w16 (get_or xs 1 (pos 0)) = search rules in
    let d : SFits w16 (get_or xs 2 (pos 0)) = search rules in
    let e : SFits w16 (get_or xs 3 (pos 0)) = search rules in
    simp towards_suc (rw (to_z-of_z w16 _ a, to_z-of_z w16 _ b, to_z-of_z w16 _ d, to_z-of_z w16 _ e))
