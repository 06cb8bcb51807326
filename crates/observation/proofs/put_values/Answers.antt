-- `observation::put_values` meets its contract. Assumes nothing.
use mathlib.Core.Path.{◌≡◌}
use lib.IntN.{pos}
use lib.ListN.{length, get_or}
use mir.Syntax.{w16}
use mir.Val.{SFits}
use mir.ValLaws.{to_z-of_z}
use Rattle.observation.proofs.Laid.{values_put}
use borrow.Author.Rules.{rules}
use Rattle.observation.proofs.put_values.Goals as goal

pub returns : goal.returns
returns c =
    let a = c.args in
    let h = c.requires in
    let long : length a.values ≡ 4 = search rules in
    let f₀ : SFits w16 (get_or a.values 0 (pos 0)) = search rules in
    let f₁ : SFits w16 (get_or a.values 1 (pos 0)) = search rules in
    let f₂ : SFits w16 (get_or a.values 2 (pos 0)) = search rules in
    let f₃ : SFits w16 (get_or a.values 3 (pos 0)) = search rules in
    values_put a.out.now a.at a.count a.values h.1 long (to_z-of_z w16 _ f₀) (to_z-of_z w16 _ f₁) (to_z-of_z w16 _ f₂) (to_z-of_z w16 _ f₃)
    c.held_value.ensures c.held_value-2.ensures c.held_value-3.ensures c.held_value-4.ensures
    c.put16.ensures c.put16-2.ensures c.put16-3.ensures c.put16-4.ensures
