-- `refused_opening::first_shown` meets its contract. Assumes nothing.
use mathlib.Core.Path.{◌≡◌, sym}
use lib.ListN.{length}
use Rattle.refused_opening.proofs.Fours.{first_four}
use borrow.Author.Rules.{rules}
use Rattle.refused_opening.proofs.first_shown.Goals as goal

pub returns : goal.returns
returns g c =
    let s = c in
    let long : length s.args.items ≡ 4 = search rules in
    rw (c.shown.ensures, c.shown-2.ensures, c.shown-3.ensures, c.shown-4.ensures)
    (sym (first_four s.args.absent c.index-items-0.result c.index-items-1.result c.index-items-2.result c.index-items-3.result s.args.count s.args.items long))
