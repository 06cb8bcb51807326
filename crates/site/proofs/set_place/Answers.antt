-- `site::set_place` meets its contract. Assumes nothing.
use mathlib.Core.Path.{◌≡◌}
use lib.ListN.{length}
use Rattle.site.proofs.Keeping.{place_set}
use borrow.Author.Rules.{rules}
use Rattle.site.proofs.set_place.Goals as goal

pub returns : goal.returns
returns c =
    let e = c in
    let s = e.args.site in
    let k : length s.horizons ≡ 4 = search rules in
    let l : length s.airtimes ≡ 4 = search rules in
    place_set s e.args.horizon e.args.airtime e.requires.1 k l e.args.k e.requires.0 c.in_use.ensures.0
