-- `site::shares_horizon` meets its contract. Assumes nothing.
use mathlib.Core.Path.{◌∙◌}
use lib.ListN.{get_or}
use Rattle.site.proofs.Keeping.{shares_is}
use Rattle.site.proofs.shares_horizon.Goals as goal

pub returns : goal.returns
returns c = let a = c.args in c.either.ensures ∙ shares_is (get_or a.site.horizons a.k 0) (get_or a.site.airtimes a.k 0) a.horizon
