-- `site::held_in` meets its contract. Assumes nothing.
use lib.ListN.{get_or}
use Rattle.site.proofs.Keeping.{airtime_none, airtime_some}
use Rattle.site.proofs.held_in.Goals as goal

pub returns-then-site-k-eq0 : goal.returns-then-site-k-eq0
returns-then-site-k-eq0 c = let a = c.args in airtime_none (get_or a.site.horizons a.k 0) (get_or a.site.airtimes a.k 0) c.if-site-k-eq0.true

pub returns-else-site-k-eq0 : goal.returns-else-site-k-eq0
returns-else-site-k-eq0 c = let a = c.args in airtime_some (get_or a.site.horizons a.k 0) (get_or a.site.airtimes a.k 0) c.if-site-k-eq0.false
