-- `timed_network::sites::timed_network_site` meets its contract. Assumes nothing.
use Rattle.site.proofs.Sequence.{in_use_law}
use Rattle.site.proofs.Every.{every}
use Rattle.timed_network.proofs.sites.timed_network_site.Goals as goal

pub returns : goal.returns
returns c = (c.empty.ensures, λ rs. in_use_law c.args.limit rs, every)
