-- `timed_network::sites::timed_network_airtime` meets its contract. Assumes nothing.
use mathlib.Core.Path.{ap, ◌∙◌}
use Rattle.model.specs.Calls.{number_of, concerned_of}
use Rattle.site.proofs.Loading.{as_checked}
use Rattle.timed_network.proofs.sites.timed_network_airtime.Goals as goal

pub returns : goal.returns
returns c = (
  record { number = c.verdict_numbers-answer.ensures.0 ∙ ap number_of c.airtime-load.ensures.verdict; component = c.verdict_numbers-answer.ensures.1 ∙ ap concerned_of c.airtime-load.ensures.verdict; horizon = c.airtime-load.ensures.horizon; airtime = c.airtime-load.ensures.airtime },
  as_checked c.args.table.now,
)
