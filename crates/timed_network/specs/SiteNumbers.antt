-- The answer of the exported call `airtime`, held against its definition.
use Rattle.std.specs.Prelude.{◌≡◌}
use Rattle.model.specs.Lists.{Answer}
use Rattle.model.specs.Calls.{verdict_of, number_of, concerned_of}
use Rattle.site.specs.Airtime.{Load}
use Rattle.site.specs.Lent.{horizon_of, airtime_of}
use Rattle.timed_network.specs.declared.sites.AirtimeNumbers.{AirtimeNumbers}

-- the verdict as two numbers, the horizon and the airtime
pub record AirtimeNumbersOf (load : Answer Load) (r : AirtimeNumbers) : Type 0 where
  pub number : r.number ≡ number_of (verdict_of load)
  pub component : r.component ≡ concerned_of (verdict_of load)
  pub horizon : r.horizon ≡ horizon_of load
  pub airtime : r.airtime ≡ airtime_of load
