-- `site::put` meets its contract. Assumes nothing.
use mathlib.Core.Path.{◌∙◌}
use Rattle.site.proofs.Loading.{put_refused, put_accepted, load_least}
use Rattle.site.proofs.put.Goals as goal

pub put_load-requires : goal.put_load-requires
put_load-requires c =
    let a = c.args in
    load_least a.table.now c.airtime-load.result c.airtime-load.ensures a.site a.place c.in-Accepted.is

pub returns-in-Refused : goal.returns-in-Refused
returns-in-Refused c =
    let a = c.args in
    c.refuse.ensures ∙ put_refused a.table.now c.airtime-load.result c.airtime-load.ensures a.site a.place c.in-Refused.is

pub returns-in-Accepted : goal.returns-in-Accepted
returns-in-Accepted c =
    let a = c.args in
    c.put_load.ensures ∙ put_accepted a.table.now c.airtime-load.result c.airtime-load.ensures a.site a.place c.in-Accepted.is
