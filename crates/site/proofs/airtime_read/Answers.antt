-- `site::airtime_read` meets its contract. Assumes nothing.
use mathlib.Core.Path.{ap, ◌∙◌}
use Prim.Native.Nat.{ℕ}
use native.Mathlib.Omega.{arith}
use Rattle.schedule.proofs.Tables.{horizon_is, header}
use Rattle.site.proofs.Loading.{load_of, load_refused, load_made, rows_placed}
use Rattle.model.specs.Lists.{refused}
use Rattle.model.specs.Places.{read_of}
use Rattle.rows.specs.Rows.{rows_of}
use Rattle.site.specs.Airtime.{airtime}
use Rattle.site.proofs.airtime_read.Goals as goal

pub word_at-horizon-requires : goal.word_at-horizon-requires
word_at-horizon-requires c =
    let e = c in
    omega (arith, header e.args.table.now c.type_inv.table e.requires.0)

pub rows_airtime-sum-requires : goal.rows_airtime-sum-requires
rows_airtime-sum-requires c =
    let e = c in
    rows_placed e.args.table.now e.requires.0 c.plan_rows-r.result _ c.plan_rows-r.ensures c.in-Accepted.is

pub returns-in-Refused : goal.returns-in-Refused
returns-in-Refused c =
    let e = c in
    load_of e.args.table.now c.refused_table.result (refused _ _) (load_refused e.args.table.now e.requires.0 c.plan_rows-r.result _ c.plan_rows-r.ensures c.in-Refused.is) c.refused_table.ensures.0 c.refused_table.ensures.1 c.refused_table.ensures.2

pub returns-in-Accepted : goal.returns-in-Accepted
returns-in-Accepted c =
    let e = c in
    let bs = e.args.table.now in
    let h = c.word_at-horizon.ensures ∙ horizon_is bs c.type_inv.table e.requires.0 in
    load_made bs e.requires.0 c.plan_rows-r.result _ c.plan_rows-r.ensures c.in-Accepted.is h (c.rows_airtime-sum.ensures ∙ ap (λ (x : ℕ). airtime (read_of bs).table x (rows_of c.plan_rows-r.new.rows c.plan_rows-r.result.count)) c.word32.ensures.0)
