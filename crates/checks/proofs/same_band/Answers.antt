-- `checks::same_band` meets its contract. Assumes nothing.
use Rattle.rows.proofs.Placed.{known_bytes}
use Rattle.checks.proofs.Banded.{row_channel}
use Rattle.checks.proofs.same_band.Goals as goal

pub band-requires : goal.band-requires
band-requires c =
    let e = c in
    let a = e.args in
    let b = known_bytes a.table.now c.type_inv.table in
    (e.requires.0.valid, row_channel a.table.now a.rows.now a.i c.in-Some.one b e.requires.0 c.in-Some.ensures)

pub band-requires-2 : goal.band-requires-2
band-requires-2 c =
    let e = c in
    let a = e.args in
    let b = known_bytes a.table.now c.type_inv.table in
    (e.requires.1.valid, row_channel a.table.now a.rows.now a.j c.in-Some-row_sent.other b e.requires.1 c.in-Some-row_sent.ensures)
