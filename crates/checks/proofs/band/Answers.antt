-- `checks::band` meets its contract. Assumes nothing.
use native.Mathlib.Omega.{arith}
use Rattle.rows.proofs.Placed.{known_bytes}
use Rattle.checks.proofs.Banded.{first_there, first_band, band_fits, band_there}
use Rattle.checks.proofs.band.Goals as goal

pub bounds-table-0 : goal.bounds-table-0
bounds-table-0 c =
    let a = c.args in
    omega (arith, first_there a.table.now (known_bytes a.table.now c.type_inv.table) c.requires.0)

pub returns-then-table-lt2 : goal.returns-then-table-lt2
returns-then-table-lt2 c =
    let a = c.args in
    first_band a.table.now (known_bytes a.table.now c.type_inv.table) c.requires.0 a.channel c.if-table-lt2.true c.requires.1

pub bounds-table-channel : goal.bounds-table-channel
bounds-table-channel c =
    let a = c.args in
    omega (arith, band_fits a.table.now (known_bytes a.table.now c.type_inv.table) c.requires.0 a.channel c.if-table-lt2.false c.requires.1)

pub returns : goal.returns
returns c =
    let a = c.args in
    band_there a.table.now (known_bytes a.table.now c.type_inv.table) c.requires.0 a.channel c.if-table-lt2.false c.requires.1
