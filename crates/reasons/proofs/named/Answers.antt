-- `reasons::named` meets its contract. Assumes nothing.
use mathlib.Core.Path.{refl}
use native.Mathlib.Omega.{arith}
use Rattle.reasons.proofs.Naming.{edge_small, row_fits, names}
use Rattle.reasons.proofs.named.Goals as goal

pub number-requires : goal.number-requires
number-requires c =
    let s = c in
    omega (arith, row_fits s.args.table.now s.args.rows.now s.args.count s.args.c s.args.tick c.type_inv.table s.requires.0 c.stay_at-stay.result c.stay_at-stay.ensures)

pub overflow_cast-result : goal.overflow_cast-result
overflow_cast-result c =
    let s = c in
    omega (arith, c.number.ensures, edge_small s.args.table.now s.args.rows.now s.args.count s.args.c s.args.tick c.type_inv.table s.requires.0 c.stay_at-stay.result c.stay_at-stay.ensures)

pub number-requires-2 : goal.number-requires-2
number-requires-2 c =
    let s = c in
    omega (arith, row_fits s.args.table.now s.args.rows.now s.args.count s.args.c s.args.tick c.type_inv.table s.requires.0 c.stay_at-stay.result c.stay_at-stay.ensures)

pub overflow_cast-result-2 : goal.overflow_cast-result-2
overflow_cast-result-2 c =
    let s = c in
    omega (arith, c.number-2.ensures, s.requires.0.messages c.stay_at-stay.result.row c.stay_at-stay.ensures.there)

pub number-requires-3 : goal.number-requires-3
number-requires-3 c =
    let s = c in
    omega (arith, row_fits s.args.table.now s.args.rows.now s.args.count s.args.c s.args.tick c.type_inv.table s.requires.0 c.stay_at-stay.result c.stay_at-stay.ensures)

pub number-requires-4 : goal.number-requires-4
number-requires-4 c =
    let s = c in
    omega (arith, row_fits s.args.table.now s.args.rows.now s.args.count s.args.c s.args.tick c.type_inv.table s.requires.0 c.stay_at-stay.result c.stay_at-stay.ensures)

pub returns : goal.returns
returns c =
    let s = c in
    names s.args.table.now s.args.rows.now s.args.count s.args.c s.args.tick c.type_inv.table s.requires.0 c.stay_at-stay.result c.stay_at-stay.ensures
    _ refl refl s.requires.1 refl c.number.ensures c.number-2.ensures c.number-3.ensures c.number-4.ensures refl
