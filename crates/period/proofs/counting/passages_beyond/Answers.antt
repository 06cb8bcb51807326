-- `period::counting::passages_beyond` meets its contract. Assumes nothing.
use Prim.Native.Nat.{◌-◌, ◌*◌, ◌/◌, ◌≤◌, ◌<◌}
use native.Mathlib.Omega.{arith}
use native.Mathlib.Nat.{mod-lt, div-le_self}
use Rattle.model.specs.Places.{read_of}
use Rattle.schedule.proofs.Tables.{horizon_small}
use Rattle.period.specs.Walking.{schedule_in}
use Rattle.period.proofs.Divided.{turns_few, more_before, count_beyond}
use Rattle.period.proofs.Rounds.{pair_ordered}
use Rattle.period.proofs.counting.passages_beyond.Goals as goal

pub overflow_sub-period : goal.overflow_sub-period
overflow_sub-period c =
    let ordered : (c.args.pair.from < c.args.pair.to) × (c.args.pair.to < (read_of c.args.table.now).horizon) =
    (let a = c.args in
    let p = c.requires in
    pair_ordered a.table.now a.rows.now a.count p.0 a.pair p.1 (read_of a.table.now).horizon mathlib.Core.Path.refl) in
    omega (arith, ordered.0)

pub overflow_sub-beyond : goal.overflow_sub-beyond
overflow_sub-beyond c =
    let ordered : (c.args.pair.from < c.args.pair.to) × (c.args.pair.to < (read_of c.args.table.now).horizon) =
    (let a = c.args in
    let p = c.requires in
    pair_ordered a.table.now a.rows.now a.count p.0 a.pair p.1 (read_of a.table.now).horizon mathlib.Core.Path.refl) in
    let o = ordered in omega (arith, o.0, o.1, c.requires.2)

pub entered_before-first-requires : goal.entered_before-first-requires
entered_before-first-requires c = c.requires.0

pub entered_before-second-requires : goal.entered_before-second-requires
entered_before-second-requires c = c.requires.0

pub nonzero_rem-rest : goal.nonzero_rem-rest
nonzero_rem-rest c =
    let ordered : (c.args.pair.from < c.args.pair.to) × (c.args.pair.to < (read_of c.args.table.now).horizon) =
    (let a = c.args in
    let p = c.requires in
    pair_ordered a.table.now a.rows.now a.count p.0 a.pair p.1 (read_of a.table.now).horizon mathlib.Core.Path.refl) in
    omega (arith, ordered.0)

pub overflow_add-rest : goal.overflow_add-rest
overflow_add-rest c =
    let ordered : (c.args.pair.from < c.args.pair.to) × (c.args.pair.to < (read_of c.args.table.now).horizon) =
    (let a = c.args in
    let p = c.requires in
    pair_ordered a.table.now a.rows.now a.count p.0 a.pair p.1 (read_of a.table.now).horizon mathlib.Core.Path.refl) in
    let a = c.args in
    let o = ordered in
    omega (arith, mod-lt (a.horizon - a.pair.from) {m = a.pair.to - a.pair.from} (omega (arith, o.0)), o.0, o.1, horizon_small a.table.now c.type_inv.table c.requires.0.placed.valid)

pub entered_before-once-requires : goal.entered_before-once-requires
entered_before-once-requires c = c.requires.0

pub nonzero_div-turns : goal.nonzero_div-turns
nonzero_div-turns c =
    let ordered : (c.args.pair.from < c.args.pair.to) × (c.args.pair.to < (read_of c.args.table.now).horizon) =
    (let a = c.args in
    let p = c.requires in
    pair_ordered a.table.now a.rows.now a.count p.0 a.pair p.1 (read_of a.table.now).horizon mathlib.Core.Path.refl) in
    omega (arith, ordered.0)

pub overflow_sub-round : goal.overflow_sub-round
overflow_sub-round c =
    let ordered : (c.args.pair.from < c.args.pair.to) × (c.args.pair.to < (read_of c.args.table.now).horizon) =
    (let a = c.args in
    let p = c.requires in
    pair_ordered a.table.now a.rows.now a.count p.0 a.pair p.1 (read_of a.table.now).horizon mathlib.Core.Path.refl) in
    let a = c.args in
    omega (arith, c.entered_before-first.ensures.0, c.entered_before-second.ensures.0, more_before (schedule_in a.table.now) a.pair.from a.pair.to (omega (arith, ordered.0)))

pub overflow_cast-more : goal.overflow_cast-more
overflow_cast-more c =
    let a = c.args in
    omega (arith, div-le_self (a.horizon - a.pair.from) (a.pair.to - a.pair.from), c.ranges.horizon.fits)

pub overflow_mul-more : goal.overflow_mul-more
overflow_mul-more c =
    let few : (c.args.horizon - c.args.pair.from) / (c.args.pair.to - c.args.pair.from) * (c.entered_before-second.result - c.entered_before-first.result) ≤ 4294967295 * 1024 =
    (let a = c.args in
    turns_few (a.horizon - a.pair.from) (a.pair.to - a.pair.from) (c.entered_before-second.result - c.entered_before-first.result) (omega (arith, c.ranges.horizon.fits)) (omega (arith, c.entered_before-second.ensures.1))) in
    omega (arith, few)

pub overflow_add-result : goal.overflow_add-result
overflow_add-result c =
    let few : (c.args.horizon - c.args.pair.from) / (c.args.pair.to - c.args.pair.from) * (c.entered_before-second.result - c.entered_before-first.result) ≤ 4294967295 * 1024 =
    (let a = c.args in
    turns_few (a.horizon - a.pair.from) (a.pair.to - a.pair.from) (c.entered_before-second.result - c.entered_before-first.result) (omega (arith, c.ranges.horizon.fits)) (omega (arith, c.entered_before-second.ensures.1))) in
    omega (arith, few, c.entered_before-once.ensures.1)

pub returns : goal.returns
returns c =
    let a = c.args in
    let p = c.requires in
    λ L plan.
    count_beyond a.table.now a.rows.now a.count p.0 a.horizon (omega (arith, p.2)) L plan p.2 a.pair p.1
    c.entered_before-first.result c.entered_before-second.result c.entered_before-once.result c.entered_before-first.ensures.0 c.entered_before-second.ensures.0 c.entered_before-once.ensures.0
