-- `period::counting::longest_round` meets its contract. Assumes nothing.
use mathlib.Core.Path.{refl}
use Prim.Native.Nat.{◌+◌, ◌-◌, ◌*◌, ◌/◌, ◌<◌}
use native.Mathlib.Omega.{arith}
use Rattle.period.proofs.Rounds.{most_turns, pair_ordered, round_is}
use Rattle.period.proofs.counting.longest_round.Goals as goal

pub overflow_sub-once : goal.overflow_sub-once
overflow_sub-once c =
    let ordered : (c.args.pair.from < c.args.pair.to) × (c.args.pair.to < c.args.own) =
    (let a = c.args in
    let p = c.requires in
    pair_ordered a.table.now a.rows.now a.count p.0 a.pair p.1 a.own p.2) in
    omega (arith, ordered.0)

pub overflow_sub-after : goal.overflow_sub-after
overflow_sub-after c =
    let ordered : (c.args.pair.from < c.args.pair.to) × (c.args.pair.to < c.args.own) =
    (let a = c.args in
    let p = c.requires in
    pair_ordered a.table.now a.rows.now a.count p.0 a.pair p.1 a.own p.2) in
    omega (arith, ordered.1)

pub overflow_sub-after-2 : goal.overflow_sub-after-2
overflow_sub-after-2 c =
    let ordered : (c.args.pair.from < c.args.pair.to) × (c.args.pair.to < c.args.own) =
    (let a = c.args in
    let p = c.requires in
    pair_ordered a.table.now a.rows.now a.count p.0 a.pair p.1 a.own p.2) in
    omega (arith, ordered.0, ordered.1)

pub nonzero_div-turns : goal.nonzero_div-turns
nonzero_div-turns c =
    let ordered : (c.args.pair.from < c.args.pair.to) × (c.args.pair.to < c.args.own) =
    (let a = c.args in
    let p = c.requires in
    pair_ordered a.table.now a.rows.now a.count p.0 a.pair p.1 a.own p.2) in
    omega (arith, ordered.0)

pub overflow_mul-period : goal.overflow_mul-period
overflow_mul-period c =
    let ordered : (c.args.pair.from < c.args.pair.to) × (c.args.pair.to < c.args.own) =
    (let a = c.args in
    let p = c.requires in
    pair_ordered a.table.now a.rows.now a.count p.0 a.pair p.1 a.own p.2) in
    let below : c.args.pair.from + (c.args.own - 1 - c.args.pair.from) / (c.args.pair.to - c.args.pair.from) * (c.args.pair.to - c.args.pair.from) < c.args.own =
    ((most_turns c.args.pair.from c.args.pair.to c.args.own ordered.0 ordered.1).0) in
    omega (arith, below, c.requires.3)

pub overflow_add-until : goal.overflow_add-until
overflow_add-until c =
    let ordered : (c.args.pair.from < c.args.pair.to) × (c.args.pair.to < c.args.own) =
    (let a = c.args in
    let p = c.requires in
    pair_ordered a.table.now a.rows.now a.count p.0 a.pair p.1 a.own p.2) in
    let below : c.args.pair.from + (c.args.own - 1 - c.args.pair.from) / (c.args.pair.to - c.args.pair.from) * (c.args.pair.to - c.args.pair.from) < c.args.own =
    ((most_turns c.args.pair.from c.args.pair.to c.args.own ordered.0 ordered.1).0) in
    omega (arith, below, c.requires.3)

pub entered_before-first-requires : goal.entered_before-first-requires
entered_before-first-requires c = c.requires.0

pub entered_before-second-requires : goal.entered_before-second-requires
entered_before-second-requires c = c.requires.0

pub returns : goal.returns
returns c =
    let a = c.args in
    let p = c.requires in
    round_is a.table.now a.rows.now a.count p.0 a.pair p.1 a.own p.2 _ refl refl c.entered_before-first.ensures.0 c.entered_before-second.ensures.0
