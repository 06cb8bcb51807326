-- `calls::spread::bisect` meets its contract. Assumes nothing.
use mathlib.Core.Path.{◌∙◌}
use native.Mathlib.Omega.{arith}
use Rattle.schedule.proofs.Tables.{header, horizon_is}
use Rattle.calls.proofs.Spreading.{wide_not, not_accepted, largest_by}
use Rattle.calls.proofs.spread.bisect.Goals as goal

pub word_at-requires : goal.word_at-requires
word_at-requires c =
    let e = c in
    omega (arith, header e.args.table.now c.type_inv.table e.requires.0)

pub likely-guess-requires : goal.likely-guess-requires
likely-guess-requires c = c.requires.2.placed

pub loop-fits-init : goal.loop-fits-init
loop-fits-init c =
    let e = c in
    (e.requires.1, wide_not e.args.table.now, omega arith, omega arith)

pub between-middle-requires : goal.between-middle-requires
between-middle-requires c = omega (arith, c.loop-fits-test.true)

pub is_accepted-requires : goal.is_accepted-requires
is_accepted-requires c =
    let e = c in
    let l = c.loop-fits in (
      e.requires.0,
      e.requires.1,
      e.requires.2,
      c.word32-horizon.ensures.0 ∙ c.word_at.ensures ∙ horizon_is e.args.table.now c.type_inv.table e.requires.0,
      omega (arith, l.invariant.3, c.between-middle.ensures.1),
    )

pub loop-fits-smaller-then-is_accepted : goal.loop-fits-smaller-then-is_accepted
loop-fits-smaller-then-is_accepted c = omega (arith, c.between-middle.ensures.0, c.between-middle.ensures.1)

pub loop-fits-preserved-then-is_accepted : goal.loop-fits-preserved-then-is_accepted
loop-fits-preserved-then-is_accepted c =
    let l = c.loop-fits in
    (c.is_accepted.ensures.0 c.if-is_accepted.true, l.invariant.1, c.between-middle.ensures.1, l.invariant.3)

pub loop-fits-smaller : goal.loop-fits-smaller
loop-fits-smaller c = omega (arith, c.between-middle.ensures.0, c.between-middle.ensures.1)

pub loop-fits-preserved : goal.loop-fits-preserved
loop-fits-preserved c =
    let l = c.loop-fits in (
      l.invariant.0,
      not_accepted c.is_accepted.result c.is_accepted.ensures c.if-is_accepted.false,
      c.between-middle.ensures.0,
      omega (arith, l.invariant.3, c.between-middle.ensures.1),
    )

pub returns : goal.returns
returns c =
    let l = c.loop-fits in
    largest_by l.fits l.fails c.args.table.now l.invariant.0 l.invariant.1 (omega (arith, l.invariant.2, c.loop-fits-test.false)) l.invariant.3
