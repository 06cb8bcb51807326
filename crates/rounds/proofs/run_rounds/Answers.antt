-- `rounds::run_rounds` meets its contract. Assumes nothing.
use mathlib.Core.Path.{◌≡◌, refl}
use mathlib.Core.Logic.{⊎_elim}
use Prim.Native.Nat.{◌≤◌}
use native.Mathlib.Omega.{arith}
use borrow.Author.Tests.{leb-false}
use Rattle.model.specs.declared.End.TheVariants.{Horizon}
use Rattle.translator.proofs.Standing.{slice_bytes}
use Rattle.rounds.proofs.Begins.{few_rows, may_count, begins}
use Rattle.rounds.proofs.Turns.{begun, carried, used_few, may_turn, turn_goes, each_turned, turned_part}
use Rattle.rounds.proofs.Ending.{part_returns}
use borrow.Author.Rules.{rules}
use Rattle.rounds.proofs.run_rounds.Goals as goal

pub overflow_add-passages : goal.overflow_add-passages
overflow_add-passages c = omega (arith, few_rows c.args.table.now (slice_bytes c.args.table.now c.type_inv.table) c.requires.0 c.requires.1 c.requires.2.0 c.requires.2.1 c.requires.3 c.requires.4)

pub rows_of_each-fewer-requires : goal.rows_of_each-fewer-requires
rows_of_each-fewer-requires c = may_count c.args.table.now (slice_bytes c.args.table.now c.type_inv.table) c.requires.0 c.requires.1 c.requires.2.0 c.requires.2.1 c.requires.3 c.requires.4 c.requires.5

pub loop-round-init : goal.loop-round-init
loop-round-init c = (
  begins c.args.table.now (slice_bytes c.args.table.now c.type_inv.table) c.requires.0 c.requires.1 c.requires.2.0 c.requires.2.1 c.requires.3 c.requires.4 c.requires.5 c.requires.6 (omega arith) c.requires.7 c.args.choices.now,
  refl,
  refl,
  refl,
  refl,
  λ k h. c.rows_of_each-fewer.ensures _ k (omega arith) h,
)

pub slice_bounds-carry_out-count : goal.slice_bounds-carry_out-count
slice_bounds-carry_out-count c = omega (arith, c.loop-round.invariant.0.used_most)

pub slice_bounds-carry_out-start : goal.slice_bounds-carry_out-start
slice_bounds-carry_out-start c = omega (arith, c.loop-round.invariant.0.used_most)

pub carry_out-part-requires : goal.carry_out-part-requires
carry_out-part-requires c =
    let i = c.loop-round.invariant.0 in
    (i.s, c.args.out.now, begun i c.min-bound.result (omega (arith, c.min-bound.ensures)) (omega (arith, c.min-bound.ensures)) (λ m a b. omega (arith, c.min-bound.ensures)))

pub overflow_add-used : goal.overflow_add-used
overflow_add-used c =
    let i = c.loop-round.invariant.0 in
    let p = carried i c.min-bound.result (omega (arith, c.min-bound.ensures)) (omega (arith, c.min-bound.ensures)) (λ m a b. omega (arith, c.min-bound.ensures)) c.carry_out-part.ensures in
    omega (arith, used_few i c.min-bound.result (omega (arith, c.min-bound.ensures)) (omega (arith, c.min-bound.ensures)) (λ m a b. omega (arith, c.min-bound.ensures)) p)

pub returns-then-not-arrives : goal.returns-then-not-arrives
returns-then-not-arrives c =
    let i = c.loop-round.invariant.0 in
    let p = carried i c.min-bound.result (omega (arith, c.min-bound.ensures)) (omega (arith, c.min-bound.ensures)) (λ m a b. omega (arith, c.min-bound.ensures)) c.carry_out-part.ensures in
    let far : c.carry_out-part.result.end ≡ Horizon → c.args.horizon ≤ c.loop-round.until = λ z. ⊎_elim (λ w. absurd (c.arrives.ensures.1 w z)) (λ w. w.1) c.then-not-arrives.either in
    part_returns i c.min-bound.result (omega (arith, c.min-bound.ensures)) (omega (arith, c.min-bound.ensures)) (λ m a b. omega (arith, c.min-bound.ensures)) c.carry_out-part.result c.end_of.result p far c.end_of.ensures

pub turn-requires : goal.turn-requires
turn-requires c =
    let i = c.loop-round.invariant.0 in
    let p = carried i c.min-bound.result (omega (arith, c.min-bound.ensures)) (omega (arith, c.min-bound.ensures)) (λ m a b. omega (arith, c.min-bound.ensures)) c.carry_out-part.ensures in
    may_turn i c.min-bound.result (omega (arith, c.min-bound.ensures)) (omega (arith, c.min-bound.ensures)) (λ m a b. omega (arith, c.min-bound.ensures)) p (leb-false c.args.horizon c.loop-round.until c.if-last-until.false-raw) (c.arrives.ensures.0 c.if-not-arrives.false) c.rows_of_each-fewer.result c.loop-round.invariant.5

pub overflow_cast-until-in-loop-round : goal.overflow_cast-until-in-loop-round
overflow_cast-until-in-loop-round c = omega (arith, c.loop-round.invariant.0.basis.pair.recurs.below, c.loop-round.invariant.0.basis.beyond, c.loop-round.invariant.0.basis.small)

pub overflow_add-until : goal.overflow_add-until
overflow_add-until c = omega (arith, c.loop-round.invariant.0.basis.pair.recurs.below, c.loop-round.invariant.0.basis.beyond, c.loop-round.invariant.0.basis.small, leb-false c.args.horizon c.loop-round.until c.if-last-until.false-raw)

pub loop-round-smaller : goal.loop-round-smaller
loop-round-smaller c = omega (arith, c.loop-round.invariant.0.basis.pair.longer, leb-false c.args.horizon c.loop-round.until c.if-last-until.false-raw)

pub loop-round-preserved : goal.loop-round-preserved
loop-round-preserved c =
    let i = c.loop-round.invariant.0 in
    let p = carried i c.min-bound.result (omega (arith, c.min-bound.ensures)) (omega (arith, c.min-bound.ensures)) (λ m a b. omega (arith, c.min-bound.ensures)) c.carry_out-part.ensures in
    let near = leb-false c.args.horizon c.loop-round.until c.if-last-until.false-raw in
    let each = c.loop-round.invariant.5 in
    let u = c.turn.ensures _ _ _ (turn_goes i c.min-bound.result (omega (arith, c.min-bound.ensures)) (omega (arith, c.min-bound.ensures)) (λ m a b. omega (arith, c.min-bound.ensures)) p near (c.arrives.ensures.0 c.if-not-arrives.false) c.rows_of_each-fewer.result each) in
    let lengths = c.loop-round.invariant in (
      turned_part i c.min-bound.result (omega (arith, c.min-bound.ensures)) (omega (arith, c.min-bound.ensures)) (λ m a b. omega (arith, c.min-bound.ensures)) p near (c.arrives.ensures.0 c.if-not-arrives.false) u,
      search rules,
      search rules,
      search rules,
      search rules,
      each_turned i c.min-bound.result (omega (arith, c.min-bound.ensures)) (omega (arith, c.min-bound.ensures)) (λ m a b. omega (arith, c.min-bound.ensures)) p near (c.arrives.ensures.0 c.if-not-arrives.false) c.rows_of_each-fewer.result each u,
    )
