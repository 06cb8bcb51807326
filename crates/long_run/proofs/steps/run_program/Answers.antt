-- `long_run::steps::run_program` meets its contract. Assumes nothing.
use mathlib.Core.Path.{◌≡◌, subst, ◌∙◌}
use Prim.Native.Nat.{ℕ}
use native.Mathlib.Omega.{arith}
use Rattle.std.specs.Prelude.{Option, None, true}
use Rattle.std.specs.Option.{is_some}
use Rattle.recurrence.specs.declared.Pair.{Pair}
use Rattle.schedule.proofs.Tables.{horizon_is}
use Rattle.translator.proofs.Standing.{slice_bytes, valid_long}
use Rattle.long_run.specs.Reached.{PairOf}
use Rattle.long_run.proofs.steps.run_program.Goals as goal

pub word_at-requires : goal.word_at-requires
word_at-requires c =
    let bs = c.args.table.now in
    omega (arith, valid_long bs (slice_bytes bs c.type_inv.table) c.requires.0)

pub run_below-requires : goal.run_below-requires
run_below-requires c =
    let p = c.requires in
    let own = c.from-own.ensures ∙ c.word_at.ensures ∙ horizon_is c.args.table.now c.type_inv.table p.0 in
    (p.0, p.1, p.2, p.3.rows, p.3.least, omega (arith, own, c.if-horizon-own.true), p.4)

pub run_beyond-requires : goal.run_beyond-requires
run_beyond-requires c =
    let p = c.requires in
    let own = c.from-own.ensures ∙ c.word_at.ensures ∙ horizon_is c.args.table.now c.type_inv.table p.0 in
    (p.0, p.1, p.2, p.3.rows, subst (λ (pair : Option Pair). PairOf c.args.table.now pair) c.in-Some.is (p.3.pair (omega (arith, own, c.if-horizon-own.false))), omega (arith, own, c.if-horizon-own.false), p.4)

pub unreachable-requires : goal.unreachable-requires
unreachable-requires c =
    let p = c.requires in
    let own = c.from-own.ensures ∙ c.word_at.ensures ∙ horizon_is c.args.table.now c.type_inv.table p.0 in
    let e : is_some {T = Pair} None ≡ true = subst (λ (o : Option Pair). is_some o ≡ true) c.in-None.is (p.3.found (omega (arith, own, c.if-horizon-own.false))) in
    let z : ◌≡◌ {A = ℕ} 0 1 = cc in
    omega arith
