-- `period::states::places_agree` meets its contract. Assumes nothing.
use mathlib.Core.Path.{◌≡◌, refl, sym, ◌∙◌}
use Prim.Native.Nat.{ℕ, ◌+◌}
use native.Mathlib.Omega.{arith}
use Rattle.rows.specs.Rows.{num}
use Rattle.period.proofs.Joining.{no_state, one_more}
use Rattle.period.proofs.states.places_agree.Goals as goal

pub loop-c-init : goal.loop-c-init
loop-c-init c = (omega arith, λ d h. absurd (omega arith))

pub overflow_add-first : goal.overflow_add-first
overflow_add-first c = let p = c.requires in omega (arith, p.1, p.2, c.loop-c-test.true)

pub number-here-requires : goal.number-here-requires
number-here-requires c = let p = c.requires in omega (arith, p.0, p.2, c.loop-c-test.true)

pub overflow_add-second : goal.overflow_add-second
overflow_add-second c = let p = c.requires in omega (arith, p.1, p.3, c.loop-c-test.true)

pub number-there-requires : goal.number-there-requires
number-there-requires c = let p = c.requires in omega (arith, p.0, p.3, c.loop-c-test.true)

pub returns-then-here-there : goal.returns-then-here-there
returns-then-here-there c =
    let l = c.loop-c in
    no_state (λ q. c.if-here-there.true (c.number-here.ensures ∙ q l.c c.loop-c-test.true ∙ sym c.number-there.ensures))

pub loop-c-preserved : goal.loop-c-preserved
loop-c-preserved c =
    let e = c in
    let l = c.loop-c in
    let rows = e.args.rows.now in (
      omega (arith, c.loop-c-test.true),
      one_more (λ (d : ℕ). num rows (e.args.first + d) 2 ≡ num rows (e.args.second + d) 2) l.c l.invariant.1
          (sym c.number-here.ensures ∙ c.if-here-there.false ∙ c.number-there.ensures),
    )

pub returns : goal.returns
returns c =
    let l = c.loop-c in
    (λ e d h. l.invariant.1 d (omega (arith, c.loop-c-test.false)), λ q. refl)
