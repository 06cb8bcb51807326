-- `uppaal_steps::heard::put_messages` meets its contract. Assumes nothing.
use mathlib.Core.Path.{◌≡◌, ap, ◌∙◌}
use Prim.Native.Nat.{ℕ, ◌+◌}
use lib.ListN.{length, drop}
use Rattle.model.specs.Reader.{byte}
use Rattle.model.specs.Places.{arc_at}
use Rattle.parts.proofs.Skim.{tail}
use Rattle.uppaal.specs.Export.{highs}
use Rattle.uppaal_parts.specs.Marks.{highs_count}
use Rattle.uppaal_steps.proofs.Guarding.{highs_are}
use Rattle.uppaal_steps.proofs.Keeping.{front, front_long, front_count}
use native.Mathlib.Omega.{arith}
use borrow.Author.Rules.{rules}
use Rattle.uppaal_steps.proofs.heard.put_messages.Goals as goal

pub overflow_add-highs : goal.overflow_add-highs
overflow_add-highs c = omega (arith, c.highs_count-highs.ensures.1, c.requires.0.clock_guards)

pub keep_tails-ends-requires : goal.keep_tails-ends-requires
keep_tails-ends-requires c = (c.requires.0, c.requires.1, omega arith, omega (arith, c.highs_count-highs.ensures.1, c.requires.0.clock_guards), search rules)

pub slice_bounds-guard-end : goal.slice_bounds-guard-end
slice_bounds-guard-end c = omega (arith, c.put_guard_in-long.ensures.1)

pub slice_bounds-put_all-end : goal.slice_bounds-put_all-end
slice_bounds-put_all-end c = front_count c.put_guard_in-long.ensures.0 (omega (arith, c.put_guard_in-long.ensures.1))

pub overflow_add-highs-2 : goal.overflow_add-highs-2
overflow_add-highs-2 c = omega (arith, c.highs_count-highs.ensures.1, c.requires.0.clock_guards)

pub put_all-requires : goal.put_all-requires
put_all-requires c =
    let a = c.args in
    let h = a.edge.now in
    let e : c.highs_count-highs.result ≡ length (highs (arc_at a.origin.budgets h).clock_guards) = c.highs_count-highs.ensures.0 ∙ ap (highs_count (byte h 4)) (tail h c.head_length-head.result ∙ ap (λ (k : ℕ). drop k h) c.head_length-head.ensures.0) ∙ highs_are a.origin.budgets h in
    (c.requires.0, c.requires.1, front c.put_guard_in-long.ensures.0 (omega (arith, c.put_guard_in-long.ensures.1)), front_long c.put_guard_in-long.ensures.0 (omega (arith, c.put_guard_in-long.ensures.1)) (omega (arith, c.put_guard_in-long.ensures.1)), ap (λ (x : ℕ). x + 2) e, omega (arith, c.highs_count-highs.ensures.1, c.requires.0.clock_guards), c.keep_tails-ends.ensures, c.requires.2, c.requires.3, c.requires.4)

pub returns : goal.returns
returns c = c.put_all.ensures
