-- `uppaal_parts::assignments::put_updates` meets its contract. Assumes nothing.
use mathlib.Core.Path.{◌≡◌, ap, sym, ◌∙◌}
use Prim.Native.Nat.{ℕ, ◌+◌}
use native.Mathlib.Omega.{arith}
use borrow.Author.Tests.{ne_eqb}
use lib.Dec.{eqb}
use Rattle.uppaal_parts.proofs.Turns.{updates_on, updates_done}
use Rattle.uppaal_parts.proofs.assignments.put_updates.Goals as goal

pub loop-k-preserved : goal.loop-k-preserved
loop-k-preserved c =
    let l = c.loop-k in
    let e = c.put_update-led.ensures in (
      omega (arith, e.2),
      e.1 ∙ sym (ne_eqb (l.k + 1) 0 (λ z. omega arith)),
      updates_on c.args.bytes.now l.led.first l.k c.args.count c.put_update-led.result.first (omega arith) e.1 l.invariant.2 e.0,
    )

pub returns : goal.returns
returns c =
    let l = c.loop-k in
    let all : l.k ≡ c.args.count = omega arith in
    (updates_done c.args.bytes.now l.led.first l.k c.args.count (omega arith) l.invariant.2, l.invariant.1 ∙ ap (λ (n : ℕ). eqb n 0) all, omega arith)
