-- `node::clock_statement` meets its contract. Assumes nothing.
use mathlib.Core.Path.{◌∙◌}
use mathlib.Core.Logic.{⊎_elim}
use Prim.Native.Nat.{◌<◌}
use native.Mathlib.Omega.{arith}
use Rattle.model.specs.Reader.{byte}
use Rattle.node.proofs.Held.{each_within}
use Rattle.node.proofs.Effects.{no_clock_is, aged_is, zero_is}
use borrow.Author.Rules.{rules}
use Rattle.node.proofs.clock_statement.Goals as goal
use Rattle.node.proofs.clock_statement.Goals.{then-statement-eq-ZERO, else-statement-eq-ZERO}

pub returns-then-held-a : goal.returns-then-held-a
returns-then-held-a c =
    let s = c in
    let a = s.args in
    no_clock_is a.statement.now a.held a.registers s.requires.1 s.requires.2 c.if-held-a.true

pub overflow_add-clocks-else-statement-eq-ZERO : goal.overflow_add-clocks-else-statement-eq-ZERO
overflow_add-clocks-else-statement-eq-ZERO c =
    let s = c in
    omega (arith, each_within 4000000000000000000 c.wide-else-statement-eq-ZERO.result s.requires.4.clocks, c.wide64.ensures.1, c.wide64-else-statement-eq-ZERO.ensures.1)

pub returns : goal.returns
returns c =
    let s = c in
    let a = s.args in
    let there : byte a.statement.now 1 < a.held.clocks = omega arith in
    elim c.if-statement-eq-ZERO.branch [
      | then-statement-eq-ZERO w ↦
          zero_is a.statement.now a.held a.registers c.if-statement-eq-ZERO.clocks there w.if-statement-eq-ZERO.true (w.clocks-is ∙ rw w.wide.ensures.0)
      | else-statement-eq-ZERO w ↦
          aged_is a.statement.now a.held a.registers c.if-statement-eq-ZERO.clocks there (omega (arith, w.if-statement-eq-ZERO.false))
          (w.clocks-is ∙ rw (w.wide-else-statement-eq-ZERO.ensures.0, w.wide64.ensures.0, w.wide64-else-statement-eq-ZERO.ensures.0, w.wide-else-statement-eq-ZERO-2.ensures.0))
    ]
