-- `statement::clock_statement` meets its contract. Assumes nothing.
use Rattle.node.proofs.Steps.{clocks_past, clock_aged, clock_zero}
use Rattle.statement.proofs.Carries.{carried_same, carried_clocks, clock_within}
use Rattle.model.specs.Reader.{byte}
use lib.Seq.{get_or-take}
use lib.ListN.{set, get_or}
use Prim.Native.Nat.{◌<◌, ◌+◌, ◌%◌}
use Rattle.registers.specs.Words.{word_in, clocks_in, node_in, held_in}
use native.Mathlib.Omega.{arith}
use mathlib.Core.Path.{◌≡◌, refl, ◌∙◌}
use Rattle.statement.proofs.clock_statement.Goals as goal

pub returns-then-small-a : goal.returns-then-small-a
returns-then-small-a c v =
    let s = c in
    let a = s.args in
    let p = s.requires in
    let n : c.small.result ≡ (held_in a.words.now a.c).clocks = c.small.ensures ∙ rw c.word.ensures in
    carried_same a.statement.now a.words.now v a.c p.0 (clocks_past a.statement.now (held_in a.words.now a.c) (node_in a.words.now v a.c) p.0 p.1 p.2 (omega (arith, n, c.if-small-a.true)))

pub overflow_add-before : goal.overflow_add-before
overflow_add-before c =
    let s = c in
    let a = s.args in
    let p = s.requires in
    let n : c.small.result ≡ (held_in a.words.now a.c).clocks = c.small.ensures ∙ rw c.word.ensures in
    let x = clock_within 4000000000000000000 (held_in a.words.now a.c).clocks (clocks_in a.words.now a.c) (byte a.statement.now 1) c.clock-before.result p.6 (omega (arith, n, c.if-small-a.false)) c.clock-before.ensures in
    omega (arith, x, c.wide64.ensures.1, c.wide64-else-statement-eq-ZERO.ensures.1)

pub returns-then-statement-eq-ZERO : goal.returns-then-statement-eq-ZERO
returns-then-statement-eq-ZERO c v =
    let s = c in
    let a = s.args in
    let p = s.requires in
    let n : c.small.result ≡ (held_in a.words.now a.c).clocks = c.small.ensures ∙ rw c.word.ensures in
    let there : byte a.statement.now 1 < (held_in a.words.now a.c).clocks = omega (arith, n, c.if-small-a.false) in
    carried_clocks a.statement.now a.words.now v a.c p.0 (set (clocks_in a.words.now a.c) (byte a.statement.now 1) 0)
    (clock_zero a.statement.now (held_in a.words.now a.c) (node_in a.words.now v a.c) p.0 (set (clocks_in a.words.now a.c) (byte a.statement.now 1) 0) there c.if-statement-eq-ZERO.true refl)
    (c.put_clock.ensures v)

pub returns-else-statement-eq-ZERO : goal.returns-else-statement-eq-ZERO
returns-else-statement-eq-ZERO c v =
    let s = c in
    let a = s.args in
    let p = s.requires in
    let n : c.small.result ≡ (held_in a.words.now a.c).clocks = c.small.ensures ∙ rw c.word.ensures in
    let there : byte a.statement.now 1 < (held_in a.words.now a.c).clocks = omega (arith, n, c.if-small-a.false) in
    let x = c.clock-before.result + (c.wide64.result + c.wide64-else-statement-eq-ZERO.result) in
    let xs = set (clocks_in a.words.now a.c) (byte a.statement.now 1) x in
    let e₁ : c.wide64.result ≡ word_in a.words.now a.c 6 % 65536 = c.wide64.ensures.0 ∙ (c.half-delay.ensures ∙ rw c.word-else-statement-eq-ZERO.ensures) in
    let e₂ : c.wide64-else-statement-eq-ZERO.result ≡ word_in a.words.now a.c 7 % 65536 = c.wide64-else-statement-eq-ZERO.ensures.0 ∙ (c.half-window.ensures ∙ rw c.word-else-statement-eq-ZERO-2.ensures) in
    let e₃ : c.clock-before.result ≡ get_or (clocks_in a.words.now a.c) (byte a.statement.now 1) 0 = c.clock-before.ensures ∙ get_or-take (held_in a.words.now a.c).clocks (clocks_in a.words.now a.c) (byte a.statement.now 1) 0 there in
    carried_clocks a.statement.now a.words.now v a.c p.0 xs
    (clock_aged a.statement.now (held_in a.words.now a.c) (node_in a.words.now v a.c) p.0 xs there (omega (arith, p.1, p.2, c.if-statement-eq-ZERO.false)) (omega arith) (omega arith) (rw (e₁, e₂, e₃)))
    (c.put_clock-else-statement-eq-ZERO.ensures v)
