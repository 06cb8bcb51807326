-- `statement::enter_statement` meets its contract. Assumes nothing.
use Rattle.model.specs.Reader.{byte}
use Rattle.node.proofs.Steps.{enters_paired, enters}
use Rattle.statement.proofs.Carries.{carried_entered}
use borrow.Author.Tests.{eq-eqb, ne_eqb}
use Prim.Native.Nat.{◌%◌}
use Rattle.registers.specs.Words.{word_in, node_in, held_in}
use mathlib.Core.Path.{◌≡◌, sym, ◌∙◌}
use Rattle.statement.proofs.enter_statement.Goals as goal

pub returns-then-word-eq1 : goal.returns-then-word-eq1
returns-then-word-eq1 c v =
    let s = c in
    let a = s.args in
    let p = s.requires in
    let e : c.small-to.result ≡ word_in a.words.now a.c 11 % 256 = c.small-to.ensures ∙ rw c.word-then-word-eq1.ensures in
    carried_entered a.statement.now a.words.now v a.c p.0 (word_in a.words.now a.c 11 % 256)
    (enters_paired a.statement.now (held_in a.words.now a.c) (node_in a.words.now v a.c) p.0 p.1 (eq-eqb (word_in a.words.now a.c 10) 1 (sym c.word.ensures ∙ c.if-word-eq1.true)))
    (rw e at (c.put_location.ensures v))

pub returns-else-word-eq1 : goal.returns-else-word-eq1
returns-else-word-eq1 c v =
    let s = c in
    let a = s.args in
    let p = s.requires in
    carried_entered a.statement.now a.words.now v a.c p.0 (byte a.statement.now 3)
    (enters a.statement.now (held_in a.words.now a.c) (node_in a.words.now v a.c) p.0 p.1 (ne_eqb (word_in a.words.now a.c 10) 1 (λ z. c.if-word-eq1.false (c.word.ensures ∙ z))))
    (c.put_location-else-word-eq1.ensures v)
