-- `machine::note_next` meets its contract. Assumes nothing.
use mathlib.Core.Path.{refl, sym, ap, ◌∙◌}
use Prim.Native.Nat.{ℕ}
use native.Mathlib.Omega.{arith}
use borrow.Author.Tests.{not-true, leb-false}
use lib.Dec.{leb}
use lib.ListN.{drop}
use Rattle.node.specs.Views.{op_in}
use Rattle.registers.specs.Words.{word_in}
use Rattle.machine.proofs.Quiet.{still_noted}
use Rattle.machine.proofs.note_next.Goals as goal

pub returns-then-not-is_timed : goal.returns-then-not-is_timed
returns-then-not-is_timed c =
    let s = c in
    let a = s.args in
    let next = op_in (drop (word_in a.words.now a.c 0) a.part.now) in
    let there = sym (c.is_timed.ensures ∙ ap (λ (i : ℕ). leb (op_in (drop i a.part.now)) 5) s.requires.4) ∙ not-true c.is_timed.result c.if-not-is_timed.true-raw in
    still_noted a.part.now a.rows.now a.passages a.words.now a.c next refl (leb-false next 5 there) (s.requires.6 (omega (arith, c.if-op-ge-AGE.true)))
