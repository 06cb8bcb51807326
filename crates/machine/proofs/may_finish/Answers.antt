-- `machine::may_finish` meets its contract. Assumes nothing.
use Prim.Native.Nat.{ℕ}
use Rattle.machine.proofs.Adding.{adds_there}
use mir.ValLaws.{to_z-of_z}
use mir.Syntax.{w16}
use Rattle.machine.proofs.Lent.{lent, lent_is}
use Rattle.registers.specs.Words.{word_in, node_in, held_in, part_in}
use Rattle.node.proofs.Moves.{inside}
use Rattle.node.proofs.Ops.{opens}
use Rattle.parts.proofs.Skim.{tail}
use lib.ListN.{length, length-drop}
use lib.Dec.{eqb}
use Prim.Native.Nat.{◌+◌, ◌≤◌}
use native.Mathlib.Omega.{arith}
use mathlib.Core.Path.{sym, ap, ◌∙◌}
use borrow.Author.Rules.{rules, sfits_of}
use Rattle.machine.proofs.may_finish.Goals as goal

pub overflow_add-at : goal.overflow_add-at
overflow_add-at c =
    let whole : c.word-at.result + 4 ≤ length (lent c.args.program.now c.word-base.result c.word-then-op-eq-ADD.result) =
    (let s = c in
    let a = s.args in
    let bytes = lent_is a.program.now a.words.now a.c c.word-base.result c.word-then-op-eq-ADD.result c.word-base.ensures c.word-then-op-eq-ADD.ensures in
    let o = inside (part_in a.program.now a.words.now a.c) (word_in a.words.now a.c 0) 2 (opens _ 2 (sym s.requires.5 ∙ c.if-op-eq-ADD.true) (λ z. omega arith)) in
    rw (bytes, c.word-at.ensures) o) in
    let w = whole in search rules

pub bounds-part-at : goal.bounds-part-at
bounds-part-at c =
    let whole : c.word-at.result + 4 ≤ length (lent c.args.program.now c.word-base.result c.word-then-op-eq-ADD.result) =
    (let s = c in
    let a = s.args in
    let bytes = lent_is a.program.now a.words.now a.c c.word-base.result c.word-then-op-eq-ADD.result c.word-base.ensures c.word-then-op-eq-ADD.ensures in
    let o = inside (part_in a.program.now a.words.now a.c) (word_in a.words.now a.c 0) 2 (opens _ 2 (sym s.requires.5 ∙ c.if-op-eq-ADD.true) (λ z. omega arith)) in
    rw (bytes, c.word-at.ensures) o) in
    let w = whole in search rules

pub slice_bounds-adds_in_range-count : goal.slice_bounds-adds_in_range-count
slice_bounds-adds_in_range-count c =
    let whole : c.word-at.result + 4 ≤ length (lent c.args.program.now c.word-base.result c.word-then-op-eq-ADD.result) =
    (let s = c in
    let a = s.args in
    let bytes = lent_is a.program.now a.words.now a.c c.word-base.result c.word-then-op-eq-ADD.result c.word-base.ensures c.word-then-op-eq-ADD.ensures in
    let o = inside (part_in a.program.now a.words.now a.c) (word_in a.words.now a.c 0) 2 (opens _ 2 (sym s.requires.5 ∙ c.if-op-eq-ADD.true) (λ z. omega arith)) in
    rw (bytes, c.word-at.ensures) o) in
    let w = whole in search rules

pub slice_bounds-adds_in_range-start : goal.slice_bounds-adds_in_range-start
slice_bounds-adds_in_range-start c =
    let whole : c.word-at.result + 4 ≤ length (lent c.args.program.now c.word-base.result c.word-then-op-eq-ADD.result) =
    (let s = c in
    let a = s.args in
    let bytes = lent_is a.program.now a.words.now a.c c.word-base.result c.word-then-op-eq-ADD.result c.word-base.ensures c.word-then-op-eq-ADD.ensures in
    let o = inside (part_in a.program.now a.words.now a.c) (word_in a.words.now a.c 0) 2 (opens _ 2 (sym s.requires.5 ∙ c.if-op-eq-ADD.true) (λ z. omega arith)) in
    rw (bytes, c.word-at.ensures) o) in
    let w = whole in search rules

pub adds_in_range-fits-requires : goal.adds_in_range-fits-requires
adds_in_range-fits-requires c =
    let whole : c.word-at.result + 4 ≤ length (lent c.args.program.now c.word-base.result c.word-then-op-eq-ADD.result) =
    (let s = c in
    let a = s.args in
    let bytes = lent_is a.program.now a.words.now a.c c.word-base.result c.word-then-op-eq-ADD.result c.word-base.ensures c.word-then-op-eq-ADD.ensures in
    let o = inside (part_in a.program.now a.words.now a.c) (word_in a.words.now a.c 0) 2 (opens _ 2 (sym s.requires.5 ∙ c.if-op-eq-ADD.true) (λ z. omega arith)) in
    rw (bytes, c.word-at.ensures) o) in
    let s = c in
    let a = s.args in
    let w = whole in
    rw (tail (lent a.program.now c.word-base.result c.word-then-op-eq-ADD.result) c.word-at.result) (simp length-drop (omega arith))

pub returns-then-op-eq-ADD : goal.returns-then-op-eq-ADD
returns-then-op-eq-ADD c =
    let s = c in
    let a = s.args in
    let part = part_in a.program.now a.words.now a.c in
    c.may_by.ensures part (held_in a.words.now a.c) (node_in a.words.now a.values.now a.c)
    s.requires.5 c.word-ready.ensures (c.half-window.ensures ∙ rw c.word.ensures) (ap (λ (x : ℕ). eqb x 1) c.word-kept.ensures)
    (λ z. adds_there a.program.now a.words.now a.values.now a.c c.word-base.result c.word-then-op-eq-ADD.result c.word-at.result c.value-value.result c.adds_in_range-fits.result
    c.word-base.ensures c.word-then-op-eq-ADD.ensures c.word-at.ensures c.value-value.ensures
    (c.adds_in_range-fits.ensures ∙ rw (to_z-of_z w16 c.value-value.result (sfits_of c.value-value.type_inv), tail (lent a.program.now c.word-base.result c.word-then-op-eq-ADD.result) c.word-at.result)))

pub returns : goal.returns
returns c =
    let s = c in
    let a = s.args in
    c.may_by-2.ensures (part_in a.program.now a.words.now a.c) (held_in a.words.now a.c) (node_in a.words.now a.values.now a.c)
    s.requires.5 c.word-ready.ensures (c.half-window.ensures ∙ rw c.word.ensures) (ap (λ (x : ℕ). eqb x 1) c.word-kept.ensures)
    (λ z. absurd (c.if-op-eq-ADD.false z))
