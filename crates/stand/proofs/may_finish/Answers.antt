-- `stand::may_finish` meets its contract. Assumes nothing.
use mir.ValLaws.{to_z-of_z}
use mir.Syntax.{w16}
use Rattle.stand.proofs.ByOp.{stands_whole}
use Prim.Native.Nat.{◌+◌, ◌≤◌}
use Rattle.parts.proofs.Skim.{tail}
use lib.Seq.{get_or-drop}
use lib.ListN.{length, length-drop}
use native.Mathlib.Omega.{arith}
use mathlib.Core.Path.{refl, ◌∙◌}
use borrow.Author.Rules.{rules, sfits_of}
use Rattle.stand.proofs.may_finish.Goals as goal

pub overflow_add-at : goal.overflow_add-at
overflow_add-at c =
    let whole : c.args.registers.pc + 4 ≤ length c.args.part.now =
    (let a = c.args in
    stands_whole a.part.now a.registers.pc c.op_at-op.ensures 2 c.if-op-eq-ADD.true (omega arith)) in
    let h = whole in let a = c.requires in search rules

pub bounds-part-at : goal.bounds-part-at
bounds-part-at c =
    let whole : c.args.registers.pc + 4 ≤ length c.args.part.now =
    (let a = c.args in
    stands_whole a.part.now a.registers.pc c.op_at-op.ensures 2 c.if-op-eq-ADD.true (omega arith)) in
    let h = whole in search rules

pub slice_bounds-adds_in_range-count : goal.slice_bounds-adds_in_range-count
slice_bounds-adds_in_range-count c =
    let whole : c.args.registers.pc + 4 ≤ length c.args.part.now =
    (let a = c.args in
    stands_whole a.part.now a.registers.pc c.op_at-op.ensures 2 c.if-op-eq-ADD.true (omega arith)) in
    let h = whole in search rules

pub slice_bounds-adds_in_range-start : goal.slice_bounds-adds_in_range-start
slice_bounds-adds_in_range-start c =
    let whole : c.args.registers.pc + 4 ≤ length c.args.part.now =
    (let a = c.args in
    stands_whole a.part.now a.registers.pc c.op_at-op.ensures 2 c.if-op-eq-ADD.true (omega arith)) in
    let h = whole in search rules

pub adds_in_range-fits-requires : goal.adds_in_range-fits-requires
adds_in_range-fits-requires c =
    let whole : c.args.registers.pc + 4 ≤ length c.args.part.now =
    (let a = c.args in
    stands_whole a.part.now a.registers.pc c.op_at-op.ensures 2 c.if-op-eq-ADD.true (omega arith)) in
    let a = c.args in
    let h = whole in
    rw (tail a.part.now a.registers.pc) (simp length-drop (omega arith))

pub returns-then-op-eq-ADD : goal.returns-then-op-eq-ADD
returns-then-op-eq-ADD c =
    let s = c in
    let a = s.args in
    c.may_by.ensures a.part.now a.held a.registers c.op_at-op.ensures refl refl refl
    (λ z. c.adds_in_range-fits.ensures ∙ rw (tail a.part.now a.registers.pc, to_z-of_z w16 c.value_at-value.result (sfits_of c.value_at-value.type_inv), c.value_at-value.ensures, get_or-drop a.registers.pc a.part.now 1 0))

pub returns : goal.returns
returns c =
    let a = c.args in
    c.may_by-2.ensures a.part.now a.held a.registers c.op_at-op.ensures refl refl refl (λ z. absurd (c.if-op-eq-ADD.false z))
