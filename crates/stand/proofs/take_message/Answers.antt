-- `stand::take_message` meets its contract. Assumes nothing.
use mathlib.Core.Path.{refl, sym}
use Prim.Native.Nat.{◌+◌, ◌≤◌}
use native.Mathlib.Omega.{arith}
use borrow.Author.Rules.{rules}
use lib.ListN.{length, length-drop}
use Rattle.parts.proofs.Skim.{tail}
use Rattle.stand.proofs.ByOp.{stands_whole}
use Rattle.stand.proofs.Message.{listened_is}
use Rattle.stand.proofs.take_message.Goals as goal

pub overflow_add-at : goal.overflow_add-at
overflow_add-at c =
    let whole : c.args.registers.pc + 4 ≤ length c.args.part.now =
    (stands_whole c.args.part.now c.args.registers.pc (sym c.requires.1) 5 refl (omega arith)) in
    let h = whole in search rules

pub overflow_add-at-2 : goal.overflow_add-at-2
overflow_add-at-2 c =
    let whole : c.args.registers.pc + 4 ≤ length c.args.part.now =
    (stands_whole c.args.part.now c.args.registers.pc (sym c.requires.1) 5 refl (omega arith)) in
    let h = whole in search rules

pub bounds-part-at : goal.bounds-part-at
bounds-part-at c =
    let whole : c.args.registers.pc + 4 ≤ length c.args.part.now =
    (stands_whole c.args.part.now c.args.registers.pc (sym c.requires.1) 5 refl (omega arith)) in
    let h = whole in search rules

pub paired_location-location-requires : goal.paired_location-location-requires
paired_location-location-requires c =
    let whole : c.args.registers.pc + 4 ≤ length c.args.part.now =
    (stands_whole c.args.part.now c.args.registers.pc (sym c.requires.1) 5 refl (omega arith)) in
    let h = whole in search rules

pub slice_bounds-statement_length-count : goal.slice_bounds-statement_length-count
slice_bounds-statement_length-count c =
    let whole : c.args.registers.pc + 4 ≤ length c.args.part.now =
    (stands_whole c.args.part.now c.args.registers.pc (sym c.requires.1) 5 refl (omega arith)) in
    let h = whole in search rules

pub slice_bounds-statement_length-start : goal.slice_bounds-statement_length-start
slice_bounds-statement_length-start c =
    let whole : c.args.registers.pc + 4 ≤ length c.args.part.now =
    (stands_whole c.args.part.now c.args.registers.pc (sym c.requires.1) 5 refl (omega arith)) in
    let h = whole in search rules

pub statement_length-requires : goal.statement_length-requires
statement_length-requires c =
    let whole : c.args.registers.pc + 4 ≤ length c.args.part.now =
    (stands_whole c.args.part.now c.args.registers.pc (sym c.requires.1) 5 refl (omega arith)) in
    let s = c in
    let h = whole in
    rw (tail s.args.part.now s.args.registers.pc) (simp length-drop (omega arith))

pub overflow_add-next : goal.overflow_add-next
overflow_add-next c =
    let whole : c.args.registers.pc + 4 ≤ length c.args.part.now =
    (stands_whole c.args.part.now c.args.registers.pc (sym c.requires.1) 5 refl (omega arith)) in
    let h = whole in omega (arith, c.statement_length.ensures.1)

pub returns : goal.returns
returns c =
    let s = c in
    let a = s.args in
    listened_is a.part.now a.channel a.registers s.requires.1 _ c.statement_length.result c.paired_location-location.result (tail a.part.now a.registers.pc) c.statement_length.ensures.0 c.paired_location-location.ensures
