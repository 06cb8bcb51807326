-- `translator::write_program` meets its contract. Assumes nothing.
use native.Mathlib.Omega.{arith}
use Rattle.translator.proofs.Standing.{slice_bytes, valid_long}
use Rattle.translator.proofs.Programs.{program_most, nodes_room, ends, head_fits, program_put}
use Rattle.translator.proofs.write_program.Goals as goal

pub put_nodes-end-requires : goal.put_nodes-end-requires
put_nodes-end-requires c =
    let pre = c.requires in
    let args = c.args in
    (pre.0, pre.1, nodes_room args.table.now (slice_bytes args.table.now c.type_inv.table) pre.0 args.out.now pre.2)

pub bounds-table-0 : goal.bounds-table-0
bounds-table-0 c =
    let args = c.args in
    let pre = c.requires in
    omega (arith, valid_long args.table.now (slice_bytes args.table.now c.type_inv.table) pre.0)

pub overflow_cast-end : goal.overflow_cast-end
overflow_cast-end c =
    let args = c.args in
    let pre = c.requires in
    omega (arith, ends args.table.now (slice_bytes args.table.now c.type_inv.table) pre.0 args.out.now pre.2 c.put_nodes-end.ensures, program_most args.table.now (slice_bytes args.table.now c.type_inv.table) pre.0)

pub bounds-table-3 : goal.bounds-table-3
bounds-table-3 c =
    let args = c.args in
    let pre = c.requires in
    omega (arith, valid_long args.table.now (slice_bytes args.table.now c.type_inv.table) pre.0)

pub word_at-requires : goal.word_at-requires
word_at-requires c =
    let args = c.args in
    let pre = c.requires in
    omega (arith, valid_long args.table.now (slice_bytes args.table.now c.type_inv.table) pre.0)

pub put_program_head-requires : goal.put_program_head-requires
put_program_head-requires c =
    let args = c.args in
    let pre = c.requires in
    head_fits args.table.now (slice_bytes args.table.now c.type_inv.table) pre.0 args.out.now pre.2 c.put_nodes-end.ensures

pub returns : goal.returns
returns c =
    let args = c.args in
    let pre = c.requires in
    (ends args.table.now (slice_bytes args.table.now c.type_inv.table) pre.0 args.out.now pre.2 c.put_nodes-end.ensures, program_put args.table.now (slice_bytes args.table.now c.type_inv.table) pre.0 args.out.now pre.2 c.put_nodes-end.ensures c.word_at.result c.word_at.ensures c.put_program_head.ensures)
