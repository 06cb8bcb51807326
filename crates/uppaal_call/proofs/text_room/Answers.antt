-- `uppaal_call::text_room` meets its contract. Assumes nothing.
use mathlib.Core.Path.{◌∙◌}
use Rattle.translator.proofs.Standing.{slice_bytes, few_nodes, start_fits, found, valid_long, node_whole}
use Rattle.uppaal_call.proofs.Room.{room_done, room_on, room_all}
use native.Mathlib.Omega.{arith}
use Rattle.uppaal_call.proofs.text_room.Goals as goal

pub budgeted-budgets-requires : goal.budgeted-budgets-requires
budgeted-budgets-requires c = omega (arith, valid_long c.args.table.now (slice_bytes c.args.table.now c.type_inv.table) c.requires.0)

pub bounds-table-3 : goal.bounds-table-3
bounds-table-3 c = omega (arith, valid_long c.args.table.now (slice_bytes c.args.table.now c.type_inv.table) c.requires.0)

pub bounds-starts-c : goal.bounds-starts-c
bounds-starts-c c = omega (arith, few_nodes c.args.table.now (slice_bytes c.args.table.now c.type_inv.table) c.requires.0)

pub slice_bounds-process_room-count : goal.slice_bounds-process_room-count
slice_bounds-process_room-count c =
    let bs = c.args.table.now in
    let b = slice_bytes bs c.type_inv.table in
    let v = c.requires.0 in
    omega (arith, start_fits bs b v c.loop-c.c (omega arith) c.from.result (c.from.ensures ∙ found bs b v c.args.starts c.requires.1 c.loop-c.c (omega arith)))

pub slice_bounds-process_room-start : goal.slice_bounds-process_room-start
slice_bounds-process_room-start c =
    let bs = c.args.table.now in
    let b = slice_bytes bs c.type_inv.table in
    let v = c.requires.0 in
    omega (arith, start_fits bs b v c.loop-c.c (omega arith) c.from.result (c.from.ensures ∙ found bs b v c.args.starts c.requires.1 c.loop-c.c (omega arith)))

pub process_room-room-requires : goal.process_room-room-requires
process_room-room-requires c =
    let bs = c.args.table.now in
    let b = slice_bytes bs c.type_inv.table in
    let v = c.requires.0 in
    let i = c.loop-c.c in
    node_whole bs b v i (omega arith) c.from.result (c.from.ensures ∙ found bs b v c.args.starts c.requires.1 i (omega arith)) c.budgeted-budgets.result c.budgeted-budgets.ensures

pub loop-c-preserved : goal.loop-c-preserved
loop-c-preserved c =
    let bs = c.args.table.now in
    let b = slice_bytes bs c.type_inv.table in
    let v = c.requires.0 in
    let l = c.loop-c in
    let start = c.from.ensures ∙ found bs b v c.args.starts c.requires.1 l.c (omega arith) in
    let more = room_on bs b v l.c (omega arith) c.from.result start c.budgeted-budgets.result c.budgeted-budgets.ensures c.process_room-room.result c.process_room-room.ensures.0 in
    (omega (arith, l.invariant.0, more), omega (arith, l.invariant.1, c.process_room-room.ensures.1))

pub returns : goal.returns
returns c =
    let bs = c.args.table.now in
    let b = slice_bytes bs c.type_inv.table in
    let v = c.requires.0 in
    let l = c.loop-c in
    room_all bs b v l.room (omega (arith, l.invariant.0, room_done bs b v l.c (omega arith)))
