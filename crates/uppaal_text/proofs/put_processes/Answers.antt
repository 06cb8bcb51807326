-- `uppaal_text::put_processes` meets its contract. Assumes nothing.
use Rattle.blocks.proofs.Runs.{put_is}
use Rattle.translator.proofs.Standing.{slice_bytes, few_nodes, start_fits, found, valid_long}
use Rattle.uppaal_text.proofs.Processes.{processes_done, component_exportable, processes_on, processes_all}
use mathlib.Core.Path.{◌∙◌}
use native.Mathlib.Omega.{arith}
use Rattle.uppaal_text.proofs.put_processes.Goals as goal

pub budgeted-budgets-requires : goal.budgeted-budgets-requires
budgeted-budgets-requires c = omega (arith, valid_long c.args.table.now (slice_bytes c.args.table.now c.type_inv.table) c.requires.0)

pub bounds-table-3 : goal.bounds-table-3
bounds-table-3 c = omega (arith, valid_long c.args.table.now (slice_bytes c.args.table.now c.type_inv.table) c.requires.0)

pub offset_bounds-starts-from : goal.offset_bounds-starts-from
offset_bounds-starts-from c = omega (arith, few_nodes c.args.table.now (slice_bytes c.args.table.now c.type_inv.table) c.requires.0)

pub bounds-starts-from : goal.bounds-starts-from
bounds-starts-from c = omega (arith, few_nodes c.args.table.now (slice_bytes c.args.table.now c.type_inv.table) c.requires.0)

pub slice_bounds-put_process-count : goal.slice_bounds-put_process-count
slice_bounds-put_process-count c =
    let bs = c.args.table.now in
    let b = slice_bytes bs c.type_inv.table in
    let v = c.requires.0 in
    let i = c.loop-number.number in
    omega (arith, start_fits bs b v i (omega arith) c.from-start.result (c.from-start.ensures ∙ rw c.from.ensures (found bs b v c.args.starts c.requires.1 i (omega arith))))

pub slice_bounds-put_process-start : goal.slice_bounds-put_process-start
slice_bounds-put_process-start c =
    let bs = c.args.table.now in
    let b = slice_bytes bs c.type_inv.table in
    let v = c.requires.0 in
    let i = c.loop-number.number in
    omega (arith, start_fits bs b v i (omega arith) c.from-start.result (c.from-start.ensures ∙ rw c.from.ensures (found bs b v c.args.starts c.requires.1 i (omega arith))))

pub put_process-next-requires : goal.put_process-next-requires
put_process-next-requires c =
    let bs = c.args.table.now in
    let b = slice_bytes bs c.type_inv.table in
    let v = c.requires.0 in
    let i = c.loop-number.number in
    let start = c.from-start.ensures ∙ rw c.from.ensures (found bs b v c.args.starts c.requires.1 i (omega arith)) in
    (component_exportable bs b v i (omega arith) c.from-start.result start c.budgeted-budgets.result c.budgeted-budgets.ensures, omega (arith, few_nodes bs b v))

pub loop-number-preserved : goal.loop-number-preserved
loop-number-preserved c =
    let bs = c.args.table.now in
    let b = slice_bytes bs c.type_inv.table in
    let v = c.requires.0 in
    let l = c.loop-number in
    let start = c.from-start.ensures ∙ rw c.from.ensures (found bs b v c.args.starts c.requires.1 l.number (omega arith)) in
    (omega (arith, c.put_process-next.ensures.1), processes_on bs b v l.number (omega arith) c.from-start.result start c.budgeted-budgets.result c.budgeted-budgets.ensures l.invariant.1 c.put_process-next.ensures.0)

pub returns : goal.returns
returns c =
    let bs = c.args.table.now in
    let b = slice_bytes bs c.type_inv.table in
    let v = c.requires.0 in
    (put_is (processes_all bs b v) (processes_done bs b v c.loop-number.number (omega arith) c.loop-number.invariant.1), omega (arith, few_nodes bs b v))
