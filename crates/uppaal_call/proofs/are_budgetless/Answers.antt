-- `uppaal_call::are_budgetless` meets its contract. Assumes nothing.
use mathlib.Core.Path.{sym, ◌∙◌}
use Rattle.translator.proofs.Standing.{slice_bytes, few_nodes, start_fits, found, valid_long, node_whole}
use Rattle.uppaal_call.proofs.Working.{restings_done, none_works, restings_not, restings_on}
use native.Mathlib.Omega.{arith}
use Rattle.uppaal_call.proofs.are_budgetless.Goals as goal

pub budgeted-requires : goal.budgeted-requires
budgeted-requires c = omega (arith, valid_long c.args.table.now (slice_bytes c.args.table.now c.type_inv.table) c.requires.0)

pub returns-then-not-budgeted : goal.returns-then-not-budgeted
returns-then-not-budgeted c = none_works c.args.table.now (slice_bytes c.args.table.now c.type_inv.table) c.requires.0 c.budgeted.result c.budgeted.ensures c.if-not-budgeted.true

pub bounds-table-3 : goal.bounds-table-3
bounds-table-3 c = omega (arith, valid_long c.args.table.now (slice_bytes c.args.table.now c.type_inv.table) c.requires.0)

pub bounds-starts-c : goal.bounds-starts-c
bounds-starts-c c = omega (arith, few_nodes c.args.table.now (slice_bytes c.args.table.now c.type_inv.table) c.requires.0)

pub slice_bounds-is_budgetless-count : goal.slice_bounds-is_budgetless-count
slice_bounds-is_budgetless-count c =
    let bs = c.args.table.now in
    let b = slice_bytes bs c.type_inv.table in
    let v = c.requires.0 in
    omega (arith, start_fits bs b v c.loop-c.c (omega arith) c.from.result (c.from.ensures ∙ found bs b v c.args.starts c.requires.1 c.loop-c.c (omega arith)))

pub slice_bounds-is_budgetless-start : goal.slice_bounds-is_budgetless-start
slice_bounds-is_budgetless-start c =
    let bs = c.args.table.now in
    let b = slice_bytes bs c.type_inv.table in
    let v = c.requires.0 in
    omega (arith, start_fits bs b v c.loop-c.c (omega arith) c.from.result (c.from.ensures ∙ found bs b v c.args.starts c.requires.1 c.loop-c.c (omega arith)))

pub is_budgetless-requires : goal.is_budgetless-requires
is_budgetless-requires c =
    let bs = c.args.table.now in
    let b = slice_bytes bs c.type_inv.table in
    let v = c.requires.0 in
    let i = c.loop-c.c in
    node_whole bs b v i (omega arith) c.from.result (c.from.ensures ∙ found bs b v c.args.starts c.requires.1 i (omega arith)) _ (sym c.if-not-budgeted.false ∙ c.budgeted.ensures)

pub returns-then-not-is_budgetless : goal.returns-then-not-is_budgetless
returns-then-not-is_budgetless c =
    let bs = c.args.table.now in
    let b = slice_bytes bs c.type_inv.table in
    let v = c.requires.0 in
    let l = c.loop-c in
    let start = c.from.ensures ∙ found bs b v c.args.starts c.requires.1 l.c (omega arith) in
    sym (restings_not bs b v l.c (omega arith) c.from.result start c.budgeted.result c.budgeted.ensures c.if-not-budgeted.false c.is_budgetless.result c.is_budgetless.ensures c.if-not-is_budgetless.true) ∙ l.invariant

pub loop-c-preserved : goal.loop-c-preserved
loop-c-preserved c =
    let bs = c.args.table.now in
    let b = slice_bytes bs c.type_inv.table in
    let v = c.requires.0 in
    let l = c.loop-c in
    let start = c.from.ensures ∙ found bs b v c.args.starts c.requires.1 l.c (omega arith) in
    sym (restings_on bs b v l.c (omega arith) c.from.result start c.budgeted.result c.budgeted.ensures c.if-not-budgeted.false c.is_budgetless.result c.is_budgetless.ensures c.if-not-is_budgetless.false) ∙ l.invariant

pub returns : goal.returns
returns c =
    let bs = c.args.table.now in
    sym (restings_done bs (slice_bytes bs c.type_inv.table) c.requires.0 c.loop-c.c (omega arith)) ∙ c.loop-c.invariant
