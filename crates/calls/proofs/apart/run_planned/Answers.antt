-- `calls::apart::run_planned` meets its contract. Assumes nothing.
use mathlib.Core.Path.{◌∙◌}
use native.Mathlib.Omega.{arith}
use borrow.Author.Tests.{not-true, not-false}
use Rattle.translator.proofs.Standing.{slice_bytes, valid_count, valid_long}
use Rattle.calls.proofs.RunCalls.{fine_as, permitted_by, too_short, too_many, too-late, is_done}
use Rattle.calls.proofs.apart.run_planned.Goals as goal

pub returns-then-observations-count : goal.returns-then-observations-count
returns-then-observations-count c =
    let s = c in
    let a = s.args in
    let P = s.requires.2 in
    let k = too_short a.spread a.table.now a.offsets.now a.choices.now a.observations.now s.requires.0 P.small P.passages P.accepted_schedule (omega (arith, P.count, c.if-observations-count.true)) in
    rw k (c.not_run.ensures a.observations.now)

pub returns-then-choices-gt1000000 : goal.returns-then-choices-gt1000000
returns-then-choices-gt1000000 c =
    let s = c in
    let a = s.args in
    let P = s.requires.2 in
    let k = too_many a.spread a.table.now a.offsets.now a.choices.now a.observations.now s.requires.0 P.small P.passages P.accepted_schedule (omega (arith, P.count, c.if-observations-count.false)) (omega (arith, c.if-choices-gt1000000.true)) in
    rw k (c.not_run-then-choices-gt1000000.ensures a.observations.now)

pub bounds-table-3 : goal.bounds-table-3
bounds-table-3 c =
    let s = c in
    omega (arith, valid_long s.args.table.now (slice_bytes s.args.table.now c.type_inv.table) s.requires.0)

pub returns-then-not-offsets_fine : goal.returns-then-not-offsets_fine
returns-then-not-offsets_fine c =
    let s = c in
    let a = s.args in
    let P = s.requires.2 in
    let n = valid_count a.table.now (slice_bytes a.table.now c.type_inv.table) s.requires.0 in
    let o = fine_as a.spread _ _ a.offsets.now c.offsets_fine.result c.offsets_fine.ensures (c.wide-nodes.ensures.0 ∙ n) (not-true _ c.if-not-offsets_fine.true-raw) in
    let k = too-late a.spread a.table.now a.offsets.now a.choices.now a.observations.now s.requires.0 P.small P.passages P.accepted_schedule (omega (arith, P.count, c.if-observations-count.false)) (omega (arith, c.if-choices-gt1000000.false)) o in
    rw k (c.not_run-then-not-offsets_fine.ensures a.observations.now)

pub run_permitted-requires : goal.run_permitted-requires
run_permitted-requires c =
    let s = c in
    let a = s.args in
    let n = valid_count a.table.now (slice_bytes a.table.now c.type_inv.table) s.requires.0 in
    let o = fine_as a.spread _ _ a.offsets.now c.offsets_fine.result c.offsets_fine.ensures (c.wide-nodes.ensures.0 ∙ n) (not-false _ c.if-not-offsets_fine.false-raw) in (
      s.requires.0,
      s.requires.1,
      record { spread = a.spread; plan = s.requires.2; permitted = permitted_by a.spread _ a.offsets.now o },
      omega (arith, c.if-observations-count.false),
      omega (arith, c.if-choices-gt1000000.false),
    )

pub returns : goal.returns
returns c =
    let s = c in
    let a = s.args in
    let P = s.requires.2 in
    let n = valid_count a.table.now (slice_bytes a.table.now c.type_inv.table) s.requires.0 in
    let o = fine_as a.spread _ _ a.offsets.now c.offsets_fine.result c.offsets_fine.ensures (c.wide-nodes.ensures.0 ∙ n) (not-false _ c.if-not-offsets_fine.false-raw) in
    let k = is_done a.spread a.table.now a.offsets.now a.choices.now a.observations.now s.requires.0 P.small P.passages P.accepted_schedule (omega (arith, P.count, c.if-observations-count.false)) (omega (arith, c.if-choices-gt1000000.false)) o in
    rw k (c.run_permitted.ensures a.spread P.passages P.accepted_schedule)
