-- `meetings::list_fault` meets its contract. Assumes nothing.
use mathlib.Core.Path.{◌≡◌, refl, sym, ap, ◌∙◌}
use mathlib.Core.List.{◌++◌}
use Prim.Native.Nat.{ℕ, ◌+◌, ◌*◌}
use native.Mathlib.Omega.{arith}
use lib.ListN.{length, drop}
use Rattle.model.specs.declared.Verdict.TheVariants.{Refused}
use Rattle.model.specs.Lists.{each}
use Rattle.model.specs.Places.{read_of}
use Rattle.model.specs.Schedule.{seven_of}
use Rattle.rows.specs.Rows.{num, row_passage, rows_of}
use Rattle.checks.proofs.Sending.{row_stands}
use Rattle.meetings.specs.Asked.{number_asked, found_by}
use Rattle.meetings.proofs.Listing.{says_short, says_laid}
use Rattle.meetings.proofs.list_fault.Goals as goal

pub refused-refusal-requires : goal.refused-refusal-requires
refused-refusal-requires c =
    let e = c in
    let a = e.args in
    row_stands a.table.now a.rows.now a.count a.i c.type_inv.table e.requires.0 e.requires.1

pub returns-then-list-size : goal.returns-then-list-size
returns-then-list-size c =
    let a = c.args in
    let P = found_by a.spread a.question (read_of a.table.now).table a.horizon (rows_of a.rows.now a.count) (row_passage a.rows.now a.i) in
    says_short (Refused (number_asked a.spread a.question (read_of a.table.now).table (rows_of a.rows.now a.count) (row_passage a.rows.now a.i)) (num a.rows.now a.i 0)) a.list.now _ (c.refused-refusal.ensures ∙ ap (λ (m : ℕ). Refused m (num a.rows.now a.i 0)) c.number_of-number.ensures) P (c.count_met-size.result + 1) (omega (arith, c.count_met-size.ensures.0)) c.if-list-size.true refl refl

pub returns : goal.returns
returns c =
    let a = c.args in
    let P = found_by a.spread a.question (read_of a.table.now).table a.horizon (rows_of a.rows.now a.count) (row_passage a.rows.now a.i) in
    let k : c.count_met-size.result + 1 ≡ length P = omega (arith, c.count_met-size.ensures.0) in
    says_laid (Refused (number_asked a.spread a.question (read_of a.table.now).table (rows_of a.rows.now a.count) (row_passage a.rows.now a.i)) (num a.rows.now a.i 0)) a.list.now _ (c.refused-refusal.ensures ∙ ap (λ (m : ℕ). Refused m (num a.rows.now a.i 0)) c.number_of-number.ensures) P (c.count_met-size.result + 1) k (omega (arith, c.if-list-size.false)) _
    (c.put_met.ensures ∙ ap (λ (m : ℕ). each seven_of P ++ drop (m * 7) a.list.now) (sym k)) refl refl
