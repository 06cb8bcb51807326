-- `chart_words::put_printed` meets its contract. Assumes nothing.
use mathlib.Core.Path.{sym, ap₂, ◌∙◌}
use mathlib.Core.List.{List}
use Prim.Native.Nat.{ℕ}
use native.Mathlib.Omega.{arith}
use lib.ListN.{take}
use Rattle.rows.proofs.Placed.{known_bytes}
use Rattle.text.proofs.Appended.{counts}
use Rattle.chart_words.proofs.Printed.{printed_rows, printed_refusal}
use Rattle.chart_words.proofs.put_printed.Goals as goal

pub returns-in-Accepted : goal.returns-in-Accepted
returns-in-Accepted c =
    let e = c in
    let b = known_bytes e.args.table.now c.type_inv.table in record { prefix_len = counts c.timing_chart-c.result.size c.timing_chart-c.new.chart (omega (arith, c.timing_chart-c.ensures.3, c.timing_chart-c.auto.chart, e.requires)); out_after = ap₂ (λ (n : ℕ) (l : List ℕ). take n l) c.timing_chart-c.ensures.1 c.timing_chart-c.ensures.2 ∙ printed_rows e.args.table.now e.args.out.now b e.requires (sym c.timing_chart-c.ensures.0 ∙ c.in-Accepted.is) }

pub returns-in-Refused : goal.returns-in-Refused
returns-in-Refused c =
    let e = c in
    let b = known_bytes e.args.table.now c.type_inv.table in record { prefix_len = counts c.put_refusal.result c.put_refusal.new.out (omega (arith, c.put_refusal.ensures.1, c.put_refusal.auto.out, c.timing_chart-c.auto.chart, e.requires)); out_after = c.put_refusal.ensures.0.text ∙ printed_refusal e.args.table.now e.args.out.now b e.requires _ _ (sym c.timing_chart-c.ensures.0 ∙ c.in-Refused.is) }
