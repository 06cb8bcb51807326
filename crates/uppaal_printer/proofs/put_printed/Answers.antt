-- `uppaal_printer::put_printed` meets its contract. Assumes nothing.
use mathlib.Core.Path.{◌≡◌, sym, ap, ap₂, ◌∙◌}
use mathlib.Core.List.{List}
use Prim.Native.Nat.{ℕ}
use native.Mathlib.Omega.{arith}
use borrow.Author.Rules.{rules}
use lib.ListN.{take}
use Rattle.text.proofs.Appended.{counts}
use Rattle.uppaal_printer.proofs.Printed.{size_fits, printed-text, printed_refusal}
use Rattle.uppaal_printer.proofs.put_printed.Goals as goal

pub returns-in-Accepted : goal.returns-in-Accepted
returns-in-Accepted c =
    let e = c in record { prefix_len = counts c.uppaal-c.result.size c.uppaal-c.new.text (omega (arith, c.uppaal-c.ensures.1, size_fits e.args.table.now e.args.out.now, c.uppaal-c.auto.text)); out_after = ap₂ (λ (n : ℕ) (l : List ℕ). take n l) c.uppaal-c.ensures.1 c.uppaal-c.ensures.2 ∙ printed-text e.args.table.now e.args.out.now (sym c.uppaal-c.ensures.0 ∙ c.in-Accepted.is) }

pub returns-in-Refused : goal.returns-in-Refused
returns-in-Refused c =
    let e = c in record { prefix_len = counts c.put_refusal.result c.put_refusal.new.out (omega (arith, c.put_refusal.ensures.1, c.put_refusal.auto.out, c.uppaal-c.auto.text, e.requires)); out_after = c.put_refusal.ensures.0.text ∙ printed_refusal e.args.table.now e.args.out.now _ _ (sym c.uppaal-c.ensures.0 ∙ c.in-Refused.is) }
