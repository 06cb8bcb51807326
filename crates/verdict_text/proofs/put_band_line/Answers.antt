-- `verdict_text::put_band_line` meets its contract. Assumes nothing.
use mathlib.Core.Path.{◌≡◌, sym, ◌∙◌}
use mathlib.Core.Bool.{true, false}
use Prim.Native.Nat.{◌+◌}
use native.Mathlib.Omega.{arith}
use borrow.Author.Tests.{not-true, not-false}
use Rattle.text.proofs.Appended.{next, nothing}
use Rattle.verdict_text.specs.VerdictText.{band_told}
use Rattle.verdict_text.proofs.Meetings.{told_inside}
use Rattle.verdict_text.proofs.put_band_line.Goals as goal

pub returns-then-not-tells_band : goal.returns-then-not-tells_band
returns-then-not-tells_band c =
    let a = c.args in
    let e : band_told a.table.now a.number a.channel ≡ false = sym c.tells_band.ensures ∙ not-true c.tells_band.result c.if-not-tells_band.true-raw in
    rw e (nothing a.out.now a.at, omega arith)

pub bounds-table-channel : goal.bounds-table-channel
bounds-table-channel c =
    let a = c.args in
    told_inside a.table.now a.number a.channel (sym c.tells_band.ensures ∙ not-false c.tells_band.result c.if-not-tells_band.false-raw)

pub overflow_cast-band-2 : goal.overflow_cast-band-2
overflow_cast-band-2 c =
    let a = c.args in
    omega (arith, c.type_inv.table (7 + a.channel))

pub returns : goal.returns
returns c =
    let b = c in
    let a = b.args in
    let e : band_told a.table.now a.number a.channel ≡ true = sym b.tells_band.ensures ∙ not-false b.tells_band.result b.if-not-tells_band.false-raw in
    rw e (next c.put_field-last.ensures.0 c.put.ensures.0, omega (arith, c.put_field-last.ensures.1, c.put.ensures.1))
