-- `listing_words::lines::put_line` meets its contract. Assumes nothing.
use native.Mathlib.Numerals.{unary_clauses}
use native.Mathlib.Omega.{arith}
use lib.ListN.{length-take}
use Rattle.listing_words.proofs.lines.put_line.Goals as goal

pub returns : goal.returns
returns c =
    let a = c.args in
    let p = c.requires in
    let w = simp unary_clauses at c.put_words.ensures in
    (w, omega (arith, w.next, length-take a.n a.line.now, p.1))
