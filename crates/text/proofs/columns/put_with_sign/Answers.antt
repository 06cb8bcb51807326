-- `text::columns::put_with_sign` meets its contract. Assumes nothing.
use mathlib.Core.Path.{◌≡◌, sym, ap, ◌∙◌}
use mathlib.Core.List.{List, ◌++◌}
use Prim.Native.Nat.{ℕ, ◌+◌, ◌-◌}
use native.Mathlib.Omega.{arith}
use lib.ListN.{length, length-append, replicate}
use Rattle.text.specs.Words.{decimal}
use Rattle.text.specs.Columns.{column}
use Rattle.text.proofs.Appended.{next, same_words}
use Rattle.text.proofs.Numerals.{written}
use Rattle.text.proofs.Blanks.{in_column}
use Rattle.text.proofs.columns.put_with_sign.Goals as goal

pub overflow_add-sign : goal.overflow_add-sign
overflow_add-sign c =
    let few = written c.args.n c.from.ensures (omega (arith, c.ranges.n.fits)) c.decimal-k.ensures.len in
    omega (arith, few.0)

pub put-requires : goal.put-requires
put-requires c =
    let few = written c.args.n c.from.ensures (omega (arith, c.ranges.n.fits)) c.decimal-k.ensures.len in
    omega (arith, few.0)

pub returns : goal.returns
returns c =
    let a = c.args in
    let sign = a.sign.now in
    let d = c.decimal-k in
    let few = written a.n c.from.ensures (omega (arith, c.ranges.n.fits)) d.ensures.len in
    let words = d.ensures.digits ∙ few.1 in
    let long : length (sign ++ decimal a.n) ≡ length sign + d.result =
    length-append sign (decimal a.n) ∙ ap (λ (k : ℕ). length sign + k) (ap length (sym words) ∙ sym d.ensures.in_bounds.1) in
    let same = ap (λ (w : List ℕ). replicate (a.width - (length sign + d.result)) 32 ++ (sign ++ w)) words ∙ in_column a.width (length sign + d.result) (sign ++ decimal a.n) long in
    (same_words (column a.width (sign ++ decimal a.n)) (next c.put_padding-first.ensures.0 (next c.put-number.ensures.0 c.put.ensures.0)) same, omega (arith, few.0))
