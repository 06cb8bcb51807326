-- `table::bands_fine` meets its contract. Assumes nothing.
use mathlib.Core.Path.{◌≡◌, sym, ◌∙◌}
use Prim.Native.Nat.{ℕ, ◌-◌}
use native.Mathlib.Omega.{arith}
use lib.Dec.{leb}
use lib.ListN.{take, drop}
use Rattle.std.proofs.lemmas.Iterator.{YieldsList-from_slice}
use Rattle.std.proofs.lemmas.Iterator.Search.{all_from_yields_List}
use Rattle.model.specs.Lists.{all}
use Rattle.model.specs.Reader.{bands_fine}
use Rattle.table.proofs.Whole.{all_same, bands_are}
use borrow.Author.Rules.{rules}
use borrow.Author.Tests.{tests}
use Rattle.table.proofs.bands_fine.Goals as goal

pub returns : goal.returns
returns c =
    let s = c.args.table.now in
    let e = c.body_start-from.ensures.0 in
    let bands = take (c.body_start-from.result - 7) (drop 7 s) in
    let fine = λ (band : ℕ). leb band 3 in
    let same : all fine bands ≡ bands_fine s = rw e (sym (bands_are s (omega (arith, e, c.if-table-from.false)))) in
    all_from_yields_List fine _ _ _ c.all.ensures.ran (YieldsList-from_slice bands c.iter.ensures.rest) (λ x b q k. search (rules, tests)) ∙ all_same fine bands ∙ same
