use mathlib.Core.Path.{◌≡◌, sym, ap, ◌∙◌}
use mathlib.Core.List.{List}
use Prim.Native.Nat.{◌+◌}
use native.Mathlib.Omega.{arith}
use Rattle.std.proofs.Common.{add-one}
use lib.ListN.{get_or, set}
use Rattle.passages.specs.declared.Passage.{Passage}
use Rattle.passages.specs.Copied.{blank, copied, copied_zero, copied_suc}
use Rattle.passages.proofs.fill.Goals as goal

pub loop-i-init : goal.loop-i-init
loop-i-init c = sym (copied_zero c.args.list.now c.args.items)

pub loop-i-preserved : goal.loop-i-preserved
loop-i-preserved c =
    let i = c.loop-i.i in
    let xs = c.args.items in
    let more : set c.loop-i.list i (get_or xs i blank) ≡ copied c.args.list.now xs (i + 1) =
    rw add-one (ap (λ (l : List Passage). set l i (get_or xs i blank)) c.loop-i.invariant ∙ sym (copied_suc c.args.list.now xs i)) in
    more
