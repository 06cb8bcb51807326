-- `machine::put_ticks` meets its contract. Assumes nothing.
use mathlib.Core.Path.{ap, ◌∙◌}
use Prim.Native.Nat.{ℕ, ◌+◌, ◌*◌}
use mathlib.Core.List.{List}
use lib.ListN.{set}
use Rattle.machine.proofs.put_ticks.Goals as goal

pub returns : goal.returns
returns c =
    let a = c.args in
    rw (← c.word-wake.ensures)
    (c.put_word-2.ensures ∙ ap (λ (x : List ℕ). set x (a.c * 32 + 27) (a.last + c.word-wake.result)) c.put_word.ensures)
