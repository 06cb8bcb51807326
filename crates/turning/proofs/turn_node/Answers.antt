-- `turning::turn_node` meets its contract. Assumes nothing.
use mathlib.Core.Path.{ap₂, ◌∙◌}
use Prim.Native.Nat.{ℕ, ◌+◌, ◌-◌, ◌*◌}
use native.Mathlib.Omega.{arith}
use mathlib.Core.List.{List}
use lib.ListN.{set}
use Rattle.registers.proofs.Frames.{put_length}
use Rattle.turning.proofs.turn_node.Goals as goal

pub overflow_sub-sleeps : goal.overflow_sub-sleeps
overflow_sub-sleeps c = omega (arith, c.word-sleeps.ensures, c.requires.2)

pub put_word-requires-2 : goal.put_word-requires-2
put_word-requires-2 c = (omega (arith, put_length c.args.words.now c.args.c 25 c.args.row c.put_word.ensures, c.requires.0), c.requires.1, omega arith)

pub returns : goal.returns
returns c =
    let a = c.args in
    c.put_word-2.ensures ∙ ap₂ (λ (l : List ℕ) (x : ℕ). set l (a.c * 32 + 20) (x - a.fewer)) c.put_word.ensures c.word-sleeps.ensures
