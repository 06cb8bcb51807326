-- An addition at which a node stands, read from its part as it is lent. Assumes nothing.
use mathlib.Core.Path.{◌≡◌, sym, ap, ap₂, ◌∙◌}
use mathlib.Core.Bool.{Bool}
use mathlib.Core.List.{List}
use Prim.Native.Nat.{ℕ, ◌+◌}
use lib.IntN.{ℤ, ◌+ℤ◌}
use lib.ListN.{take, drop}
use lib.Seq.{get_or-drop}
use Rattle.model.specs.Reader.{byte, word, complement}
use Rattle.model.specs.Window.{value_at, in_range}
use Rattle.stand.specs.Stands.{add_fits}
use Rattle.registers.specs.Words.{word_in, values_in, node_in, part_in, held_in}
use Rattle.machine.proofs.Lent.{lent, lent_is}

pub adds_there : (program l : List ℕ) (v : List ℤ) (c base size at : ℕ) (x : ℤ) (b : Bool) → base ≡ word_in l c 21 → size ≡ word_in l c 22 → at ≡ word_in l c 0
    → x ≡ value_at (take (held_in l c).variables (values_in v c)) (byte (lent program base size) (at + 1))
    → b ≡ in_range (x +ℤ complement (word (drop at (lent program base size)) 2)) → b ≡ add_fits (part_in program l c) (held_in l c) (node_in l v c)
adds_there program l v c base size at x b e f g h k =
    let bytes : lent program base size ≡ part_in program l c = lent_is program l c base size e f in
    let front : drop at (lent program base size) ≡ drop (word_in l c 0) (part_in program l c) = ap₂ drop g bytes in
    let second : byte (lent program base size) (at + 1) ≡ byte (drop (word_in l c 0) (part_in program l c)) 1 =
    sym (get_or-drop at (lent program base size) 1 0) ∙ ap (λ (y : List ℕ). byte y 1) front in
    k
    ∙ ap₂ (λ (y : ℤ) (z : List ℕ). in_range (y +ℤ complement (word z 2)))
    (h ∙ ap (value_at (take (held_in l c).variables (values_in v c))) second)
    front
