-- A node's part as the code lends it: the bytes of the program between two places. Assumes nothing.
use mathlib.Core.Path.{◌≡◌}
use mathlib.Core.List.{List}
use Prim.Native.Nat.{ℕ, ◌+◌, ◌-◌, ◌≤◌}
use native.Mathlib.Omega.{arith}
use lib.ListN.{length, take, drop, length-take}
use Rattle.registers.specs.Words.{word_in, part_in}

abbrev pub lent : List ℕ → ℕ → ℕ → List ℕ
lent program base size = take (base + size - base) (drop base program)

pub lent_is : (program l : List ℕ) (c base size : ℕ) → base ≡ word_in l c 21 → size ≡ word_in l c 22 → lent program base size ≡ part_in program l c
lent_is program l c base size b s =
    let e : base + size - base ≡ word_in l c 22 = omega arith in
    rw (e, b)

pub lent_short : (program : List ℕ) (base size : ℕ) → size ≤ 65535 → length (lent program base size) ≤ 65535
lent_short program base size h = simp length-take (omega arith)
