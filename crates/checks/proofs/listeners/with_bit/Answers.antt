-- `checks::listeners::with_bit` meets its contract. Assumes nothing.
use mathlib.Core.Path.{◌≡◌, ap, ◌∙◌}
use Prim.Native.Nat.{◌^◌, ◌*◌, ◌<◌, ◌%◌}
use native.Mathlib.Nat.{mod-eq_of_lt}
use native.Mathlib.Omega.{arith}
use lib.Bits.{bit_or}
use lib.Pow.{pow-lt}
use Rattle.checks.proofs.listeners.with_bit.Goals as goal

pub returns : goal.returns
returns c =
    let b : 1 * 2 ^ c.args.component < 256 = omega (arith, pow-lt {j = 8} c.requires) in
    let e : 1 * 2 ^ c.args.component % 256 ≡ 2 ^ c.args.component = mod-eq_of_lt b ∙ omega arith in
    ap (bit_or c.args.mask) e
