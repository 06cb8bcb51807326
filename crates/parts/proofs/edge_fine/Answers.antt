-- `parts::edge_fine` meets its contract. Assumes nothing.
use mathlib.Core.Path.{◌≡◌}
use Prim.Native.Nat.{min}
use native.Mathlib.Omega.{arith}
use Rattle.parts.proofs.edge_fine.Goals as goal

pub returns : goal.returns
returns c =
    let few : min c.args.sizes.clocks 4 ≡ c.args.sizes.clocks = omega (arith, c.requires.1) in
    rw (c.both-3.ensures, c.counts_fine.ensures, c.both-2.ensures, c.both-masked.ensures, c.mask_limit.ensures, few, c.both-ends.ensures, c.both.ensures)
