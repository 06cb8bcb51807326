-- `uppaal_parts::highs_count` meets its contract. Assumes nothing.
use native.Mathlib.Omega.{arith}
use Prim.Native.Nat.{◌-◌, ◌*◌}
use lib.ListN.{drop}
use Rattle.uppaal_parts.proofs.Marked.{count_small, count_on, count_done}
use Rattle.uppaal_parts.proofs.highs_count.Goals as goal

pub overflow_add-n : goal.overflow_add-n
overflow_add-n c =
    let a = c.args in
    record { fits = omega (arith, c.high_count-n.ensures, count_on a.bytes.now c.loop-k.k a.count (omega arith), count_small a.count a.bytes.now) }

pub loop-k-preserved : goal.loop-k-preserved
loop-k-preserved c = omega (arith, c.high_count-n.ensures, count_on c.args.bytes.now c.loop-k.k c.args.count (omega arith))

pub returns : goal.returns
returns c =
    let a = c.args in
    let k = c.loop-k.k in
    let z = count_done (a.count - k) (drop (k * 5) a.bytes.now) (omega arith) in
    (omega (arith, z), omega (arith, z, count_small a.count a.bytes.now))
