-- `words::put_front` meets its contract. Assumes nothing.
use Rattle.std.proofs.Common.{◌-◌, length, arith}
use Rattle.words.proofs.Stores.{as_far}
use Rattle.words.proofs.put_front.Goals as goal

pub returns : goal.returns
returns c =
    let a = c.args in
    as_far a.out.now _ a.words.now a.at (length a.out.now - a.at) _ (omega arith) (omega arith) c.copy.ensures
