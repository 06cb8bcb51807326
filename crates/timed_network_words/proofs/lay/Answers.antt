-- `timed_network_words::lay` meets its contract. Assumes nothing.
use mathlib.Core.Path.{refl}
use native.Mathlib.Omega.{arith}
use Rattle.timed_network_words.proofs.Laying.{too_long, fits}
use borrow.Author.Rules.{rules}
use Rattle.timed_network_words.proofs.lay.Goals as goal

pub returns-then-out-size : goal.returns-then-out-size
returns-then-out-size c =
    let a = c.args in
    too_long a.words.now a.out.now _ refl (omega arith) refl

pub returns : goal.returns
returns c =
    let a = c.args in
    fits a.words.now a.out.now _ refl (omega arith) refl c.copy.ensures
