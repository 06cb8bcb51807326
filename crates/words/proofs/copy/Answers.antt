-- `words::copy` meets its contract. Assumes nothing.
use mathlib.Core.Path.{◌≡◌}
use native.Mathlib.Omega.{arith}
use lib.ListN.{length}
use Rattle.blocks.proofs.Runs.{put_long}
use Rattle.words.proofs.Stores.{none_copied, one_copied, all_copied}
use Rattle.words.proofs.copy.Goals as goal

pub loop-i-init : goal.loop-i-init
loop-i-init c = none_copied c.args.out.now c.args.at c.args.words.now

pub bounds-out-at : goal.bounds-out-at
bounds-out-at c = omega (arith, put_long c.loop-i.invariant)

pub loop-i-preserved : goal.loop-i-preserved
loop-i-preserved c =
    let a = c.args in
    let l = c.loop-i in
    one_copied a.out.now l.out a.words.now a.at l.i (omega arith) l.invariant

pub shape_of-out : goal.shape_of-out
shape_of-out c = put_long c.loop-i.invariant

pub returns : goal.returns
returns c =
    let a = c.args in
    let l = c.loop-i in
    let all : l.i ≡ length a.words.now = omega arith in
    all_copied all l.invariant
