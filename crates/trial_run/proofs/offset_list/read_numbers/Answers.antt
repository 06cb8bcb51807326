-- `trial_run::offset_list::read_numbers` meets its contract. Assumes nothing.
use mathlib.Core.Path.{refl}
use Prim.Native.Nat.{◌+◌, ◌<◌}
use native.Mathlib.Omega.{arith}
use lib.ListN.{length, set, length-set}
use Rattle.trial_run.specs.OffsetList.{parts_of, numbers_of}
use Rattle.trial_run.proofs.Parts.{split_from, number_from, length_from, none_read, ill_formed, last_number, more_numbers, holds, holds_none, holds_few}
use Rattle.trial_run.proofs.offset_list.read_numbers.Goals as goal

pub loop-n-init : goal.loop-n-init
loop-n-init c =
    let s = c in
    (omega arith, omega arith, s.requires, refl, none_read (numbers_of (parts_of s.args.word.now)))

pub returns-in_err-list : goal.returns-in_err-list
returns-in_err-list c =
    let word = c.args.word.now in
    let l = c.loop-n in
    let part = number_from word l.at c.first_comma.result c.number_of.result c.number_of.ensures c.in_err-list.was in
    rw c.from_residual.ensures (holds_none word l.list (ill_formed word l.list l.at l.n c.first_comma.result (split_from word l.at c.first_comma.result c.first_comma.ensures.1) l.invariant.4 part))

pub returns-then-end-word : goal.returns-then-end-word
returns-then-end-word c =
    let word = c.args.word.now in
    let l = c.loop-n in
    let part = number_from word l.at c.first_comma.result c.number_of.result c.number_of.ensures c.in_ok-list.was in
    let room : l.n < length l.list = omega (arith, l.invariant.2, l.invariant.3) in
    let read = last_number word l.list l.at l.n c.first_comma.result (split_from word l.at c.first_comma.result c.first_comma.ensures.1) l.invariant.4 c.in_ok-list.field-0 part room c.if-end-word.true in
    holds word (set l.list l.n c.in_ok-list.field-0) (l.n + 1) (omega arith) (rw length-set (omega arith)) read

pub loop-n-preserved : goal.loop-n-preserved
loop-n-preserved c =
    let word = c.args.word.now in
    let l = c.loop-n in
    let part = number_from word l.at c.first_comma.result c.number_of.result c.number_of.ensures c.in_ok-list.was in
    let room : l.n < length l.list = omega (arith, l.invariant.2, l.invariant.3) in
    let within : l.at + c.first_comma.result < length word = omega (arith, c.first_comma.ensures.0, length_from word l.at, c.if-end-word.false) in
    let read = more_numbers word l.list l.at l.n c.first_comma.result (split_from word l.at c.first_comma.result c.first_comma.ensures.1) l.invariant.4 c.in_ok-list.field-0 part room within in
    (omega arith, omega arith, l.invariant.2, rw length-set l.invariant.3, read)

pub returns : goal.returns
returns c =
    let l = c.loop-n in
    holds_few c.args.word.now l.list l.at l.n (omega arith) (omega (arith, l.invariant.2, l.invariant.3)) l.invariant.4
