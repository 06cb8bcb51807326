-- `words::put_decimal` meets its contract. Assumes nothing.
use mathlib.Core.Path.{sym}
use Prim.Native.Nat.{◌+◌}
use native.Mathlib.Omega.{arith}
use Rattle.blocks.proofs.Runs.{put_is, put_long}
use Rattle.words.proofs.Numerals.{decimal_one, none_made, not_first, one_made, still_ten, short_made, all_made}
use borrow.Author.Rules.{rules}
use Rattle.words.proofs.put_decimal.Goals as goal

pub overflow_add-n : goal.overflow_add-n
overflow_add-n c = record { fits = omega (arith, c.if-n-lt10.true) }

pub put_byte-requires : goal.put_byte-requires
put_byte-requires c = omega (arith, c.requires)

pub returns-then-n-lt10 : goal.returns-then-n-lt10
returns-then-n-lt10 c = put_is (sym (decimal_one c.args.n (omega arith))) c.put_byte.ensures

pub loop-rest-init : goal.loop-rest-init
loop-rest-init c = (none_made _ c.args.n (search rules) (omega arith), omega arith)

pub bounds-digits-first : goal.bounds-digits-first
bounds-digits-first c = omega (arith, c.loop-rest.invariant.0.few)

pub overflow_sub-first : goal.overflow_sub-first
overflow_sub-first c = omega (arith, not_first c.loop-rest.invariant.0 c.loop-rest-test.true)

pub loop-rest-smaller : goal.loop-rest-smaller
loop-rest-smaller c = omega (arith, c.loop-rest-test.true)

pub loop-rest-preserved : goal.loop-rest-preserved
loop-rest-preserved c = (one_made c.loop-rest.invariant.0 c.loop-rest-test.true, c.loop-rest.invariant.1)

pub bounds-digits-first-2 : goal.bounds-digits-first-2
bounds-digits-first-2 c = omega (arith, c.loop-rest.invariant.0.few)

pub slice_bounds-put_words-count : goal.slice_bounds-put_words-count
slice_bounds-put_words-count c = omega (arith, c.loop-rest.invariant.0.few)

pub slice_bounds-put_words-start : goal.slice_bounds-put_words-start
slice_bounds-put_words-start c = omega (arith, c.loop-rest.invariant.0.few)

pub slice_bounds-put_words-end : goal.slice_bounds-put_words-end
slice_bounds-put_words-end c = still_ten c.loop-rest.invariant.0 (48 + c.loop-rest.rest)

pub put_words-requires : goal.put_words-requires
put_words-requires c = omega (arith, c.loop-rest.invariant.1, short_made c.loop-rest.invariant.0 (48 + c.loop-rest.rest))

pub shape_of-out : goal.shape_of-out
shape_of-out c = put_long c.put_words.ensures

pub returns : goal.returns
returns c = put_is (all_made c.loop-rest.invariant.0 (omega (arith, c.loop-rest-test.false))) c.put_words.ensures
