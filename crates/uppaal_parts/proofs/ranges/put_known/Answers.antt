-- `uppaal_parts::ranges::put_known` meets its contract. Assumes nothing.
use native.Mathlib.Omega.{arith}
use Rattle.blocks.proofs.Runs.{put_is, put_none}
use Rattle.uppaal_parts.proofs.Totals.{stays_within, stays_beneath, stays_beyond}
use Rattle.uppaal_parts.proofs.ranges.put_known.Goals as goal

pub returns-then-sum-lt16744448 : goal.returns-then-sum-lt16744448
returns-then-sum-lt16744448 c = (λ v. put_is (stays_beneath v c.args.sum (omega arith)) c.put_words.ensures, omega arith)

pub returns-then-sum-gt16809983 : goal.returns-then-sum-gt16809983
returns-then-sum-gt16809983 c = (λ v. put_is (stays_beyond v c.args.sum (omega arith)) c.put_words-then-sum-gt16809983.ensures, omega arith)

pub returns : goal.returns
returns c = (λ v. put_is (stays_within v c.args.sum (omega arith) (omega arith)) (put_none c.args.out.now c.args.at), omega arith)
