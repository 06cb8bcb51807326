-- `listing_text::lines::put_node_head` meets its contract. Assumes nothing.
use mathlib.Core.Path.{subst}
use Prim.Native.Nat.{ℕ, ◌≤◌, ◌<◌}
use native.Mathlib.Omega.{arith}
use lib.ListN.{length}
use Rattle.text.proofs.Appended.{same_words}
use Rattle.text.proofs.Appended.{next}
use Rattle.listing_text.specs.ListingText.{node_head}
use Rattle.listing_text.proofs.Heads.{node_short, node_startless, node_whole}
use Rattle.listing_text.proofs.lines.put_node_head.Goals as goal

pub returns-then-part-lt6 : goal.returns-then-part-lt6
returns-then-part-lt6 c = (same_words (node_head c.args.node c.args.part.now) (next c.put_field-colon.ensures.0 c.put.ensures.0) (node_short c.args.node c.args.part.now c.if-part-lt6.true), omega (arith, c.put_field-colon.ensures.1, c.put.ensures.1))

pub returns-then-part-code_at : goal.returns-then-part-code_at
returns-then-part-code_at c = (same_words (node_head c.args.node c.args.part.now) (next (next c.put_field-colon.ensures.0 c.put_counts-last.ensures.0) c.put-then-part-code_at.ensures.0) (node_startless c.args.node c.args.part.now c.if-part-lt6.false (subst (λ (k : ℕ). length c.args.part.now < k) c.code_at.ensures.0 c.if-part-code_at.true)), omega (arith, c.put_field-colon.ensures.1, c.put_counts-last.ensures.1, c.put-then-part-code_at.ensures.1))

pub returns : goal.returns
returns c = (same_words (node_head c.args.node c.args.part.now) (next c.put_field-colon.ensures.0 c.put_counts-last.ensures.0) (node_whole c.args.node c.args.part.now c.if-part-lt6.false (subst (λ (k : ℕ). k ≤ length c.args.part.now) c.code_at.ensures.0 c.if-part-code_at.false)), omega (arith, c.put_field-colon.ensures.1, c.put_counts-last.ensures.1))
