-- `listing_text::lines::put_behind` meets its contract. Assumes nothing.
use mathlib.Core.Path.{ap}
use Prim.Native.Nat.{ℕ, ◌-◌, ◌%◌}
use native.Mathlib.Omega.{arith}
use lib.ListN.{length}
use Rattle.text.proofs.Appended.{nothing, same_words}
use Rattle.text.proofs.Appended.{next}
use Rattle.listing_text.specs.ListingText.{behind}
use Rattle.listing_text.proofs.Heads.{none_behind, some_behind}
use Rattle.listing_text.proofs.lines.put_behind.Goals as goal

pub returns-then-n-eq0 : goal.returns-then-n-eq0
returns-then-n-eq0 c = (same_words (behind c.args.part.now) (nothing c.args.out.now 0) (none_behind c.args.part.now ((length c.args.part.now - c.code_at-code.result) % 4) (ap (λ (k : ℕ). (length c.args.part.now - k) % 4) c.code_at-code.ensures.0) c.if-n-eq0.true), omega arith)

pub returns : goal.returns
returns c = (same_words (behind c.args.part.now) (next c.put_field-last.ensures.0 c.put.ensures.0) (some_behind c.args.part.now ((length c.args.part.now - c.code_at-code.result) % 4) (ap (λ (k : ℕ). (length c.args.part.now - k) % 4) c.code_at-code.ensures.0) c.if-n-eq0.false), omega (arith, c.put_field-last.ensures.1, c.put.ensures.1))
