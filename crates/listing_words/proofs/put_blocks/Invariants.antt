-- `listing_words::put_blocks` meets its contract. Assumes nothing.
use Prim.Native.Nat.{◌+◌, ◌*◌, ◌-◌, ◌≤◌}
use Rattle.blocks.proofs.Runs.{Writing}
use Rattle.listing_text.specs.ListingText.{blocks_of, blocks_text}
use Rattle.listing_words.proofs.put_blocks.Given as goal

abbrev pub invariant-loop-block : goal.invariant-loop-block
invariant-loop-block l =
    (l.block ≤ l.blocks) × (l.blocks ≤ 510) × (l.at ≤ 700000000000000000) × (l.next ≤ l.at + 10485760 * l.block)
    × Writing l.initial.out l.at (blocks_text l.part 0 (blocks_of l.part)) l.out l.next (blocks_text l.part l.block (l.blocks - l.block))
