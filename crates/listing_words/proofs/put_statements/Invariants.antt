-- `listing_words::put_statements` meets its contract. Assumes nothing.
use Prim.Native.Nat.{◌+◌, ◌*◌, ◌-◌, ◌≤◌, ◌<◌}
use Rattle.blocks.proofs.Runs.{Writing}
use Rattle.listing_text.specs.ListingText.{statements_text}
use Rattle.listing_words.proofs.put_statements.Given as goal

abbrev pub invariant-loop-place : goal.invariant-loop-place
invariant-loop-place l =
    (l.start ≤ l.place) × (l.end < 65536) × (l.at ≤ 900000000000000000) × (l.next ≤ l.at + 160 * (l.place - l.start)) × (160 * (l.place - l.start) ≤ 10485600)
    × Writing l.initial.out l.at (statements_text l.part l.start (l.end - l.start)) l.out l.next (statements_text l.part l.place (l.end - l.place))
