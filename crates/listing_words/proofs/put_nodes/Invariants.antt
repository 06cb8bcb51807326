-- `listing_words::put_nodes` meets its contract. Assumes nothing.
use Prim.Native.Nat.{◌+◌, ◌*◌, ◌-◌, ◌≤◌}
use Rattle.blocks.proofs.Runs.{Writing}
use Rattle.listing_text.specs.ListingText.{nodes_text}
use Rattle.listing_words.proofs.put_nodes.Given as goal

abbrev pub invariant-loop-node : goal.invariant-loop-node
invariant-loop-node l =
    (l.node ≤ l.nodes) × (l.nodes ≤ 255) × (l.next ≤ l.at + 5347737920 * l.node)
    × Writing l.initial.out l.at (nodes_text l.program 0 l.nodes) l.out l.next (nodes_text l.program l.node (l.nodes - l.node))
