-- `program_listing::list_nodes` meets its contract. Assumes nothing.
use mathlib.Core.Path.{◌≡◌, ap}
use mathlib.Core.List.{List}
use Prim.Native.Nat.{ℕ, ◌-◌, ◌≤◌}
use native.Mathlib.Omega.{arith}
use lib.ListN.{length, take, drop, length-take, length-drop}
use Rattle.model.specs.Program.{part_of}
use borrow.Author.Rules.{rules}
use Rattle.program_listing.proofs.list_nodes.Goals as goal

-- a part is no longer than the program
no_longer : (long start : ℕ) {part : List ℕ} (program : List ℕ) → part ≡ take long (drop start program) → length program ≤ 65536 → length part ≤ 65536
no_longer long start {part} program e h =
    let k : length part ≡ length (take long (drop start program)) = ap length e in
    omega (arith, k, length-take long (drop start program), length-drop start program)

pub list_node-requires : goal.list_node-requires
list_node-requires g c =
    let l = c.loop-node in
    let program = c.args.program.now in
    let range = part_of program l.node in
    (omega (arith, l.invariant.0, l.invariant.2), no_longer range.long range.start program c.part.ensures l.invariant.1)
