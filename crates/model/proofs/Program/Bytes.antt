-- The program of a table in the limits are bytes: every number of it fits where it is written. Assumes nothing.
use mathlib.Core.List.{List, [], ◌∷◌, map}
use Prim.Native.Nat.{ℕ, zero, suc, ◌+◌, ◌*◌, ◌≤◌, ◌<◌}
use native.Mathlib.Omega.{arith}
use lib.ListN.{length, length-append}
use Rattle.model.specs.Lists.{All, empty, more, Bytes, each, from}
use Rattle.model.specs.Table.{TableHeader, header_of, Component, Read}
use Rattle.model.specs.Bytes.{unsigned}
use Rattle.model.specs.Limits.{Int16, ComponentIn, InLimits}
use Rattle.model.specs.Program.{Statement, sleep, set_to, add_to, done, send, listen, age, reset, enter, trial, low, high, data_low, data_high, keep, budget, take_edge, choose, quad, pair_quad, code, block_bytes, statements, location_block, edge_block, blocks, start_bytes, node_body, node_bytes, program_bytes}
use Rattle.model.proofs.Basics.Words.{all_join, each_bytes, be16_bytes, unsigned_small}
use Rattle.model.proofs.Program.Statement.{Fitting}
use Rattle.model.proofs.Program.Size.{four}
use Rattle.model.proofs.Program.Block.{Block, last, after}
use Rattle.model.proofs.Program.Inside.{location-block, edge-block}
use Rattle.model.proofs.Program.NodeSize.{blocks_length, node_small}

-- ## Statements and blocks

-- four bytes
quad_bytes : (op a k : ℕ) → op < 256 → a < 256 → k < 65536 → Bytes (quad op a k)
quad_bytes op a k o h i = more o (more h (be16_bytes k i))

-- an op with a small number and no more
short : (op a : ℕ) → op < 256 → a < 256 → Bytes (quad op a 0)
short op a o h = quad_bytes op a 0 o h (omega arith)

-- an op with a small number and a signed one
signed : (op a : ℕ) (z : _) → op < 256 → a < 256 → Int16 z → Bytes (quad op a (unsigned z))
signed op a z o h i = quad_bytes op a (unsigned z) o h (unsigned_small z i)

-- the bytes of a statement whose numbers fit
pub code_bytes : (s : Statement) → Fitting s → Bytes (code s)
unfolding code
code_bytes sleep h = short 0x00 0 (omega arith) (omega arith)
code_bytes (set_to v k) h = signed 0x01 v k (omega arith) h.0 h.1
code_bytes (add_to v k) h = signed 0x02 v k (omega arith) h.0 h.1
code_bytes done h = short 0x03 0 (omega arith) (omega arith)
code_bytes (send k) h = short 0x04 k (omega arith) h
code_bytes (listen qs) h =
    all_join (short 0x05 (length qs) (omega arith) h.0) (each_bytes pair_quad (λ q i. quad_bytes 0x06 q.channel q.location (omega arith) i.channel (omega (arith, i.location))) h.1)
code_bytes (age i) h = short 0x07 i (omega arith) h
code_bytes (reset i) h = short 0x08 i (omega arith) h
code_bytes (enter l) h = quad_bytes 0x09 0 l (omega arith) (omega arith) (omega (arith, h))
code_bytes trial h = short 0x0A 0 (omega arith) (omega arith)
code_bytes (low i k) h = quad_bytes 0x0B i k (omega arith) h.0 h.1
code_bytes (high i k) h = quad_bytes 0x0C i k (omega arith) h.0 h.1
code_bytes (data_low v k) h = signed 0x0D v k (omega arith) h.0 h.1
code_bytes (data_high v k) h = signed 0x0E v k (omega arith) h.0 h.1
code_bytes (keep e) h = quad_bytes 0x0F 0 e (omega arith) (omega arith) (omega (arith, h))
code_bytes (budget k) h = quad_bytes 0x12 0 k (omega arith) (omega arith) h
code_bytes take_edge h = short 0x10 0 (omega arith) (omega arith)
code_bytes choose h = short 0x11 0 (omega arith) (omega arith)

-- the bytes of a block
pub block-bytes : {b : List Statement} → Block b → Bytes (block_bytes b)
unfolding block_bytes each
block-bytes (last {s} h e) = all_join (code_bytes s h) empty
block-bytes (after {s} h b) = all_join (code_bytes s h.fits) (block-bytes b)

-- ## Nodes

-- what holds of each number holds of what is made of the numbers from k on
made : {A : Type 0} {P : A → Type 0} (f : ℕ → A) (k n : ℕ) → ((i : ℕ) → i < k + n → P (f i)) → All P (map f (from k n))
made f k zero h = empty
made f k (suc n) h = more (h k (omega arith)) (made f (suc k) n (λ i u. h i (omega arith)))

-- the starts of blocks that are not too long
starts_bytes : (at : ℕ) (bs : List (List Statement)) → at * 4 + length (each block_bytes bs) < 262144 → Bytes (start_bytes at bs)
unfolding start_bytes each
starts_bytes at [] h = empty
starts_bytes at (b ∷ bs) h =
    all_join (be16_bytes at (omega arith))
    (starts_bytes (at + statements b) bs (omega (arith, four b, length-append (block_bytes b) (each block_bytes bs))))

module _ (channels : TableHeader) (C : Component) (small : channels.channels ≤ 16) (h : ComponentIn channels C) where
  -- all blocks of a node are blocks
  pub blocks_are : All Block (blocks C)
  unfolding blocks
  blocks_are =
      all_join (made (location_block C) 0 (length C.locations) (λ i u. location-block channels C small h i (omega arith)))
      (made (edge_block C) 0 (length C.arcs) (λ i u. edge-block channels C small h i (omega arith)))

  -- the bytes of a node
  pub node-bytes : Bytes (node_bytes C)
  unfolding node_bytes node_body
  node-bytes =
      let size = node_small channels C h in
      let long = blocks_length channels C h in
      all_join (be16_bytes (2 + length (node_body C)) (omega arith))
      (more {x = length C.locations} (omega arith) (more {x = length C.arcs} (omega arith) (more {x = C.initial} (omega arith) (more {x = 0} (omega arith)
      (all_join (starts_bytes 0 (blocks C) (omega arith)) (each_bytes block_bytes (λ b k. block-bytes k) blocks_are))))))

-- ## The program

-- the program of a table in the limits, if it is as short as its two length bytes can tell
pub program-bytes : (t : Read) → InLimits t → length (program_bytes t) < 65536 → Bytes (program_bytes t)
unfolding program_bytes
program-bytes t h small =
    let R = each node_bytes t.table.components in
    more {x = t.version} (omega (arith, h.most_version)) (all_join (be16_bytes (6 + length R) (omega arith))
    (more {x = length t.table.components} (omega arith) (all_join (be16_bytes t.horizon (omega arith))
    (each_bytes node_bytes (λ C k. node-bytes (header_of t) C h.channels k) h.components))))
