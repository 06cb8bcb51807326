-- The program from its nodes' parts. Assumes nothing.
use mathlib.Core.Path.{◌≡◌, refl, sym, ap, ◌∙◌}
use mathlib.Core.Bool.{Bool}
use mathlib.Core.List.{List, [], ◌++◌}
use Prim.Native.Nat.{ℕ, ◌+◌, ◌-◌, ◌≤◌, ◌<◌}
use native.Mathlib.Numerals.{add-one}
use native.Mathlib.Omega.{arith}
use lib.ListN.{length, take, drop, length-append, drop_of_length-le}
use lib.Seq.{sets-eq, drop-cons}
use Rattle.model.specs.Lists.{Bytes, each}
use Rattle.model.specs.Table.{Read, no_component, size}
use Rattle.model.specs.Reader.{byte, word}
use Rattle.model.specs.Places.{budgeted, start_of, Valid, read_of, component_in}
use Rattle.model.specs.Program.{node_bytes, program_bytes}
use Rattle.model.proofs.Reader.Located.{valid_located}
use Rattle.model.proofs.Program.Size.{program_fits}
use Rattle.blocks.specs.Put.{Room, Put}
use Rattle.translator.specs.Front.{front_component, Whole}
use Rattle.translator.specs.Laid.{program_head}
use Rattle.blocks.proofs.Runs.{Writing, left_is, put_is, put_on, room_is, room_left, room_first, put_long}
use Rattle.translator.proofs.Laying.{put_before}
use Rattle.translator.proofs.Standing.{valid_limits, valid_count, node_is, node_whole, node_small}

-- the parts of the nodes from number c on
abbrev pub nodes_from : List ℕ → ℕ → List ℕ
nodes_from bs c = each node_bytes (drop c (read_of bs).table.components)

program_split : (t : Read) → program_bytes t ≡ program_head t.version (length (program_bytes t)) (size t.table) t.horizon ++ each node_bytes t.table.components
unfolding program_bytes
program_split t =
    let R = each node_bytes t.table.components in
    let e : 6 + length R ≡ length (program_bytes t) = omega arith in
    ap (λ (n : ℕ). program_head t.version n (size t.table) t.horizon ++ R) e

pub program_long : (t : Read) → length (program_bytes t) ≡ 6 + length (each node_bytes t.table.components)
program_long t = ap length (program_split t) ∙ omega arith

module _ (bs : List ℕ) (b : Bytes bs) (v : Valid bs) where
  nodes_ahead : (c : ℕ) → c < byte bs 3 → nodes_from bs c ≡ node_bytes (component_in bs c) ++ nodes_from bs (c + 1)
  unfolding each
  nodes_ahead c h = rw add-one (ap (each node_bytes) (drop-cons (read_of bs).table.components c no_component (omega (arith, valid_count bs b v))))

  pub nodes_gone : (c : ℕ) → byte bs 3 ≤ c → nodes_from bs c ≡ []
  unfolding each
  nodes_gone c h =
      let k : length (read_of bs).table.components ≤ c = omega (arith, valid_count bs b v) in
      ap (each node_bytes) (drop_of_length-le (read_of bs).table.components k)

  pub program_most : length (program_bytes (read_of bs)) ≤ 24576
  program_most = program_fits (read_of bs) (valid_limits bs b v)

  -- ## The loops over the nodes

  module _ (c : ℕ) (h : c < byte bs 3) (start : ℕ) (e : start ≡ start_of bs c) (w : Bool) (same : w ≡ budgeted bs) where
    -- the part of the node ahead, from where its component stands
    ahead : nodes_from bs c ≡ node_bytes (front_component w (take (length bs - start) (drop start bs))) ++ nodes_from bs (c + 1)
    ahead = rw (node_is bs b v c h start e w same) (nodes_ahead c h)

    -- a turn of the count
    pub node_counted : (long all r : ℕ) → long + length (nodes_from bs c) ≡ all → r ≡ length (node_bytes (front_component w (take (length bs - start) (drop start bs))))
        → (long + r ≤ all) × (long + r + length (nodes_from bs (c + 1)) ≡ all)
    node_counted long all r q f =
        let l = ap length ahead ∙ length-append (node_bytes (front_component w (take (length bs - start) (drop start bs)))) (nodes_from bs (c + 1)) in
        (omega arith, omega arith)

    module _ {o₀ all o : List ℕ} {at₀ at : ℕ} (x : Writing o₀ at₀ all o at (nodes_from bs c)) where
      -- what the node's part asks for
      pub node_asked : Room o₀ at₀ all
          → Whole w (take (length bs - start) (drop start bs)) × Room o at (node_bytes (front_component w (take (length bs - start) (drop start bs))))
          × (length (node_bytes (front_component w (take (length bs - start) (drop start bs)))) ≤ 24576)
      node_asked r = (
        node_whole bs b v c h start e w same,
        room_first o at (node_bytes (front_component w (take (length bs - start) (drop start bs)))) (nodes_from bs (c + 1)) (room_is o at ahead (room_left x r)),
        node_small bs b v c h start e w same,
      )

      -- a turn
      pub node_on : {p : List ℕ} {n : ℕ} → Put o at (node_bytes (front_component w (take (length bs - start) (drop start bs)))) n p → Writing o₀ at₀ all p n (nodes_from bs (c + 1))
      node_on k = put_on (nodes_from bs (c + 1)) (left_is ahead x) k

  -- ## The whole

  module _ (o : List ℕ) (room : length (program_bytes (read_of bs)) ≤ length o) where
    pub nodes_room : Room o 6 (each node_bytes (read_of bs).table.components)
    nodes_room = omega (arith, program_long (read_of bs))

    module _ {o₁ : List ℕ} {end : ℕ} (x : Put o 6 (each node_bytes (read_of bs).table.components) end o₁) where
      pub ends : end ≡ length (program_bytes (read_of bs))
      ends = x.next ∙ sym (program_long (read_of bs))

      pub head_fits : 6 ≤ length o₁
      head_fits = omega (arith, put_long x, program_long (read_of bs))

      pub program_put : (horizon : ℕ) → horizon ≡ word bs 5 → {o₂ : List ℕ} {k : ℕ} → Put o₁ 0 (program_head (byte bs 0) end (byte bs 3) horizon) k o₂
          → o₂ ≡ program_bytes (read_of bs) ++ drop (length (program_bytes (read_of bs))) o
      program_put horizon g y =
          let d : program_head (byte bs 0) end (byte bs 3) horizon ++ each node_bytes (read_of bs).table.components ≡ program_bytes (read_of bs) =
          rw (ends, (valid_located bs b v).version, valid_count bs b v, g, (valid_located bs b v).horizon) (sym (program_split (read_of bs))) in
          let q = put_is d (put_before x y refl) in
          let z : 0 + length (program_bytes (read_of bs)) ≡ length (program_bytes (read_of bs)) = omega arith in
          q.same ∙ sets-eq (program_bytes (read_of bs)) o 0 (omega arith) ∙ ap (λ (n : ℕ). program_bytes (read_of bs) ++ drop n o) z
