-- A node whose words and variables are what they were is what it was. Assumes nothing.
use mathlib.Core.Path.{◌≡◌, sym, ap, ap₂, ◌∙◌}
use mathlib.Core.List.{List}
use Prim.Native.Nat.{ℕ, ◌+◌, ◌≤◌, ◌<◌}
use native.Mathlib.Omega.{arith}
use lib.IntN.{ℤ}
use Rattle.model.specs.Machine
use Rattle.model.specs.Run.{stand_of}
use Rattle.node.specs.declared.Node.{Node}
use Rattle.node.specs.declared.Counts.{Counts}
use Rattle.node.specs.Views.{node_of}
use Rattle.node.proofs.Held.{wider}
use Rattle.registers.specs.Words.{word_in, SameNode}
use Rattle.registers.proofs.Frames as reg
use Rattle.stand.specs.Stands.{due_tick, last_tick}
use Rattle.rows.specs.Rows.{rows_of}
use Rattle.machine.specs.Running.{ready_at, view_in, NodeStands}

-- a node of equal parts
alike : {p p' : List ℕ} {k k' : Counts} {r r' : Node} → p' ≡ p → k' ≡ k → r' ≡ r → node_of p' k' r' ≡ node_of p k r
alike {p} {p'} {k} {k'} {r} {r'} e f g =
    ap (λ (x : List ℕ). node_of x k' r') e ∙ (ap (λ (x : Counts). node_of p x r') f ∙ ap (λ (x : Node). node_of p k x) g)

module _ {l : List ℕ} {v : List ℤ} {l' : List ℕ} {v' : List ℤ} {i : ℕ} (s : SameNode l v l' v' i) where
  word : (k : ℕ) → k < 32 → word_in l' i k ≡ word_in l i k
  word = s.words

  -- the node, in the words of the definitions
  pub same_view : (program : List ℕ) → view_in program l' v' i ≡ view_in program l v i
  same_view program = alike (reg.same_part s program) (reg.same_held s) (reg.same_node s)

  -- what stands beside its registers
  pub same_stands : {program rows : List ℕ} {n m : ℕ} → NodeStands program rows n l v i m → NodeStands program rows n l' v' i m
  same_stands {program} {rows} {n} a =
      record {
        inside = rw (word 21 (omega arith), word 22 (omega arith)) a.inside;
        short = rw (word 22 (omega arith)) a.short;
        part = reg.same_part s program ∙ a.part;
        held = rw (reg.same_held s) a.held;
        within = rw (reg.same_node s) a.within;
        row = rw (word 20 (omega arith), word 25 (omega arith)) a.row;
        wakes = rw (word 28 (omega arith)) a.wakes;
        due =
            word 26 (omega arith)
            ∙ (a.due
            ∙ sym (ap₂ (λ (q : Rattle.model.specs.Machine.Node) (k : ℕ). due_tick q (stand_of q) + k) (same_view program) (word 28 (omega arith))));
        last =
            word 27 (omega arith)
            ∙ (a.last
            ∙ sym
            (ap₂ (λ (x k : ℕ). x + k)
            (ap₂ (λ (q : Rattle.model.specs.Machine.Node) (k : ℕ). last_tick q (ready_at (rows_of rows n) k) (stand_of q)) (same_view program) (word 25 (omega arith)))
            (word 28 (omega arith))));
      }

-- ## A higher bound

pub stands_wider : {program rows : List ℕ} {n : ℕ} {l : List ℕ} {v : List ℤ} {c : ℕ} (m m' : ℕ) → m ≤ m' → NodeStands program rows n l v c m → NodeStands program rows n l v c m'
stands_wider m m' h a =
    record { inside = a.inside; short = a.short; part = a.part; held = a.held; within = wider m m' h a.within; row = a.row; wakes = a.wakes; due = a.due; last = a.last }
