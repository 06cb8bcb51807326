-- What is known of a node once its words have been read. Assumes nothing.
use mathlib.Core.Path.{◌≡◌, sym, ap, ap₂, subst, ◌∙◌}
use mathlib.Core.List.{List}
use Prim.Native.Nat.{ℕ, ◌+◌, ◌-◌, ◌≤◌, ◌<◌}
use native.Mathlib.Omega.{arith}
use lib.IntN.{ℤ}
use lib.ListN.{length, drop, length-take, length-drop}
use lib.Seq.{get_or-drop}
use Rattle.model.specs.Reader.{byte}
use Rattle.node.specs.declared.Counts.{Counts}
use Rattle.node.specs.declared.Node.{Node}
use Rattle.node.specs.Views.{node_of, op_in, Held, Within, Addable}
use Rattle.node.proofs.Ops.{opens}
use Rattle.node.proofs.Held.{wider}
use Rattle.registers.specs.Words.{word_in, node_in, part_in, held_in, SameNode}
use Rattle.machine.specs.Running.{view_in, NodeStands, Standing}
use Rattle.machine.specs.Chosen.{op_of, Inside}
use Rattle.registers.proofs.Frames.{same_part}
use Rattle.machine.proofs.Frames.{stands_wider}
use Rattle.machine.proofs.Lent.{lent, lent_is}

-- the op, read from the part's bytes as they were lent
pub op_read : (program l : List ℕ) (v : List ℤ) (c base len at o : ℕ) → base ≡ word_in l c 21 → len ≡ word_in l c 22 → at ≡ word_in l c 0
    → o ≡ op_in (drop at (lent program base len)) → o ≡ op_of program l v c
op_read program l v c base len at o b s p e =
    e ∙ ap₂ (λ (m : ℕ) (q : List ℕ). op_in (drop m q)) p (lent_is program l c base len b s)

-- where its part lies, its counts and registers
pub record Loaded (program rows : List ℕ) (n : ℕ) (l : List ℕ) (v : List ℤ) (c base len : ℕ) (held : Counts) (r : Node) : Type 0 where
  pub begins : base ≡ word_in l c 21
  pub spans : len ≡ word_in l c 22
  pub counts : held ≡ held_in l c
  pub node : r ≡ node_in l v c
  pub stands : NodeStands program rows n l v c 3000000000000000000

module _ {program rows : List ℕ} {n : ℕ} {l : List ℕ} {v : List ℤ} {c base len : ℕ} {held : Counts} {r : Node} (a : Loaded program rows n l v c base len held r) where
  -- the part's bytes, as they were lent
  abbrev bytes : List ℕ
  bytes = lent program base len

  bytes_are : bytes ≡ part_in program l c
  bytes_are = lent_is program l c base len a.begins a.spans

  -- the node, over its part
  pub view_of : node_of (part_in program l c) held r ≡ view_in program l v c
  view_of = ap₂ (λ (k : Counts) (x : Node). node_of (part_in program l c) k x) a.counts a.node

  -- the part lies in the program, and the registers are within bounds
  pub inside : base + len ≤ length program
  inside = let e = a.begins in let f = a.spans in omega (arith, a.stands.inside)

  pub held_fine : Held held
  held_fine = subst (λ (k : Counts). Held k) (sym a.counts) a.stands.held

  pub within : Within 4000000000000000000 r
  within = subst (λ (x : Node). Within 4000000000000000000 x) (sym a.node) (wider 3000000000000000000 4000000000000000000 (omega arith) a.stands.within)

  -- a send adds nothing
  pub sends_safe : op_of program l v c ≡ 4 → Addable (drop r.pc (part_in program l c)) (held_in l c) r
  sends_safe o =
      subst (λ (x : Node). Addable (drop x.pc (part_in program l c)) (held_in l c) x) (sym a.node) (record { fits = λ z. absurd (omega (arith, o, z)) })

  -- where a send stands, and its channel
  pub pc_low : op_of program l v c ≡ 4 → r.pc < 65535
  pc_low o =
      let e : r.pc ≡ word_in l c 0 = ap (λ (x : Node). x.pc) a.node in
      let f = (opens (drop (word_in l c 0) (part_in program l c)) 4 o (λ z. omega arith)).fits in
      let m : length (drop (word_in l c 0) (part_in program l c)) ≡ length (part_in program l c) - word_in l c 0 = simp length-drop in
      let k : length (part_in program l c) ≤ word_in l c 22 = simp length-take (omega arith) in
      omega (arith, a.stands.short)

  pub channel : (k : ℕ) → k ≡ byte bytes (r.pc + 1) → k ≡ byte (drop (word_in l c 0) (part_in program l c)) 1
  channel k e =
      e
      ∙ (ap₂ (λ (m : ℕ) (p : List ℕ). byte p (m + 1)) (ap (λ (x : Node). x.pc) a.node) bytes_are
      ∙ sym (get_or-drop (word_in l c 0) (part_in program l c) 1 0))

-- node c stands well within what its next statement asks
pub stands_there : {program rows : List ℕ} {n : ℕ} {l : List ℕ} {v : List ℤ} {count : ℕ} → Standing program rows n l v count → (c : ℕ) → c < count
    → NodeStands program rows n l v c 3000000000000000000
stands_there st c h = stands_wider 3000000000000000000 3000000000000000000 (omega arith) (st.each c h)

-- each part lies in the program
pub all_inside : {program rows : List ℕ} {n : ℕ} {l : List ℕ} {v : List ℤ} {count : ℕ} → Standing program rows n l v count → (i : ℕ) → i < count → Inside program l i
all_inside st i h = record { inside = (st.each i h).inside; short = (st.each i h).short }

-- what is asked of each node that may hear
pub all_heard : {program rows : List ℕ} {n : ℕ} {l : List ℕ} {v : List ℤ} {count : ℕ} → Standing program rows n l v count → (i : ℕ) → i < count
    → Inside program l i × (word_in l i 1 ≤ 4000000000000000000) × (word_in l i 28 ≤ 1000)
all_heard st i h = (all_inside st i h, omega (arith, (st.each i h).within.t), (st.each i h).wakes)

-- the op is what it was where only another node has moved
pub op_still : (program : List ℕ) {l : List ℕ} {v : List ℤ} {l' : List ℕ} {v' : List ℤ} {i : ℕ} (k : ℕ) → SameNode l v l' v' i → op_of program l v i ≡ k → op_of program l' v' i ≡ k
op_still program k s e =
    ap₂ (λ (m : ℕ) (p : List ℕ). op_in (drop m p)) (s.words 0 (omega arith)) (same_part s program) ∙ e
