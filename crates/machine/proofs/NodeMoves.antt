-- What stands in the slices after a node's registers were put back, and after it has finished its statement or taken a message. Assumes nothing.
use mathlib.Core.Path.{◌≡◌, refl, sym, ap, ap₂, subst, ◌∙◌}
use mathlib.Core.Logic.{◌⊎◌, ⊎_elim}
use mathlib.Core.Bool.{Bool, true, false, cond}
use mathlib.Core.List.{List}
use Prim.Native.Nat.{ℕ, suc, ◌+◌, ◌*◌, ◌≤◌, ◌<◌}
use native.Mathlib.Omega.{arith}
use lib.IntN.{ℤ}
use lib.ListN.{length, drop, set}
use Rattle.model.specs.Machine.{finish}
use Rattle.model.specs.Run.{stand_of, takes_message}
use Rattle.rows.specs.Rows.{rows_of}
use Rattle.node.specs.declared.Counts.{Counts}
use Rattle.node.specs.declared.Node.{Node}
use Rattle.node.specs.Views.{node_of, Held, Within, Grown, op_in, Addable}
use Rattle.node.specs.After.{listened}
use Rattle.node.proofs.Held.{wider}
use Rattle.stand.proofs.Message.{takes-message, message_grows}
use Rattle.stand.specs.Stands.{due_tick, last_tick}
use Rattle.registers.specs.Words.{word_in, node_in, part_in, held_in, Eight, Stored}
use Rattle.registers.proofs.Frames.{node_alike, part_alike, held_alike, stored_part, same_trans, put_there, put_beside, put_node, put_others, put_eight, stored_eight}
use Rattle.statement.specs.Done.{Finished}
use Rattle.machine.specs.Running.{RowIs, ready_at, view_in, finishes_work, NodeStands}
use Rattle.machine.specs.Chosen.{op_of, Inside, Noted, NodePut, RowPassed, NodeMoved}
use Rattle.machine.proofs.Lent.{lent, lent_is, lent_short}
use Rattle.machine.proofs.Sleeps.{sleep_finished, work_finished, message_taken}

-- ## Put back

pub still_inside : (program l : List ℕ) (v : List ℤ) (c : ℕ) (q : Node) (l' : List ℕ) (v' : List ℤ) → Stored l v c q l' v' → Inside program l c → Inside program l' c
still_inside program l v c q l' v' s i =
    let base = s.beside 21 (omega arith) (omega arith) in
    let size = s.beside 22 (omega arith) (omega arith) in
    record { inside = rw (base, size) i.inside; short = rw size i.short }

-- when the node is due, and when it is late, put beside its registers
module _ (program rows : List ℕ) (n : ℕ) (l : List ℕ) (v : List ℤ) (c : ℕ) (q : Node) (l₁ : List ℕ) (v₁ : List ℤ) (due last : ℕ)
    (e : Eight l v) (h : c < 8) (s : Stored l v c q l₁ v₁) (l₂ l₃ : List ℕ) (a : l₂ ≡ set l₁ (c * 32 + 26) due) (b : l₃ ≡ set l₂ (c * 32 + 27) last) where
  eight₁ : Eight l₁ v₁
  eight₁ = stored_eight s e

  eight₂ : Eight l₂ v₁
  eight₂ = put_eight l₁ c 26 due a v₁ eight₁

  kept : (k : ℕ) → k < 26 → word_in l₃ c k ≡ word_in l₁ c k
  kept k m = put_beside l₂ c 27 last b k (λ z. omega arith) ∙ put_beside l₁ c 26 due a k (λ z. omega arith)

  -- when it wakes stays
  kept_wake : word_in l₃ c 28 ≡ word_in l₁ c 28
  kept_wake = put_beside l₂ c 27 last b 28 (λ z. omega arith) ∙ put_beside l₁ c 26 due a 28 (λ z. omega arith)

  -- and when its last work finished
  kept_finish : word_in l₃ c 29 ≡ word_in l₁ c 29
  kept_finish = put_beside l₂ c 27 last b 29 (λ z. omega arith) ∙ put_beside l₁ c 26 due a 29 (λ z. omega arith)

  node : node_in l₃ v₁ c ≡ q
  node = put_node l₂ c 27 last b v₁ (omega arith) ∙ put_node l₁ c 26 due a v₁ (omega arith) ∙ s.node

  view : view_in program l₃ v₁ c ≡ node_of (part_in program l₁ c) (held_in l₁ c) q
  view =
      ap₂ (λ (p : List ℕ) (held : Counts). node_of p held (node_in l₃ v₁ c))
      (part_alike program l₁ l₃ c (λ k i m. kept k (omega arith)))
      (held_alike l₁ l₃ c (λ k i m. kept k (omega arith)))
      ∙ ap (node_of (part_in program l₁ c) (held_in l₁ c)) node

  pub node_put : (p : List ℕ) (held : Counts) (next : ℕ) → p ≡ part_in program l₁ c → held ≡ held_in l₁ c → next ≡ ready_at (rows_of rows n) (word_in l₁ c 25)
      → due ≡ due_tick (node_of p held q) (stand_of (node_of p held q)) + word_in l₁ c 28
      → last ≡ last_tick (node_of p held q) next (stand_of (node_of p held q)) + word_in l₁ c 28
      → NodePut program rows n l v c q l₃ v₁
  node_put p held next ep eh en ed el =
      let same : node_of p held q ≡ view_in program l₃ v₁ c = ap₂ (λ (x : List ℕ) (y : Counts). node_of x y q) ep eh ∙ sym view in
      let ready : next ≡ ready_at (rows_of rows n) (word_in l₃ c 25) = en ∙ ap (ready_at (rows_of rows n)) (sym (kept 25 (omega arith))) in
      record {
        node = node;
        beside = λ k i m. kept k m ∙ s.beside k i (omega arith);
        wakes = kept_wake ∙ s.beside 28 (omega arith) (omega arith);
        finish = kept_finish ∙ s.beside 29 (omega arith) (omega arith);
        due =
            put_beside l₂ c 27 last b 26 (λ z. omega arith) ∙ put_there l₁ c 26 due a eight₁.words h (omega arith) ∙ ed
            ∙ ap₂ (λ (x : Rattle.model.specs.Machine.Node) (k : ℕ). due_tick x (stand_of x) + k) same (sym kept_wake);
        last =
            put_there l₂ c 27 last b eight₂.words h (omega arith) ∙ el
            ∙ ap₂ (λ (x k : ℕ). x + k) (ap₂ (λ (x : Rattle.model.specs.Machine.Node) (m : ℕ). last_tick x m (stand_of x)) same ready) (sym kept_wake);
        others = λ i d.
            same_trans (s.others i d)
            (same_trans (put_others l₁ c 26 due a v₁ i d (omega arith)) (put_others l₂ c 27 last b v₁ i d (omega arith)));
        eight = put_eight l₂ c 27 last b v₁ eight₂;
      }

-- the same, as `note` tells it
pub node_noted : {program rows : List ℕ} {n : ℕ} {l : List ℕ} {v : List ℤ} {c : ℕ} {q : Node} {l₁ : List ℕ} {v₁ : List ℤ} {l₃ : List ℕ} {p : List ℕ}
    → Eight l v → c < 8 → Stored l v c q l₁ v₁ → p ≡ part_in program l₁ c → Noted p rows n l₁ c l₃ → NodePut program rows n l v c q l₃ v₁
node_noted {program} {rows} {n} {l} {v} {c} {q} {l₁} {v₁} {l₃} {p} e h s ep w =
    let held = held_in l₁ c in
    let wake = word_in l₁ c 28 in
    node_put program rows n l v c q l₁ v₁ (w.due + wake) (w.last + wake) e h s (set l₁ (c * 32 + 26) (w.due + wake)) l₃ refl w.put p held (ready_at (rows_of rows n) (word_in l₁ c 25)) ep refl refl
    (ap (λ (x : ℕ). x + wake) (w.dues held v₁ ∙ ap (λ (x : Node). due_tick (node_of p held x) (stand_of (node_of p held x))) s.node))
    (ap (λ (x : ℕ). x + wake) (w.lasts held v₁ ∙ ap (λ (x : Node). last_tick (node_of p held x) (ready_at (rows_of rows n) (word_in l₁ c 25)) (stand_of (node_of p held x))) s.node))

-- what `note` asks of node c, whose registers are q
pub place_stored : {l : List ℕ} {v : List ℤ} {c : ℕ} {q : Node} {l₁ : List ℕ} {v₁ : List ℤ} → Stored l v c q l₁ v₁ → q.pc ≡ word_in l₁ c 0
place_stored s = sym (ap (λ (x : Node). x.pc) s.node)

pub time_stored : {l : List ℕ} {v : List ℤ} {c : ℕ} {q : Node} {l₁ : List ℕ} {v₁ : List ℤ} → Stored l v c q l₁ v₁ → Within 4000000000000000000 q → word_in l₁ c 1 ≤ 4000000000000000000
time_stored {q = q} s w = let e = ap (λ (x : Node). x.t) s.node in omega (arith, e, w.t)

pub wake_stored : {l : List ℕ} {v : List ℤ} {c : ℕ} {q : Node} {l₁ : List ℕ} {v₁ : List ℤ} → Stored l v c q l₁ v₁ → word_in l c 28 ≤ 1000 → word_in l₁ c 28 ≤ 1000
wake_stored s w = rw (s.beside 28 (omega arith) (omega arith)) w

-- ## Moved

-- l₁ is l, but the row of node c is that of its passage number k₁, if it was that of number k
pub record RowSet (rows : List ℕ) (n : ℕ) (l : List ℕ) (c k k₁ : ℕ) (l₁ : List ℕ) : Type 0 where
  pub row : RowIs (rows_of rows n) c k (word_in l c 25) → RowIs (rows_of rows n) c k₁ (word_in l₁ c 25)
  pub beside : (j : ℕ) → j < 32 → (j ≡ 25 → ⊥) → word_in l₁ c j ≡ word_in l c j
  pub others : (i j : ℕ) → (i ≡ c → ⊥) → j < 32 → word_in l₁ i j ≡ word_in l i j

set_passed : (rows : List ℕ) (n : ℕ) (l : List ℕ) (c k k₁ : ℕ) (l₁ : List ℕ) → k₁ ≡ suc k → RowPassed rows n l c l₁ → RowSet rows n l c k k₁ l₁
set_passed rows n l c k k₁ l₁ e p =
    record { row = λ r. subst (λ (x : ℕ). RowIs (rows_of rows n) c x (word_in l₁ c 25)) (sym e) (p.row k r); beside = p.beside; others = p.others }

set_same : (rows : List ℕ) (n : ℕ) (l : List ℕ) (c k k₁ : ℕ) → k₁ ≡ k → RowSet rows n l c k k₁ l
set_same rows n l c k k₁ e =
    record {
      row = λ r. subst (λ (x : ℕ). RowIs (rows_of rows n) c x (word_in l c 25)) (sym e) r;
      beside = λ j b d. refl;
      others = λ i j d b. refl;
    }

module _ (program rows : List ℕ) (n : ℕ) (l : List ℕ) (v : List ℤ) (c : ℕ) (l₁ : List ℕ) (q : Node) (l' : List ℕ) (v' : List ℤ)
    (g : Grown (node_in l v c) q) (w : RowSet rows n l c (node_in l v c).sleeps q.sleeps l₁) (p : NodePut program rows n l₁ v c q l' v') where
  fixed : (k : ℕ) → 21 ≤ k → k < 25 → word_in l' c k ≡ word_in l c k
  fixed k a b = p.beside k a (omega arith) ∙ w.beside k (omega arith) (λ z. omega arith)

  wakes_same : word_in l' c 28 ≡ word_in l c 28
  wakes_same = p.wakes ∙ w.beside 28 (omega arith) (λ z. omega arith)

  pub finish_same : word_in l' c 29 ≡ word_in l c 29
  finish_same = p.finish ∙ w.beside 29 (omega arith) (λ z. omega arith)

  held_same : held_in l' c ≡ held_in l c
  held_same = held_alike l l' c fixed

  part_same : part_in program l' c ≡ part_in program l c
  part_same = part_alike program l l' c fixed

  row_now : RowIs (rows_of rows n) c (node_in l v c).sleeps (word_in l c 25) → RowIs (rows_of rows n) c (node_in l' v' c).sleeps (word_in l' c 25)
  row_now r =
      subst (λ (k : ℕ). RowIs (rows_of rows n) c k (word_in l' c 25)) (sym (ap (λ (x : Node). x.sleeps) p.node))
      (subst (λ (k : ℕ). RowIs (rows_of rows n) c q.sleeps k) (sym (p.beside 25 (omega arith) (omega arith))) (w.row r))

  stands_now : (m : ℕ) → NodeStands program rows n l v c m → NodeStands program rows n l' v' c (m + 131070)
  stands_now m s =
      let base = fixed 21 (omega arith) (omega arith) in
      let size = fixed 22 (omega arith) (omega arith) in
      record {
        inside = rw (base, size) s.inside;
        short = rw size s.short;
        part = part_same ∙ s.part;
        held = subst Held (sym held_same) s.held;
        within = subst (Within (m + 131070)) (sym p.node) (g m s.within);
        row = row_now s.row;
        wakes = rw wakes_same s.wakes;
        due = p.due;
        last = p.last;
      }

  pub node_moved : (x : Rattle.model.specs.Machine.Node) → node_of (part_in program l c) (held_in l c) q ≡ x → NodeMoved program rows n l v c x l' v'
  node_moved x e =
      record {
        view =
            ap₂ (λ (b : List ℕ) (held : Counts). node_of b held (node_in l' v' c)) part_same held_same
            ∙ ap (node_of (part_in program l c) (held_in l c)) p.node ∙ e;
        stands = stands_now;
        fixed = fixed;
        wakes = wakes_same;
        others = λ i d. same_trans (record { words = λ k b. w.others i k d b; values = λ k b. refl }) (p.others i d);
        eight = p.eight;
      }

-- ## What is asked before

-- what a move of node c asks of its part as lent, its counts and its registers
pub record Asked (program l : List ℕ) (v : List ℤ) (c base size : ℕ) (counts : Counts) (r : Node) : Type 0 where
  pub inside : Inside program l c
  pub short : length (lent program base size) ≤ 65535
  pub held : Held counts
  pub within : Within 4000000000000000000 r
  pub addable : Addable (drop r.pc (part_in program l c)) (held_in l c) r → Addable (drop r.pc (lent program base size)) counts r
  pub op : op_of program l v c ≡ 5 → op_in (drop r.pc (lent program base size)) ≡ 5
  -- the registers after it have not grown too far
  pub put : (q : Node) → Grown r q → Within 4000000000000000000 q

pub asks : (program rows : List ℕ) (n : ℕ) (l : List ℕ) (v : List ℤ) (c base size : ℕ) (held : Counts) (r : Node) → base ≡ word_in l c 21 → size ≡ word_in l c 22
    → held ≡ held_in l c → r ≡ node_in l v c → NodeStands program rows n l v c 3000000000000000000 → Asked program l v c base size held r
asks program rows n l v c base size held r b z k e s =
    let part = lent_is program l c base size b z in
    record {
      inside = record { inside = s.inside; short = s.short };
      short = lent_short program base size (omega (arith, s.short));
      held = subst Held (sym k) s.held;
      within =
          subst (Within 4000000000000000000) (sym e)
          (wider 3000000000000000000 4000000000000000000 (omega arith) s.within);
      addable = λ a.
          subst (λ (x : List ℕ). Addable (drop r.pc x) held r) (sym part)
          (subst (λ (x : Counts). Addable (drop r.pc (part_in program l c)) x r) (sym k) a);
      op = λ o. ap₂ (λ (x : Node) (y : List ℕ). op_in (drop x.pc y)) e part ∙ o;
      put = λ q g.
          wider 3000000000000131070 4000000000000000000 (omega arith)
          (g 3000000000000000000 (subst (Within 3000000000000000000) (sym e) s.within));
    }

-- ## By its own statement, and by a message

-- the row was passed where the op is a sleep, and only there
abbrev pub Passing : List ℕ → ℕ → List ℕ → ℕ → ℕ → List ℕ → Type 0
Passing rows n l c op l₁ = ((op ≡ 0) × RowPassed rows n l c l₁) ⊎ ((op ≡ 0 → ⊥) × (l₁ ≡ l))

pub passing_length : (rows : List ℕ) (n : ℕ) (l : List ℕ) (c op : ℕ) (l₁ : List ℕ) → Passing rows n l c op l₁ → length l₁ ≡ length l
passing_length rows n l c op l₁ = ⊎_elim (λ s. s.1.same) (λ s. ap length s.1)

pub passing_eight : (rows : List ℕ) (n : ℕ) (l : List ℕ) (v : List ℤ) (c op : ℕ) (l₁ : List ℕ) → Passing rows n l c op l₁ → Eight l v → Eight l₁ v
passing_eight rows n l v c op l₁ way e =
    record { words = omega (arith, passing_length rows n l c op l₁ way, e.words); values = e.values }

module _ (program rows : List ℕ) (n : ℕ) (l : List ℕ) (v : List ℤ) (c base size : ℕ) (held : Counts) (q : Node) (l' : List ℕ) (v' : List ℤ)
    (b : base ≡ word_in l c 21) (z : size ≡ word_in l c 22) (k : held ≡ held_in l c) where
  -- what is told of the part as it is lent holds of the node's part
  pub told : (F : List ℕ → Counts → Type 0) → F (lent program base size) held → F (part_in program l c) (held_in l c)
  told F f = subst (λ (x : Counts). F (part_in program l c) x) k (subst (λ (x : List ℕ). F x held) (lent_is program l c base size b z) f)

  pub finish_moved : (r : Node) (op : ℕ) (l₁ : List ℕ) → r ≡ node_in l v c → op ≡ op_in (drop r.pc (lent program base size))
      → node_of (lent program base size) held q ≡ finish (lent program base size) (node_of (lent program base size) held r) (node_of (lent program base size) held r).rest
      → Grown r q → Passing rows n l c op l₁ → NodePut program rows n l₁ v c q l' v'
      → NodeMoved program rows n l v c (finish (part_in program l c) (view_in program l v c) (view_in program l v c).rest) l' v' × (word_in l' c 29 ≡ word_in l c 29)
  finish_moved r op l₁ er eo ef g way p =
      let part = part_in program l c in
      let r₀ = node_in l v c in
      let g₀ : Grown r₀ q = subst (λ (x : Node). Grown x q) er g in
      let o₀ : op ≡ op_in (drop r₀.pc part) =
      told (λ x _. op ≡ op_in (drop r₀.pc x)) (subst (λ (x : Node). op ≡ op_in (drop x.pc (lent program base size))) er eo) in
      let f₀ : node_of part (held_in l c) q ≡ finish part (node_of part (held_in l c) r₀) (node_of part (held_in l c) r₀).rest =
      told (λ x y. node_of x y q ≡ finish x (node_of x y r₀) (node_of x y r₀).rest)
      (subst (λ (x : Node). node_of (lent program base size) held q ≡ finish (lent program base size) (node_of (lent program base size) held x) (node_of (lent program base size) held x).rest) er ef) in
      let w : RowSet rows n l c r₀.sleeps q.sleeps l₁ =
      ⊎_elim
      (λ s. set_passed rows n l c r₀.sleeps q.sleeps l₁ (sleep_finished part (held_in l c) r₀ q f₀ (sym o₀ ∙ s.0)) s.1)
      (λ s.
      subst (RowSet rows n l c r₀.sleeps q.sleeps) (sym s.1)
      (set_same rows n l c r₀.sleeps q.sleeps (work_finished part (held_in l c) r₀ q f₀ (λ e. s.0 (o₀ ∙ e)))))
      way in
      (node_moved program rows n l v c l₁ q l' v' g₀ w p _ f₀, finish_same program rows n l v c l₁ q l' v' g₀ w p)

  pub message_moved : (r : Node) (i : ℕ) → r ≡ node_in l v c → op_of program l v c ≡ 5
      → q ≡ listened (lent program base size) i r → NodePut program rows n l v c q l' v'
      → NodeMoved program rows n l v c (takes_message (part_in program l c) i (view_in program l v c)) l' v'
  message_moved r i er o e p =
      let part = part_in program l c in
      let r₀ = node_in l v c in
      let e₀ : q ≡ listened part i r₀ =
      told (λ x _. q ≡ listened x i r₀) (subst (λ (x : Node). q ≡ listened (lent program base size) i x) er e) in
      let f₀ : node_of part (held_in l c) q ≡ takes_message part i (node_of part (held_in l c) r₀) = takes-message part i r₀ o (held_in l c) q e₀ in
      node_moved program rows n l v c l q l' v' (message_grows part i r₀ q e₀)
      (set_same rows n l c r₀.sleeps q.sleeps (message_taken part (held_in l c) r₀ q i f₀ o))
      p
      _
      f₀

-- ## Carried out on the words

-- what finishing on the words asks of them after the row was passed
pub record Passed (program l : List ℕ) (v : List ℤ) (c base size op : ℕ) (l₁ : List ℕ) : Type 0 where
  pub short : length (lent program base size) ≤ 65535
  pub eight : Eight l₁ v
  pub held : Held (held_in l₁ c)
  pub within : Within 4000000000000000000 (node_in l₁ v c)
  pub addable : Addable (drop (word_in l₁ c 0) (lent program base size)) (held_in l₁ c) (node_in l₁ v c)
  pub op_is : op ≡ op_in (drop (word_in l₁ c 0) (lent program base size))
  pub wakes : word_in l₁ c 28 ≤ 1000
  -- the registers, the counts and the part are what they were
  pub node : node_in l₁ v c ≡ node_in l v c
  pub counts : held_in l₁ c ≡ held_in l c
  pub part : lent program base size ≡ part_in program l₁ c
  -- the registers after it have not grown too far
  pub put : (q : Node) → Grown (node_in l₁ v c) q → Within 4000000000000000000 q

pub passes : (program rows : List ℕ) (n : ℕ) (l : List ℕ) (v : List ℤ) (c base size op : ℕ) (l₁ : List ℕ) → base ≡ word_in l c 21 → size ≡ word_in l c 22
    → Eight l v → NodeStands program rows n l v c 3000000000000000000 → op ≡ op_of program l v c → Addable (drop (word_in l c 0) (part_in program l c)) (held_in l c) (node_in l v c)
    → Passing rows n l c op l₁ → Passed program l v c base size op l₁
passes program rows n l v c base size op l₁ b z e s o a way =
    let same : (k : ℕ) → k < 32 → (k ≡ 25 → ⊥) → word_in l₁ c k ≡ word_in l c k = ⊎_elim (λ w. w.1.beside) (λ w k h d. ap (λ (x : List ℕ). word_in x c k) w.1) way in
    let fixed : (k : ℕ) → 21 ≤ k → k < 25 → word_in l₁ c k ≡ word_in l c k = λ k i m. same k (omega arith) (λ t. omega arith) in
    let node : node_in l₁ v c ≡ node_in l v c = node_alike l l₁ v v c (λ k h. same k (omega arith) (λ t. omega arith)) (λ k h. refl) in
    let counts : held_in l₁ c ≡ held_in l c = held_alike l l₁ c fixed in
    let bytes : lent program base size ≡ part_in program l c = lent_is program l c base size b z in
    let at : word_in l₁ c 0 ≡ word_in l c 0 = same 0 (omega arith) (λ t. omega arith) in
    record {
      short = lent_short program base size (omega (arith, s.short));
      eight = passing_eight rows n l v c op l₁ way e;
      held = subst Held (sym counts) s.held;
      within = subst (Within 4000000000000000000) (sym node) (wider 3000000000000000000 4000000000000000000 (omega arith) s.within);
      addable =
          subst (λ (x : List ℕ). Addable (drop (word_in l₁ c 0) x) (held_in l₁ c) (node_in l₁ v c)) (sym bytes)
          (subst (λ (i : ℕ). Addable (drop i (part_in program l c)) (held_in l₁ c) (node_in l₁ v c)) (sym at)
          (subst (λ (k : Counts). Addable (drop (word_in l c 0) (part_in program l c)) k (node_in l₁ v c)) (sym counts)
          (subst (λ (x : Node). Addable (drop (word_in l c 0) (part_in program l c)) (held_in l c) x) (sym node) a)));
      op_is = o ∙ ap₂ (λ (i : ℕ) (x : List ℕ). op_in (drop i x)) (sym at) (sym bytes);
      wakes = rw (same 28 (omega arith) (λ t. omega arith)) s.wakes;
      node = node;
      counts = counts;
      part = bytes ∙ sym (part_alike program l l₁ c fixed);
      put = λ q g. wider 3000000000000131070 4000000000000000000 (omega arith) (g 3000000000000000000 (subst (Within 3000000000000000000) (sym node) s.within));
    }

pub words_moved : (program rows : List ℕ) (n : ℕ) (l : List ℕ) (v : List ℤ) (c base size op pc : ℕ) (l₁ l₂ : List ℕ) (v₂ : List ℤ) (l₃ : List ℕ) → c < 8 → base ≡ word_in l c 21
    → size ≡ word_in l c 22 → op ≡ op_of program l v c → Passing rows n l c op l₁ → Passed program l v c base size op l₁
    → Finished (lent program base size) l₁ v c pc l₂ v₂ → Noted (lent program base size) rows n l₂ c l₃
    → NodeMoved program rows n l v c (finish (part_in program l c) (view_in program l v c) (view_in program l v c).rest) l₃ v₂ × (word_in l₃ c 29 ≡ word_in l c 29)
words_moved program rows n l v c base size op pc l₁ l₂ v₂ l₃ h b z o way a f w =
    let bytes = lent program base size in
    let q = f.node in
    let ends : node_of bytes (held_in l c) q ≡ finish bytes (node_of bytes (held_in l c) (node_in l v c)) (node_of bytes (held_in l c) (node_in l v c)).rest =
    subst (λ (x : Node). node_of bytes (held_in l c) q ≡ finish bytes (node_of bytes (held_in l c) x) (node_of bytes (held_in l c) x).rest) a.node
    (subst (λ (k : Counts). node_of bytes k q ≡ finish bytes (node_of bytes k (node_in l₁ v c)) (node_of bytes k (node_in l₁ v c)).rest) a.counts f.finished) in
    finish_moved program rows n l v c base size (held_in l c) q l₃ v₂ b z refl (node_in l v c) op l₁ refl
    (o ∙ ap (λ (x : List ℕ). op_in (drop (word_in l c 0) x)) (sym (lent_is program l c base size b z)))
    ends
    (subst (λ (x : Node). Grown x q) a.node f.grown)
    way
    (node_noted a.eight h f.stored (a.part ∙ sym (stored_part f.stored program)) w)

-- ## When its work finished

-- only that word of node c is another
pub finish_put : {program rows : List ℕ} {n : ℕ} {l : List ℕ} {v : List ℤ} {c : ℕ} {x : Rattle.model.specs.Machine.Node} {l' : List ℕ} {v' : List ℤ} {l'' : List ℕ} (tick : ℕ)
    → NodeMoved program rows n l v c x l' v' → l'' ≡ set l' (c * 32 + 29) tick → NodeMoved program rows n l v c x l'' v'
finish_put {program} {rows} {n} {l} {v} {c} {x} {l'} {v'} {l''} tick m e =
    let kept : (k : ℕ) → k < 29 → word_in l'' c k ≡ word_in l' c k = λ k h. put_beside l' c 29 tick e k (λ z. omega arith) in
    let node : node_in l'' v' c ≡ node_in l' v' c = put_node l' c 29 tick e v' (omega arith) in
    let counts : held_in l'' c ≡ held_in l' c = held_alike l' l'' c (λ k i h. kept k (omega arith)) in
    let part : part_in program l'' c ≡ part_in program l' c = part_alike program l' l'' c (λ k i h. kept k (omega arith)) in
    let view : view_in program l'' v' c ≡ view_in program l' v' c =
    ap₂ (λ (p : List ℕ) (held : Counts). node_of p held (node_in l'' v' c)) part counts ∙ ap (node_of (part_in program l' c) (held_in l' c)) node in
    record {
      view = view ∙ m.view;
      stands = λ j s.
          let a = m.stands j s in
          record {
            inside = rw (kept 21 (omega arith), kept 22 (omega arith)) a.inside;
            short = rw (kept 22 (omega arith)) a.short;
            part = part ∙ a.part;
            held = subst Held (sym counts) a.held;
            within = subst (Within (j + 131070)) (sym node) a.within;
            row = rw (kept 20 (omega arith), kept 25 (omega arith)) a.row;
            wakes = rw (kept 28 (omega arith)) a.wakes;
            due = kept 26 (omega arith) ∙ a.due ∙ sym (ap₂ (λ (q : Rattle.model.specs.Machine.Node) (k : ℕ). due_tick q (stand_of q) + k) view (kept 28 (omega arith)));
            last =
                kept 27 (omega arith) ∙ a.last
                ∙ sym
                (ap₂ (λ (y k : ℕ). y + k) (ap₂ (λ (q : Rattle.model.specs.Machine.Node) (k : ℕ). last_tick q (ready_at (rows_of rows n) k) (stand_of q)) view (kept 25 (omega arith))) (kept 28 (omega arith)));
          };
      fixed = λ k i h. kept k (omega arith) ∙ m.fixed k i h;
      wakes = kept 28 (omega arith) ∙ m.wakes;
      others = λ i d. same_trans (m.others i d) (put_others l' c 29 tick e v' i d (omega arith));
      eight = put_eight l' c 29 tick e v' m.eight;
    }

-- it is put where the op finishes a work
pub finish_noted : {program rows : List ℕ} {n : ℕ} {l : List ℕ} {v : List ℤ} {c : ℕ} {x : Rattle.model.specs.Machine.Node} {l' : List ℕ} {v' : List ℤ} {l'' : List ℕ} (op tick : ℕ) → c < 8
    → NodeMoved program rows n l v c x l' v' × (word_in l' c 29 ≡ word_in l c 29) → l'' ≡ cond (finishes_work op) (set l' (c * 32 + 29) tick) l'
    → NodeMoved program rows n l v c x l'' v' × (word_in l'' c 29 ≡ cond (finishes_work op) tick (word_in l c 29))
finish_noted {program} {rows} {n} {l} {v} {c} {x} {l'} {v'} {l''} op tick h m e = go (finishes_work op) e
  where
    go : (b : Bool) → l'' ≡ cond b (set l' (c * 32 + 29) tick) l' → NodeMoved program rows n l v c x l'' v' × (word_in l'' c 29 ≡ cond b tick (word_in l c 29))
    go true p = (finish_put tick m.0 p, put_there l' c 29 tick p m.0.eight.words h (omega arith))
    go false p = (subst (λ (y : List ℕ). NodeMoved program rows n l v c x y v') (sym p) m.0, ap (λ (y : List ℕ). word_in y c 29) p ∙ m.1)

-- a message was taken at that tick
pub finish_heard : {program rows : List ℕ} {n : ℕ} {l : List ℕ} {v : List ℤ} {c : ℕ} {x : Rattle.model.specs.Machine.Node} {l' : List ℕ} {v' : List ℤ} {l'' : List ℕ} (tick : ℕ) → c < 8
    → NodeMoved program rows n l v c x l' v' → l'' ≡ set l' (c * 32 + 29) tick → NodeMoved program rows n l v c x l'' v' × (word_in l'' c 29 ≡ tick)
finish_heard {c = c} {l' = l'} tick h m e = (finish_put tick m e, put_there l' c 29 tick e m.eight.words h (omega arith))
