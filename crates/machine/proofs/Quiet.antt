-- Between two statements at which no node is due, nor late by its window, nothing has to be noted anew. Assumes nothing.
use mathlib.Core.Path.{◌≡◌, refl, sym, ap, subst, ◌∙◌}
use mathlib.Core.Logic.{⊎_elim}
use mathlib.Core.Bool.{Bool, true, false}
use mathlib.Core.List.{List, [], ◌∷◌}
use Prim.Native.Nat.{ℕ, zero, suc, ◌+◌, ◌*◌, ◌≤◌, ◌<◌}
use native.Mathlib.Omega.{arith}
use lib.IntN.{ℤ}
use lib.Dec.{eqb, leb, ltb}
use lib.ListN.{length, get_or, drop, set}
use borrow.Author.Tests.{leb-true, leb-false, ltb-true, ltb-false, eqb-true, eqb-false, le-leb, lt-leb}
use Rattle.rows.specs.Rows.{rows_of}
use Rattle.node.specs.declared.Node.{Node}
use Rattle.node.specs.Views.{node_of, op_in}
use Rattle.node.proofs.Ops.{op_pair, op_high, op_here}
use Rattle.stand.specs.Stands.{never}
use Rattle.stand.proofs.ByOp.{sort_is, undue, by_ready}
use Rattle.registers.specs.Words.{word_in, node_in, part_in, held_in, Stored}
use Rattle.machine.specs.Running.{ready_at, NodeStands}
use Rattle.machine.specs.Chosen.{op_of, Noted}
use Rattle.machine.proofs.NodeMoves.{Passing}

-- a number put where it stands changes nothing
pub set_own : (l : List ℕ) (i x : ℕ) → get_or l i 0 ≡ x → set l i x ≡ l
set_own [] i x e = refl
set_own (y ∷ ys) zero x e = ap (λ (z : ℕ). z ∷ ys) (sym e)
set_own (y ∷ ys) (suc i) x e = ap (λ (t : List ℕ). y ∷ t) (set_own ys i x e)

-- what is noted of a node that is neither due nor late by its window
abbrev pub Quiet : List ℕ → ℕ → List ℕ → ℕ → Type 0
Quiet rows n l c = (word_in l c 26 ≡ never + word_in l c 28) × (word_in l c 27 ≡ ready_at (rows_of rows n) (word_in l c 25) + word_in l c 28)

-- a byte up to 5 is a sleep, work or an update, and no other is
pub timed_is : (p : List ℕ) (at : ℕ) → at + 4 ≤ length p → leb (get_or p at 0) 5 ≡ leb (op_in (drop at p)) 5
timed_is p at h = go (leb (get_or p at 0) 5) refl
  where
    above : 5 < get_or p at 0 → 5 < op_in (drop at p)
    above s = pair (eqb (get_or p at 0) 6) refl
      where
        high : (get_or p at 0 ≡ 6 → ⊥) → (b : Bool) → ltb (get_or p at 0) 19 ≡ b → 5 < op_in (drop at p)
        high n true z = omega (arith, s, op_here p at h n (ltb-true (get_or p at 0) 19 z))
        high n false z = omega (arith, op_high p at (ltb-false (get_or p at 0) 19 z))

        pair : (b : Bool) → eqb (get_or p at 0) 6 ≡ b → 5 < op_in (drop at p)
        pair true z = omega (arith, op_pair p at (eqb-true (get_or p at 0) 6 z))
        pair false z = high (eqb-false (get_or p at 0) 6 z) (ltb (get_or p at 0) 19) refl

    go : (b : Bool) → leb (get_or p at 0) 5 ≡ b → leb (get_or p at 0) 5 ≡ leb (op_in (drop at p)) 5
    go true q =
        let s = leb-true (get_or p at 0) 5 q in
        q ∙ sym (le-leb (op_in (drop at p)) 5 (omega (arith, s, op_here p at h (λ e. omega (arith, e, s)) (omega (arith, s)))))
    go false q = q ∙ sym (lt-leb (op_in (drop at p)) 5 (above (leb-false (get_or p at 0) 5 q)))

-- so it is noted at the next statement too
pub still_noted : (p rows : List ℕ) (n : ℕ) (l : List ℕ) (c op : ℕ) → op ≡ op_in (drop (word_in l c 0) p) → 5 < op → Quiet rows n l c → Noted p rows n l c l
still_noted p rows n l c op o h q =
    record {
      due = never;
      last = ready_at (rows_of rows n) (word_in l c 25);
      dues = λ held v. undue (node_of p held (node_in l v c)) (sort_is p (word_in l c 0) op o) (λ e. absurd (omega (arith, e, h))) (λ e. absurd (omega (arith, e, h)));
      lasts = λ held v. by_ready (node_of p held (node_in l v c)) (ready_at (rows_of rows n) (word_in l c 25)) (sort_is p (word_in l c 0) op o) (omega (arith, h));
      put =
          sym
          (ap (λ (x : List ℕ). set x (c * 32 + 27) (ready_at (rows_of rows n) (word_in l c 25) + word_in l c 28)) (set_own l (c * 32 + 26) _ q.0)
          ∙ set_own l (c * 32 + 27) _ q.1);
    }

-- a node that stands at such a statement is noted so
pub quiet_at : (program rows : List ℕ) (n : ℕ) (l : List ℕ) (v : List ℤ) (c m op : ℕ) → NodeStands program rows n l v c m → op ≡ op_of program l v c → 5 < op → Quiet rows n l c
quiet_at program rows n l v c m op s o h =
    let p = part_in program l c in
    let r = node_of p (held_in l c) (node_in l v c) in
    let k = sort_is p (word_in l c 0) op o in (
      s.due ∙ ap (λ (x : ℕ). x + word_in l c 28) (sym (undue r k (λ e. absurd (omega (arith, e, h))) (λ e. absurd (omega (arith, e, h))))),
      s.last ∙ ap (λ (x : ℕ). x + word_in l c 28) (sym (by_ready r (ready_at (rows_of rows n) (word_in l c 25)) k (omega (arith, h)))),
    )

-- and stays so when its registers are put back
pub quiet_stored : (rows : List ℕ) (n : ℕ) (l : List ℕ) (v : List ℤ) (c : ℕ) (q : Node) (l' : List ℕ) (v' : List ℤ) → Stored l v c q l' v' → Quiet rows n l c → Quiet rows n l' c
quiet_stored rows n l v c q l' v' s k =
    let same : (j : ℕ) → 21 ≤ j → j < 32 → word_in l' c j ≡ word_in l c j = s.beside in (
      same 26 (omega arith) (omega arith) ∙ k.0 ∙ ap (λ (x : ℕ). never + x) (sym (same 28 (omega arith) (omega arith))),
      same 27 (omega arith) (omega arith) ∙ k.1 ∙ ap (λ (x : ℕ). ready_at (rows_of rows n) x + word_in l c 28) (sym (same 25 (omega arith) (omega arith))) ∙ ap (λ (x : ℕ). ready_at (rows_of rows n) (word_in l' c 25) + x) (sym (same 28 (omega arith) (omega arith))),
    )

-- the same where the row was passed after a sleep: such a statement is none
pub quiet_kept : (program rows : List ℕ) (n : ℕ) (l : List ℕ) (v : List ℤ) (c m op : ℕ) (l₁ : List ℕ) (q : Node) (l₂ : List ℕ) (v₂ : List ℤ) → NodeStands program rows n l v c m → op ≡ op_of program l v c
    → Passing rows n l c op l₁ → Stored l₁ v c q l₂ v₂ → 5 < op → Quiet rows n l₂ c
quiet_kept program rows n l v c m op l₁ q l₂ v₂ s o way t h =
    let k : Quiet rows n l₁ c =
    ⊎_elim (λ w. absurd (omega (arith, w.0, h))) (λ w. subst (λ (x : List ℕ). Quiet rows n x c) (sym w.1) (quiet_at program rows n l v c m op s o h)) way in
    quiet_stored rows n l₁ v c q l₂ v₂ t k
