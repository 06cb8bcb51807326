-- A statement carried out after the node was moved to the next one; the registers and what the node holds in between. Assumes nothing.
use mathlib.Core.Path.{◌≡◌, refl, sym, ap, subst, ◌∙◌}
use mathlib.Core.List.{List}
use Prim.Native.Nat.{ℕ, ◌+◌, ◌<◌}
use lib.IntN.{ℤ}
use lib.ListN.{drop}
use Rattle.model.specs.Machine.{statement_length}
use Rattle.node.specs.declared.Counts.{Counts}
use Rattle.node.specs.declared.Node.{Node}
use Rattle.node.specs.Views.{op_in, Held, Within, Addable, Executed, Grown}
use Rattle.node.proofs.Moves.{finish_on, finish_none, moved_within, moved_grown}
use Rattle.node.proofs.Held.{still}
use Rattle.registers.specs.Words.{word_in, node_in, held_in, Eight, Stored, at_place}
use Rattle.registers.proofs.Frames.{stored_held, stored_eight}
use Rattle.registers.proofs.Puts.{stored_then, stored_same}
use Rattle.statement.specs.Done.{Carried, Finished}

-- no statement
pub finished_none : (p l : List ℕ) (v : List ℤ) (c : ℕ) → op_in (drop (word_in l c 0) p) ≡ 255 → Finished p l v c (word_in l c 0) l v
finished_none p l v c o =
    record {
      node = node_in l v c;
      finished = finish_none p (held_in l c) (node_in l v c) o;
      grown = still (node_in l v c) (node_in l v c) refl refl refl;
      place = refl;
      stored = stored_same;
    }

-- the node stands at another place now
module _ (l : List ℕ) (v : List ℤ) (c to : ℕ) (l₁ : List ℕ) (s : Stored l v c (at_place (node_in l v c) to) l₁ v) where
  pub eight_still : Eight l v → Eight l₁ v
  eight_still e = stored_eight s e

  pub held_still : Held (held_in l c) → Held (held_in l₁ c)
  held_still h = subst Held (sym (stored_held s)) h

  pub within_still : (m : ℕ) → Within m (node_in l v c) → Within m (node_in l₁ v c)
  within_still m w = subst (Within m) (sym s.node) (moved_within m to (node_in l v c) w)

  pub addable_still : (h : List ℕ) → Addable h (held_in l c) (node_in l v c) → Addable h (held_in l₁ c) (node_in l₁ v c)
  addable_still h a =
      subst (λ (k : Counts). Addable h k (node_in l₁ v c)) (sym (stored_held s))
      (subst (Addable h (held_in l c)) (sym s.node) (record { fits = a.fits }))

  -- and carries out the statement at which it stood
  pub finished_on : (p h : List ℕ) → h ≡ drop (word_in l c 0) p → (k : ℕ) → op_in (drop (word_in l c 0) p) ≡ k → k < 19 → (k ≡ 16 → ⊥) → (k ≡ 17 → ⊥) → (long : ℕ) → long ≡ statement_length h → to ≡ word_in l c 0 + long
      → {l₂ : List ℕ} {v₂ : List ℤ} → Carried h l₁ v c l₂ v₂ → Finished p l v c to l₂ v₂
  finished_on p h there k o low a b long e t d =
      let r = node_in l v c in
      let x : Executed h (held_in l c) (at_place r to) d.node =
      subst (λ (y : Node). Executed h (held_in l c) y d.node) s.node (subst (λ (y : Counts). Executed h y (node_in l₁ v c) d.node) (stored_held s) d.executed) in
      let g : Grown (at_place r to) d.node = subst (λ (y : Node). Grown y d.node) s.node d.grown in
      record {
        node = d.node;
        finished = finish_on p (held_in l c) r h there k o low a b long e d.node (subst (λ (y : ℕ). Executed h (held_in l c) (at_place r y) d.node) t x);
        grown = moved_grown to r d.node g;
        place = sym (d.place ∙ ap (λ (y : Node). y.pc) s.node);
        stored = stored_then s d.stored;
      }
