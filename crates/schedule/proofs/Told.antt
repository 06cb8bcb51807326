-- A passage that closes gets its message: what that leaves as it was, and that the message stays the one found. Assumes nothing.
use mathlib.Core.Path.{◌≡◌, sym, ap, ap₂, ◌∙◌}
use mathlib.Core.List.{List}
use Prim.Native.Nat.{ℕ, ◌+◌, ◌*◌, ◌≤◌, ◌<◌}
use native.Mathlib.Omega.{arith}
use lib.ListN.{length, set, length-set}
use lib.Seq.{get_or-set_same, get_or-set_other}
use Rattle.model.specs.Lists.{empty, more, snoc}
use Rattle.model.specs.Places.{read_of}
use Rattle.model.specs.Schedule.{Passage, message_in, OpenedSoFar}
use Rattle.model.proofs.Schedule.Messages.{same_message}
use Rattle.rows.specs.Rows.{num, message_of, row_passage, rows_of, Told}
use Rattle.rows.proofs.Relabelled.{row_bare, rows_bare, same_rows}
use Rattle.rows.proofs.Relabelled.{same_message as same-relabelled}
use Rattle.schedule.specs.declared.Node.{Node}
use Rattle.schedule.specs.Going.{Open, Going}

-- row r of n gets the message m
module _ (l : List ℕ) (n r m : ℕ) where
  abbrev pub relabelled : List ℕ
  relabelled = set l (r * 9 + 6) m

  -- all but the message stays
  pub stays : (i k : ℕ) → i < n → k < 9 → (k ≡ 6 → ⊥) → num relabelled i k ≡ num l i k
  stays i k h b d = get_or-set_other l (r * 9 + 6) (i * 9 + k) m 0 (λ q. d (omega arith))

  module _ (bs : List ℕ) where
    open_still : {c : ℕ} {node : Node} {until : ℕ} {v : Passage} → Open bs l n c node until v → Open bs relabelled n c node until v
    open_still {node = node} o =
        record {
          component = o.component;
          entry = o.entry;
          end = o.end;
          row = o.row;
          shown = row_bare l relabelled n stays node.row o.row ∙ o.shown;
          place = stays node.row 7 o.row (omega arith) (λ e. omega arith) ∙ o.place;
          young = o.young;
        }

    -- the open passages stay
    pub going_still : {k : ℕ} {nodes : List Node} {ends : List ℕ} {p : OpenedSoFar} → Going bs l n k nodes ends p → Going bs relabelled n k nodes ends p
    going_still g =
        record {
          placed = same_rows l relabelled n stays bs (length-set l (r * 9 + 6) m) g.placed;
          rows = rows_bare l relabelled n stays 0 n (omega arith) ∙ g.rows;
          full = g.full;
          each = λ c h. open_still (g.each c h);
          entered = λ i c h a. omega (arith, stays i 3 h (omega arith) (λ e. omega arith), g.entered i c h a);
        }

-- after n rows, row n is added, of a passage w that ends no earlier than row i; and row r gets the message m
module _ (bs l l' : List ℕ) (n r m : ℕ) (w : Passage) (rows : rows_of l' (n + 1) ≡ snoc (rows_of l n) w) (H i : ℕ) (here : i < n)
    (same : row_passage l' i ≡ row_passage l i) (ended : num l i 5 ≤ w.end) where
  -- row i finds the same message
  found : message_in (read_of bs).table H (rows_of (relabelled l' (n + 1) r m) (n + 1)) (row_passage (relabelled l' (n + 1) r m) i)
      ≡ message_in (read_of bs).table H (rows_of l n) (row_passage l i)
  found =
      same-relabelled l' (relabelled l' (n + 1) r m) (n + 1) (stays l' (n + 1) r m) (read_of bs).table H i (omega arith)
      ∙ ap₂ (message_in (read_of bs).table H) rows same
      ∙ same_message (read_of bs).table H (row_passage l i) (rows_of l n) (more ended empty)

  -- it is the one that gets its message
  pub told_now : i ≡ r → r * 9 + 6 < length l' → message_of m ≡ message_in (read_of bs).table H (rows_of l n) (row_passage l i)
      → Told bs H (relabelled l' (n + 1) r m) (n + 1) i
  told_now e fits t = ap (λ j. message_of (num (relabelled l' (n + 1) r m) j 6)) e ∙ ap message_of (get_or-set_same l' (r * 9 + 6) m 0 fits) ∙ t ∙ sym found

  -- it had its message
  pub told_still : (i ≡ r → ⊥) → Told bs H l n i → Told bs H (relabelled l' (n + 1) r m) (n + 1) i
  told_still d t =
      ap message_of (get_or-set_other l' (r * 9 + 6) (i * 9 + 6) m 0 (λ q. d (omega arith))) ∙ ap (λ (v : Passage). v.message) same ∙ t ∙ sym found
