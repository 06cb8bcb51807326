-- Bytes of the lent slice one by one: cells raised, cells and rows without windows. Assumes nothing.
use mathlib.Core.Path.{◌≡◌, refl, sym, ◌∙◌}
use mathlib.Core.Bool.{true, false}
use mathlib.Core.List.{List, []}
use mathlib.Core.Option.{none, some}
use Prim.Native.Nat.{ℕ, ◌+◌, ◌*◌, ◌≤◌, ◌<◌}
use native.Mathlib.Omega.{arith}
use native.Mathlib.Decide.{ℕ_discrete}
use lib.ListN.{length, get_or, set, length-set}
use lib.Seq.{get_or-set_same, get_or-set_other}
use Rattle.model.specs.declared.Action.{Action}
use Rattle.model.specs.declared.Action.TheVariants.{Internal, Send, Receive}
use Rattle.model.specs.Table.{Table, size}
use Rattle.model.specs.Places.{read_of}
use Rattle.model.specs.Window.{sends, receives}
use Rattle.model.specs.Chart.{letter_of}
use Rattle.rows.specs.Rows.{option_of, row_passage, RowsPlaced}
use Rattle.std.specs.Prelude.{is_some}
use Rattle.std.specs.declared.option.Option.{Option as Found}
use Rattle.std.specs.declared.option.Option.TheVariants.{Some, None}
use Rattle.model.proofs.Basics.Bools.{clash}
use Rattle.chart.specs.declared.Window.{Window}
use Rattle.chart.specs.Drawn.{empty_cell, raised_of, Tells, Painted, EmptyCells, Frame, EmptyRow, Drawn}

-- ## The letter of an edge

pub receive_letter : (a : Action) → receives a ≡ true → 82 ≡ letter_of a
receive_letter Internal e = clash e
receive_letter (Send k) e = clash e
receive_letter Receive e = refl

pub internal_letter : (a : Action) (o : Found ℕ) → receives a ≡ false → option_of o ≡ sends a → is_some o ≡ false → 87 ≡ letter_of a
internal_letter Internal o e f h = refl
internal_letter (Send k) None e f h = let z : none ≡ some k = f in absurd (cc)
internal_letter (Send k) (Some m) e f h = clash (sym h)
internal_letter Receive o e f h = clash (sym e)

pub send_letter : (a : Action) (o : Found ℕ) → receives a ≡ false → option_of o ≡ sends a → is_some o ≡ true → 83 ≡ letter_of a
send_letter Internal None e f h = clash h
send_letter Internal (Some m) e f h = let z : some m ≡ none = f in absurd (cc)
send_letter (Send k) o e f h = refl
send_letter Receive o e f h = clash (sym e)

-- ## One byte stored

module _ (l : List ℕ) (at x : ℕ) where
  -- what lies elsewhere stays
  pub beside : (k : ℕ) → (k ≡ at → ⊥) → get_or (set l at x) k 0 ≡ get_or l k 0
  beside k h = get_or-set_other l at k x 0 h

  pub stored : at < length l → get_or (set l at x) at 0 ≡ x
  stored h = get_or-set_same l at x 0 h

-- ## Cells raised

pub painted_none : (from letter : ℕ) (l : List ℕ) → Painted from from letter l l
painted_none from letter l = record { same = refl; raised = λ k h g. absurd (omega arith); front = λ k h. refl; rest = λ k h. refl }

-- one more
pub painted_turn : (from k letter x : ℕ) (before after : List ℕ) → from ≤ k → k < length after → x ≡ raised_of (get_or after k 0) letter → Painted from k letter before after
    → Painted from (k + 1) letter before (set after k x)
painted_turn from k letter x before after h less e p =
    record {
      same = length-set after k x ∙ p.same;
      raised = λ j low high. at j low high (ℕ_discrete j k);
      front = λ j g. beside after k x j (λ q. omega arith) ∙ p.front j g;
      rest = λ j g. beside after k x j (λ q. omega arith) ∙ p.rest j (omega arith);
    }
  where
    at : (j : ℕ) → from ≤ j → j < k + 1 → Dec (j ≡ k) → get_or (set after k x) j 0 ≡ raised_of (get_or before j 0) letter
    at j low high (yes q) = rw q (stored after k x less ∙ e ∙ rw (p.rest k (omega arith)))
    at j low high (no q) = beside after k x j q ∙ p.raised j low (omega (arith, q))

-- ## Cells without windows

pub cells_none : (H at : ℕ) (l : List ℕ) → EmptyCells H at 0 l l
cells_none H at l = record { same = refl; cell = λ i h. absurd (omega arith); front = λ k h. refl; rest = λ k h. refl }

pub cells_turn : (H at i x : ℕ) (before after : List ℕ) → at + i < length after → x ≡ empty_cell H i → EmptyCells H at i before after → EmptyCells H at (i + 1) before (set after (at + i) x)
cells_turn H at i x before after less e p =
    record {
      same = length-set after (at + i) x ∙ p.same;
      cell = λ j h. here j h (ℕ_discrete j i);
      front = λ k h. beside after (at + i) x k (λ q. omega arith) ∙ p.front k h;
      rest = λ k h. beside after (at + i) x k (λ q. omega arith) ∙ p.rest k (omega arith);
    }
  where
    here : (j : ℕ) → j < i + 1 → Dec (j ≡ i) → get_or (set after (at + i) x) (at + j) 0 ≡ empty_cell H j
    here j h (yes q) = rw q (stored after (at + i) x less ∙ e)
    here j h (no q) = beside after (at + i) x (at + j) (λ z. q (omega arith)) ∙ p.cell j (omega (arith, q))

-- ## A row without windows

-- what stands around the cells, stored after them
module _ (H c digit : ℕ) (before l : List ℕ) (p : EmptyCells H (c * 69 + 4) 64 before l) (room : c * 69 + 69 ≤ length before) (d : digit ≡ 48 + c) where
  abbrev l₁ : List ℕ
  l₁ = set l (c * 69) 67

  abbrev l₂ : List ℕ
  l₂ = set l₁ (c * 69 + 1) digit

  abbrev l₃ : List ℕ
  l₃ = set l₂ (c * 69 + 2) 58

  abbrev l₄ : List ℕ
  l₄ = set l₃ (c * 69 + 3) 32

  abbrev l₅ : List ℕ
  l₅ = set l₄ (c * 69 + 68) 10

  long₁ : length l₁ ≡ length before
  long₁ = length-set l (c * 69) 67 ∙ p.same

  long₂ : length l₂ ≡ length before
  long₂ = length-set l₁ (c * 69 + 1) digit ∙ long₁

  long₃ : length l₃ ≡ length before
  long₃ = length-set l₂ (c * 69 + 2) 58 ∙ long₂

  long₄ : length l₄ ≡ length before
  long₄ = length-set l₃ (c * 69 + 3) 32 ∙ long₃

  -- a byte that is none of the five
  pub kept : (k : ℕ) → (k ≡ c * 69 → ⊥) → (k ≡ c * 69 + 1 → ⊥) → (k ≡ c * 69 + 2 → ⊥) → (k ≡ c * 69 + 3 → ⊥) → (k ≡ c * 69 + 68 → ⊥) → get_or l₅ k 0 ≡ get_or l k 0
  kept k h₁ h₂ h₃ h₄ h₅ =
      beside l₄ (c * 69 + 68) 10 k h₅ ∙ beside l₃ (c * 69 + 3) 32 k h₄ ∙ beside l₂ (c * 69 + 2) 58 k h₃ ∙ beside l₁ (c * 69 + 1) digit k h₂ ∙ beside l (c * 69) 67 k h₁

  pub row_put : EmptyRow H c before l₅
  row_put =
      record {
        same = length-set l₄ (c * 69 + 68) 10 ∙ long₄;
        frame = (
          beside l₄ (c * 69 + 68) 10 (c * 69) (λ q. omega arith)
              ∙ beside l₃ (c * 69 + 3) 32 (c * 69) (λ q. omega arith)
              ∙ beside l₂ (c * 69 + 2) 58 (c * 69) (λ q. omega arith)
              ∙ beside l₁ (c * 69 + 1) digit (c * 69) (λ q. omega arith)
              ∙ stored l (c * 69) 67 (omega (arith, p.same)),
          beside l₄ (c * 69 + 68) 10 (c * 69 + 1) (λ q. omega arith)
              ∙ beside l₃ (c * 69 + 3) 32 (c * 69 + 1) (λ q. omega arith)
              ∙ beside l₂ (c * 69 + 2) 58 (c * 69 + 1) (λ q. omega arith)
              ∙ stored l₁ (c * 69 + 1) digit (omega (arith, long₁))
              ∙ d,
          beside l₄ (c * 69 + 68) 10 (c * 69 + 2) (λ q. omega arith)
              ∙ beside l₃ (c * 69 + 3) 32 (c * 69 + 2) (λ q. omega arith)
              ∙ stored l₂ (c * 69 + 2) 58 (omega (arith, long₂)),
          beside l₄ (c * 69 + 68) 10 (c * 69 + 3) (λ q. omega arith) ∙ stored l₃ (c * 69 + 3) 32 (omega (arith, long₃)),
          stored l₄ (c * 69 + 68) 10 (omega (arith, long₄)),
        );
        cell = λ i h. kept (c * 69 + 4 + i) (λ q. omega arith) (λ q. omega arith) (λ q. omega arith) (λ q. omega arith) (λ q. omega arith) ∙ p.cell i h;
        front = λ k h. kept k (λ q. omega arith) (λ q. omega arith) (λ q. omega arith) (λ q. omega arith) (λ q. omega arith) ∙ p.front k (omega arith);
        rest = λ k h. kept k (λ q. omega arith) (λ q. omega arith) (λ q. omega arith) (λ q. omega arith) (λ q. omega arith) ∙ p.rest k (omega arith);
      }

-- ## The chart of no passage

pub drawn_none : (T : Table) (H : ℕ) (l : List ℕ) → Drawn T H [] 0 l l
drawn_none T H l =
    record { same = refl; frame = λ c h. absurd (omega arith); cell = λ c i h g. absurd (omega arith); rest = λ k h. refl }

-- one row more
pub drawn_turn : (T : Table) (H c : ℕ) (before l l' : List ℕ) → Drawn T H [] c before l → EmptyRow H c l l' → Drawn T H [] (c + 1) before l'
drawn_turn T H c before l l' p r =
    record {
      same = r.same ∙ p.same;
      frame = λ d h. frames d h (ℕ_discrete d c);
      cell = λ d i h g. cells d i h g (ℕ_discrete d c);
      rest = λ k h. r.rest k (omega arith) ∙ p.rest k (omega arith);
    }
  where
    frames : (d : ℕ) → d < c + 1 → Dec (d ≡ c) → Frame d l'
    frames d h (yes q) = rw q r.frame
    frames d h (no q) =
        let less : d < c = omega (arith, q) in
        let f = p.frame d less in
        (r.front (d * 69) (omega arith) ∙ f.0, r.front (d * 69 + 1) (omega arith) ∙ f.1, r.front (d * 69 + 2) (omega arith) ∙ f.2, r.front (d * 69 + 3) (omega arith) ∙ f.3, r.front (d * 69 + 68) (omega arith) ∙ f.4)

    cells : (d i : ℕ) → d < c + 1 → i < 64 → Dec (d ≡ c) → get_or l' (d * 69 + 4 + i) 0 ≡ empty_cell H i
    cells d i h g (yes q) = rw q (r.cell i g)
    cells d i h g (no q) = let less : d < c = omega (arith, q) in r.front (d * 69 + 4 + i) (omega arith) ∙ p.cell d i less g

-- ## What is known of a row

-- its component is one of the table's, and its window has a tick
pub row_fits : (bs l : List ℕ) (n i : ℕ) (w : Window) → RowsPlaced bs l n → i < n → Tells (read_of bs).table (row_passage l i) w
    → (w.component < size (read_of bs).table) × (w.ready ≤ w.end)
row_fits bs l n i w r h t = (omega (arith, (r.row i h).present, t.component), omega (arith, (r.row i h).window, t.ready, t.end))
