-- A statement carried out, by the words that it puts. Assumes nothing.
use mathlib.Core.Path.{◌≡◌, refl, sym, ap, ap₂, ◌∙◌}
use mathlib.Core.Bool.{true, false}
use mathlib.Core.List.{List}
use Prim.Native.Nat.{ℕ, ◌+◌, ◌-◌, ◌%◌, ◌≤◌, ◌<◌}
use native.Mathlib.Omega.{arith}
use borrow.Author.Tests.{ne_eqb}
use lib.IntN.{ℤ}
use lib.ListN.{length, drop, take}
use lib.Seq.{get_or-take}
use Rattle.model.specs.Lists.{All}
use Rattle.model.specs.Reader.{byte}
use Rattle.model.specs.Window.{clock_at}
use Rattle.model.specs.Machine.{block_place, statement_length}
use Rattle.node.specs.declared.Counts.{Counts}
use Rattle.node.specs.declared.Trial.{Trial}
use Rattle.node.specs.declared.Kept.{Kept}
use Rattle.node.specs.declared.Node.{Node}
use Rattle.node.specs.Views.{kept_of, op_in, Executed, Tried, Grown}
use Rattle.node.specs.After.{kept_by, nothing_kept, passing}
use Rattle.node.proofs.Held.{still, sleep_grown, each_within}
use Rattle.node.proofs.Trials.{kept_is}
use Rattle.node.proofs.Steps.{slept, idle, trial_kept}
use Rattle.node.proofs.Moves.{take_none, take_some, take_grown, choose_goes}
use Rattle.registers.specs.Words.{word_in, trial_in, kept_in, node_in, held_in, Stored, at_place, with_clocks, with_values, entering, with_trial, with_kept, with_passage, with_sleeps}
use Rattle.registers.proofs.Puts.{stored_then, stored_same, stored_as}
use Rattle.statement.specs.Done.{Carried, Finished}

-- no op from 7 on has pairs behind it
pub four_bytes : (h : List ℕ) → 7 ≤ byte h 0 → 4 ≡ statement_length h
four_bytes h a = rw (ne_eqb (byte h 0) 5 (λ e. omega arith))

-- a clock that the node has is within bounds
pub clock_within : (m n : ℕ) (xs : List ℕ) (a x : ℕ) → All (λ k. k ≤ m) xs → a < n → x ≡ clock_at (take n xs) a → x ≤ m
clock_within m n xs a x w h e = omega (arith, e, get_or-take n xs a 0 h, each_within m a w)

module _ (h l : List ℕ) (v : List ℤ) (c : ℕ) (fits : 4 ≤ length h) where
  abbrev r : Node
  r = node_in l v c

  abbrev held : Counts
  held = held_in l c

  pub carried_same : Executed h held r r → Carried h l v c l v
  carried_same e = record { node = r; executed = e; grown = still r r refl refl refl; place = refl; stored = stored_same }

  pub carried_idle : 3 ≤ byte h 0 → byte h 0 ≤ 6 → Carried h l v c l v
  carried_idle a b = carried_same (idle h held r fits a b)

  pub carried_values : (xs : List ℤ) {v' : List ℤ} → Executed h held r (with_values r xs) → Stored l v c (with_values r xs) l v' → Carried h l v c l v'
  carried_values xs e s = record { node = with_values r xs; executed = e; grown = still r (with_values r xs) refl refl refl; place = refl; stored = s }

  module _ {l' : List ℕ} where
    pub carried_slept : byte h 0 ≡ 0 → (k : ℕ) → k ≡ word_in l c 20 → Stored l v c (with_sleeps r (k + 1)) l' v → Carried h l v c l' v
    carried_slept e k w s =
        record {
          node = with_sleeps r (word_in l c 20 + 1);
          executed = slept h held r fits e;
          grown = sleep_grown r (with_sleeps r (word_in l c 20 + 1)) refl refl refl;
          place = refl;
          stored = stored_as s (s.node ∙ ap (λ (n : ℕ). with_sleeps r (n + 1)) w);
        }

    pub carried_clocks : (xs : List ℕ) → Executed h held r (with_clocks r xs) × Grown r (with_clocks r xs) → Stored l v c (with_clocks r xs) l' v → Carried h l v c l' v
    carried_clocks xs e s = record { node = with_clocks r xs; executed = e.0; grown = e.1; place = refl; stored = s }

    pub carried_entered : (x : ℕ) → Executed h held r (entering r x) → Stored l v c (entering r x) l' v → Carried h l v c l' v
    carried_entered x e s = record { node = entering r x; executed = e; grown = still r (entering r x) refl refl refl; place = refl; stored = s }

    pub carried_trial : (y : Trial) → Tried h held r y → Stored l v c (with_trial r y) l' v → Carried h l v c l' v
    carried_trial y t s = record { node = with_trial r y; executed = t; grown = still r (with_trial r y) refl refl refl; place = refl; stored = s }

    pub carried_kept : (x : Trial) (k k' : Kept) → x ≡ trial_in l c → k ≡ kept_in l c → byte h 0 ≡ 15
        → k' ≡ kept_by x (byte h 3) k → Stored l v c (with_kept r k') l' v → Carried h l v c l' v
    carried_kept x k k' ex ek e f s =
        record {
          node = with_kept r k';
          executed = trial_kept h held r fits k' e (ap kept_of (f ∙ ap₂ (λ (y : Trial) (z : Kept). kept_by y (byte h 3) z) ex ek) ∙ kept_is (trial_in l c) (byte h 3) (kept_in l c));
          grown = still r (with_kept r k') refl refl refl;
          place = refl;
          stored = s;
        }

-- ## To another block

module _ (p l : List ℕ) (v : List ℤ) (c : ℕ) where
  abbrev now : Node
  now = node_in l v c

  abbrev has : Counts
  has = held_in l c

  pub finished_chosen : (pc : ℕ) {l' : List ℕ} → op_in (drop (word_in l c 0) p) ≡ 17 → pc ≡ block_place p (word_in l c 8 % 256) → Stored l v c (at_place now pc) l' v → Finished p l v c pc l' v
  finished_chosen pc o e s =
      record {
        node = at_place now pc;
        finished = choose_goes p has now pc o e;
        grown = still now (at_place now pc) refl refl refl;
        place = refl;
        stored = s;
      }

  pub finished_nowhere : (k : Kept) {l' : List ℕ} → k ≡ kept_in l c → op_in (drop (word_in l c 0) p) ≡ 16 → k.some ≡ false → Stored l v c (at_place now (length p)) l' v
      → Finished p l v c (length p) l' v
  finished_nowhere k ek o f s =
      record {
        node = at_place now (length p);
        finished = take_none p has now o (sym (ap (λ (x : Kept). x.some) ek) ∙ f);
        grown = still now (at_place now (length p)) refl refl refl;
        place = refl;
        stored = s;
      }

  pub finished_taken : (k : Kept) (to t d : ℕ) {l₁ l₂ l₃ : List ℕ} → k ≡ kept_in l c → op_in (drop (word_in l c 0) p) ≡ 16 → k.some ≡ true → to ≡ block_place p (byte p 2 + k.edge)
      → t ≡ word_in l c 1 + word_in l c 7 % 65536 + k.ready → d ≡ k.end - k.ready → Stored l v c (at_place now to) l₁ v
      → Stored l₁ v c (with_passage (node_in l₁ v c) k.edge t k.ready d) l₂ v → Stored l₂ v c (with_kept (node_in l₂ v c) (nothing_kept)) l₃ v → Finished p l v c to l₃ v
  finished_taken k to t d {l₁} {l₂} {l₃} ek o f et tt dd s₁ s₂ s₃ =
      let some : (kept_in l c).some ≡ true = sym (ap (λ (x : Kept). x.some) ek) ∙ f in
      let place : to ≡ block_place p (byte p 2 + (kept_in l c).edge) = et ∙ ap (λ (x : Kept). block_place p (byte p 2 + x.edge)) ek in
      let time : t ≡ word_in l c 1 + word_in l c 7 % 65536 + (kept_in l c).ready = tt ∙ ap (λ (x : Kept). word_in l c 1 + word_in l c 7 % 65536 + x.ready) ek in
      let span : d ≡ (kept_in l c).end - (kept_in l c).ready = dd ∙ ap (λ (x : Kept). x.end - x.ready) ek in
      let node : node_in l₃ v c ≡ passing now to t d =
      s₃.node
      ∙ (ap (λ (x : Node). with_kept x (nothing_kept)) (s₂.node ∙ ap (λ (x : Node). with_passage x k.edge t k.ready d) s₁.node)
      ∙ ap (λ (x : Kept). with_kept (with_passage (at_place now to) x.edge t x.ready d) (nothing_kept)) ek) in
      record {
        node = passing now to t d;
        finished = take_some p has now to t d o some place time span;
        grown = take_grown now (passing now to t d) (omega arith) (omega arith) time refl refl;
        place = refl;
        stored = stored_as (stored_then s₁ (stored_then s₂ s₃)) node;
      }
