-- A node's choice whose observation nobody reads: refused, or finished. Assumes nothing.
use mathlib.Core.Path.{◌≡◌, refl, sym, ap, ◌∙◌}
use mathlib.Core.Bool.{Bool, true, false, cond}
use mathlib.Core.List.{List, []}
use Prim.Native.Nat.{ℕ, ◌-◌, ◌≤◌, ◌<◌}
use borrow.Author.Tests.{eqb-true, eqb-false}
use lib.Dec.{eqb}
use Rattle.std.specs.Bool.{then_some}
use Rattle.std.specs.Prelude.{Some}
use lib.IntN.{ℤ}
use Rattle.model.specs.Machine.{finish}
use Rattle.model.specs.Run.{stand_of}
use Rattle.registers.specs.Words.{part_in, wake_tick_in, finish_tick_in}
use Rattle.stand.specs.Stands.{may_finish}
use Rattle.machine.specs.Running.{view_in, finishes_work}
use Rattle.machine.specs.Chosen.{op_of, NodeMoved, Chosen, ChosenUnseen}
use Rattle.machine.proofs.Alone.{refused, woken, done}

-- nothing was written
pub unwritten : {program rows : List ℕ} {n H count tick b : ℕ} {l : List ℕ} {v : List ℤ} {allowed : Bool} {l' : List ℕ} {v' : List ℤ}
    → Chosen program rows n H count tick b l v [] 0 (then_some allowed 0) l' v' [] → ChosenUnseen program rows n H count tick b l v allowed l' v'
unwritten {allowed = true} C = record { moved = _; out = []; may = refl; chosen = C }
unwritten {allowed = false} C = record { moved = _; out = []; may = refl; chosen = C }

module _ (program rows : List ℕ) (n H count tick b : ℕ) (l : List ℕ) (v : List ℤ) (most : count ≤ 8) (h : b < count) (wake : wake_tick_in l b ≤ tick) (o : op_of program l v b ≡ 4 → ⊥)
    {since : ℕ} (at : since ≡ wake_tick_in l b) where
  -- a test at the tick of its own clock
  own_test : {x : Bool} → may_finish (tick - since) (view_in program l v b) (stand_of (view_in program l v b)) ≡ x
      → may_finish (tick - wake_tick_in l b) (view_in program l v b) (stand_of (view_in program l v b)) ≡ x
  own_test e = ap (λ (k : ℕ). may_finish (tick - k) (view_in program l v b) (stand_of (view_in program l v b))) (sym at) ∙ e

  -- it may not finish its statement
  pub refused_unseen : may_finish (tick - since) (view_in program l v b) (stand_of (view_in program l v b)) ≡ false → ChosenUnseen program rows n H count tick b l v false l v
  refused_unseen e = unwritten (refused program rows n H count tick b l v [] 0 most h wake o (own_test e))

  -- it finishes it
  pub finished_unseen : may_finish (tick - since) (view_in program l v b) (stand_of (view_in program l v b)) ≡ true → {l' : List ℕ} {v' : List ℤ}
      → NodeMoved program rows n l v b (finish (part_in program l b) (view_in program l v b) (view_in program l v b).rest) l' v' → (op : ℕ) → op ≡ op_of program l v b
      → finish_tick_in l' b ≡ cond (finishes_work op) (tick - since) (finish_tick_in l b) → ChosenUnseen program rows n H count tick b l v true l' v'
  finished_unseen e {l'} {v'} mv op is f = go (eqb (op_of program l v b) 0) refl
    where
      own_finish : finish_tick_in l' b ≡ cond (finishes_work op) (tick - wake_tick_in l b) (finish_tick_in l b)
      own_finish = f ∙ ap (λ (k : ℕ). cond (finishes_work op) (tick - k) (finish_tick_in l b)) at

      go : (x : Bool) → eqb (op_of program l v b) 0 ≡ x → ChosenUnseen program rows n H count tick b l v true l' v'
      go true z =
          record {
            moved = Some 1;
            out = _;
            may = refl;
            chosen = woken program rows n H count tick b l v [] 0 most h wake mv op is own_finish o (own_test e) (eqb-true (op_of program l v b) 0 z) _ refl;
          }
      go false z = unwritten (done program rows n H count tick b l v [] 0 most h wake mv op is own_finish o (own_test e) (eqb-false (op_of program l v b) 0 z))
