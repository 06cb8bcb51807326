-- A tick of a simulated run, after a round in which nobody moved, from what the words say of it. Assumes nothing.
use mathlib.Core.Path.{◌≡◌, refl, sym, ap, subst, ◌∙◌}
use mathlib.Core.Bool.{Bool, true, false, cond}
use mathlib.Core.List.{List}
use Prim.Native.Nat.{ℕ, suc, ◌+◌, ◌*◌, ◌≤◌, ◌<◌}
use native.Mathlib.Omega.{arith}
use borrow.Author.Tests.{eq-eqb, ne_eqb}
use lib.Dec.{eqb}
use lib.IntN.{ℤ}
use lib.ListN.{length}
use Rattle.model.specs.Lists.{any, below}
use Rattle.model.specs.Run.{Setting, Run, forbidden, on, over, ticked, after_tick, late_nodes, choose1}
use Rattle.registers.specs.Words.{word_in}
use Rattle.machine.specs.Running.{setting_in}
use Rattle.machine.proofs.Frames.{stands_wider}
use Rattle.machine.proofs.Hearing.{all_nodes}
use Rattle.run.specs.Ends.{FirstLate}
use Rattle.run.proofs.Choices.{tick_choice}
use Rattle.run.proofs.Ticks.{due_said, late_none, late_some}
use Rattle.simulation.specs.Simulated.{Span, Trying, anew}
use Rattle.simulation.proofs.Turns.{result, drawn, Same, tick_refused, tick_passes, tick_ends}
use Rattle.std.specs.Prelude.{None, Some}
use Rattle.simulator.specs.Answers.{late_node}
use Rattle.simulator.specs.Tries.{Holds}

module _ (program : List ℕ) (H : ℕ) (rows : List ℕ) (n : ℕ) (l : List ℕ) (v : List ℤ) (count lo hi tick c state : ℕ) (until : List ℕ) {y : Trying} (h : Holds program rows n count tick c state l v until y)
    (all : count ≤ c) (none : y.moved ≡ false) (early : tick ≤ 1000000000000) where
  abbrev g : Setting
  g = setting_in program H rows n l count

  abbrev w : Span
  w = record { lo = lo; hi = hi }

  abbrev s : Run
  s = y.state

  full : length s.nodes ≤ y.turn
  full = omega (arith, all_nodes program l v count s h.running.nodes, h.turn)

  -- what the words say of somebody due decides
  by-words : {d : Bool} → any (λ (i : ℕ). eqb (word_in l i 26) tick) (below count) ≡ d
      → choose1 g s 255 ≡ cond d forbidden (after_tick g (ticked s) (late_nodes g (suc s.tick) 0 s.nodes))
  by-words {d} e =
      tick_choice g s 255 refl
      ∙ ap (λ (t : Bool). cond t forbidden (after_tick g (ticked s) (late_nodes g (suc s.tick) 0 s.nodes)))
      (due_said program H rows n l l v count s h.running refl s.tick (omega (arith, h.at, early))
      ∙ subst (λ (t : ℕ). any (λ (i : ℕ). eqb (word_in l i 26) t) (below count) ≡ d) (sym h.at) e)

  -- somebody is due: the list ends
  pub due_ends : any (λ (i : ℕ). eqb (word_in l i 26) tick) (below count) ≡ true → (m : ℕ) → (late_node (result g w (suc m) y) ≡ None) × (drawn g w (suc m) y ≡ state)
  due_ends e m = let q = tick_refused g w m y full none (by-words e) in (ap late_node q.0, q.1 ∙ h.draw)

  module _ (d : any (λ (i : ℕ). eqb (word_in l i 26) tick) (below count) ≡ false) {r : ℕ} (F : FirstLate l count (tick + 1) r) where
    then : suc s.tick ≡ tick + 1
    then = omega (arith, h.at)

    F' : FirstLate l count (suc s.tick) r
    F' = subst (λ (t : ℕ). FirstLate l count t r) (sym then) F

    -- a node is late
    pub late-ends : r < count → (m : ℕ) → (late_node (result g w (suc m) y) ≡ Some r) × (drawn g w (suc m) y ≡ state)
    late-ends k m =
        let f = late_some program H rows n l l v count s h.running refl (suc s.tick) (omega (arith, h.at, early)) F' k in
        let q = tick_ends g w m y full none (by-words d ∙ ap (after_tick g (ticked s)) f.1) in
        (ap late_node q.0, q.1 ∙ h.draw)

    pub passes : count ≤ r → choose1 g s 255 ≡ cond (eqb (suc s.tick) H) (over (ticked s) 0 255) (on (ticked s))
    passes k = by-words d ∙ ap (after_tick g (ticked s)) (late_none program H rows n l l v count s h.running refl (suc s.tick) (omega (arith, h.at, early)) F' k)

    -- the horizon is reached
    pub horizon_ends : count ≤ r → tick + 1 ≡ H → (m : ℕ) → (late_node (result g w (suc m) y) ≡ None) × (drawn g w (suc m) y ≡ state)
    horizon_ends k e m =
        let q = tick_ends g w m y full none (passes k ∙ ap (λ (t : Bool). cond t (over (ticked s) 0 255) (on (ticked s))) (eq-eqb (suc s.tick) H (then ∙ e))) in
        (ap late_node q.0, q.1 ∙ h.draw)

    module _ (k : count ≤ r) (e : tick + 1 ≡ H → ⊥) where
      -- the run goes on
      pub tick_same : (m : ℕ) → Same g w (suc m) y m (anew y (ticked s))
      tick_same m = tick_passes g w m y full none (passes k ∙ ap (λ (t : Bool). cond t (over (ticked s) 0 255) (on (ticked s))) (ne_eqb (suc s.tick) H (λ q. e (sym then ∙ q))))

      pub tick_holds : Holds program rows n count (tick + 1) 0 state l v until (anew y (ticked s))
      tick_holds =
          let R = h.running in
          record {
            running =
                record {
                  most = R.most;
                  listed = R.listed;
                  eight = R.eight;
                  nodes = R.nodes;
                  each = λ i x. stands_wider (s.used * 131070) (suc s.used * 131070) (omega arith) (R.each i x);
                  finish = R.finish;
                  alike = R.alike;
                };
            at = then;
            turn = refl;
            draw = h.draw;
            full = h.full;
            works = h.works;
          }
