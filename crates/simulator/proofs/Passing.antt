-- The turns of nodes that sleep or listen until later, passed at once. Assumes nothing.
use mathlib.Core.Path.{◌≡◌, refl, sym, ap, subst, ◌∙◌}
use mathlib.Core.Logic.{by_cases}
use mathlib.Core.List.{List}
use Prim.Native.Nat.{ℕ, ◌+◌, ◌-◌, ◌≤◌, ◌<◌}
use native.Mathlib.Omega.{arith}
use native.Mathlib.Decide.{ℕ_discrete, dec_le}
use lib.IntN.{ℤ}
use lib.ListN.{length}
use Rattle.model.specs.Run.{Setting}
use Rattle.machine.specs.Running.{setting_in}
use Rattle.machine.proofs.Hearing.{all_nodes}
use Rattle.simulation.specs.Simulated.{Span, Trying, Stuck}
use Rattle.simulation.proofs.Turns.{Same, same_refl, same_then, at_turn, stuck_turns}
use Rattle.simulator.specs.declared.Turn.{Turn}
use Rattle.simulator.specs.Answers.{late_node}
use Rattle.simulator.specs.Tries.{Holds, Turned, Few, EarlyAt, PassedTo}
use Rattle.simulator.proofs.Still.{still_stuck, placed, told_early}

-- ## Which they are

module _ (l : List ℕ) (count tick turn left : ℕ) where
  pub passed_none : 1 ≤ left → PassedTo l count tick turn left turn
  passed_none h = record { from = omega arith; to = λ k. absurd (omega arith); few = omega arith; early = λ c a b. absurd (omega arith) }

  -- one node more
  pub passed_next : {first : ℕ} → PassedTo l count tick turn left first → first < count → count ≤ 8 → 8 < left → EarlyAt l first tick → PassedTo l count tick turn left (first + 1)
  passed_next {first} P h most many e =
      record {
        from = omega (arith, P.from);
        to = λ k. omega (arith, h);
        few = omega (arith, h, most, many);
        early =
            λ c a b.
            by_cases (ℕ_discrete c first)
            (λ q. subst (λ (i : ℕ). EarlyAt l i tick) (sym q) e)
            (λ q. P.early c a (omega arith));
      }

-- ## What they come to

module _ (program rows : List ℕ) (n H count tick turn lo hi state left first : ℕ) (l : List ℕ) (v : List ℤ) (until : List ℕ) {y : Trying} (h : Holds program rows n count tick turn state l v until y) (P : PassedTo l count tick turn left first) where
  abbrev g : Setting
  g = setting_in program H rows n l count

  abbrev w : Span
  w = record { lo = lo; hi = hi }

  nodes : length y.state.nodes ≡ count
  nodes = all_nodes program l v count y.state h.running.nodes

  -- none of them moves
  stays : (c : ℕ) → turn ≤ c → c < first → Stuck g w y c
  stays c a b =
      let there : c < count = omega (arith, P.to (omega arith)) in
      still_stuck program rows n H count tick turn lo hi state l v until h c there (told_early (placed (h.running.each c there)) until tick (P.early c a b))

  pub holds_ready : Holds program rows n count tick first state l v until (at_turn g w y first)
  holds_ready = record { running = h.running; at = h.at; turn = refl; draw = h.draw; full = h.full; works = h.works }

  passes_by : (m : ℕ) → Same g w (first - turn + m) y m (at_turn g w y first)
  passes_by m =
      by_cases (dec_le first turn)
      (λ k.
      let a : m ≡ first - turn + m = omega arith in
      let b : y.turn ≡ first = omega (arith, P.from, h.turn) in
      subst (λ (i : ℕ). Same g w i y m (at_turn g w y first)) a (subst (λ (i : ℕ). Same g w m y m (at_turn g w y i)) b (same_refl g w)))
      (λ k.
      let b : y.turn + (first - turn) ≡ first = omega (arith, P.from, h.turn) in
      subst (λ (i : ℕ). Same g w (first - turn + m) y m (at_turn g w y i)) b
      (stuck_turns g w (first - turn) m y (omega (arith, b, nodes, P.to (omega (arith, k)))) (λ c s t. stays c (omega (arith, h.turn)) (omega (arith, b)))))

  -- and then another turn
  pub passed_turned : {r : Turn} {l' : List ℕ} {v' : List ℤ} {until' : List ℕ} → Turned program rows n H count lo hi l (at_turn g w y first) r l' v' until'
      → Turned program rows n H count lo hi l y (record { course = r.course; tick = r.tick; turn = r.turn; moved = r.moved; state = r.state; turns = r.turns + (first - turn) }) l' v' until'
  passed_turned {r} T =
      record {
        on = λ x. (let z = T.on x in (z.0, (λ m. same_then g w (so_far m) (z.1 m)), z.2, z.3, omega (arith, z.4)));
        ends = λ late x m. (let q = T.ends late x m in (ap late_node (so_far m).run ∙ q.0, (so_far m).draw ∙ q.1));
        same = T.same;
      }
    where
      so_far : (m : ℕ) → Same g w (r.turns + (first - turn) + m) y (r.turns + m) (at_turn g w y first)
      so_far m =
          let a : first - turn + (r.turns + m) ≡ r.turns + (first - turn) + m = omega arith in
          subst (λ (i : ℕ). Same g w i y (r.turns + m) (at_turn g w y first)) a (passes_by (r.turns + m))

-- how many turns they are
pub few_passed : {l : List ℕ} {count tick turn left first : ℕ} → PassedTo l count tick turn left first → {r : Turn} → Few tick (left - (first - turn)) r
    → Few tick left (record { course = r.course; tick = r.tick; turn = r.turn; moved = r.moved; state = r.state; turns = r.turns + (first - turn) })
few_passed P F = record { some = omega (arith, F.some); most = omega (arith, F.most, P.few, P.from); ticks = omega (arith, F.ticks) }
