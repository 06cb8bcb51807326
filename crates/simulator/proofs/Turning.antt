-- A turn of a simulated run: a node's, the round begun anew, a tick. Assumes nothing.
use mathlib.Core.Path.{◌≡◌, refl, sym, ap, ap₂, subst, ◌∙◌}
use mathlib.Core.Bool.{Bool, true, false}
use mathlib.Core.List.{List}
use Prim.Native.Nat.{ℕ, suc, ◌+◌, ◌≤◌, ◌<◌}
use native.Mathlib.Omega.{arith}
use lib.IntN.{ℤ}
use lib.Dec.{eqb}
use lib.ListN.{length}
use Rattle.model.specs.Lists.{any, below}
use Rattle.registers.specs.Words.{word_in}
use Rattle.run.specs.Ends.{FirstLate}
use Rattle.model.specs.Run.{Setting, stand_of, node_of, choose1, ticked}
use Rattle.machine.specs.Running.{setting_in}
use Rattle.machine.proofs.Hearing.{all_nodes}
use Rattle.simulation.specs.Simulated.{Span, waits, Trying, until_of, next_turn, anew, went, Stuck}
use Rattle.simulation.proofs.Turns.{result, drawn, Same, turn_taken, stuck_turn, turn_anew}
use Rattle.std.specs.Prelude.{Option}
use Rattle.simulator.specs.declared.Course.TheVariants.{GoesOn, Over}
use Rattle.simulator.specs.declared.Turn.{Turn}
use Rattle.simulator.specs.Answers.{late_node}
use Rattle.simulator.specs.Tries.{Holds, Attempted, Turned}
use Rattle.simulator.proofs.Ticking.{tick_same, tick_holds}

module _ (program rows : List ℕ) (n H count tick c lo hi state : ℕ) (l : List ℕ) (v : List ℤ) (until : List ℕ) {y : Trying} (h : Holds program rows n count tick c state l v until y) where
  abbrev g : Setting
  g = setting_in program H rows n l count

  abbrev w : Span
  w = record { lo = lo; hi = hi }

  -- as many nodes
  nodes : length y.state.nodes ≡ count
  nodes = all_nodes program l v count y.state h.running.nodes

  -- a turn after which the run goes on
  goes_on : {l' : List ℕ} {v' : List ℤ} {until' : List ℕ} (r : Turn) → r.course ≡ GoesOn → r.turns ≡ 1 → (z : Trying) → ((m : ℕ) → Same g w (suc m) y m z) → Holds program rows n count r.tick r.turn r.state l' v' until' z
      → z.moved ≡ r.moved → z.state.used ≤ suc y.state.used → setting_in program H rows n l' count ≡ g → Turned program rows n H count lo hi l y r l' v' until'
  goes_on r e t z s k m u q =
      record {
        on = λ x. (z, (λ j. let a : suc j ≡ r.turns + j = omega (arith, t) in subst (λ (i : ℕ). Same g w i y j z) a (s j)), k, m, omega (arith, t, u));
        ends = λ late x. (let q = sym e ∙ x in absurd (cc));
        same = q;
      }

  -- ## A node's turn

  module _ {moved : Bool} {state' : ℕ} {l' : List ℕ} {v' : List ℤ} {until' : List ℕ} (A : Attempted program rows n H count tick c lo hi state l v until moved state' l' v' until') (there : c < count) where
    -- it moved
    pub node_went : moved ≡ true → Turned program rows n H count lo hi l y (record { course = GoesOn; tick = tick; turn = c; moved = true; state = state'; turns = 1 }) l' v' until'
    node_went e =
        let u = A.goes e y h in
        goes_on (record { course = GoesOn; tick = tick; turn = c; moved = true; state = state'; turns = 1 }) refl refl (went g w y u.0)
        (λ m. turn_taken g w m y (omega (arith, nodes, h.turn))
        (ap₂ (λ (t i : ℕ). waits t (until_of y i) (stand_of (node_of y.state i))) h.at h.turn ∙ A.free e y h)
        (ap (choose1 g y.state) h.turn ∙ u.1))
        u.3 refl (omega (arith, u.2)) A.same

    -- it did not
    pub node_stays : moved ≡ false → (b : Bool) → y.moved ≡ b → Turned program rows n H count lo hi l y (record { course = GoesOn; tick = tick; turn = c + 1; moved = b; state = state; turns = 1 }) l' v' until'
    node_stays e b m =
        let k = A.keeps e in
        goes_on (record { course = GoesOn; tick = tick; turn = c + 1; moved = b; state = state; turns = 1 }) refl refl (next_turn y)
        (λ j. stuck_turn g w j y (omega (arith, nodes, h.turn)) (subst (Stuck g w y) (sym h.turn) (A.stuck e y h)))
        (subst (λ (x : List ℕ). Holds program rows n count tick (c + 1) state x v' until' (next_turn y)) (sym k.0)
        (subst (λ (x : List ℤ). Holds program rows n count tick (c + 1) state l x until' (next_turn y)) (sym k.1)
        (subst (λ (x : List ℕ). Holds program rows n count tick (c + 1) state l v x (next_turn y)) (sym k.2)
        (record { running = h.running; at = h.at; turn = omega (arith, h.turn); draw = h.draw; full = h.full; works = h.works }))))
        m (omega arith) A.same

  -- ## All have had their turn, and one moved

  pub begun_anew : count ≤ c → y.moved ≡ true → Turned program rows n H count lo hi l y (record { course = GoesOn; tick = tick; turn = 0; moved = false; state = state; turns = 1 }) l v until
  begun_anew all m =
      goes_on (record { course = GoesOn; tick = tick; turn = 0; moved = false; state = state; turns = 1 }) refl refl (anew y y.state)
      (λ j. turn_anew g w j y (omega (arith, nodes, h.turn)) m)
      (record { running = h.running; at = h.at; turn = refl; draw = h.draw; full = h.full; works = h.works })
      refl (omega arith) refl

-- ## As a function answers it

pub turned_is : {program rows : List ℕ} {n H count lo hi : ℕ} {l : List ℕ} {y : Trying} {l' : List ℕ} {v' : List ℤ} {until' : List ℕ} {r q : Turn}
    → r ≡ q → Turned program rows n H count lo hi l y q l' v' until' → Turned program rows n H count lo hi l y r l' v' until'
turned_is {program} {rows} {n} {H} {count} {lo} {hi} {l} {y} {l'} {v'} {until'} e = subst (λ (x : Turn). Turned program rows n H count lo hi l y x l' v' until') (sym e)

-- ## A tick

-- the run is over
pub is_over : {program rows : List ℕ} {n H count lo hi : ℕ} {l : List ℕ} {y : Trying} {v : List ℤ} {until : List ℕ} (late : Option ℕ) (tick turn state : ℕ)
    → ((m : ℕ) → (late_node (result (setting_in program H rows n l count) (record { lo = lo; hi = hi }) (suc m) y) ≡ late) × (drawn (setting_in program H rows n l count) (record { lo = lo; hi = hi }) (suc m) y ≡ state))
    → Turned program rows n H count lo hi l y (record { course = Over late; tick = tick; turn = turn; moved = false; state = state; turns = 1 }) l v until
is_over {program} {rows} {n} {H} {count} {lo} {hi} {l} {y} late tick turn state f =
    record {
      on = λ x. absurd (cc);
      ends =
          λ other x m.
          let a : suc m ≡ 1 + m = omega arith in
          let same : late ≡ other = cc in
          rw (← same)
          (subst
          (λ (i : ℕ). (late_node (result (setting_in program H rows n l count) (record { lo = lo; hi = hi }) i y) ≡ late)
          × (drawn (setting_in program H rows n l count) (record { lo = lo; hi = hi }) i y ≡ state))
          a (f m));
      same = refl;
    }

module _ (program rows : List ℕ) (n H count tick c lo hi state : ℕ) (l : List ℕ) (v : List ℤ) (until : List ℕ) {y : Trying} (h : Holds program rows n count tick c state l v until y)
    (all : count ≤ c) (none : y.moved ≡ false) (early : tick ≤ 1000000000000) (d : any (λ (i : ℕ). eqb (word_in l i 26) tick) (below count) ≡ false) {r : ℕ} (F : FirstLate l count (tick + 1) r) where
  -- it goes on
  pub ticked_on : count ≤ r → (tick + 1 ≡ H → ⊥) → Turned program rows n H count lo hi l y (record { course = GoesOn; tick = tick + 1; turn = 0; moved = false; state = state; turns = 1 }) l v until
  ticked_on k e =
      goes_on program rows n H count tick c lo hi state l v until h (record { course = GoesOn; tick = tick + 1; turn = 0; moved = false; state = state; turns = 1 }) refl refl (anew y (ticked y.state))
      (tick_same program H rows n l v count lo hi tick c state until h all none early d F k e)
      (tick_holds program H rows n l v count lo hi tick c state until h all none early d F k e)
      refl (omega arith) refl
