-- Ticks in a row at which nobody moves, from what the words say of them. Assumes nothing.
use mathlib.Core.Path.{◌≡◌, refl, sym, ap, ap₂, subst, ◌∙◌}
use mathlib.Core.Logic.{◌⊎◌, by_cases}
use mathlib.Core.Bool.{Bool, false, cond}
use mathlib.Core.List.{List}
use Prim.Native.Nat.{ℕ, zero, suc, ◌+◌, ◌-◌, ◌*◌, ◌≤◌, ◌<◌}
use native.Mathlib.Nat.{suc-mul, mul-le-mul}
use native.Mathlib.Omega.{arith}
use native.Mathlib.Decide.{ℕ_discrete}
use borrow.Author.Tests.{ne_eqb}
use lib.IntN.{ℤ}
use lib.ListN.{length, get_or, drop}
use Rattle.model.specs.Run.{Setting, Run, on, over, ticked, choose1}
use Rattle.node.specs.Views.{op_in}
use Rattle.registers.specs.Words.{word_in, place_in, due_in, part_in}
use Rattle.machine.specs.Running.{setting_in}
use Rattle.machine.proofs.Frames.{stands_wider}
use Rattle.machine.proofs.Hearing.{all_nodes}
use Rattle.run.specs.Ends.{Calm}
use Rattle.run.proofs.Bulk.{none_due, none_late}
use Rattle.simulation.specs.Simulated.{Span, Trying}
use Rattle.simulation.proofs.Turns.{Same, same_then, later, rested, idle_ticks}
use Rattle.simulator.specs.declared.Turn.{Turn}
use Rattle.simulator.specs.Answers.{late_node}
use Rattle.simulator.specs.Tries.{Holds, Turned, StillAt, early, works, unkept, StillTo, Idle}
use Rattle.simulator.proofs.Still.{still_stuck}
use Rattle.simulator.proofs.Ticking.{passes}

module _ (program : List ℕ) (H : ℕ) (rows : List ℕ) (n : ℕ) (l : List ℕ) (v : List ℤ) (count lo hi tick c state : ℕ) (until : List ℕ) {y : Trying} (h : Holds program rows n count tick c state l v until y) where
  abbrev g : Setting
  g = setting_in program H rows n l count

  abbrev w : Span
  w = record { lo = lo; hi = hi }

  -- so many ticks later
  abbrev at : ℕ → Run
  at j = later g w y.state j

  -- ## The ticks

  module _ (none : y.moved ≡ false) where
    holds_rested : (j : ℕ) → Holds program rows n count (tick + j) count state l v until (rested g w y j)
    holds_rested j =
        let R = h.running in
        record {
          running =
              record {
                most = R.most;
                listed = R.listed;
                eight = R.eight;
                nodes = R.nodes;
                each = λ i x. stands_wider (y.state.used * 131070) ((y.state.used + j) * 131070) (omega arith) (R.each i x);
                finish = R.finish;
                alike = R.alike;
              };
          at = ap (λ (t : ℕ). t + j) h.at;
          turn = all_nodes program l v count y.state R.nodes;
          draw = h.draw;
          full = h.full;
          works = h.works;
        }

    one_later : (j : ℕ) → ticked (at j) ≡ at (suc j)
    one_later j =
        ap₂
        (λ (a b : ℕ). record { tick = a; used = b; nodes = y.state.nodes; observations = y.state.observations; previous = y.state.previous; works = y.state.works })
        (let e : suc (y.state.tick + j) ≡ y.state.tick + suc j = omega arith in e)
        (let e : suc (y.state.used + j) ≡ y.state.used + suc j = omega arith in e)

    module _ {idle : ℕ} (I : Idle program l until count H idle) (soon : H ≤ 4294967295) where
      ticks_on : (j : ℕ) → tick + j < idle → choose1 g (at j) 255 ≡ on (at (suc j))
      ticks_on j k =
          passes program H rows n l v count lo hi (tick + j) count state until (holds_rested j) (omega arith) refl (omega (arith, I.calm.before, soon))
          (none_due I.calm (tick + j) k) (none_late I.calm (tick + j) k) (omega arith)
          ∙ (ap (λ (t : Bool). cond t (over (ticked (at j)) 0 255) (on (ticked (at j)))) (ne_eqb (suc (y.state.tick + j)) H (λ q. omega (arith, I.calm.before, h.at, q)))
          ∙ ap on (one_later j))

      module _ (all : count ≤ c) (j : ℕ) (fits : tick + suc j ≡ idle) where
        full : length y.state.nodes ≡ count
        full = all_nodes program l v count y.state h.running.nodes

        pub holds_idle : Holds program rows n count idle count state l v until (rested g w y (suc j))
        holds_idle = subst (λ (t : ℕ). Holds program rows n count t count state l v until (rested g w y (suc j))) fits (holds_rested (suc j))

        -- so many ticks, and as many rounds in vain
        idles : (m : ℕ) → Same g w (suc j * suc count + m) y m (rested g w y (suc j))
        idles m =
            subst (λ (k : ℕ). Same g w (suc j * suc k + m) y m (rested g w y (suc j))) full
            (idle_ticks g w j m y (omega (arith, full, all, h.turn)) none
            (λ i k. ticks_on i (omega arith))
            (λ i k d x. still_stuck program rows n H count (tick + suc i) count lo hi state l v until (holds_rested (suc i)) d (omega (arith, full, x)) (I.still d (omega (arith, full, x)) (tick + suc i) (omega arith) (omega arith))))

        -- and then one turn more
        pub rested_turned : (turns : ℕ) → turns ≡ suc j * suc count → {r : Turn} → r.turns ≡ 1 → suc j ≤ turns → Turned program rows n H count lo hi l (rested g w y (suc j)) r l v until
            → Turned program rows n H count lo hi l y (record { course = r.course; tick = r.tick; turn = r.turn; moved = r.moved; state = r.state; turns = turns + 1 }) l v until
        rested_turned turns e {r} o most T =
            record {
              on = λ x. (let z = T.on x in (z.0, (λ m. same_then g w (so_far m) (z.1 m)), z.2, z.3, omega (arith, z.4, o, most)));
              ends = λ late x m. (let q = T.ends late x m in (ap late_node (so_far m).run ∙ q.0, (so_far m).draw ∙ q.1));
              same = refl;
            }
          where
            so_far : (m : ℕ) → Same g w (turns + 1 + m) y (r.turns + m) (rested g w y (suc j))
            so_far m =
                let a : suc j * suc count + (r.turns + m) ≡ turns + 1 + m = omega (arith, e, o) in
                subst (λ (k : ℕ). Same g w k y (r.turns + m) (rested g w y (suc j))) a (idles (r.turns + m))

-- as many turns as ticks, at least
pub ticks_few : (j n : ℕ) → j ≤ j * suc n
ticks_few zero n = omega arith
ticks_few (suc j) n = omega (arith, ticks_few j n, suc-mul j (suc n))

-- ## The nodes one after the other

-- a lesser tick is calm too
calm_lower : {l : List ℕ} {count H a b : ℕ} → Calm l count H a → b ≤ a → Calm l count H b
calm_lower C h = record { due = λ i k. omega (arith, C.due i k, h); last = λ i k. omega (arith, C.last i k, h); before = omega (arith, C.before, h) }

module _ (program l until : List ℕ) (count H : ℕ) where
  -- up to that tick it is calm, and the first k nodes do not move
  pub record IdleTo (idle k : ℕ) : Type 0 where
    pub calm : Calm l count H idle
    pub still : (c : ℕ) → c < k → StillTo program l until c idle

  pub idle_first : {idle : ℕ} → Calm l count H idle → IdleTo idle 0
  idle_first C = record { calm = C; still = λ c h. absurd (omega arith) }

  -- one node more
  pub idle_next : {idle k a b : ℕ} → IdleTo idle k → StillTo program l until k a → b ≤ idle → b ≤ a → IdleTo b (k + 1)
  idle_next {idle} {k} {a} {b} I S h m =
      record {
        calm = calm_lower I.calm h;
        still =
            λ c q t z x.
            by_cases (ℕ_discrete c k)
            (λ e. subst (λ (i : ℕ). StillAt program l until i t) (sym e) (S t z (omega arith)))
            (λ e. I.still c (omega arith) t z (omega arith));
      }

  pub idle_all : {idle k : ℕ} → IdleTo idle k → count ≤ k → Idle program l until count H idle
  idle_all I h = record { calm = I.calm; still = λ c q. I.still c (omega arith) }

-- ## One node

module _ (program l until : List ℕ) (c : ℕ) where
  -- it sleeps or listens
  pub still_early : {r due : ℕ} → (op_in (drop (place_in l c) (part_in program l c)) ≡ 0) ⊎ (op_in (drop (place_in l c) (part_in program l c)) ≡ 5) → due ≡ due_in l c → r ≡ due - 1 → StillTo program l until c r
  still_early o d e t z k = early o (λ q. omega (arith, d, e, q))

  -- it works
  pub still_works : {r end : ℕ} → (op_in (drop (place_in l c) (part_in program l c)) ≡ 3) ⊎ (op_in (drop (place_in l c) (part_in program l c)) ≡ 4) → end ≡ get_or until c 0 → r ≡ end - 1 → StillTo program l until c r
  still_works o d e t z k = works o (omega (arith, d, e))

  -- nothing is kept
  pub still_unkept : {r kept : ℕ} → op_in (drop (place_in l c) (part_in program l c)) ≡ 16 → kept ≡ word_in l c 16 → (kept ≡ 1 → ⊥) → StillTo program l until c r
  still_unkept {r} {kept} o d e t z k = unkept o (ne_eqb (word_in l c 16) 1 (λ q. e (d ∙ q)))

  -- it may move at any tick
  pub still_never : StillTo program l until c 0
  still_never t z k = absurd (omega arith)

-- so many turns can be counted
pub turns_fit : (a b : ℕ) → a ≤ 4294967295 → b ≤ 9 → a * b ≤ 38654705655
turns_fit a b h k = mul-le-mul {n₁ = a} {m₁ = b} {n₂ = 4294967295} {m₂ = 9} h k
