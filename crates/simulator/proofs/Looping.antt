-- The turns of a simulated run one after the other. Assumes nothing.
use mathlib.Core.Path.{◌≡◌, refl, sym, ap, subst, ◌∙◌}
use mathlib.Core.Bool.{Bool, false}
use mathlib.Core.List.{List}
use Prim.Native.Nat.{ℕ, zero, suc, ◌+◌, ◌-◌, ◌<◌}
use native.Mathlib.Omega.{arith}
use lib.IntN.{ℤ}
use lib.ListN.{length, get_or, replicate}
use Rattle.model.specs.Run.{Setting, start_run, run}
use Rattle.machine.specs.Running.{counts_at, setting_in, Running}
use Rattle.machine.proofs.Numbered.{length_below}
use Rattle.simulation.specs.Simulated.{Span, start_trying, simulated}
use Rattle.simulation.proofs.Turns.{result, drawn, Same, same_refl, same_then, turns_over}
use Rattle.std.specs.Prelude.{Option, None}
use Rattle.simulator.specs.declared.Course.TheVariants.{GoesOn, Over}
use Rattle.simulator.specs.declared.Turn.{Turn}
use Rattle.simulator.specs.Answers.{late_node}
use Rattle.simulator.specs.Tries.{Somewhere, Turned, Few, Going}

zeros_long : (k : ℕ) → length {A = ℕ} (replicate k 0) ≡ k
zeros_long zero = refl
zeros_long (suc k) = ap suc (zeros_long k)

pub zero_at : (k i : ℕ) → ◌≡◌ {A = ℕ} (get_or (replicate k 0) i 0) 0
zero_at zero i = refl
zero_at (suc k) zero = refl
zero_at (suc k) (suc i) = zero_at k i

module _ (program rows : List ℕ) (n H count lo hi seed : ℕ) (l₀ : List ℕ) where
  abbrev g : Setting
  g = setting_in program H rows n l₀ count

  abbrev w : Span
  w = record { lo = lo; hi = hi }

  -- no turn yet
  pub going_first : {v : List ℤ} {until : List ℕ} → Running program rows n l₀ v count (start_run g) → ((i : ℕ) → i < count → get_or until i 0 ≡ 0)
      → Going program rows n H count lo hi seed l₀ l₀ v until 0 0 false seed 1000000000000
  going_first r z =
      record {
        trying = start_trying g w seed;
        holds =
            record {
              running = r;
              at = refl;
              turn = refl;
              draw = refl;
              full = zeros_long (length g.counts) ∙ length_below (counts_at l₀) count;
              works = λ i h. zero_at (length g.counts) i ∙ sym (z i h);
            };
        moves = refl;
        same = refl;
        from = same_refl g w;
        used = omega arith;
      }

  -- what the whole run comes to
  whole : run g (simulated g w seed).choices ≡ result g w 1000000000000 (start_trying g w seed)
  unfolding simulated run
  whole = refl

  whole_draw : (simulated g w seed).draw ≡ drawn g w 1000000000000 (start_trying g w seed)
  unfolding simulated
  whole_draw = refl

  module _ {l : List ℕ} {v : List ℤ} {until : List ℕ} {tick turn : ℕ} {moved : Bool} {state left : ℕ} (G : Going program rows n H count lo hi seed l₀ l v until tick turn moved state left) where
    -- the slices are some state's
    pub somewhere : Somewhere program rows n count tick l v
    somewhere = record { state = G.trying.state; running = G.holds.running; at = G.holds.at; used = omega (arith, G.used) }

    -- no turn is left
    pub going_stops : left ≡ 0 → (None ≡ late_node (run g (simulated g w seed).choices)) × (state ≡ (simulated g w seed).draw)
    going_stops e =
        let s : Same g w 1000000000000 (start_trying g w seed) 0 G.trying = subst (λ (k : ℕ). Same g w 1000000000000 (start_trying g w seed) k G.trying) e G.from in
        let q = turns_over g w G.trying in
        (sym (ap late_node (whole ∙ (s.run ∙ q.0))), sym (whole_draw ∙ (s.draw ∙ (q.1 ∙ G.holds.draw))))

    module _ {r : Turn} (few : Few tick left r) {l' : List ℕ} {v' : List ℤ} {until' : List ℕ} (T : Turned program rows n H count lo hi l G.trying r l' v' until') where
      abbrev rest : ℕ
      rest = left - r.turns

      from-here : Same g w 1000000000000 (start_trying g w seed) (r.turns + rest) G.trying
      from-here =
          let a : left ≡ r.turns + rest = omega (arith, few.most) in
          subst (λ (k : ℕ). Same g w 1000000000000 (start_trying g w seed) k G.trying) a G.from

      -- it is over
      pub going_over : (late : Option ℕ) → r.course ≡ Over late → (late ≡ late_node (run g (simulated g w seed).choices)) × (r.state ≡ (simulated g w seed).draw)
      going_over late e =
          let q = subst (λ (x : Setting). (late_node (result x w (r.turns + rest) G.trying) ≡ late) × (drawn x w (r.turns + rest) G.trying ≡ r.state)) G.same (T.ends late e rest) in
          (sym (ap late_node (whole ∙ from-here.run) ∙ q.0), sym (whole_draw ∙ (from-here.draw ∙ q.1)))

      -- it goes on
      pub going_on : r.course ≡ GoesOn → Going program rows n H count lo hi seed l₀ l' v' until' r.tick r.turn r.moved r.state (left - r.turns)
      going_on e =
          let z = T.on e in
          record {
            trying = z.0;
            holds = z.2;
            moves = z.3;
            same = T.same ∙ G.same;
            from = same_then g w from-here (subst (λ (x : Setting). Same x w (r.turns + rest) G.trying rest z.0) G.same (z.1 rest));
            used = omega (arith, z.4, G.used, few.most);
          }
