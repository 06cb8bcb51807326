-- Runs in pieces: a call goes on where the one before stopped. Assumes nothing.
use mathlib.Core.Path.{◌≡◌, ap, ◌∙◌}
use mathlib.Core.List.{List, ◌∷◌, ◌++◌}
use Prim.Native.Nat.{ℕ, zero, suc, ◌+◌}
use native.Mathlib.Omega.{arith}
use Rattle.model.specs.Run.{Setting}
use Rattle.simulation.specs.Simulated.{Span, simulated, trials, draw_after}

module _ (g : Setting) (w : Span) where
  -- the runs of two calls, the second from the generator that the first left
  pub trials_split : (n m x : ℕ) → trials g w (n + m) x ≡ trials g w n x ++ trials g w m (draw_after g w n x)
  unfolding trials draw_after
  trials_split zero m x = let e : 0 + m ≡ m = omega arith in ap (λ (k : ℕ). trials g w k x) e
  trials_split (suc n) m x =
      let e : suc n + m ≡ suc (n + m) = omega arith in
      ap (λ (k : ℕ). trials g w k x) e ∙ ap (λ (l : List (List ℕ)). (simulated g w x).choices ∷ l) (trials_split n m (simulated g w x).draw)

  -- and the generator after both
  pub draws_split : (n m x : ℕ) → draw_after g w (n + m) x ≡ draw_after g w m (draw_after g w n x)
  unfolding draw_after
  draws_split zero m x = let e : 0 + m ≡ m = omega arith in ap (λ (k : ℕ). draw_after g w k x) e
  draws_split (suc n) m x =
      let e : suc n + m ≡ suc (n + m) = omega arith in
      ap (λ (k : ℕ). draw_after g w k x) e ∙ draws_split n m (simulated g w x).draw
