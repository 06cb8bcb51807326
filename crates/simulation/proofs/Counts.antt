-- The counts of late runs: each late run counts for one node, so that the nodes' counts add up to that of all. Assumes nothing.
use mathlib.Core.Path.{◌≡◌, refl}
use mathlib.Core.Logic.{by_cases}
use mathlib.Core.Bool.{Bool, true, false, cond, ◌&&◌}
use mathlib.Core.List.{List, [], ◌∷◌, map}
use Prim.Native.Nat.{ℕ, zero, suc, ◌+◌, ◌≤◌, ◌<◌}
use native.Mathlib.Omega.{arith}
use native.Mathlib.Decide.{ℕ_discrete}
use borrow.Author.Tests.{eqb-true, eq-eqb, ne_eqb}
use lib.Dec.{eqb}
use lib.ListN.{length}
use Rattle.model.specs.Lists.{only, from, below, Answer, accepted, refused}
use Rattle.model.specs.Table.{Read}
use Rattle.model.specs.Reader.{read_table}
use Rattle.model.specs.Schedule.{Passage}
use Rattle.model.specs.Checks.{accepted_schedule_of}
use Rattle.model.specs.Run.{Setting, setting_of, run}
use Rattle.model.proofs.Reader.Limits.{read_limits}
use Rattle.model.proofs.Run.Promise.{promised}
use Rattle.simulation.specs.Simulated.{Span, ends_late, ends_late_at, trials, sum_of, SimulateCall, not_simulated, simulated_all, simulate_planned, simulate_read, simulate_call, tryable, LateAdds}

-- ## One among some numbers

module _ (node : ℕ) where
  -- 1 for the node
  abbrev mark : ℕ → ℕ
  mark c = cond (eqb node c) 1 0

  none_marked : (i n : ℕ) → node < i → sum_of (map mark (from i n)) ≡ 0
  none_marked i zero h = refl
  none_marked i (suc n) h = let z = none_marked (suc i) n (omega arith) in rw (ne_eqb node i (λ e. omega arith)) (omega (arith, z))

  one_marked : (i n : ℕ) → i ≤ node → node < i + n → sum_of (map mark (from i n)) ≡ 1
  one_marked i zero h k = absurd (omega arith)
  one_marked i (suc n) h k =
      by_cases (ℕ_discrete node i)
      (λ e. let z = none_marked (suc i) n (omega arith) in rw (eq-eqb node i e) (omega (arith, z)))
      (λ e. let z = one_marked (suc i) n (omega arith) (omega arith) in rw (ne_eqb node i e) (omega (arith, z)))

sum_none : (cs : List ℕ) → sum_of (map (λ c. 0) cs) ≡ 0
sum_none [] = refl
sum_none (c ∷ cs) = omega (arith, sum_none cs)

sum_two : (f g : ℕ → ℕ) (cs : List ℕ) → sum_of (map (λ c. f c + g c) cs) ≡ sum_of (map f cs) + sum_of (map g cs)
sum_two f g [] = refl
sum_two f g (c ∷ cs) = omega (arith, sum_two f g cs)

sum_same : (f g : ℕ → ℕ) → ((c : ℕ) → f c ≡ g c) → (cs : List ℕ) → sum_of (map f cs) ≡ sum_of (map g cs)
sum_same f g h [] = refl
sum_same f g h (c ∷ cs) = omega (arith, h c, sum_same f g h cs)

-- ## Runs counted

-- one more
pub one_more : (p : List ℕ → Bool) (cs : List ℕ) (ls : List (List ℕ)) → length (only p (cs ∷ ls)) ≡ cond (p cs) 1 0 + length (only p ls)
one_more p cs ls = go (p cs)
  where
    go : (b : Bool) → length (cond b (cs ∷ only p ls) (only p ls)) ≡ cond b 1 0 + length (only p ls)
    go true = omega arith
    go false = omega arith

module _ (g : Setting) (w : Span) (placed : (cs : List ℕ) → (run g cs).end ≡ 2 → (run g cs).node < 8) where
  -- a late run counts once
  counts_once : (cs : List ℕ) → sum_of (map (λ c. cond (ends_late_at g w c cs) 1 0) (below 8)) ≡ cond (ends_late g w cs) 1 0
  counts_once cs = go (eqb (run g cs).end 2) refl
    where
      go : (b : Bool) → eqb (run g cs).end 2 ≡ b → sum_of (map (λ c. cond (b && eqb (run g cs).node c) 1 0) (below 8)) ≡ cond b 1 0
      go true e = one_marked (run g cs).node 0 8 (omega arith) (placed cs (eqb-true (run g cs).end 2 e))
      go false e = sum_none (below 8)

  adds_up : (ls : List (List ℕ)) → sum_of (map (λ c. length (only (ends_late_at g w c) ls)) (below 8)) ≡ length (only (ends_late g w) ls)
  adds_up [] = sum_none (below 8)
  adds_up (cs ∷ ls) =
      let first : ℕ → ℕ = λ c. cond (ends_late_at g w c cs) 1 0 in
      let rest : ℕ → ℕ = λ c. length (only (ends_late_at g w c) ls) in
      let one = sum_same (λ c. length (only (ends_late_at g w c) (cs ∷ ls))) (λ c. first c + rest c) (λ c. one_more (ends_late_at g w c) cs ls) (below 8) in
      omega (arith, one, sum_two first rest (below 8), counts_once cs, adds_up ls, one_more (ends_late g w) cs ls)

-- the node of a late run is one of eight
pub late_placed : (table : List ℕ) (t : Read) (S : List Passage) → read_table table ≡ accepted t → accepted_schedule_of t ≡ accepted S
    → (cs : List ℕ) → (run (setting_of t S) cs).end ≡ 2 → (run (setting_of t S) cs).node < 8
late_placed table t S r e cs l = omega (arith, ((promised table t S r e cs).late_is l).1, (read_limits table t r).most_components)

-- ## The call

pub late_adds : (table : List ℕ) (lo hi runs seed : ℕ) → LateAdds table lo hi runs seed
unfolding simulate_call
late_adds table lo hi runs seed = read (read_table table) refl
  where
    w : Span
    w = record { lo = lo; hi = hi }

    Adds : SimulateCall → Type 0
    Adds r = sum_of r.nodes ≡ r.late

    asked : (t : Read) (S : List Passage) → read_table table ≡ accepted t → accepted_schedule_of t ≡ accepted S → Adds (simulate_planned t (accepted S) w runs seed)
    asked t S r e = first (eqb seed 0)
      where
        first : (b : Bool) → Adds (cond b (not_simulated 22 255) (cond (tryable w runs) (simulated_all (setting_of t S) w runs seed) (not_simulated 23 255)))
        first true = refl
        first false = second (tryable w runs)
          where
            second : (b : Bool) → Adds (cond b (simulated_all (setting_of t S) w runs seed) (not_simulated 23 255))
            second true = adds_up (setting_of t S) w (late_placed table t S r e) (trials (setting_of t S) w runs seed)
            second false = refl

    planned : (t : Read) → read_table table ≡ accepted t → (a : Answer (List Passage)) → accepted_schedule_of t ≡ a → Adds (simulate_planned t a w runs seed)
    planned t r (accepted S) e = asked t S r e
    planned t r (refused n c) e = refl

    read : (a : Answer Read) → read_table table ≡ a → Adds (simulate_read a w runs seed)
    read (accepted t) e = planned t e (accepted_schedule_of t) refl
    read (refused n c) e = refl
