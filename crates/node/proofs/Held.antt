-- The registers that a node has, of the places for them, and the bounds on those that grow. Assumes nothing.
use mathlib.Core.Path.{◌≡◌}
use mathlib.Core.List.{List}
use Prim.Native.Nat.{ℕ, zero, suc, ◌+◌, ◌≤◌}
use native.Mathlib.Omega.{arith}
use lib.ListN.{take, get_or, set, length-take, get_or-eq_default}
use lib.Seq.{set_out}
use Rattle.model.specs.Lists.{All, empty, more}
use Rattle.model.proofs.Schedule.Own.{all_then}
use Rattle.node.specs.declared.Node.{Node}
use Rattle.node.specs.Views.{Within, Grown}

-- past the first n there is nothing to read
pub past : {A : Type 0} (n : ℕ) (l : List A) (i : ℕ) (d : A) → n ≤ i → get_or (take n l) i d ≡ d
past n l i d h = get_or-eq_default (take n l) d (simp length-take (omega arith))

-- and nothing to set
pub set_past : {A : Type 0} (n : ℕ) (l : List A) (i : ℕ) (v : A) → n ≤ i → set (take n l) i v ≡ take n l
set_past n l i v h = set_out (take n l) i v (simp length-take (omega arith))

-- ## Bounds

-- a higher bound holds too
pub raise : (m n : ℕ) {l : List ℕ} → m ≤ n → All (λ x. x ≤ m) l → All (λ x. x ≤ n) l
raise m n h = all_then (λ x k. omega arith)

pub wider : (m n : ℕ) {r : Node} → m ≤ n → Within m r → Within n r
wider m n h w = record { t = omega (arith, w.t); clocks = raise m n h w.clocks; sleeps = omega (arith, w.sleeps) }

-- each is below the bound, also where there is none
pub each_within : (m : ℕ) {l : List ℕ} (i : ℕ) → All (λ x. x ≤ m) l → get_or l i 0 ≤ m
each_within m i empty = omega arith
each_within m zero (more h a) = h
each_within m (suc i) (more h a) = each_within m i a

-- one of them changed
pub set_within : (m n : ℕ) {l : List ℕ} (i v : ℕ) → m ≤ n → v ≤ n → All (λ x. x ≤ m) l → All (λ x. x ≤ n) (set l i v)
set_within m n i v h k empty = empty
set_within m n zero v h k (more e a) = more k (raise m n h a)
set_within m n (suc i) v h k (more {x} e a) = more {x = x} (omega arith) (set_within m n i v h k a)

-- no register that grows has changed
pub still : (r q : Node) → q.t ≡ r.t → q.clocks ≡ r.clocks → q.sleeps ≡ r.sleeps → Grown r q
still r q t x s m w =
    record { t = omega (arith, w.t); clocks = rw x (raise m (m + 131070) (omega arith) w.clocks); sleeps = omega (arith, w.sleeps) }

-- a clock has grown by 131,070 at most
pub clock_grown : (r q : Node) (i v : ℕ) → q.t ≡ r.t → q.clocks ≡ set r.clocks i v → q.sleeps ≡ r.sleeps → v ≤ get_or r.clocks i 0 + 131070
    → Grown r q
clock_grown r q i v t x s h m w =
    record {
      t = omega (arith, w.t);
      clocks = rw x (set_within m (m + 131070) i v (omega arith) (omega (arith, each_within m i w.clocks)) w.clocks);
      sleeps = omega (arith, w.sleeps);
    }

-- one more sleep
pub sleep_grown : (r q : Node) → q.t ≡ r.t → q.clocks ≡ r.clocks → q.sleeps ≡ r.sleeps + 1 → Grown r q
sleep_grown r q t x s m w =
    record { t = omega (arith, w.t); clocks = rw x (raise m (m + 131070) (omega arith) w.clocks); sleeps = omega (arith, w.sleeps) }
