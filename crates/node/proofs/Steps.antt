-- What a statement that leads to no other place does to the registers, op by op. Assumes nothing.
use mathlib.Core.Path.{◌≡◌, refl, ap, ◌∙◌}
use mathlib.Core.Logic.{◌⊎◌, inl, inr}
use mathlib.Core.Bool.{true, false}
use mathlib.Core.List.{List}
use mathlib.Core.Option.{none, some}
use Prim.Native.Nat.{ℕ, zero, suc, ◌+◌, ◌≤◌, ◌<◌}
use native.Mathlib.Omega.{arith}
use native.Mathlib.Numerals.{add-one}
use borrow.Author.Tests.{le-leb}
use lib.IntN.{ℤ, pos, ◌+ℤ◌}
use lib.Signed.{le_z}
use lib.ListN.{length, take, drop, get_or, set}
use lib.Seq.{take-set-lt, get_or-take}
use Rattle.model.specs.Reader.{byte, word, complement}
use Rattle.model.specs.Window.{clock_at, value_at, in_range}
use Rattle.model.specs.Program.{Statement, sleep, set_to, add_to, done, send, listen, age, reset, enter, trial, low, high, data_low, data_high, keep, budget}
use Rattle.model.specs.Places.{list_at}
use Rattle.model.specs.Machine.{pair_at, decodings, statement_at, exec, no_trial, raised, lowered, met, spans, keeps, with_trial}
use Rattle.node.specs.declared.Counts.{Counts}
use Rattle.node.specs.declared.Trial.{Trial}
use Rattle.node.specs.declared.Kept.{Kept}
use Rattle.node.specs.declared.Node.{Node}
use Rattle.node.specs.After.{clocked, valued, entered, keeping, sleeping}
use Rattle.node.specs.Views.{node_of, trial_of, kept_of, Addable, Executed, Tried, Grown}
use Rattle.node.proofs.Ops.{Opens, op-of}
use Rattle.node.proofs.Held.{set_past, clock_grown}

-- a number from k on is k or lies above it
pub from : (k n : ℕ) → k ≤ n → (n ≡ k) ⊎ (suc k ≤ n)
from zero zero h = inl refl
from zero (suc n) h = inr (omega arith)
from (suc k) zero h = absurd (omega arith)
from (suc k) (suc n) h = elim (from k n (omega arith)) [ inl e ↦ inl (ap suc e) | inr l ↦ inr (omega arith) ]

module _ (h : List ℕ) (held : Counts) (r : Node) (fits : 4 ≤ length h) where
  -- the op says which statement stands at the front
  says : (k : ℕ) → byte h 0 ≡ k → statement_at h ≡ get_or (decodings h) k none
  unfolding statement_at
  says k e = rw (le-leb 4 (length h) fits, e)

  by_op : (k : ℕ) (s : Statement) (q : Node) → byte h 0 ≡ k → get_or (decodings h) k none ≡ some s → ((p : List ℕ) → node_of p held q ≡ exec p (node_of p held r) s)
      → Executed h held r q
  by_op k s q e d f p s' g =
      let same : s ≡ s' = cc (says k e) in
      f p ∙ ap (exec p (node_of p held r)) same

  try_op : (k : ℕ) (s : Statement) (x : Trial) → byte h 0 ≡ k → get_or (decodings h) k none ≡ some s → ((p : List ℕ) → with_trial (node_of p held r) (trial_of x) ≡ exec p (node_of p held r) s)
      → Tried h held r x
  try_op k s x e d f p s' g =
      let same : s ≡ s' = cc (says k e) in
      f p ∙ ap (exec p (node_of p held r)) same

  -- ## Work

  pub slept : byte h 0 ≡ 0 → Executed h held r (sleeping r)
  unfolding exec
  slept e = by_op 0 sleep (sleeping r) e refl (λ p. rw (add-one r.sleeps))

  -- done, send and listen change nothing; a pair is no statement
  pub idle : 3 ≤ byte h 0 → byte h 0 ≤ 6 → Executed h held r r
  unfolding exec
  idle a b = three (from 3 (byte h 0) a)
    where
      five : (byte h 0 ≡ 5) ⊎ (6 ≤ byte h 0) → Executed h held r r
      five (inl e) = by_op 5 (listen (list_at pair_at 4 (byte h 1) (drop 4 h))) r e refl (λ p. refl)
      five (inr f) = λ p s g. let z : ◌≡◌ {A = ℕ} 0 1 = cc (says 6 (omega arith)) in absurd (omega arith)

      four : (byte h 0 ≡ 4) ⊎ (5 ≤ byte h 0) → Executed h held r r
      four (inl e) = by_op 4 (send (byte h 1)) r e refl (λ p. refl)
      four (inr l) = five (from 5 (byte h 0) l)

      three : (byte h 0 ≡ 3) ⊎ (4 ≤ byte h 0) → Executed h held r r
      three (inl e) = by_op 3 done r e refl (λ p. refl)
      three (inr l) = four (from 4 (byte h 0) l)

  -- ## Variables

  -- one that the node does not have is not set
  pub values_past : 1 ≤ byte h 0 → byte h 0 ≤ 2 → held.variables ≤ byte h 1 → Executed h held r r
  unfolding exec
  values_past a b l = one (from 1 (byte h 0) a)
    where
      out : (v : ℤ) → set (take held.variables r.values) (byte h 1) v ≡ take held.variables r.values
      out v = set_past held.variables r.values (byte h 1) v l

      one : (byte h 0 ≡ 1) ⊎ (2 ≤ byte h 0) → Executed h held r r
      one (inl e) = by_op 1 (set_to (byte h 1) (complement (word h 2))) r e refl (λ p. rw (out (complement (word h 2))))
      one (inr c) =
          let z = complement (word h 2) in
          by_op 2 (add_to (byte h 1) z) r (omega arith) refl (λ p. rw (out (value_at (take held.variables r.values) (byte h 1) +ℤ z)))

  -- the sum of an addition stays in range
  pub added_fits : byte h 0 ≡ 2 → byte h 1 < held.variables → Addable h held r
      → in_range (get_or r.values (byte h 1) (pos 0) +ℤ complement (word h 2)) ≡ true
  added_fits e there k =
      let o : Opens h 2 = record { fits = fits; first = e; low = omega arith; pairless = λ q. omega arith } in
      rw (← get_or-take held.variables r.values (byte h 1) (pos 0) there) (k.fits (op-of h 2 o))

  -- other variables, l
  module _ (l : List ℤ) (there : byte h 1 < held.variables) where
    pub value_set_is : byte h 0 ≡ 1 → l ≡ set r.values (byte h 1) (complement (word h 2)) → Executed h held r (valued r l)
    unfolding exec
    value_set_is e k =
        by_op 1 (set_to (byte h 1) (complement (word h 2))) (valued r l) e refl
        (λ p. rw (k, take-set-lt held.variables r.values (byte h 1) (complement (word h 2)) there))

    pub value_added : byte h 0 ≡ 2 → l ≡ set r.values (byte h 1) (get_or r.values (byte h 1) (pos 0) +ℤ complement (word h 2)) → Executed h held r (valued r l)
    unfolding exec
    value_added e k =
        let v = get_or r.values (byte h 1) (pos 0) +ℤ complement (word h 2) in
        by_op 2 (add_to (byte h 1) (complement (word h 2))) (valued r l) e refl
        (λ p. rw (k, take-set-lt held.variables r.values (byte h 1) v there, get_or-take held.variables r.values (byte h 1) (pos 0) there))

  -- ## Clocks

  pub clocks_past : 7 ≤ byte h 0 → byte h 0 ≤ 8 → held.clocks ≤ byte h 1 → Executed h held r r
  unfolding exec
  clocks_past a b l = seven (from 7 (byte h 0) a)
    where
      out : (v : ℕ) → set (take held.clocks r.clocks) (byte h 1) v ≡ take held.clocks r.clocks
      out v = set_past held.clocks r.clocks (byte h 1) v l

      seven : (byte h 0 ≡ 7) ⊎ (8 ≤ byte h 0) → Executed h held r r
      seven (inl e) = by_op 7 (age (byte h 1)) r e refl (λ p. rw (out (clock_at (take held.clocks r.clocks) (byte h 1) + (r.n + r.d))))
      seven (inr c) = by_op 8 (reset (byte h 1)) r (omega arith) refl (λ p. rw (out 0))

  -- other clocks, l
  module _ (l : List ℕ) (there : byte h 1 < held.clocks) where
    pub clock_ages : byte h 0 ≡ 7 → l ≡ set r.clocks (byte h 1) (get_or r.clocks (byte h 1) 0 + (r.n + r.d)) → Executed h held r (clocked r l)
    unfolding exec
    clock_ages e k =
        let v = get_or r.clocks (byte h 1) 0 + (r.n + r.d) in
        by_op 7 (age (byte h 1)) (clocked r l) e refl
        (λ p. rw (k, take-set-lt held.clocks r.clocks (byte h 1) v there, get_or-take held.clocks r.clocks (byte h 1) 0 there))

    pub clock_aged : byte h 0 ≡ 7 → r.n ≤ 65535 → r.d ≤ 65535 → l ≡ set r.clocks (byte h 1) (get_or r.clocks (byte h 1) 0 + (r.n + r.d))
        → Executed h held r (clocked r l) × Grown r (clocked r l)
    clock_aged e n d k =
        (clock_ages e k, clock_grown r (clocked r l) (byte h 1) (get_or r.clocks (byte h 1) 0 + (r.n + r.d)) refl k refl (omega arith))

    pub clock_zero : byte h 0 ≡ 8 → l ≡ set r.clocks (byte h 1) 0 → Executed h held r (clocked r l) × Grown r (clocked r l)
    unfolding exec
    clock_zero e k = (
      by_op 8 (reset (byte h 1)) (clocked r l) e refl (λ p. rw (k, take-set-lt held.clocks r.clocks (byte h 1) 0 there)),
      clock_grown r (clocked r l) (byte h 1) 0 refl k refl (omega arith),
    )

  -- ## The location

  pub enters_paired : byte h 0 ≡ 9 → r.taken ≡ true → Executed h held r (entered r r.goes)
  unfolding exec
  enters_paired e t = by_op 9 (enter (byte h 3)) (entered r r.goes) e refl (λ p. rw t)

  pub enters : byte h 0 ≡ 9 → r.taken ≡ false → Executed h held r (entered r (byte h 3))
  unfolding exec
  enters e t = by_op 9 (enter (byte h 3)) (entered r (byte h 3)) e refl (λ p. rw t)

  -- ## Trials

  pub trial_new : (x : Trial) → byte h 0 ≡ 10 → trial_of x ≡ no_trial → Tried h held r x
  unfolding exec
  trial_new x e f = try_op 10 trial x e refl (λ p. rw f)

  module _ (x : Trial) where
    pub trial_low : byte h 0 ≡ 11 → trial_of x ≡ raised (trial_of r.tried) (word h 2) (clock_at (take held.clocks r.clocks) (byte h 1)) → Tried h held r x
    unfolding exec
    trial_low e f = try_op 11 (low (byte h 1) (word h 2)) x e refl (λ p. rw f)

    pub trial_high : byte h 0 ≡ 12 → trial_of x ≡ lowered (trial_of r.tried) (word h 2) (clock_at (take held.clocks r.clocks) (byte h 1)) → Tried h held r x
    unfolding exec
    trial_high e f = try_op 12 (high (byte h 1) (word h 2)) x e refl (λ p. rw f)

    pub trial_data_low : byte h 0 ≡ 13
        → trial_of x ≡ met (trial_of r.tried) (le_z (complement (word h 2)) (value_at (take held.variables r.values) (byte h 1))) → Tried h held r x
    unfolding exec
    trial_data_low e f = try_op 13 (data_low (byte h 1) (complement (word h 2))) x e refl (λ p. rw f)

    pub trial_data_high : byte h 0 ≡ 14
        → trial_of x ≡ met (trial_of r.tried) (le_z (value_at (take held.variables r.values) (byte h 1)) (complement (word h 2))) → Tried h held r x
    unfolding exec
    trial_data_high e f = try_op 14 (data_high (byte h 1) (complement (word h 2))) x e refl (λ p. rw f)

    pub trial_budget : byte h 0 ≡ 18 → trial_of x ≡ met (trial_of r.tried) (spans (trial_of r.tried) (word h 2) (trial_of r.tried).end) → Tried h held r x
    unfolding exec
    trial_budget e f = try_op 18 (budget (word h 2)) x e refl (λ p. rw f)

  pub trial_kept : (k : Kept) → byte h 0 ≡ 15 → kept_of k ≡ keeps (trial_of r.tried) (byte h 3) (trial_of r.tried).end (kept_of r.kept)
      → Executed h held r (keeping r k)
  unfolding exec
  trial_kept k e f = by_op 15 (keep (byte h 3)) (keeping r k) e refl (λ p. rw f)
