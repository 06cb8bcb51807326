-- Many ticks at once: while nobody is due, nobody late and the horizon not reached, a tick changes the tick and the choices used alone.
-- Assumes nothing.
use mathlib.Core.Path.{◌≡◌, refl, subst}
use mathlib.Core.Bool.{Bool, false}
use mathlib.Core.List.{List}
use Prim.Native.Nat.{ℕ, zero, suc, ◌+◌, ◌≤◌, ◌<◌}
use native.Mathlib.Omega.{arith}
use borrow.Author.Tests.{ne_eqb}
use lib.Dec.{eqb}
use lib.IntN.{ℤ}
use lib.ListN.{length}
use Rattle.model.specs.Lists.{any, from, below}
use Rattle.model.specs.Run.{Run}
use Rattle.registers.specs.Words.{word_in}
use Rattle.machine.specs.Running.{setting_in}
use Rattle.run.specs.Ends.{Brief, FirstLate, Calm, Ticks}
use Rattle.run.proofs.Stages.{Stage, tick_stage}

-- none of some numbers has it
any_none : (p : ℕ → Bool) (i n : ℕ) → ((k : ℕ) → i ≤ k → k < i + n → p k ≡ false) → any p (from i n) ≡ false
any_none p i zero h = refl
any_none p i (suc n) h = rw (h i (omega arith) (omega arith)) (any_none p (suc i) n (λ k a b. h k (omega arith) (omega arith)))

module _ {l : List ℕ} {count H calm : ℕ} (C : Calm l count H calm) (now : ℕ) (early : now < calm) where
  -- nobody is due before a calm tick
  pub none_due : any (λ (c : ℕ). eqb (word_in l c 26) now) (below count) ≡ false
  none_due = any_none (λ (c : ℕ). eqb (word_in l c 26) now) 0 count (λ c a b. ne_eqb (word_in l c 26) now (λ e. absurd (omega (arith, C.due c (omega arith)))))

  -- nobody is late up to it
  pub none_late : FirstLate l count (now + 1) count
  none_late = record { among = omega arith; before = λ i h. omega (arith, C.last i h); there = λ h. absurd (omega arith) }

-- so many ticks
pub ticks_stage : {program : List ℕ} {H : ℕ} {rows : List ℕ} {n count : ℕ} {l₀ choices out₀ : List ℕ} {s₀ : Run} {l : List ℕ} {v : List ℤ} {out : List ℕ} {now k w calm : ℕ}
    → Stage program H rows n count l₀ choices out₀ s₀ l v out now k w → Brief (setting_in program H rows n l₀ count) choices s₀ → Calm l count H calm → (j : ℕ) → now + j ≤ calm → k + j ≤ length choices
    → Ticks choices k (k + j) → Stage program H rows n count l₀ choices out₀ s₀ l v out (now + j) (k + j) w
ticks_stage {program} {H} {rows} {n} {count} {l₀} {choices} {out₀} {s₀} {l} {v} {out} {now} {k} {w} St brief C zero early fits T =
    let a : now ≡ now + 0 = omega arith in
    let b : k ≡ k + 0 = omega arith in
    subst (λ (x : ℕ). Stage program H rows n count l₀ choices out₀ s₀ l v out x (k + 0) w) a (subst (λ (x : ℕ). Stage program H rows n count l₀ choices out₀ s₀ l v out now x w) b St)
ticks_stage {program} {H} {rows} {n} {count} {l₀} {choices} {out₀} {s₀} {l} {v} {out} {now} {k} {w} St brief C (suc j) early fits T =
    let before = ticks_stage St brief C j (omega arith) (omega arith) (λ i h m. T i h (omega arith)) in
    let next =
    tick_stage before (omega arith) brief (T (k + j) (omega arith) (omega arith)) (none_due C (now + j) (omega arith)) (none_late C (now + j) (omega arith)) (omega arith)
    (λ e. absurd (omega (arith, C.before))) in
    let a : now + j + 1 ≡ now + suc j = omega arith in
    let b : k + j + 1 ≡ k + suc j = omega arith in
    subst (λ (x : ℕ). Stage program H rows n count l₀ choices out₀ s₀ l v out x (k + suc j) w) a (subst (λ (x : ℕ). Stage program H rows n count l₀ choices out₀ s₀ l v out (now + j + 1) x w) b next)
