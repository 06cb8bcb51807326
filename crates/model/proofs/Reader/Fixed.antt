-- The kinds of parts of a fixed length: each reader agrees with its bytes. Assumes nothing.
use mathlib.Core.Path.{◌≡◌, refl, sym, ap, ap₂, ◌∙◌}
use mathlib.Core.Bool.{Bool, true, false, cond}
use mathlib.Core.List.{List, [], ◌∷◌, ◌++◌}
use Prim.Native.Nat.{ℕ, zero, suc, ◌≤◌, ◌<◌}
use native.Mathlib.Omega.{arith}
use lib.Dec.{eqb}
use Rattle.model.specs.declared.Location.{Location}
use Rattle.model.specs.declared.ClockGuard.{ClockGuard}
use Rattle.model.specs.declared.DataGuard.{DataGuard}
use Rattle.model.specs.declared.Update.{Update}
use Rattle.model.specs.declared.Sizes.{Sizes}
use Rattle.model.specs.Lists.{Bytes, be16}
use Rattle.model.specs.Bytes.{unsigned, location_bytes, clock_guard_bytes, data_guard_bytes, update_bytes, pair_bytes}
use Rattle.model.specs.Limits.{LocationIn, ClockGuardIn, DataGuardIn, UpdateIn, PairIn}
use Rattle.model.specs.Reader.{part, budget_fine, byte, word, complement, location_fine, location_at, read_location, clock_guard_fine, clock_guard_at, read_clock_guard, data_guard_fine, data_guard_at, read_data_guard, update_fine, update_at, read_update, channel_fine, read_channel, pair_fine, pair_at, read_pair}
use Rattle.model.proofs.Basics.Bools.{tests}
use Rattle.model.proofs.Basics.Words.{word_back, word_bytes, word_small, complement_back, complement_in, unsigned_back}
use Rattle.model.proofs.Reader.Parts.{from, Agrees, part_agrees}

module _ (s : Sizes) where
  -- a location
  pub location_agrees : Agrees (read_location s) (LocationIn s) location_bytes
  location_agrees = part_agrees 3 (location_fine s) location_at (LocationIn s) location_bytes (λ l. refl) put got
    where
      put : (l : Location) (r : List ℕ) → LocationIn s l → (location_fine s (location_bytes l ++ r) ≡ true) × (location_at (location_bytes l ++ r) ≡ l)
      put l r h = (simp tests (omega arith), ap (λ b. record { clock = l.clock; bound = b }) (word_back l.bound))

      got : (bs : List ℕ) → Bytes bs → location_fine s bs ≡ true → LocationIn s (location_at bs) × (from bs 0 3 ≡ location_bytes (location_at bs))
      got bs a e = let h = simp tests at e in (record { clock = h.0; bound = h.1 }, ap (λ l. byte bs 0 ∷ l) (sym (word_bytes a 1)))

  -- a clock bound
  pub clock_guard_agrees : Agrees (read_clock_guard s) (ClockGuardIn s) clock_guard_bytes
  clock_guard_agrees = part_agrees 5 (clock_guard_fine s) clock_guard_at (ClockGuardIn s) clock_guard_bytes (λ g. refl) put got
    where
      put : (g : ClockGuard) (r : List ℕ) → ClockGuardIn s g → (clock_guard_fine s (clock_guard_bytes g ++ r) ≡ true) × (clock_guard_at (clock_guard_bytes g ++ r) ≡ g)
      put g r h = (
        simp (tests, word_back) ((h.clock, h.low), h.high),
        ap₂ (λ a b. record { clock = g.clock; low = a; high = b }) (word_back g.low) (word_back g.high),
      )

      got : (bs : List ℕ) → Bytes bs → clock_guard_fine s bs ≡ true → ClockGuardIn s (clock_guard_at bs) × (from bs 0 5 ≡ clock_guard_bytes (clock_guard_at bs))
      got bs a e =
          let h = simp tests at e in
          (record { clock = h.0.0; low = h.0.1; high = h.1 }, ap₂ (λ p q. byte bs 0 ∷ p ++ q) (sym (word_bytes a 1)) (sym (word_bytes a 3)))

  -- a data bound
  pub data_guard_agrees : Agrees (read_data_guard s) (DataGuardIn s) data_guard_bytes
  data_guard_agrees = part_agrees 5 (data_guard_fine s) data_guard_at (DataGuardIn s) data_guard_bytes (λ g. refl) put got
    where
      put : (g : DataGuard) (r : List ℕ) → DataGuardIn s g → (data_guard_fine s (data_guard_bytes g ++ r) ≡ true) × (data_guard_at (data_guard_bytes g ++ r) ≡ g)
      put g r h = (
        simp tests h.variable,
        ap₂ (λ a b. record { variable = g.variable; low = a; high = b })
            (ap complement (word_back (unsigned g.low)) ∙ complement_back g.low h.low)
            (ap complement (word_back (unsigned g.high)) ∙ complement_back g.high h.high),
      )

      got : (bs : List ℕ) → Bytes bs → data_guard_fine s bs ≡ true → DataGuardIn s (data_guard_at bs) × (from bs 0 5 ≡ data_guard_bytes (data_guard_at bs))
      got bs a e = (
        record { variable = simp tests at e; low = complement_in (word bs 1); high = complement_in (word bs 3) },
        ap₂ (λ p q. byte bs 0 ∷ p ++ q)
            (sym (ap be16 (unsigned_back (word bs 1) (word_small a 1)) ∙ word_bytes a 1))
            (sym (ap be16 (unsigned_back (word bs 3) (word_small a 3)) ∙ word_bytes a 3)),
      )

  -- an update
  pub update_agrees : Agrees (read_update s) (UpdateIn s) update_bytes
  update_agrees = part_agrees 4 (update_fine s) update_at (UpdateIn s) update_bytes (λ u. refl) put got
    where
      flag : (t : Bool) → (cond t 1 0 ≤ 1) × (eqb (cond t 1 0) 1 ≡ t)
      flag true = (omega arith, refl)
      flag false = (omega arith, refl)

      put : (u : Update) (r : List ℕ) → UpdateIn s u → (update_fine s (update_bytes u ++ r) ≡ true) × (update_at (update_bytes u ++ r) ≡ u)
      put u r h = (
        simp tests (h.variable, (flag u.adds).0),
        ap₂ (λ t n. record { variable = u.variable; adds = t; number = n })
            (flag u.adds).1
            (ap complement (word_back (unsigned u.number)) ∙ complement_back u.number h.number),
      )

      got : (bs : List ℕ) → Bytes bs → update_fine s bs ≡ true → UpdateIn s (update_at bs) × (from bs 0 4 ≡ update_bytes (update_at bs))
      got bs a e =
          let h = simp tests at e in (
            record { variable = h.0; number = complement_in (word bs 2) },
            ap₂ (λ k l. byte bs 0 ∷ k ∷ l)
                (zero_or_one (byte bs 1) h.1)
                (sym (ap be16 (unsigned_back (word bs 2) (word_small a 2)) ∙ word_bytes a 2)),
          )
        where
          zero_or_one : (n : ℕ) → n ≤ 1 → n ≡ cond (eqb n 1) 1 0
          zero_or_one zero h = refl
          zero_or_one (suc zero) h = refl
          zero_or_one (suc (suc n)) h = absurd (omega arith)

  -- the channel of a send edge
  pub channel_agrees : Agrees (read_channel s) (λ k. k < s.channels) (λ k. k ∷ [])
  channel_agrees = part_agrees 1 (channel_fine s) (λ bs. byte bs 0) (λ k. k < s.channels) (λ k. k ∷ []) (λ k. refl)
      (λ k r h. (simp tests h, refl)) (λ bs a e. (simp tests at e, refl))

  -- a pair
  pub pair_agrees : Agrees (read_pair s) (PairIn s) pair_bytes
  pair_agrees = part_agrees 2 (pair_fine s) pair_at (PairIn s) pair_bytes (λ q. refl)
      (λ q r h. (simp tests (omega arith), refl)) (λ bs a e. let h = simp tests at e in (record { channel = h.0; location = h.1 }, refl))

-- the number of a budget
pub budget_agrees : Agrees (part 2 budget_fine (λ r. word r 0)) (λ b. b ≤ 60000) be16
budget_agrees = part_agrees 2 budget_fine (λ r. word r 0) (λ b. b ≤ 60000) be16 (λ b. refl)
    (λ b r h. (simp (tests, word_back) h, word_back b)) (λ bs a e. (simp tests at e, sym (word_bytes a 0)))
