-- Plans computed from the definitions: bytes, and refusals with what is lent.
use Rattle.std.specs.Prelude.{◌≡◌, refl, List, [], ◌∷◌, replicate, ℕ}
use Rattle.model.specs.declared.Verdict.TheVariants.{Accepted, Refused}
use Rattle.slot_plan.specs.Plan.{slots_of, plan_call}

-- one probe, slot and guard 1, period 4: it sends at 1 to 2, the hub listens from 0 to 3
pub smallest : (plan_call (slots_of 1 1 1 4) (replicate 84 7)).lent
    ≡ 1 ∷ 0 ∷ 84 ∷ 2 ∷ 1 ∷ 0 ∷ 8
    ∷ 0 ∷ 38 ∷ 2 ∷ 0 ∷ 1 ∷ 0 ∷ 2 ∷ 0 ∷ 0 ∷ 2 ∷ 0 ∷ 0 ∷ 4
    ∷ 1 ∷ 0 ∷ 1 ∷ 0 ∷ 1 ∷ 0 ∷ 1 ∷ 0 ∷ 0 ∷ 1 ∷ 255 ∷ 255 ∷ 0
    ∷ 0 ∷ 1 ∷ 0 ∷ 1 ∷ 1 ∷ 0 ∷ 0 ∷ 0 ∷ 0 ∷ 3 ∷ 255 ∷ 255
    ∷ 0 ∷ 39 ∷ 2 ∷ 0 ∷ 1 ∷ 0 ∷ 2 ∷ 0 ∷ 0 ∷ 3 ∷ 0 ∷ 0 ∷ 4
    ∷ 2 ∷ 0 ∷ 1 ∷ 0 ∷ 1 ∷ 0 ∷ 1 ∷ 0 ∷ 0 ∷ 0 ∷ 255 ∷ 255 ∷ 0 ∷ 1
    ∷ 0 ∷ 1 ∷ 0 ∷ 1 ∷ 1 ∷ 0 ∷ 0 ∷ 0 ∷ 0 ∷ 3 ∷ 255 ∷ 255 ∷ []
unfolding plan_call
smallest = refl

-- "n × (s + 2 × g) ≥ p": 3 is not below 3
pub full : (plan_call (slots_of 1 1 1 3) (replicate 84 7)).verdict ≡ Refused 18 255
unfolding plan_call
full = refl

-- 18 "before 13", and 13 with one byte too few
pub first : (plan_call (slots_of 1 0 1 4) []).verdict ≡ Refused 18 255
unfolding plan_call
first = refl

pub short : (plan_call (slots_of 3 40 5 500) (replicate 193 7)).verdict ≡ Refused 13 255
unfolding plan_call
short = refl

pub enough : (plan_call (slots_of 3 40 5 500) (replicate 194 7)).verdict ≡ Accepted
unfolding plan_call
enough = refl

-- a guard whose double is 0 in 32 bits
pub huge : (plan_call (slots_of 1 1 2147483648 30000) (replicate 84 7)).verdict ≡ Refused 18 255
unfolding plan_call
huge = refl

-- 18 for each number outside its range, with the whole answer: nothing is written
abbrev pub Refuses : ℕ → ℕ → ℕ → ℕ → Type 0
Refuses probes slot guard period =
    plan_call (slots_of probes slot guard period) (replicate 300 7) ≡ record { verdict = Refused 18 255; size = 0; lent = replicate 300 7 }

pub outside : Refuses 0 1 1 100 × Refuses 8 1 1 100 × Refuses 1 0 1 100 × Refuses 1 1001 1 30000 × Refuses 1 1 0 100 × Refuses 1 1 1001 30000 × Refuses 1 1 1 30001
unfolding plan_call
outside = (refl, refl, refl, refl, refl, refl, refl)
