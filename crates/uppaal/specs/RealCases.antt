-- Real time, tried with halves of a tick: the parts that reset a clock at a step in, of which the law does not hold.
use Rattle.std.specs.Prelude.{◌≡◌, refl, Bool, true, false, not, cond, List, [], ◌∷◌, map, ℕ, length}
use Rattle.std.proofs.Common.{sym, ap, arith}
use Rattle.model.specs.Lists.{here, there}
use Rattle.model.proofs.Basics.Bools.{clash}
use Rattle.uppaal.specs.Xta.{Name, location}
use Rattle.uppaal.specs.XtaNetwork.{Stand, stand_of}
use Rattle.uppaal.specs.RealNetwork.{Fractions, RealStand, real_stand_of, all_real_stand, all_real_assigned, RealMove, lasts, alone, delays, goes, stays, moves, RealPath}
use Rattle.uppaal.specs.Dense.{Act}
use Rattle.uppaal.specs.RealTime.{partly, RealAct, Floored, RealTime}
use Rattle.uppaal.specs.DenseCases.{act, enters, leaves, number, resetting, following, late, whole_even}

-- 0 and one half
abbrev pub halves : Fractions
halves =
    record {
      F = Bool;
      nil = false;
      is_nil = not;
      plus = λ f g. cond f (not g) g;
      carry = λ f g. cond f (cond g 1 0) 0;
      missing = λ f. f;
      nil_is = refl;
      is-nil = is_nil_half;
      plus_nil = refl;
      carry_nil = refl;
      plus_missing = plus_half;
      carry_missing = carry_half;
    }
  where
    is_nil_half : (f : Bool) → not f ≡ true → f ≡ false
    is_nil_half true e = sym e
    is_nil_half false e = refl

    plus_half : (f : Bool) → not f ≡ false → cond f (not f) f ≡ false
    plus_half true e = refl
    plus_half false e = clash (sym e)

    carry_half : (f : Bool) → not f ≡ false → ◌≡◌ {A = ℕ} (cond f (cond f 1 0) 0) 1
    carry_half true e = refl
    carry_half false e = clash (sym e)

abbrev half : RealMove halves
half = lasts (record { ticks = 0; part = true })

abbrev stood : Name → ℕ → Bool → ℕ → Bool → RealStand halves
stood l x f y g = record { at = l; clocks = record { ticks = x; part = f } ∷ record { ticks = y; part = g } ∷ []; values = [] }

-- reset after half a tick, and the next step half a tick later
by_halves : RealPath halves late (half ∷ alone 0 resetting ∷ half ∷ alone 0 following ∷ []) (stood (location 2) 0 true 1 false ∷ [])
unfolding all_real_stand all_real_assigned
by_halves =
    record {
      begins = refl;
      goes = moves (delays refl)
          (moves (goes {p = 0} {t = resetting} {y = stood (location 1) 0 false 0 true} (omega arith) (here refl) refl (record { source = refl; guard = refl; after = refl }) refl)
          (moves (delays refl)
          (moves (goes {p = 0} {t = following} {y = stood (location 2) 0 true 1 false} (omega arith) (there (here refl)) refl (record { source = refl; guard = refl; after = refl }) refl) stays)));
    }

pub late_refuted_really : RealTime halves late → ⊥
late_refuted_really R =
    let w = R.whole (half ∷ alone 0 resetting ∷ half ∷ alone 0 following ∷ []) (stood (location 2) 0 true 1 false ∷ []) by_halves in
    whole_even w.path (first-at w.part w.state w.same)
  where
    first-at : (f : Bool) (s : List Stand) → stood (location 2) 0 true 1 false ∷ [] ≡ map (partly halves f) s → (stand_of s 0).at ≡ location 2
    first-at f [] e = let z : ◌≡◌ {A = ℕ} 1 0 = ap length e in absurd (omega (arith, z))
    first-at f (x ∷ s) e = sym (ap (λ (l : List (RealStand halves)). (real_stand_of halves l 0).at) e)

-- ## Pairs that are none: the step made at a later tick, by another process; a step out between two ticks

abbrev half_past : ℕ → Act → RealAct halves
half_past ticks a = record { time = record { ticks = ticks; part = true }; move = a.move }

pub a_real_pair : Floored halves (half_past 3 (act 3 0 enters)) (act 3 0 enters)
a_real_pair = record { ticks = refl; move = refl; out = λ e. clash e }

pub record WrongRealPairs : Type 0 where
  pub later : Floored halves (half_past 3 (act 3 0 enters)) (act 4 0 enters) → ⊥
  pub other : Floored halves (half_past 3 (act 3 0 enters)) (act 3 1 enters) → ⊥
  pub between : Floored halves (half_past 3 (act 3 0 leaves)) (act 3 0 leaves) → ⊥

pub wrong_real_pairs : WrongRealPairs
wrong_real_pairs =
    record { later = λ b. omega (arith, b.ticks); other = λ b. omega (arith, ap number b.move); between = λ b. clash (b.out refl) }
