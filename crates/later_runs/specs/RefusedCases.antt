-- `RefusedTo` held against verdicts of a short table: right ones, and wrong ones with the sentence that refutes them.
use Rattle.std.specs.Prelude.{◌≡◌, refl, List, [], ◌∷◌, ◌⊎◌, ℕ, zero, suc, ◌*◌, ◌≤◌, ◌<◌, length, replicate}
use Rattle.std.proofs.Common.{ap, sym, ◌∙◌, inl, inr, arith}
use Rattle.std.proofs.Math.Option.{none}
use Rattle.model.specs.declared.Action.TheVariants.{Internal}
use Rattle.model.specs.declared.Verdict.TheVariants.{Accepted, Refused}
use Rattle.model.specs.Lists.{◌∈◌, here, there, accepted}
use Rattle.model.specs.Table.{Table, Read, size}
use Rattle.model.specs.Build.{location, clock_guard, arc, component, network}
use Rattle.model.specs.Schedule.{Passage}
use Rattle.model.specs.Checks.{accepted_schedule, accepted_schedule_of}
use Rattle.recurrence.specs.Recurrence.{Recurs, EntersAt, timeless, accepted_schedule_to}
use Rattle.later_runs.specs.RunTo.{RefusedTo}

-- one component, that works from 4 to 5 and begins anew at 5; with this horizon
abbrev anew : ℕ → Read
anew H = network 0 H (component 0 1 0 (location 0 5 ∷ []) (arc 0 0 1 Internal (clock_guard 0 4 65535 ∷ []) [] [] [] ∷ []) ∷ [])

abbrev passing : ℕ → ℕ → ℕ → Passage
passing at ready end = record { component = 0; edge = 0; entry = record { location = 0; tick = at; clocks = 0 ∷ []; values = [] }; ready = ready; end = end; message = none }

abbrev once : List Passage
once = passing 0 4 5 ∷ []

abbrev twice : List Passage
twice = passing 0 4 5 ∷ passing 5 9 10 ∷ []

abbrev thrice : List Passage
thrice = passing 0 4 5 ∷ passing 5 9 10 ∷ passing 10 14 15 ∷ []

-- to the horizon 3 it enters once, to 6 twice, to 11 three times
pub planned : (accepted_schedule_of (anew 3) ≡ accepted once) × (accepted_schedule_of (anew 6) ≡ accepted twice) × (accepted_schedule_to (anew 6).table 11 ≡ accepted thrice)
unfolding accepted_schedule accepted_schedule_to
planned = (refl, refl, refl)

-- ## Its pairs

-- to 3 there is none
none_there : (a b : ℕ) → Recurs (anew 3).table 3 once a b → ⊥
none_there a b r =
    let k = r.enters 0 (omega arith) in
    omega (arith, r.before, at-start k.1, at-start k.2)
  where
    at-start : {x : ℕ} {at : _} → EntersAt once 0 x at → x ≡ 0
    at-start e = go e.passage e.tick e.listed
      where
        go : {x : ℕ} (v : Passage) → v.entry.tick ≡ x → v ∈ once → x ≡ 0
        go v q (here h) = sym q ∙ ap (λ (w : Passage). w.entry.tick) h
        go v q (there x5) = elim x5 [ ]

-- to 6 there is 0 and 5
again : Recurs (anew 6).table 6 twice 0 5
again = record { before = omega arith; below = omega arith; enters = λ c h. enters_so c (omega (arith, h)) }
  where
    enters_so : (c : ℕ) → c ≡ 0 → (at : _) × EntersAt twice c 0 at × EntersAt twice c 5 at
    enters_so zero e = (
      timeless (passing 0 4 5).entry,
      record { passage = passing 0 4 5; listed = here refl; tick = refl; state = refl },
      record { passage = passing 5 9 10; listed = there (here refl); tick = refl; state = refl },
    )
    enters_so (suc c) e = absurd (omega arith)

-- ## Verdicts that differ

numbers_apart : {A : Type 0} (n m c d : ℕ) → (n ≡ m → ⊥) → Refused n c ≡ Refused m d → A
numbers_apart n m c d h e = absurd (h (let w : n ≡ m = cc in w))

no_refusal : {A : Type 0} (n c : ℕ) → Accepted ≡ Refused n c → A
no_refusal n c e = absurd (let w : ◌≡◌ {A = ℕ} 0 1 = cc in omega arith)

no_acceptance : {A : Type 0} (n c : ℕ) → Refused n c ≡ Accepted → A
no_acceptance n c e = absurd (let w : ◌≡◌ {A = ℕ} 0 1 = cc in omega arith)

-- ## Right ones

-- 29: a horizon of 0, and one above H without a pair, whatever is lent
pub right_zero : RefusedTo (anew 6) twice 0 [] (Refused 29 255)
right_zero = record {
  horizon = (λ v. inl refl, λ h. refl);
  room = (λ v. numbers_apart 29 13 255 255 (λ h. omega arith) v, λ h. absurd (h.0 refl));
  otherwise = λ n m. absurd (n refl);
}

pub right_above : RefusedTo (anew 3) once 4 [] (Refused 29 255)
right_above = record {
  horizon = (λ v. inr (omega arith, none_there), λ h. refl);
  room = (λ v. numbers_apart 29 13 255 255 (λ h. omega arith) v, λ h. absurd (h.0 refl));
  otherwise = λ n m. absurd (n refl);
}

-- 13: with a pair, one byte less than 36 for each of the three passages to 11; with that byte nothing is refused
reached : (H : ℕ) → 1 ≤ H → (H ≡ 0) ⊎ ((6 < H) × ((a b : ℕ) → Recurs (anew 6).table 6 twice a b → ⊥)) → ⊥
reached H l (inl e) = omega arith
reached H l (inr n) = n.1 0 5 again

pub right_room : RefusedTo (anew 6) twice 11 (replicate 107 0) (Refused 13 255)
right_room = record {
  horizon = (λ v. numbers_apart 13 29 255 255 (λ h. omega arith) v, λ h. absurd (reached 11 (omega arith) h));
  room = (λ v. (numbers_apart 13 29 255 255 (λ h. omega arith), (thrice, planned.2, omega arith)), λ h. refl);
  otherwise = λ n m. absurd (m refl);
}

-- these are the passages to 11, and no others
three : (P : List Passage) → accepted_schedule_to (anew 6).table 11 ≡ accepted P → length P ≡ 3
three P e = let w : accepted thrice ≡ accepted P = sym planned.2 ∙ e in let v : thrice ≡ P = cc in ap length (sym v)

pub right_run : RefusedTo (anew 6) twice 11 (replicate 108 0) Accepted
right_run = record {
  horizon = (λ v. no_refusal 29 255 v, λ h. absurd (reached 11 (omega arith) h));
  room = (λ v. no_refusal 13 255 v, λ h. (let k = h.1 in let few : 108 < length k.0 * 36 = k.2 in absurd (omega (arith, three k.0 k.1))));
  otherwise = λ n m. refl;
}

-- ## Wrong ones

-- "A horizon of 0 .. is refused with 29": run to, or refused with 13
pub zero_run : RefusedTo (anew 6) twice 0 (replicate 108 0) Accepted → ⊥
zero_run d = no_refusal 29 255 (d.horizon.1 (inl refl))

pub zero_13 : RefusedTo (anew 6) twice 0 [] (Refused 13 255) → ⊥
zero_13 d = numbers_apart 13 29 255 255 (λ h. omega arith) (d.horizon.1 (inl refl))

-- "or one above H without such a pair": run to, refused with 13, or with a component
pub above_run : RefusedTo (anew 3) once 4 (replicate 36 0) Accepted → ⊥
above_run d = no_refusal 29 255 (d.horizon.1 (inr (omega arith, none_there)))

pub above_13 : RefusedTo (anew 3) once 4 [] (Refused 13 255) → ⊥
above_13 d = numbers_apart 13 29 255 255 (λ h. omega arith) (d.horizon.1 (inr (omega arith, none_there)))

component_apart : {A : Type 0} (n c d : ℕ) → (c ≡ d → ⊥) → Refused n c ≡ Refused n d → A
component_apart n c d h e = absurd (h (let w : c ≡ d = cc in w))

pub above_component : RefusedTo (anew 3) once 4 [] (Refused 29 0) → ⊥
above_component d = component_apart 29 0 255 (λ h. omega arith) (d.horizon.1 (inr (omega arith, none_there)))

-- 29 for a horizon above H with a pair, for H itself without one, and below
pub paired_29 : RefusedTo (anew 6) twice 11 (replicate 108 0) (Refused 29 255) → ⊥
paired_29 d = reached 11 (omega arith) (d.horizon.0 refl)

-- neither 0 nor above
within : {N : Type 0} (h H : ℕ) → 1 ≤ H → H ≤ h → (H ≡ 0) ⊎ ((h < H) × N) → ⊥
within h H l m (inl e) = omega arith
within h H l m (inr n) = omega (arith, n.0)

pub own_29 : (lent : List ℕ) → RefusedTo (anew 3) once 3 lent (Refused 29 255) → ⊥
own_29 lent d = within 3 3 (omega arith) (omega arith) (d.horizon.0 refl)

pub below_29 : (lent : List ℕ) → RefusedTo (anew 3) once 1 lent (Refused 29 255) → ⊥
below_29 lent d = within 3 1 (omega arith) (omega arith) (d.horizon.0 refl)

-- "check 13 counts that horizon's passages": run with a byte too few; with room for the table's own passages; 13 with just enough
pub short_run : RefusedTo (anew 6) twice 11 (replicate 107 0) Accepted → ⊥
short_run d = no_refusal 13 255 (d.room.1 (no_refusal 29 255, (thrice, planned.2, omega arith)))

pub own_passages_counted : RefusedTo (anew 6) twice 11 (replicate 72 0) Accepted → ⊥
own_passages_counted d = no_refusal 13 255 (d.room.1 (no_refusal 29 255, (thrice, planned.2, omega arith)))

pub enough_13 : RefusedTo (anew 6) twice 11 (replicate 108 0) (Refused 13 255) → ⊥
enough_13 d = let k = (d.room.0 refl).1 in let few : 108 < length k.0 * 36 = k.2 in omega (arith, three k.0 k.1)

-- nothing else: 7, "beyond .. 1,024 passages", 8 of a component, 14
pub other_refusal : (n c : ℕ) → (n ≡ 29 → ⊥) → (n ≡ 13 → ⊥) → RefusedTo (anew 6) twice 11 (replicate 108 0) (Refused n c) → ⊥
other_refusal n c h k d = no_acceptance n c (d.otherwise (numbers_apart n 29 c 255 h) (numbers_apart n 13 c 255 k))
