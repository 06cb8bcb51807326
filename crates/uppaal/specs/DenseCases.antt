-- Time between the ticks, tried: a step in between two ticks of document 01's probe and hub; and parts that reset a clock at a step in, of which the law
-- does not hold.
use Rattle.std.specs.Prelude.{◌≡◌, refl, true, ◌&&◌, List, [], ◌∷◌, ◌++◌, map, ℕ, zero, suc, ltb, leb, ℤ, pos, length, get_or, set, replicate}
use Rattle.std.proofs.Common.{sym, ap, subst, ◌∙◌, arith, ltb-true, leb-true}
use Rattle.std.proofs.Math.Option.{none, some}
use Rattle.model.specs.Lists.{◌∈◌, here, there}
use Rattle.model.specs.Cases.{worked}
use Rattle.model.proofs.Basics.Bools.{clash, and_is}
use Rattle.model.proofs.Basics.Members.{not_in}
use Rattle.uppaal.specs.Xta.{Name, location, waiting, below, at_least, resets, Transition, System, process_of}
use Rattle.uppaal.specs.XtaNetwork.{Stand, stand_of, all_stand, all_assigned, Fires, grown, Move, delay, joint, Moves, delays, goes, meet, Goes, stays, moves, Path}
use Rattle.uppaal.specs.XtaNetwork.{alone as by_itself}
use Rattle.uppaal.specs.Export.{system_for}
use Rattle.uppaal.specs.Dense.{finer_transition, finer, counted, Act, Brought, Pairs, no_more, Dense}

-- ## A clock that is reset at a step in: the step after it can be made between two ticks only

abbrev pub resetting : Transition
resetting = record { source = location 0; target = location 1; guard = below (record { clock = 1; bound = 1 }) ∷ []; sync = none; assignments = resets 0 ∷ [] }

abbrev pub following : Transition
following =
    record { source = location 1; target = location 2; guard = below (record { clock = 0; bound = 1 }) ∷ at_least 1 1 ∷ []; sync = none; assignments = [] }

abbrev pub late : System
late =
    record {
      channels = 0;
      processes = record {
        clocks = 2;
        variables = 0;
        locations = record { name = location 0; invariant = [] } ∷ record { name = location 1; invariant = [] } ∷ record { name = location 2; invariant = [] } ∷ [];
        initial = location 0;
        transitions = resetting ∷ following ∷ [];
      } ∷ [];
    }

abbrev stood : Name → ℕ → ℕ → Stand
stood l x y = record { at = l; clocks = x ∷ y ∷ []; values = [] }

-- in halves of a tick: reset after one half, and the next step one half later
by_halves : Path (finer 2 late) (delay ∷ by_itself 0 (finer_transition 2 resetting) ∷ delay ∷ by_itself 0 (finer_transition 2 following) ∷ []) (stood (location 2) 1 2 ∷ [])
unfolding all_stand all_assigned
by_halves =
    record {
      begins = refl;
      goes = moves (delays refl)
          (moves (goes {p = 0} {t = finer_transition 2 resetting} {y = stood (location 1) 0 1} (omega arith) (here refl) refl (record { source = refl; guard = refl; after = refl }) refl)
          (moves (delays refl)
          (moves (goes {p = 0} {t = finer_transition 2 following} {y = stood (location 2) 1 2} (omega arith) (there (here refl)) refl (record { source = refl; guard = refl; after = refl }) refl) stays)));
    }

-- at whole ticks both clocks have the same number, and the last location is never entered
record Even (s : List Stand) : Type 0 where
  place : Name
  number : ℕ
  is : s ≡ stood place number number ∷ []
  not_last : place ≡ location 2 → ⊥

apart : (l m : ℕ) → (l ≡ m → ⊥) → location l ≡ location m → ⊥
apart l m h e = h (ap which e)
  where
    which : Name → ℕ
    which (location k) = k
    which (waiting k o) = 0

fires_even : {x y : Stand} {t : Transition} (n : ℕ) (l : Name) → x ≡ stood l n n → t ∈ (resetting ∷ following ∷ []) → Fires x t y → Even (y ∷ [])
unfolding all_assigned
fires_even {x} {y} {t} n l e k f = pick k
  where
    g : Fires (stood l n n) t y
    g = subst (λ (w : Stand). Fires w t y) e f

    at : (u : Transition) → t ≡ u → Fires (stood l n n) u y
    at u q = subst (λ (v : Transition). Fires (stood l n n) v y) q g

    low : (m : ℕ) → ltb m 1 ≡ true → m ≡ 0
    low m h = let z = ltb-true m 1 h in omega (arith, z)

    pick : t ∈ (resetting ∷ following ∷ []) → Even (y ∷ [])
    pick (here q) =
        let h = at resetting q in
        let z = low n ((and_is (ltb n 1) true).0 h.guard).0 in
        let r : stood (location 1) 0 n ≡ y = cc h.after in
        record {
          place = location 1;
          number = 0;
          is = ap (λ (w : Stand). w ∷ []) (sym r ∙ ap (λ (i : ℕ). stood (location 1) 0 i) z);
          not_last = apart 1 2 (λ w. omega (arith, w));
        }
    pick (there (here q)) =
        let h = at following q in
        let w = (and_is (ltb n 1) (leb 1 n && true)).0 h.guard in
        let z = low n w.0 in
        let v = leb-true 1 n ((and_is (leb 1 n) true).0 w.1).0 in
        absurd (omega (arith, z, v))
    pick (there (there j)) = absurd (not_in j)

one_even : {s t : List Stand} {m : Move} → Moves late s m t → Even s → Even t
one_even (delays h) v = record { place = v.place; number = suc v.number; is = ap (map grown) v.is; not_last = v.not_last }
one_even (goes {p = zero} {t = t} {y = y} i m q f a) v =
    let w = fires_even v.number v.place (ap (λ (s : List Stand). stand_of s 0) v.is) m f in
    record { place = w.place; number = w.number; is = ap (λ (s : List Stand). set s 0 y) v.is ∙ w.is; not_last = w.not_last }
one_even (goes {p = suc p} i m q f a) v = absurd (omega (arith, i))
one_even (meet {p = p} {q = q} i j d m o c c' f g a) v = absurd (d (omega (arith, i, j)))

all_even : {s t : List Stand} {ms : List Move} → Goes late s ms t → Even s → Even t
all_even stays v = v
all_even (moves m g) v = all_even g (one_even m v)

pub whole_even : {ms : List Move} {s : List Stand} → Path late ms s → (stand_of s 0).at ≡ location 2 → ⊥
whole_even p e =
    let v = all_even p.goes (record { place = location 0; number = 0; is = refl; not_last = apart 0 2 (λ q. omega (arith, q)) }) in
    v.not_last (sym (ap (λ (s : List Stand). (stand_of s 0).at) v.is) ∙ e)

pub late_refuted : Dense late 2 → ⊥
late_refuted D =
    let w = D.whole (delay ∷ by_itself 0 (finer_transition 2 resetting) ∷ delay ∷ by_itself 0 (finer_transition 2 following) ∷ []) (stood (location 2) 1 2 ∷ []) by_halves in
    whole_even w.path (first-at w.rest w.state w.same)
  where
    first-at : (r : ℕ) (s : List Stand) → stood (location 2) 1 2 ∷ [] ≡ map (counted 2 r) s → (stand_of s 0).at ≡ location 2
    first-at r [] e = let z : ◌≡◌ {A = ℕ} 1 0 = ap length e in absurd (omega (arith, z))
    first-at r (x ∷ s) e = sym (ap (λ (l : List Stand). (stand_of l 0).at) e)

-- ## Pairs that are none: the step made at a later tick, at a tick too early, by another process; a step out between two ticks; one step too few

abbrev pub enters : Transition
enters = record { source = location 0; target = waiting 0 none; guard = []; sync = none; assignments = [] }

abbrev pub leaves : Transition
leaves = record { source = waiting 0 none; target = location 0; guard = []; sync = none; assignments = [] }

abbrev pub act : ℕ → ℕ → Transition → Act
act now p t = record { time = now; move = by_itself p t }

-- seven halves are at tick 3
pub a_pair : Brought 2 (act 7 0 (finer_transition 2 enters)) (act 3 0 enters)
a_pair = record { rest = 1; less = omega arith; time = refl; move = refl; out = λ e. clash e }

abbrev pub number : Move → ℕ
number delay = 0
number (by_itself p t) = p
number (joint p t q u) = p

pub record WrongPairs : Type 0 where
  pub later : Brought 2 (act 7 0 (finer_transition 2 enters)) (act 4 0 enters) → ⊥
  pub early : Brought 2 (act 7 0 (finer_transition 2 enters)) (act 2 0 enters) → ⊥
  pub other : Brought 2 (act 7 0 (finer_transition 2 enters)) (act 3 1 enters) → ⊥
  pub between : Brought 2 (act 7 0 (finer_transition 2 leaves)) (act 3 0 leaves) → ⊥
  pub missing : Pairs (Brought 2) (act 7 0 (finer_transition 2 enters) ∷ []) [] → ⊥

none_pair : {a : Act} {l : List Act} → l ≡ a ∷ [] → Pairs (Brought 2) l [] → ⊥
none_pair e no_more = let z : ◌≡◌ {A = ℕ} 0 1 = ap length e in omega (arith, z)

pub wrong_pairs : WrongPairs
wrong_pairs =
    record {
      later = λ b. omega (arith, b.time);
      early = λ b. omega (arith, b.time, b.less);
      other = λ b. omega (arith, ap number b.move);
      between = λ b. omega (arith, b.time, b.out refl);
      missing = none_pair refl;
    }

-- ## Document 01's probe and hub in halves of a tick: the message is sent three and a half ticks after the start

abbrev probe-and-hub : System
probe-and-hub = system_for (worked 20).table

abbrev none_such : Transition
none_such = enters

abbrev entering : ℕ → Transition
entering p = get_or (process_of probe-and-hub p).transitions 0 none_such

abbrev waits_so : ℕ → List ℤ → Stand
waits_so x vs = record { at = waiting 0 (some 0); clocks = x ∷ []; values = vs }

pub between_ticks : Path (finer 2 probe-and-hub) (replicate 7 delay ++ (joint 0 (finer_transition 2 (entering 0)) 1 (finer_transition 2 (entering 1)) ∷ [])) (waits_so 7 [] ∷ waits_so 7 (pos 0 ∷ []) ∷ [])
unfolding all_stand all_assigned system_for
between_ticks =
    record {
      begins = refl;
      goes = moves (delays refl) (moves (delays refl) (moves (delays refl) (moves (delays refl) (moves (delays refl) (moves (delays refl) (moves (delays refl)
          (moves (meet {p = 0} {q = 1} {k = 0} {t = finer_transition 2 (entering 0)} {u = finer_transition 2 (entering 1)} {y = waits_so 7 []} {z = waits_so 7 (pos 0 ∷ [])}
          (omega arith) (omega arith) (λ e. omega (arith, e)) (here refl) (here refl) refl refl
          (record { source = refl; guard = refl; after = refl }) (record { source = refl; guard = refl; after = refl }) refl) stays)))))));
    }
