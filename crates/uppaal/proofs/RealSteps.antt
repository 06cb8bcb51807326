-- A path in real time, brought to whole ticks; and a path at whole ticks, in real time. Assumes nothing.
use mathlib.Core.Path.{◌≡◌, refl, sym, ap, subst, ◌∙◌}
use mathlib.Core.Bool.{Bool, true, false, ◌&&◌, ◌||◌}
use mathlib.Core.List.{List, [], ◌∷◌, ◌++◌, map}
use mathlib.Core.Option.{Option, none, some}
use Prim.Native.Nat.{ℕ, zero, suc, ◌+◌, ◌≤◌, ◌<◌}
use native.Mathlib.Omega.{arith}
use borrow.Author.Tests.{ltb-true, ltb-false, leb-true, le-leb, eqb-true, eq-eqb}
use lib.Dec.{leb, ltb, eqb}
use lib.IntN.{ℤ}
use lib.ListN.{length, replicate}
use Rattle.model.specs.Lists.{all, first}
use Rattle.model.specs.Window.{clock_at}
use Rattle.model.proofs.Basics.Bools.{clash, and_is}
use Rattle.uppaal.specs.Xta.{Name, Upper, Atom, at_most, below, exactly, at_least, value_at_least, value_at_most, sum_at_least, sum_at_most, never, Location, Process, System}
use Rattle.uppaal.specs.XtaNetwork.{Stand, same_name, keeps, invariant_holds, stands, all_stand, atom_holds, grown, Move, delay, delays, Goes, moves}
use Rattle.uppaal.specs.RealNetwork.{Fractions, Span, is_at_most, span_at, real_keeps, real_invariant, real_stands, all_real_stand, real_atom}
use Rattle.uppaal.specs.Dense.{acts_from, time_from}
use Rattle.uppaal.specs.RealTime.{partly}
use Rattle.uppaal.proofs.Between.{Sized, sized_grown}

-- ## Whole ticks alone: what holds after some ticks held before them

abbrev pub aged : ℕ → Stand → Stand
aged k x = record { at = x.at; clocks = map (λ c. c + k) x.clocks; values = x.values }

-- a clock after some ticks, and after one; where there is no such clock all are 0
data Ages (k : ℕ) (xs : List ℕ) (i : ℕ) : Type 0 where
  is : i < length xs → clock_at (map (λ c. c + k) xs) i ≡ clock_at xs i + k → clock_at (map suc xs) i ≡ suc (clock_at xs i) → Ages k xs i
  no : clock_at (map (λ c. c + k) xs) i ≡ 0 → clock_at (map suc xs) i ≡ 0 → Ages k xs i

ages : (k : ℕ) (xs : List ℕ) (i : ℕ) → Ages k xs i
ages k [] i = no refl refl
ages k (x ∷ xs) zero = is (omega arith) refl refl
ages k (x ∷ xs) (suc i) = elim (ages k xs i) [ is l p q ↦ is (omega (arith, l)) p q | no p q ↦ no p q ]

sooner : (k : ℕ) (xs : List ℕ) (u : Upper) → keeps (map (λ c. c + suc k) xs) u ≡ true → keeps (map suc xs) u ≡ true
sooner k xs u h = go (ages (suc k) xs u.clock)
  where
    b : clock_at (map (λ c. c + suc k) xs) u.clock ≤ u.bound
    b = leb-true (clock_at (map (λ c. c + suc k) xs) u.clock) u.bound h

    go : Ages (suc k) xs u.clock → keeps (map suc xs) u ≡ true
    go (is l p q) = le-leb (clock_at (map suc xs) u.clock) u.bound (omega (arith, p, q, b))
    go (no p q) = le-leb (clock_at (map suc xs) u.clock) u.bound (omega (arith, q))

kept_to : (xs ys : List ℕ) → ((u : Upper) → keeps xs u ≡ true → keeps ys u ≡ true) → (us : List Upper) → all (keeps xs) us ≡ true → all (keeps ys) us ≡ true
kept_to xs ys c [] h = refl
kept_to xs ys c (u ∷ us) h = let w = (and_is (keeps xs u) (all (keeps xs) us)).0 h in (and_is (keeps ys u) (all (keeps ys) us)).1 (c u w.0, kept_to xs ys c us w.1)

all_sooner : (k : ℕ) (Ps : List Process) (zs : List Stand) → all_stand Ps (map (aged (suc k)) zs) ≡ true → all_stand Ps (map grown zs) ≡ true
unfolding all_stand stands
all_sooner k [] zs h = refl
all_sooner k (P ∷ Ps) [] h = h
all_sooner k (P ∷ Ps) (z ∷ zs) h =
    let w = (and_is (stands P (aged (suc k) z)) (all_stand Ps (map (aged (suc k)) zs))).0 h in
    (and_is (stands P (grown z)) (all_stand Ps (map grown zs))).1 (go (first (λ l. same_name l.name z.at) P.locations) w.0, all_sooner k Ps zs w.1)
  where
    go : (o : Option Location) → invariant_holds o (map (λ c. c + suc k) z.clocks) ≡ true → invariant_holds o (map suc z.clocks) ≡ true
    go none e = e
    go (some l) e = kept_to (map (λ c. c + suc k) z.clocks) (map suc z.clocks) (sooner k z.clocks) l.invariant e

pub aged_none : (z : List Stand) → map (aged 0) z ≡ z
aged_none [] = refl
aged_none (x ∷ z) =
    ap (λ (xs : List ℕ). record { at = x.at; clocks = xs; values = x.values } ∷ map (aged 0) z) (clocks x.clocks) ∙ ap (λ (l : List Stand). x ∷ l) (aged_none z)
  where
    clocks : (xs : List ℕ) → map (λ c. c + 0) xs ≡ xs
    clocks [] = refl
    clocks (c ∷ xs) = let q : c + 0 ≡ c = omega arith in rw (q, clocks xs) refl

pub aged_grown : (k : ℕ) (z : List Stand) → map (aged k) (map grown z) ≡ map (aged (suc k)) z
aged_grown k [] = refl
aged_grown k (x ∷ z) =
    ap (λ (xs : List ℕ). record { at = x.at; clocks = xs; values = x.values } ∷ map (aged k) (map grown z)) (clocks x.clocks) ∙ ap (λ (l : List Stand). aged (suc k) x ∷ l) (aged_grown k z)
  where
    clocks : (xs : List ℕ) → map (λ c. c + k) (map suc xs) ≡ map (λ c. c + suc k) xs
    clocks [] = refl
    clocks (c ∷ xs) = let q : suc c + k ≡ c + suc k = omega arith in rw (q, clocks xs) refl

-- so many delays
pub ticks_on : (N : System) (k : ℕ) (z : List Stand) → all_stand N.processes (map (aged k) z) ≡ true → {ks : List Move} {y : List Stand} → Goes N (map (aged k) z) ks y
    → Goes N z (replicate k delay ++ ks) y
ticks_on N zero z h {ks} {y} g = subst (λ (s : List Stand). Goes N s ks y) (aged_none z) g
ticks_on N (suc k) z h {ks} {y} g =
    moves (delays (all_sooner k N.processes z h))
    (ticks_on N k (map grown z) (subst (λ (s : List Stand). all_stand N.processes s ≡ true) (sym (aged_grown k z)) h) (subst (λ (s : List Stand). Goes N s ks y) (sym (aged_grown k z)) g))

pub aged_sized : (N : System) (k : ℕ) (z : List Stand) → Sized N z → Sized N (map (aged k) z)
aged_sized N zero z h = subst (Sized N) (sym (aged_none z)) h
aged_sized N (suc k) z h = subst (Sized N) (aged_grown k z) (aged_sized N k (map grown z) (sized_grown N z h))

pub time_ticks : (k now : ℕ) (ks : List Move) → time_from now (replicate k delay ++ ks) ≡ time_from (now + k) ks
unfolding time_from
time_ticks zero now ks = let q : now ≡ now + 0 = omega arith in ap (λ (i : ℕ). time_from i ks) q
time_ticks (suc k) now ks = let q : suc now + k ≡ now + suc k = omega arith in time_ticks k (suc now) ks ∙ ap (λ (i : ℕ). time_from i ks) q

module _ (Q : Fractions) where
  abbrev pub at_part : Q.F → List ℕ → List (Span Q)
  at_part f xs = map (λ c. record { ticks = c; part = f }) xs

  -- ## A clock that counts a fraction too

  its_ticks : (f : Q.F) (xs : List ℕ) (i : ℕ) → (span_at Q (at_part f xs) i).ticks ≡ clock_at xs i
  its_ticks f [] i = refl
  its_ticks f (x ∷ xs) zero = refl
  its_ticks f (x ∷ xs) (suc i) = its_ticks f xs i

  its_part : (f : Q.F) (xs : List ℕ) (i : ℕ) → i < length xs → (span_at Q (at_part f xs) i).part ≡ f
  its_part f [] i h = absurd (omega arith)
  its_part f (x ∷ xs) zero h = refl
  its_part f (x ∷ xs) (suc i) h = its_part f xs i (omega (arith, h))

  whole_part : (xs : List ℕ) (i : ℕ) → (span_at Q (at_part Q.nil xs) i).part ≡ Q.nil
  whole_part [] i = refl
  whole_part (x ∷ xs) zero = refl
  whole_part (x ∷ xs) (suc i) = whole_part xs i

  -- at most a number, so the ticks are; and below it where the fraction is not 0
  at_most_ticks : (a : Span Q) (n : ℕ) → is_at_most Q a n ≡ true → a.ticks ≤ n
  at_most_ticks a n h = go (ltb a.ticks n) refl h
    where
      go : (b : Bool) → ltb a.ticks n ≡ b → b || (eqb a.ticks n && Q.is_nil a.part) ≡ true → a.ticks ≤ n
      go true e k = let z = ltb-true a.ticks n e in omega (arith, z)
      go false e k = let z = eqb-true a.ticks n ((and_is (eqb a.ticks n) (Q.is_nil a.part)).0 k).0 in omega (arith, z)

  below_ticks : (a : Span Q) (n : ℕ) → Q.is_nil a.part ≡ false → is_at_most Q a n ≡ true → a.ticks < n
  below_ticks a n f h = go (ltb a.ticks n) refl h
    where
      go : (b : Bool) → ltb a.ticks n ≡ b → b || (eqb a.ticks n && Q.is_nil a.part) ≡ true → a.ticks < n
      go true e k = ltb-true a.ticks n e
      go false e k = clash (sym f ∙ ((and_is (eqb a.ticks n) (Q.is_nil a.part)).0 k).1)

  at_most_whole : (a : Span Q) (n : ℕ) → a.ticks ≤ n → a.part ≡ Q.nil → is_at_most Q a n ≡ true
  at_most_whole a n l e = go (ltb a.ticks n) refl
    where
      go : (b : Bool) → ltb a.ticks n ≡ b → b || (eqb a.ticks n && Q.is_nil a.part) ≡ true
      go true b = refl
      go false b = let k = ltb-false a.ticks n b in (and_is (eqb a.ticks n) (Q.is_nil a.part)).1 (eq-eqb a.ticks n (omega (arith, l, k)), ap Q.is_nil e ∙ Q.nil_is)

  -- ## Guards

  module _ (f : Q.F) (xs : List ℕ) (vs : List ℤ) where
    atom_floor : (a : Atom) → real_atom Q (at_part f xs) vs a ≡ true → atom_holds xs vs a ≡ true
    atom_floor (at_most u) h =
        le-leb (clock_at xs u.clock) u.bound (subst (λ (k : ℕ). k ≤ u.bound) (its_ticks f xs u.clock) (at_most_ticks (span_at Q (at_part f xs) u.clock) u.bound h))
    atom_floor (below u) h = ap (λ (k : ℕ). ltb k u.bound) (sym (its_ticks f xs u.clock)) ∙ h
    atom_floor (exactly u) h =
        ap (λ (k : ℕ). eqb k u.bound) (sym (its_ticks f xs u.clock))
        ∙ ((and_is (eqb (span_at Q (at_part f xs) u.clock).ticks u.bound) (Q.is_nil (span_at Q (at_part f xs) u.clock).part)).0 h).0
    atom_floor (at_least i n) h = ap (λ (k : ℕ). leb n k) (sym (its_ticks f xs i)) ∙ h
    atom_floor (value_at_least v z) h = h
    atom_floor (value_at_most v z) h = h
    atom_floor (sum_at_least v k z) h = h
    atom_floor (sum_at_most v k z) h = h
    atom_floor never h = h

    pub guard_floor : (g : List Atom) → all (real_atom Q (at_part f xs) vs) g ≡ true → all (atom_holds xs vs) g ≡ true
    guard_floor [] h = refl
    guard_floor (a ∷ g) h =
        let w = (and_is (real_atom Q (at_part f xs) vs a) (all (real_atom Q (at_part f xs) vs) g)).0 h in
        (and_is (atom_holds xs vs a) (all (atom_holds xs vs) g)).1 (atom_floor a w.0, guard_floor g w.1)

    -- a clock exactly at a number: a whole tick
    pub exact_nil : (u : Upper) → u.clock < length xs → real_atom Q (at_part f xs) vs (exactly u) ≡ true → f ≡ Q.nil
    exact_nil u i h =
        sym (its_part f xs u.clock i)
        ∙ Q.is-nil (span_at Q (at_part f xs) u.clock).part ((and_is (eqb (span_at Q (at_part f xs) u.clock).ticks u.bound) (Q.is_nil (span_at Q (at_part f xs) u.clock).part)).0 h).1

  module _ (xs : List ℕ) (vs : List ℤ) where
    atom_really : (a : Atom) → atom_holds xs vs a ≡ true → real_atom Q (at_part Q.nil xs) vs a ≡ true
    atom_really (at_most u) h =
        at_most_whole (span_at Q (at_part Q.nil xs) u.clock) u.bound
        (subst (λ (k : ℕ). k ≤ u.bound) (sym (its_ticks Q.nil xs u.clock)) (leb-true (clock_at xs u.clock) u.bound h)) (whole_part xs u.clock)
    atom_really (below u) h = ap (λ (k : ℕ). ltb k u.bound) (its_ticks Q.nil xs u.clock) ∙ h
    atom_really (exactly u) h =
        (and_is (eqb (span_at Q (at_part Q.nil xs) u.clock).ticks u.bound) (Q.is_nil (span_at Q (at_part Q.nil xs) u.clock).part)).1
        (ap (λ (k : ℕ). eqb k u.bound) (its_ticks Q.nil xs u.clock) ∙ h, ap Q.is_nil (whole_part xs u.clock) ∙ Q.nil_is)
    atom_really (at_least i n) h = ap (λ (k : ℕ). leb n k) (its_ticks Q.nil xs i) ∙ h
    atom_really (value_at_least v z) h = h
    atom_really (value_at_most v z) h = h
    atom_really (sum_at_least v k z) h = h
    atom_really (sum_at_most v k z) h = h
    atom_really never h = h

    pub guard_really : (g : List Atom) → all (atom_holds xs vs) g ≡ true → all (real_atom Q (at_part Q.nil xs) vs) g ≡ true
    guard_really [] h = refl
    guard_really (a ∷ g) h =
        let w = (and_is (atom_holds xs vs a) (all (atom_holds xs vs) g)).0 h in
        (and_is (real_atom Q (at_part Q.nil xs) vs a) (all (real_atom Q (at_part Q.nil xs) vs) g)).1 (atom_really a w.0, guard_really g w.1)

  -- ## Invariants

  kept_floor : (xs : List (Span Q)) (ys : List ℕ) → ((u : Upper) → real_keeps Q xs u ≡ true → keeps ys u ≡ true) → (us : List Upper) → all (real_keeps Q xs) us ≡ true → all (keeps ys) us ≡ true
  kept_floor xs ys c [] h = refl
  kept_floor xs ys c (u ∷ us) h =
      let w = (and_is (real_keeps Q xs u) (all (real_keeps Q xs) us)).0 h in (and_is (keeps ys u) (all (keeps ys) us)).1 (c u w.0, kept_floor xs ys c us w.1)

  kept_really : (ys : List ℕ) (us : List Upper) → all (keeps ys) us ≡ true → all (real_keeps Q (at_part Q.nil ys)) us ≡ true
  kept_really ys [] h = refl
  kept_really ys (u ∷ us) h =
      let w = (and_is (keeps ys u) (all (keeps ys) us)).0 h in
      (and_is (real_keeps Q (at_part Q.nil ys) u) (all (real_keeps Q (at_part Q.nil ys)) us)).1 (atom_really ys [] (at_most u) w.0, kept_really ys us w.1)

  all_floor : (f : Q.F) (g : Stand → Stand) → ((x : Stand) → (g x).at ≡ x.at) → ((x : Stand) (u : Upper) → real_keeps Q (at_part f x.clocks) u ≡ true → keeps (g x).clocks u ≡ true)
      → (Ps : List Process) (zs : List Stand) → all_real_stand Q Ps (map (partly Q f) zs) ≡ true → all_stand Ps (map g zs) ≡ true
  unfolding all_stand stands all_real_stand real_stands
  all_floor f g s c [] zs h = refl
  all_floor f g s c (P ∷ Ps) [] h = h
  all_floor f g s c (P ∷ Ps) (z ∷ zs) h =
      let w = (and_is (real_stands Q P (partly Q f z)) (all_real_stand Q Ps (map (partly Q f) zs))).0 h in
      (and_is (stands P (g z)) (all_stand Ps (map g zs))).1
      (subst (λ (a : Name). invariant_holds (first (λ l. same_name l.name a) P.locations) (g z).clocks ≡ true) (sym (s z)) (go (first (λ l. same_name l.name z.at) P.locations) w.0), all_floor f g s c Ps zs w.1)
    where
      go : (o : Option Location) → real_invariant Q o (at_part f z.clocks) ≡ true → invariant_holds o (g z).clocks ≡ true
      go none e = e
      go (some l) e = kept_floor (at_part f z.clocks) (g z).clocks (c z) l.invariant e

  -- held in real time, held at the whole tick before
  pub all_at_tick : (f : Q.F) (Ps : List Process) (zs : List Stand) → all_real_stand Q Ps (map (partly Q f) zs) ≡ true → all_stand Ps zs ≡ true
  all_at_tick f Ps zs h =
      subst (λ (s : List Stand). all_stand Ps s ≡ true) (same zs) (all_floor f (λ x. x) (λ x. refl) (λ x u k. atom_floor f x.clocks [] (at_most u) k) Ps zs h)
    where
      same : (l : List Stand) → map (λ x. x) l ≡ l
      same [] = refl
      same (x ∷ l) = ap (λ (m : List Stand). x ∷ m) (same l)

  -- held after a whole tick, held at the next
  pub all_at_next : (f : Q.F) → Q.is_nil f ≡ false → (Ps : List Process) (zs : List Stand) → all_real_stand Q Ps (map (partly Q f) zs) ≡ true → all_stand Ps (map grown zs) ≡ true
  all_at_next f n Ps zs h = all_floor f grown (λ x. refl) each Ps zs h
    where
      each : (x : Stand) (u : Upper) → real_keeps Q (at_part f x.clocks) u ≡ true → keeps (map suc x.clocks) u ≡ true
      each x u k = go (ages 0 x.clocks u.clock)
        where
          go : Ages 0 x.clocks u.clock → keeps (map suc x.clocks) u ≡ true
          go (is i p q) =
              let l = below_ticks (span_at Q (at_part f x.clocks) u.clock) u.bound (ap Q.is_nil (its_part f x.clocks u.clock i) ∙ n) k in
              le-leb (clock_at (map suc x.clocks) u.clock) u.bound (omega (arith, q, l, its_ticks f x.clocks u.clock))
          go (no p q) = le-leb (clock_at (map suc x.clocks) u.clock) u.bound (omega (arith, q))

  pub all_really : (Ps : List Process) (zs : List Stand) → all_stand Ps zs ≡ true → all_real_stand Q Ps (map (partly Q Q.nil) zs) ≡ true
  unfolding all_stand stands all_real_stand real_stands
  all_really [] zs h = refl
  all_really (P ∷ Ps) [] h = h
  all_really (P ∷ Ps) (z ∷ zs) h =
      let w = (and_is (stands P z) (all_stand Ps zs)).0 h in
      (and_is (real_stands Q P (partly Q Q.nil z)) (all_real_stand Q Ps (map (partly Q Q.nil) zs))).1 (go (first (λ l. same_name l.name z.at) P.locations) w.0, all_really Ps zs w.1)
    where
      go : (o : Option Location) → invariant_holds o z.clocks ≡ true → real_invariant Q o (at_part Q.nil z.clocks) ≡ true
      go none e = e
      go (some l) e = kept_really z.clocks l.invariant e
