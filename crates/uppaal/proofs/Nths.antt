-- Clocks in n-ths of a tick against whole numbers of ticks. Assumes nothing.
use mathlib.Core.Path.{◌≡◌, refl, sym, ap, subst, ◌∙◌}
use mathlib.Core.Bool.{Bool, true, false, cond}
use mathlib.Core.List.{List, [], ◌∷◌, map}
use mathlib.Core.Option.{some}
use Prim.Native.Nat.{ℕ, zero, suc, ◌+◌, ◌*◌, ◌≤◌, ◌<◌}
use native.Mathlib.Omega.{arith}
use native.Mathlib.Nat.{mul-le-mul_left, mul-suc, mul-zero}
use borrow.Author.Tests.{ltb-true, lt-ltb, leb-true, leb-false, le-leb, eqb-true, eq-eqb}
use lib.Dec.{leb}
use lib.IntN.{ℤ}
use lib.ListN.{length}
use Rattle.model.specs.Lists.{all, first}
use Rattle.model.specs.Window.{clock_at}
use Rattle.model.proofs.Basics.Bools.{and_is}
use Rattle.uppaal.specs.Xta.{Name, Upper, Atom, at_most, below, exactly, at_least, value_at_least, value_at_most, sum_at_least, sum_at_most, never, Location, Process}
use Rattle.uppaal.specs.XtaNetwork.{Stand, same_name, keeps, invariant_holds, stands, all_stand, atom_holds, grown}
use Rattle.uppaal.specs.Dense.{finer_upper, finer_atom, finer_location, finer_process, counted}

-- ## Numbers

-- below by a whole tick, below in n-ths by n
pub ahead : (n x b : ℕ) → x < b → n * x + n ≤ n * b
ahead n x b h = let m : n * suc x ≤ n * b = mul-le-mul_left n h in omega (arith, m, mul-suc n x)

pub le_back : (n x b r : ℕ) → 1 ≤ n → n * x + r ≤ n * b → x ≤ b
le_back n x b r one h = go (leb x b) refl
  where
    go : (t : Bool) → leb x b ≡ t → x ≤ b
    go true e = leb-true x b e
    go false e = absurd (omega (arith, ahead n b x (leb-false x b e), one, h))

pub lt_back : (n x b r : ℕ) → n * x + r < n * b → x < b
lt_back n x b r h = go (leb b x) refl
  where
    go : (t : Bool) → leb b x ≡ t → x < b
    go true e = let m : n * b ≤ n * x = mul-le-mul_left n (leb-true b x e) in absurd (omega (arith, m, h))
    go false e = leb-false b x e

pub ge_back : (n x b r : ℕ) → r < n → n * b ≤ n * x + r → b ≤ x
ge_back n x b r l h = go (leb b x) refl
  where
    go : (t : Bool) → leb b x ≡ t → b ≤ x
    go true e = leb-true b x e
    go false e = absurd (omega (arith, ahead n x b (leb-false b x e), l, h))

pub eq_back : (n x b r : ℕ) → r < n → n * x + r ≡ n * b → (x ≡ b) × (r ≡ 0)
eq_back n x b r l h =
    let up : x ≤ b = le_back n x b r (omega (arith, l)) (omega (arith, h)) in
    let down : b ≤ x = ge_back n x b r l (omega (arith, h)) in
    let e : x ≡ b = omega (arith, up, down) in
    (e, let q : n * x ≡ n * b = ap (λ k. n * k) e in omega (arith, q, h))

-- ## A clock, counted

-- the clock's number in n-ths: r more, and where there is no such clock none more
pub record Reads (n r : ℕ) (xs : List ℕ) (i : ℕ) : Type 0 where
  pub more : ℕ
  pub few : more ≤ r
  pub is : clock_at (map (λ c. n * c + r) xs) i ≡ n * clock_at xs i + more
  pub full : i < length xs → more ≡ r

pub reads : (n r : ℕ) (xs : List ℕ) (i : ℕ) → Reads n r xs i
reads n r [] i = record { more = 0; few = omega arith; is = omega (arith, mul-zero n); full = λ h. absurd (omega arith) }
reads n r (x ∷ xs) zero = record { more = r; few = omega arith; is = refl; full = λ h. refl }
reads n r (x ∷ xs) (suc i) = let q = reads n r xs i in record { more = q.more; few = q.few; is = q.is; full = λ h. q.full (omega (arith, h)) }

-- ## Guards

module _ (n r : ℕ) (l : r < n) (xs : List ℕ) (vs : List ℤ) where
  abbrev pub ys : List ℕ
  ys = map (λ c. n * c + r) xs

  -- what holds in n-ths held at the whole tick before
  atom_back : (a : Atom) → atom_holds ys vs (finer_atom n a) ≡ true → atom_holds xs vs a ≡ true
  atom_back (at_most u) h =
      let q = reads n r xs u.clock in
      le-leb (clock_at xs u.clock) u.bound
      (le_back n (clock_at xs u.clock) u.bound q.more (omega (arith, l)) (omega (arith, q.is, leb-true (clock_at ys u.clock) (n * u.bound) h)))
  atom_back (below u) h =
      let q = reads n r xs u.clock in
      lt-ltb (clock_at xs u.clock) u.bound
      (lt_back n (clock_at xs u.clock) u.bound q.more (omega (arith, q.is, ltb-true (clock_at ys u.clock) (n * u.bound) h)))
  atom_back (exactly u) h =
      let q = reads n r xs u.clock in
      eq-eqb (clock_at xs u.clock) u.bound
      (eq_back n (clock_at xs u.clock) u.bound q.more (omega (arith, l, q.few)) (sym q.is ∙ eqb-true (clock_at ys u.clock) (n * u.bound) h)).0
  atom_back (at_least i k) h =
      let q = reads n r xs i in
      le-leb k (clock_at xs i)
      (ge_back n (clock_at xs i) k q.more (omega (arith, l, q.few)) (omega (arith, q.is, leb-true (n * k) (clock_at ys i) h)))
  atom_back (value_at_least v z) h = h
  atom_back (value_at_most v z) h = h
  atom_back (sum_at_least v k z) h = h
  atom_back (sum_at_most v k z) h = h
  atom_back never h = h

  pub guard_back : (g : List Atom) → all (atom_holds ys vs) (map (finer_atom n) g) ≡ true → all (atom_holds xs vs) g ≡ true
  guard_back [] h = refl
  guard_back (a ∷ g) h =
      let w = (and_is (atom_holds ys vs (finer_atom n a)) (all (atom_holds ys vs) (map (finer_atom n) g))).0 h in
      (and_is (atom_holds xs vs a) (all (atom_holds xs vs) g)).1 (atom_back a w.0, guard_back g w.1)

  -- a clock that is exactly at a whole number: it is a whole tick
  pub exact_whole : (u : Upper) → u.clock < length xs → atom_holds ys vs (finer_atom n (exactly u)) ≡ true → r ≡ 0
  exact_whole u i h =
      let q = reads n r xs u.clock in
      sym (q.full i) ∙ (eq_back n (clock_at xs u.clock) u.bound q.more (omega (arith, l, q.few)) (sym q.is ∙ eqb-true (clock_at ys u.clock) (n * u.bound) h)).1

-- at a whole tick both hold
module _ (n : ℕ) (one : 1 ≤ n) (xs : List ℕ) (vs : List ℤ) where
  abbrev pub zs : List ℕ
  zs = map (λ c. n * c + 0) xs

  whole_read : (i : ℕ) → clock_at zs i ≡ n * clock_at xs i
  whole_read i = let q = reads n 0 xs i in omega (arith, q.is, q.few)

  atom_on : (a : Atom) → atom_holds xs vs a ≡ true → atom_holds zs vs (finer_atom n a) ≡ true
  atom_on (at_most u) h =
      let m : n * clock_at xs u.clock ≤ n * u.bound = mul-le-mul_left n (leb-true (clock_at xs u.clock) u.bound h) in
      le-leb (clock_at zs u.clock) (n * u.bound) (omega (arith, m, whole_read u.clock))
  atom_on (below u) h =
      lt-ltb (clock_at zs u.clock) (n * u.bound) (omega (arith, ahead n (clock_at xs u.clock) u.bound (ltb-true (clock_at xs u.clock) u.bound h), one, whole_read u.clock))
  atom_on (exactly u) h = eq-eqb (clock_at zs u.clock) (n * u.bound) (whole_read u.clock ∙ ap (λ k. n * k) (eqb-true (clock_at xs u.clock) u.bound h))
  atom_on (at_least i k) h =
      let m : n * k ≤ n * clock_at xs i = mul-le-mul_left n (leb-true k (clock_at xs i) h) in
      le-leb (n * k) (clock_at zs i) (omega (arith, m, whole_read i))
  atom_on (value_at_least v z) h = h
  atom_on (value_at_most v z) h = h
  atom_on (sum_at_least v k z) h = h
  atom_on (sum_at_most v k z) h = h
  atom_on never h = h

  pub guard_on : (g : List Atom) → all (atom_holds xs vs) g ≡ true → all (atom_holds zs vs) (map (finer_atom n) g) ≡ true
  guard_on [] h = refl
  guard_on (a ∷ g) h =
      let w = (and_is (atom_holds xs vs a) (all (atom_holds xs vs) g)).0 h in
      (and_is (atom_holds zs vs (finer_atom n a)) (all (atom_holds zs vs) (map (finer_atom n) g))).1 (atom_on a w.0, guard_on g w.1)

-- ## Invariants, from one way of counting to the other

module _ (n : ℕ) (xs ys : List ℕ) where
  module _ (c : (u : Upper) → keeps xs (finer_upper n u) ≡ true → keeps ys u ≡ true) where
    kept_back : (us : List Upper) → all (keeps xs) (map (finer_upper n) us) ≡ true → all (keeps ys) us ≡ true
    kept_back [] h = refl
    kept_back (u ∷ us) h =
        let w = (and_is (keeps xs (finer_upper n u)) (all (keeps xs) (map (finer_upper n) us))).0 h in
        (and_is (keeps ys u) (all (keeps ys) us)).1 (c u w.0, kept_back us w.1)

    found_back : (a : Name) (ls : List Location) → invariant_holds (first (λ l. same_name l.name a) (map (finer_location n) ls)) xs ≡ true
        → invariant_holds (first (λ l. same_name l.name a) ls) ys ≡ true
    found_back a [] h = h
    found_back a (l ∷ ls) h = go (same_name l.name a) h (found_back a ls)
      where
        go : (b : Bool) → invariant_holds (cond b (some (finer_location n l)) (first (λ k. same_name k.name a) (map (finer_location n) ls))) xs ≡ true
            → (invariant_holds (first (λ k. same_name k.name a) (map (finer_location n) ls)) xs ≡ true → invariant_holds (first (λ k. same_name k.name a) ls) ys ≡ true)
            → invariant_holds (cond b (some l) (first (λ k. same_name k.name a) ls)) ys ≡ true
        go true h ih = kept_back l.invariant h
        go false h ih = ih h

  module _ (c : (u : Upper) → keeps ys u ≡ true → keeps xs (finer_upper n u) ≡ true) where
    kept_on : (us : List Upper) → all (keeps ys) us ≡ true → all (keeps xs) (map (finer_upper n) us) ≡ true
    kept_on [] h = refl
    kept_on (u ∷ us) h =
        let w = (and_is (keeps ys u) (all (keeps ys) us)).0 h in
        (and_is (keeps xs (finer_upper n u)) (all (keeps xs) (map (finer_upper n) us))).1 (c u w.0, kept_on us w.1)

    found_on : (a : Name) (ls : List Location) → invariant_holds (first (λ l. same_name l.name a) ls) ys ≡ true
        → invariant_holds (first (λ l. same_name l.name a) (map (finer_location n) ls)) xs ≡ true
    found_on a [] h = h
    found_on a (l ∷ ls) h = go (same_name l.name a) h (found_on a ls)
      where
        go : (b : Bool) → invariant_holds (cond b (some l) (first (λ k. same_name k.name a) ls)) ys ≡ true
            → (invariant_holds (first (λ k. same_name k.name a) ls) ys ≡ true → invariant_holds (first (λ k. same_name k.name a) (map (finer_location n) ls)) xs ≡ true)
            → invariant_holds (cond b (some (finer_location n l)) (first (λ k. same_name k.name a) (map (finer_location n) ls))) xs ≡ true
        go true h ih = kept_on l.invariant h
        go false h ih = ih h

-- in each process
module _ (n : ℕ) (f g : Stand → Stand) where
  all_back : ((P : Process) (x : Stand) → stands (finer_process n P) (f x) ≡ true → stands P (g x) ≡ true)
      → (Ps : List Process) (zs : List Stand) → all_stand (map (finer_process n) Ps) (map f zs) ≡ true → all_stand Ps (map g zs) ≡ true
  unfolding all_stand
  all_back c [] zs h = refl
  all_back c (P ∷ Ps) [] h = h
  all_back c (P ∷ Ps) (z ∷ zs) h =
      let w = (and_is (stands (finer_process n P) (f z)) (all_stand (map (finer_process n) Ps) (map f zs))).0 h in
      (and_is (stands P (g z)) (all_stand Ps (map g zs))).1 (c P z w.0, all_back c Ps zs w.1)

  all_on : ((P : Process) (x : Stand) → stands P (g x) ≡ true → stands (finer_process n P) (f x) ≡ true)
      → (Ps : List Process) (zs : List Stand) → all_stand Ps (map g zs) ≡ true → all_stand (map (finer_process n) Ps) (map f zs) ≡ true
  unfolding all_stand
  all_on c [] zs h = refl
  all_on c (P ∷ Ps) [] h = h
  all_on c (P ∷ Ps) (z ∷ zs) h =
      let w = (and_is (stands P (g z)) (all_stand Ps (map g zs))).0 h in
      (and_is (stands (finer_process n P) (f z)) (all_stand (map (finer_process n) Ps) (map f zs))).1 (c P z w.0, all_on c Ps zs w.1)

map_same : (zs : List Stand) → map (λ z. z) zs ≡ zs
map_same [] = refl
map_same (z ∷ zs) = ap (λ (l : List Stand). z ∷ l) (map_same zs)

-- a clock in n-ths, and after one more tick; where there is no such clock both are 0
data Grows (n r : ℕ) (xs : List ℕ) (i : ℕ) : Type 0 where
  is : clock_at (map (λ c. n * c + r) xs) i ≡ n * clock_at xs i + r → clock_at (map suc xs) i ≡ suc (clock_at xs i) → Grows n r xs i
  no : clock_at (map (λ c. n * c + r) xs) i ≡ 0 → clock_at (map suc xs) i ≡ 0 → Grows n r xs i

grows : (n r : ℕ) (xs : List ℕ) (i : ℕ) → Grows n r xs i
grows n r [] i = no refl refl
grows n r (x ∷ xs) zero = is refl refl
grows n r (x ∷ xs) (suc i) = elim (grows n r xs i) [ is p q ↦ is p q | no p q ↦ no p q ]

-- a bound that is kept at the next tick is kept until then
until : (n r : ℕ) → r ≤ n → (xs : List ℕ) (u : Upper) → keeps (map suc xs) u ≡ true → keeps (map (λ c. n * c + r) xs) (finer_upper n u) ≡ true
until n r l xs u h = go (grows n r xs u.clock)
  where
    k : clock_at (map suc xs) u.clock ≤ u.bound
    k = leb-true (clock_at (map suc xs) u.clock) u.bound h

    go : Grows n r xs u.clock → keeps (map (λ c. n * c + r) xs) (finer_upper n u) ≡ true
    go (is p q) = le-leb (clock_at (map (λ c. n * c + r) xs) u.clock) (n * u.bound) (omega (arith, p, l, ahead n (clock_at xs u.clock) u.bound (omega (arith, q, k))))
    go (no p q) = le-leb (clock_at (map (λ c. n * c + r) xs) u.clock) (n * u.bound) (omega (arith, p))

-- a bound that is kept after a whole tick is kept at the next
onwards : (n r : ℕ) → 0 < r → (xs : List ℕ) (u : Upper) → keeps (map (λ c. n * c + r) xs) (finer_upper n u) ≡ true → keeps (map suc xs) u ≡ true
onwards n r l xs u h = go (grows n r xs u.clock)
  where
    k : clock_at (map (λ c. n * c + r) xs) u.clock ≤ n * u.bound
    k = leb-true (clock_at (map (λ c. n * c + r) xs) u.clock) (n * u.bound) h

    go : Grows n r xs u.clock → keeps (map suc xs) u ≡ true
    go (is p q) =
        let m : clock_at xs u.clock < u.bound = lt_back n (clock_at xs u.clock) u.bound 0 (omega (arith, p, k, l)) in
        le-leb (clock_at (map suc xs) u.clock) u.bound (omega (arith, q, m))
    go (no p q) = le-leb (clock_at (map suc xs) u.clock) u.bound (omega (arith, q))

module _ (n : ℕ) (one : 1 ≤ n) where
  -- held in n-ths, held at the whole tick before
  pub all_before : (r : ℕ) → r < n → (Ps : List Process) (zs : List Stand) → all_stand (map (finer_process n) Ps) (map (counted n r) zs) ≡ true → all_stand Ps zs ≡ true
  unfolding stands
  all_before r l Ps zs h = subst (λ (s : List Stand). all_stand Ps s ≡ true) (map_same zs) (all_back n (counted n r) (λ z. z) each Ps zs h)
    where
      each : (P : Process) (x : Stand) → stands (finer_process n P) (counted n r x) ≡ true → stands P x ≡ true
      each P x = found_back n (counted n r x).clocks x.clocks (λ u k. atom_back n r l x.clocks x.values (at_most u) k) x.at P.locations

  -- held at a whole tick, held in n-ths at it
  pub all_whole : (Ps : List Process) (zs : List Stand) → all_stand Ps zs ≡ true → all_stand (map (finer_process n) Ps) (map (counted n 0) zs) ≡ true
  unfolding stands
  all_whole Ps zs h = all_on n (counted n 0) (λ z. z) each Ps zs (subst (λ (s : List Stand). all_stand Ps s ≡ true) (sym (map_same zs)) h)
    where
      each : (P : Process) (x : Stand) → stands P x ≡ true → stands (finer_process n P) (counted n 0 x) ≡ true
      each P x = found_on n (counted n 0 x).clocks x.clocks (λ u k. atom_on n one x.clocks x.values (at_most u) k) x.at P.locations

  -- held at the next tick, held until then
  pub all_until : (r : ℕ) → r ≤ n → (Ps : List Process) (zs : List Stand) → all_stand Ps (map grown zs) ≡ true → all_stand (map (finer_process n) Ps) (map (counted n r) zs) ≡ true
  unfolding stands
  all_until r l Ps zs h = all_on n (counted n r) grown each Ps zs h
    where
      each : (P : Process) (x : Stand) → stands P (grown x) ≡ true → stands (finer_process n P) (counted n r x) ≡ true
      each P x = found_on n (counted n r x).clocks (grown x).clocks (λ u k. until n r l x.clocks u k) x.at P.locations

  -- held after a whole tick, held at the next
  pub all_next : (r : ℕ) → 0 < r → (Ps : List Process) (zs : List Stand) → all_stand (map (finer_process n) Ps) (map (counted n r) zs) ≡ true → all_stand Ps (map grown zs) ≡ true
  unfolding stands
  all_next r l Ps zs h = all_back n (counted n r) grown each Ps zs h
    where
      each : (P : Process) (x : Stand) → stands (finer_process n P) (counted n r x) ≡ true → stands P (grown x) ≡ true
      each P x = found_back n (counted n r x).clocks (grown x).clocks (λ u k. onwards n r l x.clocks u k) x.at P.locations
