-- The sentences of `Recurs` and `FirstRecurs` held against ticks of short schedules: right ones, and wrong ones with the sentence that refutes them.
use Rattle.std.specs.Prelude.{◌≡◌, refl, ◌⊎◌, List, [], ◌∷◌, ℕ, zero, suc, ◌≤◌, ◌<◌, ℤ, pos, negsuc}
use Rattle.std.proofs.Common.{sym, ap, ◌∙◌, inl, inr, arith}
use Rattle.std.proofs.Math.Option.{none}
use Rattle.model.specs.Lists.{◌∈◌, here, there}
use Rattle.model.specs.Table.{Component, Table, size}
use Rattle.model.specs.Window.{Entry}
use Rattle.model.specs.Schedule.{Passage}
use Rattle.recurrence.specs.Recurrence.{timeless, EntersAt, Recurs, FirstRecurs}

-- a location, a tick, a clock and a variable
abbrev entering : ℕ → ℕ → ℕ → ℕ → Entry
entering location tick clock value = record { location = location; tick = tick; clocks = clock ∷ []; values = pos value ∷ [] }

abbrev passing : ℕ → Entry → Passage
passing c at = record { component = c; edge = 0; entry = at; ready = at.tick; end = at.tick; message = none }

abbrev pub idle : Component
idle = record { initial = 0; clocks = 1; variables = 1; locations = []; arcs = [] }

abbrev pub alone : Table
alone = record { channels = 0; bands = []; components = idle ∷ [] }

abbrev pub both : Table
both = record { channels = 0; bands = []; components = idle ∷ idle ∷ [] }

-- component 0 enters at 0 and at 5
abbrev pub twice : Entry → Entry → List Passage
twice first second = passing 0 first ∷ passing 0 second ∷ []

one_of : {v w x : Passage} → x ∈ (v ∷ w ∷ []) → (x ≡ v) ⊎ (x ≡ w)
one_of (here e) = inl e
one_of (there (here e)) = inr e
one_of {v = v} {w = w} (there (there x7)) = elim x7 [ ]

-- ## Equal locations, clocks and variables

-- whatever enters at 0 and 5 is in one state at both
same_state : (H : ℕ) (first second : Entry) → first.tick ≡ 0 → second.tick ≡ 5 → Recurs alone H (twice first second) 0 5 → timeless first ≡ timeless second
same_state H first second p q r =
    let k = r.enters 0 (omega arith) in
    let u = k.1 in
    let w = k.2 in
    go u.passage w.passage (u.state ∙ sym w.state) u.tick w.tick (one_of u.listed) (one_of w.listed)
  where
    go : (x y : Passage) → timeless x.entry ≡ timeless y.entry → x.entry.tick ≡ 0 → y.entry.tick ≡ 5
        → (x ≡ passing 0 first) ⊎ (x ≡ passing 0 second) → (y ≡ passing 0 first) ⊎ (y ≡ passing 0 second) → timeless first ≡ timeless second
    go x y s e f (inl a) (inl b) = absurd (omega (arith, ap (λ (v : Passage). v.entry.tick) b, p, f))
    go x y s e f (inl a) (inr b) = sym (ap (λ (v : Passage). timeless v.entry) a) ∙ s ∙ ap (λ (v : Passage). timeless v.entry) b
    go x y s e f (inr a) b = absurd (omega (arith, ap (λ (v : Passage). v.entry.tick) a, q, e))

abbrev first_at : ℕ → List ℕ → ℕ
first_at n [] = n
first_at n (x ∷ xs) = x

pub other_location : Recurs alone 9 (twice (entering 0 0 3 7) (entering 1 5 3 7)) 0 5 → ⊥
other_location r = absurd (omega (arith, ap (λ (at : Entry). at.location) (same_state 9 (entering 0 0 3 7) (entering 1 5 3 7) refl refl r)))

pub other_clock : Recurs alone 9 (twice (entering 0 0 3 7) (entering 0 5 4 7)) 0 5 → ⊥
other_clock r = absurd (omega (arith, ap (λ (at : Entry). first_at 0 at.clocks) (same_state 9 (entering 0 0 3 7) (entering 0 5 4 7) refl refl r)))

abbrev sized : List ℤ → ℕ
sized [] = 0
sized (pos n ∷ zs) = n
sized (negsuc n ∷ zs) = 0

pub other_variable : Recurs alone 9 (twice (entering 0 0 3 7) (entering 0 5 3 8)) 0 5 → ⊥
other_variable r = absurd (omega (arith, ap (λ (at : Entry). sized at.values) (same_state 9 (entering 0 0 3 7) (entering 0 5 3 8) refl refl r)))

-- ## "ticks with a < b < H"

-- every component of `alone` is the first
only_one : {c : ℕ} → c < size alone → c ≡ 0
only_one h = omega arith

pub comes_again : Recurs alone 6 (twice (entering 0 0 3 7) (entering 0 5 3 7)) 0 5
comes_again = record { before = omega arith; below = omega arith; enters = λ c h. enters_so c (only_one h) }
  where
    S : List Passage
    S = twice (entering 0 0 3 7) (entering 0 5 3 7)

    enters_so : (c : ℕ) → c ≡ 0 → (at : Entry) × EntersAt S c 0 at × EntersAt S c 5 at
    enters_so zero e = (
      timeless (entering 0 0 3 7),
      record { passage = passing 0 (entering 0 0 3 7); listed = here refl; tick = refl; state = refl },
      record { passage = passing 0 (entering 0 5 3 7); listed = there (here refl); tick = refl; state = refl },
    )
    enters_so (suc c) e = absurd (omega arith)

-- with the horizon 5 it is no pair
pub at_the_horizon : (S : List Passage) → Recurs alone 5 S 0 5 → ⊥
at_the_horizon S r = omega (arith, r.below)

pub one_tick : (T : Table) (H a : ℕ) (S : List Passage) → Recurs T H S a a → ⊥
one_tick T H a S r = omega (arith, r.before)

-- ## "at which all components enter"

-- component 1 enters at 0 alone
pub one_stays : Recurs both 9 (passing 0 (entering 0 0 3 7) ∷ passing 1 (entering 0 0 3 7) ∷ passing 0 (entering 0 5 3 7) ∷ []) 0 5 → ⊥
one_stays r =
    let w = (r.enters 1 (omega arith)).2 in
    go w.passage w.tick w.listed
  where
    go : (y : Passage) → y.entry.tick ≡ 5 → y ∈ (passing 1 (entering 0 0 3 7) ∷ []) → ⊥
    go y f (here e) = omega (arith, ap (λ (v : Passage). v.entry.tick) e, f)
    go y f (there x3) = elim x3 [ ]

-- ## "the first such b in the schedule and the first a for it"

pub not_the_first : (T : Table) (H : ℕ) (S : List Passage) → Recurs T H S 0 5 → FirstRecurs T H S 5 10 → ⊥
not_the_first T H S r f = omega (arith, f.first_b 0 5 r)

pub not_the_first_for_it : (T : Table) (H : ℕ) (S : List Passage) → Recurs T H S 0 10 → FirstRecurs T H S 5 10 → ⊥
not_the_first_for_it T H S r f = omega (arith, f.first_a 0 r)
