-- How long texts for UPPAAL are at most: numbers, atoms, guards, assignments, transitions. Assumes nothing.
use mathlib.Core.Path.{◌≡◌, refl, ap, ◌∙◌}
use mathlib.Core.Bool.{Bool, true, false, cond}
use mathlib.Core.List.{List, [], ◌∷◌, ◌++◌, map}
use mathlib.Core.Option.{Option, none, some}
use Prim.Native.Nat.{ℕ, zero, suc, ◌+◌, ◌*◌, ◌≤◌, ◌<◌}
use Prim.Native.String.{String}
use native.Mathlib.Omega.{arith}
use lib.IntN.{ℤ, pos, negsuc}
use lib.ListN.{length, length-append}
use Rattle.model.specs.declared.Action.{Action}
use Rattle.model.specs.declared.Action.TheVariants.{Internal, Send, Receive}
use Rattle.model.specs.declared.Sizes.{Sizes}
use Rattle.model.specs.declared.ClockGuard.{ClockGuard}
use Rattle.model.specs.declared.DataGuard.{DataGuard}
use Rattle.model.specs.declared.Update.{Update}
use Rattle.model.specs.Lists.{All, empty, more, each, only, from, snoc}
use Rattle.model.specs.Limits.{Int16, ClockGuardIn, DataGuardIn, UpdateIn}
use Rattle.model.specs.Table.{Arc}
use Rattle.model.specs.Window.{in_range, masked}
use Rattle.model.proofs.Basics.Sums.{each_total, total_most, total_const}
use Rattle.model.proofs.Schedule.Own.{all_then, all_map}
use Rattle.words.specs.Words.{ascii, decimal}
use Rattle.words.proofs.Numerals.{decimal_long, decimal_twenty}
use Rattle.uppaal.specs.Xta.{location, waiting, Upper, Atom, at_most, below, exactly, at_least, value_at_least, value_at_most, sum_at_least, sum_at_most, never, Assignment, sets_to, adds, resets}
use Rattle.uppaal.specs.XtaText.{signed, each_after, listed, closed, name_text, against, addend, atom_text, sync_text, assignment_text, guard_text, assign_text}
use Rattle.uppaal.specs.Export.{ends, data_atoms, lows, Sum, number, plus, stays, summed, range_atoms, others, sync_of, assignment_of, assignments_of}
use Rattle.uppaal.specs.Export as export
use Rattle.uppaal_parts.proofs.Told.{after_append}

-- ## Lists one after the other

pub record Short (x : List ℕ) (n : ℕ) : Type 0 where
  pub most : length x ≤ n

pub join : {x y : List ℕ} {a b : ℕ} → Short x a → Short y b → Short (x ++ y) (a + b)
join {x} {y} h k = record { most = omega (arith, h.most, k.most, length-append x y) }

pub within : {x : List ℕ} {a b : ℕ} → Short x a → a ≤ b → Short x b
within h k = record { most = omega (arith, h.most, k) }

pub words : (w : String) → Short (ascii w) (length (ascii w))
words w = record { most = omega arith }

-- ## Numbers

pub one_digit : (n : ℕ) → n < 10 → Short (decimal n) 1
one_digit n h = record { most = decimal_long 0 n (omega (arith, h)) }

pub two_digits : (n : ℕ) → n < 100 → Short (decimal n) 2
two_digits n h = record { most = decimal_long 1 n (omega (arith, h)) }

twenty_digits : (n : ℕ) → Short (decimal n) 20
twenty_digits n = record { most = decimal_twenty n }

five_digits : (n : ℕ) → n < 100000 → Short (decimal n) 5
five_digits n h = record { most = decimal_long 4 n (omega (arith, h)) }

signed_long : (z : ℤ) → Int16 z → Short (signed z) 6
signed_long (pos n) h = within (five_digits n (omega (arith, h))) (omega arith)
signed_long (negsuc n) h = join (words "-") (five_digits (suc n) (omega (arith, h)))

addend_long : (z : ℤ) → Int16 z → Short (addend z) 8
addend_long (pos n) h = join (words " + ") (five_digits n (omega (arith, h)))
addend_long (negsuc n) h = join (words " - ") (five_digits (suc n) (omega (arith, h)))

-- a sum, however large
sum_long : (z : ℤ) → Short (addend z) 23
sum_long (pos n) = join (words " + ") (twenty_digits n)
sum_long (negsuc n) = join (words " - ") (twenty_digits (suc n))

-- ## Names

-- one of those below 100, or none
abbrev pub MessageIn : Option ℕ → Type 0
MessageIn none = Unit {0}
MessageIn (some k) = k < 100

pub location_long : (l : ℕ) → l < 100 → Short (name_text (location l)) 3
location_long l h = join (words "L") (two_digits l h)

pub waiting_long : (e : ℕ) (m : Option ℕ) → e < 100 → MessageIn m → Short (name_text (waiting e m)) 7
waiting_long e none h i = within (join (words "W") (two_digits e h)) (omega arith)
waiting_long e (some k) h i = join (join (words "W") (two_digits e h)) (join (words "_c") (two_digits k i))

pub sync_long : (x : Action) (m : Option ℕ) → MessageIn m → Short (sync_text (sync_of x m)) 11
sync_long x none i = record { most = omega arith }
sync_long Internal (some k) i = record { most = omega arith }
sync_long (Send j) (some k) i = join (join (words " sync c") (two_digits k i)) (words "!;")
sync_long Receive (some k) i = join (join (words " sync c") (two_digits k i)) (words "?;")

-- ## Lists with texts before and between

module _ {A : Type 0} (between : String) (f : A → List ℕ) where
  pub after_long : (c : ℕ) {xs : List A} → All (λ x. Short (ascii between ++ f x) c) xs → Short (each_after between f xs) (length xs * c)
  unfolding each_after
  after_long c {xs} all =
      let g : A → List ℕ = λ x. ascii between ++ f x in
      record { most = omega (arith, each_total g xs, total_most (λ x. length (g x)) (λ x. c) (λ x p. p.most) all, total_const c xs) }

  pub after_cons : (x : A) (xs : List A) {a b : ℕ} → Short (ascii between ++ f x) a → Short (each_after between f xs) b → Short (each_after between f (x ∷ xs)) (a + b)
  unfolding each_after each
  after_cons x xs h k = join h k

  pub after_join : (xs ys : List A) {a b : ℕ} → Short (each_after between f xs) a → Short (each_after between f ys) b → Short (each_after between f (xs ++ ys)) (a + b)
  after_join xs ys h k = rw (after_append between f xs ys) (join h k)

  -- the first has no text between before it
  pub listed_long : (before : String) (xs : List A) (b : ℕ) → Short (each_after between f xs) (length (ascii between) + b) → Short (listed before between f xs) (length (ascii before) + b)
  unfolding listed each_after each
  listed_long before [] b h = record { most = omega arith }
  listed_long before (x ∷ xs) b h =
      let g : A → List ℕ = λ y. ascii between ++ f y in
      record { most = omega (arith, h.most, length-append (ascii between ++ f x) (each g xs), length-append (ascii between) (f x), length-append (f x) (each g xs), length-append (ascii before) (f x ++ each g xs)) }

pub closed_long : {A : Type 0} (w : String) (xs : List A) → Short (closed w xs) (length (ascii w))
closed_long w [] = record { most = omega arith }
closed_long w (x ∷ xs) = record { most = omega arith }

-- ## Atoms and guards

pub record UpperIn (u : Upper) : Type 0 where
  pub clock : u.clock < 10
  pub bound : u.bound < 100000

abbrev pub atoms : List Atom → List ℕ
atoms g = each_after " && " atom_text g

no_atoms : Short (atoms []) 0
unfolding each_after each
no_atoms = record { most = omega arith }

module _ (u : Upper) (i : UpperIn u) where
  pub most_long : Short (against u " <= ") 11
  most_long = join (join (words "x") (one_digit u.clock i.clock)) (join (words " <= ") (five_digits u.bound i.bound))

  most : Short (ascii " && " ++ atom_text (at_most u)) 15
  unfolding atom_text
  most = join (words " && ") most_long

  same : Short (ascii " && " ++ atom_text (exactly u)) 15
  unfolding atom_text
  same = join (words " && ") (join (join (words "x") (one_digit u.clock i.clock)) (join (words " == ") (five_digits u.bound i.bound)))

  less : Short (ascii " && " ++ atom_text (below u)) 15
  unfolding atom_text
  less = within (join (words " && ") (join (join (words "x") (one_digit u.clock i.clock)) (join (words " < ") (five_digits u.bound i.bound)))) (omega arith)

pub mosts_long : {us : List Upper} → All UpperIn us → Short (atoms (map at_most us)) (length us * 15)
unfolding each_after each
mosts_long empty = record { most = omega arith }
mosts_long (more {x = u} {xs = us} i is) = within (after_cons " && " atom_text (at_most u) (map at_most us) (most u i) (mosts_long is)) (omega arith)

pub ends_long : {us : List Upper} → All UpperIn us → All (λ g. Short (atoms g) (length us * 15)) (ends us)
unfolding ends
ends_long empty = empty
ends_long (more {x = u} {xs = us} i is) =
    more (within (after_cons " && " atom_text (exactly u) (map at_most us) (same u i) (mosts_long is)) (omega arith))
    (all_map (λ g. below u ∷ g) (all_then (λ g h. within (after_cons " && " atom_text (below u) g (less u i) h) (omega arith)) (ends_long is)))

pub ends_count : (us : List Upper) → length (ends us) ≡ length us
unfolding ends
ends_count [] = refl
ends_count (u ∷ us) = ap suc (lib.ListN.length-map (ends us) (λ g. below u ∷ g) ∙ ends_count us)

pub guard_long : (g : List Atom) (b : ℕ) → Short (atoms g) (4 + b) → Short (guard_text g) (8 + b)
unfolding guard_text
guard_long g b h = within (join (listed_long " && " atom_text " guard " g b h) (closed_long ";" g)) (omega arith)

-- ## What a step in asks besides

module _ (s : Sizes) (clocks : s.clocks ≤ 4) (variables : s.variables ≤ 4) where
  lows_long : {gs : List ClockGuard} → All (ClockGuardIn s) gs → Short (atoms (lows gs)) (length gs * 15)
  unfolding each_after each atom_text
  lows_long empty = record { most = omega arith }
  lows_long (more {x = g} {xs = gs} i is) =
      within (after_cons " && " atom_text (at_least g.clock g.low) (lows gs)
      (join (words " && ") (join (join (words "x") (one_digit g.clock (omega (arith, i.clock, clocks)))) (join (words " >= ") (five_digits g.low (omega (arith, i.low))))))
      (lows_long is)) (omega arith)

  datas_long : {gs : List DataGuard} → All (DataGuardIn s) gs → Short (atoms (data_atoms gs)) (length gs * 32)
  unfolding each_after each atom_text
  datas_long empty = record { most = omega arith }
  datas_long (more {x = g} {xs = gs} i is) =
      let v = one_digit g.variable (omega (arith, i.variable, variables)) in
      within (after_cons " && " atom_text (value_at_least g.variable g.low) (value_at_most g.variable g.high ∷ data_atoms gs)
      (join (words " && ") (join (join (words "v") v) (join (words " >= ") (signed_long g.low i.low))))
      (after_cons " && " atom_text (value_at_most g.variable g.high) (data_atoms gs)
      (join (words " && ") (join (join (words "v") v) (join (words " <= ") (signed_long g.high i.high))))
      (datas_long is))) (omega arith)

  stays_long : (v : ℕ) → v < 10 → (x : Sum) → Short (atoms (stays v x)) 78
  unfolding each_after each atom_text
  stays_long v h (number z) = go (in_range z)
    where
      go : (b : Bool) → Short (atoms (cond b [] (never ∷ []))) 78
      go true = record { most = omega arith }
      go false = within (after_cons " && " atom_text never [] (join (words " && ") (words "false")) no_atoms) (omega arith)
  stays_long v h (export.more z) =
      within (after_cons " && " atom_text (sum_at_least v z (negsuc 32767)) (sum_at_most v z (pos 32767) ∷ [])
      (join (words " && ") (join (join (words "v") (one_digit v h)) (join (sum_long z) (join (words " >= ") (signed_long (negsuc 32767) (omega arith))))))
      (after_cons " && " atom_text (sum_at_most v z (pos 32767)) []
      (join (words " && ") (join (join (words "v") (one_digit v h)) (join (sum_long z) (join (words " <= ") (signed_long (pos 32767) (omega arith))))))
      no_atoms)) (omega arith)

  ranges_long : (done : List Update) {us : List Update} → All (UpdateIn s) us → Short (atoms (range_atoms done us)) (length us * 78)
  unfolding each_after each range_atoms
  ranges_long done empty = record { most = omega arith }
  ranges_long done (more {x = u} {xs = us} i is) =
      within (after_join " && " atom_text (cond u.adds (stays u.variable total_sum) []) (range_atoms (snoc done u) us) (go u.adds) (ranges_long (snoc done u) is)) (omega arith)
    where
      total_sum : Sum
      total_sum = plus (summed u.variable (export.more (pos 0)) done) u.number

      go : (b : Bool) → Short (atoms (cond b (stays u.variable total_sum) [])) 78
      go true = stays_long u.variable (omega (arith, i.variable, variables)) total_sum
      go false = record { most = omega arith }

-- ## Assignments

abbrev assigns : List Assignment → List ℕ
assigns xs = each_after ", " assignment_text xs

updates_long : (s : Sizes) → s.variables ≤ 4 → {us : List Update} → All (UpdateIn s) us → Short (assigns (map assignment_of us)) (length us * 18)
unfolding each_after each assignment_text
updates_long s h empty = record { most = omega arith }
updates_long s h (more {x = u} {xs = us} i is) =
    within (after_cons ", " assignment_text (assignment_of u) (map assignment_of us) (go u.adds) (updates_long s h is)) (omega arith)
  where
    v : Short (decimal u.variable) 1
    v = one_digit u.variable (omega (arith, i.variable, h))

    go : (b : Bool) → Short (ascii ", " ++ assignment_text (cond b (adds u.variable u.number) (sets_to u.variable u.number))) 18
    go true = join (words ", ") (join (join (words "v") v) (join (join (words " := v") v) (addend_long u.number i.number)))
    go false = within (join (words ", ") (join (join (words "v") v) (join (words " := ") (signed_long u.number i.number)))) (omega arith)

resets_long : (p : ℕ → Bool) (k n : ℕ) → k + n ≤ 10 → Short (assigns (map resets (only p (from k n)))) (n * 9)
unfolding each_after each assignment_text
resets_long p k zero h = record { most = omega arith }
resets_long p k (suc n) h = go (p k) (resets_long p (suc k) n (omega (arith, h)))
  where
    go : (b : Bool) → Short (assigns (map resets (only p (from (suc k) n)))) (n * 9)
        → Short (assigns (map resets (cond b (k ∷ only p (from (suc k) n)) (only p (from (suc k) n))))) (suc n * 9)
    go true r =
        within (after_cons ", " assignment_text (resets k) (map resets (only p (from (suc k) n)))
        (join (words ", ") (join (join (words "x") (one_digit k (omega (arith, h)))) (words " := 0"))) r) (omega arith)
    go false r = within r (omega arith)

pub assign_long : (xs : List Assignment) (b : ℕ) → Short (assigns xs) (2 + b) → Short (assign_text xs) (9 + b)
unfolding assign_text
assign_long xs b h = within (join (listed_long ", " assignment_text " assign " xs b h) (closed_long ";" xs)) (omega arith)

-- ## Of an edge

pub others_long : (s : Sizes) → s.clocks ≤ 4 → s.variables ≤ 4 → (a : Arc) → All (ClockGuardIn s) a.clock_guards → All (DataGuardIn s) a.data_guards → All (UpdateIn s) a.updates
    → Short (atoms (others a)) (length a.clock_guards * 15 + (length a.data_guards * 32 + length a.updates * 78))
unfolding others
others_long s h k a cs ds us =
    after_join " && " atom_text (lows a.clock_guards) (data_atoms a.data_guards ++ range_atoms [] a.updates) (lows_long s h k cs)
    (after_join " && " atom_text (data_atoms a.data_guards) (range_atoms [] a.updates) (datas_long s h k ds) (ranges_long s h k [] us))

pub assigns_long : (s : Sizes) → s.variables ≤ 4 → (a : Arc) (clocks : ℕ) → clocks ≤ 4 → All (UpdateIn s) a.updates
    → Short (assign_text (assignments_of clocks a)) (43 + length a.updates * 18)
unfolding assignments_of
assigns_long s k a clocks few us =
    let all = after_join ", " assignment_text (map assignment_of a.updates) (map resets (only (masked a.edge.mask) (from 0 clocks))) (updates_long s k us) (resets_long (masked a.edge.mask) 0 clocks (omega (arith, few))) in
    within (assign_long (map assignment_of a.updates ++ map resets (only (masked a.edge.mask) (from 0 clocks))) (34 + length a.updates * 18) (within all (omega (arith, few)))) (omega arith)
