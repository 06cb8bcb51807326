-- Document 02, wish 13, computed: airtimes, sequences of calls with 26 to 28 on both sides of their boundaries, and of each sentence a wrong struct that it
-- rules out.
use Rattle.std.specs.Prelude.{◌≡◌, refl, List, [], ◌∷◌, ℕ, zero, suc, ◌<◌}
use Rattle.std.proofs.Common.{sym, ap, arith}
use Rattle.std.proofs.Math.Option.{Option, none, some}
use Rattle.model.specs.Lists.{Answer, accepted, refused, All, empty, more}
use Rattle.model.specs.Build.{network}
use Rattle.model.specs.Bytes.{table_bytes}
use Rattle.model.specs.Cases.{worked, probe, hub, add_one, changed, sender}
use Rattle.model.specs.RefusalCases.{turning, hears, channel}
use Rattle.site.specs.declared.Networks.{Networks}
use Rattle.site.specs.Airtime.{Load, load_in, Request, put, take}
use Rattle.site.specs.Lent.{place_in, put_call, called_with, networks_after, networks_left, seen, Summed, Within, Limited, Present, OneHorizon}
use Rattle.site.specs.Called.{Others, Done, RefusedKeeps, SameLimit, Returned, ChecksFirst, PlaceRefused, HorizonRefused, SumRefused, PutDone, NoneConcerned, TakePlace, TakeDone, Free, Share}

-- ## Tables

-- "Probe and hub": sends from 3 to 5 and from 13 to 15
abbrev pub cellar : List ℕ
cellar = table_bytes (worked 20)

-- the same with the horizon 10: one send
abbrev pub shorter : List ℕ
shorter = table_bytes (worked 10)

-- one that sends nothing, with the horizon 20
abbrev pub silent : List ℕ
silent = table_bytes (network 0 20 (turning 3 5 [] ∷ []))

-- hub low 3: 16
abbrev pub late : List ℕ
late = table_bytes (changed (probe 3) (hub 3 6 add_one))

-- a send from there to 9, with the horizon 6
abbrev pub send_from : ℕ → List ℕ
send_from ready = table_bytes (network 1 6 (sender 0 ready 9 ∷ hears (channel 0) 1 10 ∷ []))

-- ## The rows

abbrev pub loaded : ℕ → ℕ → Answer Load
loaded horizon airtime = accepted (record { horizon = horizon; airtime = airtime })

-- a struct: limit, horizons, airtimes, the airtime in use, number and component
abbrev pub left : ℕ → List ℕ → List ℕ → ℕ → ℕ → ℕ → Networks
left limit horizons airtimes uses number component =
    record { limit = limit; horizons = horizons; airtimes = airtimes; in_use = uses; number = number; component = component }

abbrev pub four : ℕ → ℕ → ℕ → ℕ → List ℕ
four a b c d = a ∷ b ∷ c ∷ d ∷ []

pub data Row : Type 0 where
  -- a table's horizon and airtime, or its refusal
  airs : List ℕ → Answer Load → Row
  -- a limit and calls: the struct that they leave
  leaves : ℕ → List Request → Networks → Row
  -- a struct of any bytes and a call: the struct that it leaves
  makes : Networks → Request → Networks → Row

abbrev pub Holds : Row → Type 0
Holds (airs table answer) = load_in table ≡ answer
Holds (leaves limit rs s) = networks_left limit rs ≡ s
Holds (makes s r n) = called_with s r ≡ n

abbrev pub rows : List Row
rows =
    -- "the sum of end − ready + 1 over its sends with ready < H"
    airs cellar (loaded 20 6)
    ∷ airs shorter (loaded 10 3)
    ∷ airs silent (loaded 20 0)
    -- each window whole, past H too; the last tick below H; H itself
    ∷ airs (send_from 4) (loaded 6 6)
    ∷ airs (send_from 5) (loaded 6 5)
    ∷ airs (send_from 6) (loaded 6 0)
    ∷ airs late (refused 16 0)
    ∷ airs [] (refused 1 255)
    -- "It starts empty with its limit"; at the limit; above it: "a sum above the limit with 28, and only then"
    ∷ leaves 7 [] (left 7 (four 0 0 0 0) (four 0 0 0 0) 0 0 255)
    ∷ leaves 6 (put 2 cellar ∷ []) (left 6 (four 0 0 20 0) (four 0 0 6 0) 6 0 255)
    ∷ leaves 5 (put 2 cellar ∷ []) (left 5 (four 0 0 0 0) (four 0 0 0 0) 0 28 255)
    ∷ leaves 0 (put 3 silent ∷ []) (left 0 (four 0 0 0 20) (four 0 0 0 0) 0 0 255)
    ∷ leaves 12 (put 0 cellar ∷ put 1 cellar ∷ []) (left 12 (four 20 20 0 0) (four 6 6 0 0) 12 0 255)
    ∷ leaves 11 (put 0 cellar ∷ put 1 cellar ∷ []) (left 11 (four 20 0 0 0) (four 6 0 0 0) 6 28 255)
    -- "taken out": it is no longer in use, and there is room again
    ∷ leaves 11 (put 0 cellar ∷ take 0 ∷ put 1 cellar ∷ []) (left 11 (four 0 20 0 0) (four 0 6 0 0) 6 0 255)
    -- 26: a wrong place, a filled one when putting, an empty one when taking
    ∷ leaves 99 (put 4 cellar ∷ []) (left 99 (four 0 0 0 0) (four 0 0 0 0) 0 26 255)
    ∷ leaves 99 (put 1 cellar ∷ put 1 silent ∷ []) (left 99 (four 0 20 0 0) (four 0 6 0 0) 6 26 255)
    ∷ leaves 99 (take 4 ∷ []) (left 99 (four 0 0 0 0) (four 0 0 0 0) 0 26 255)
    ∷ leaves 99 (put 0 cellar ∷ take 1 ∷ []) (left 99 (four 20 0 0 0) (four 6 0 0 0) 6 26 255)
    -- 27: a different H, also of a network without sends; none once all are taken out
    ∷ leaves 99 (put 0 cellar ∷ put 1 shorter ∷ []) (left 99 (four 20 0 0 0) (four 6 0 0 0) 6 27 255)
    ∷ leaves 99 (put 0 silent ∷ put 1 shorter ∷ []) (left 99 (four 20 0 0 0) (four 0 0 0 0) 0 27 255)
    ∷ leaves 99 (put 0 cellar ∷ take 0 ∷ put 1 shorter ∷ []) (left 99 (four 0 10 0 0) (four 0 3 0 0) 3 0 255)
    -- the order: the table's own, 26, 27, 28
    ∷ leaves 6 (put 0 cellar ∷ put 9 late ∷ []) (left 6 (four 20 0 0 0) (four 6 0 0 0) 6 16 0)
    ∷ leaves 6 (put 0 cellar ∷ put 0 shorter ∷ []) (left 6 (four 20 0 0 0) (four 6 0 0 0) 6 26 255)
    ∷ leaves 6 (put 0 cellar ∷ put 1 shorter ∷ []) (left 6 (four 20 0 0 0) (four 6 0 0 0) 6 27 255)
    -- Structs that no call wrote. An airtime where no network is does not count, and stays; what the struct said does not matter
    ∷ makes (left 6 (four 0 0 0 0) (four 7 7 7 7) 99 26 3) (put 1 cellar) (left 6 (four 0 20 0 0) (four 7 6 7 7) 6 0 255)
    ∷ makes (left 9 (four 20 0 0 20) (four 6 5 5 1) 0 99 9) (take 0) (left 9 (four 0 0 0 20) (four 0 5 5 1) 1 0 255)
    -- no sum is too large to be told: three of the largest airtimes, and a network that adds none, at the largest limit
    ∷ makes (left 4294967295 (four 20 20 20 0) (four 4294967295 4294967295 4294967295 0) 0 0 0) (put 3 silent)
    (left 4294967295 (four 20 20 20 0) (four 4294967295 4294967295 4294967295 0) 12884901885 28 255)
    -- two horizons are there, and the network has one of them
    ∷ makes (left 99 (four 20 10 0 0) (four 6 3 0 0) 9 0 255) (put 2 cellar) (left 99 (four 20 10 0 0) (four 6 3 0 0) 9 27 255)
    ∷ []

pub cases : All Holds rows
unfolding load_in networks_after table_bytes put_call
cases =
    more refl (more refl (more refl (more refl (more refl (more refl (more refl (more refl (more refl (more refl (more refl (more refl (more refl
    (more refl (more refl (more refl (more refl (more refl (more refl (more refl (more refl (more refl (more refl (more refl (more refl (more refl
    (more refl (more refl (more refl empty))))))))))))))))))))))))))))

-- ## Wrong structs

-- a network in place 0, and room for three ticks
abbrev held : Networks
held = left 9 (four 20 0 0 0) (four 6 0 0 0) 6 0 255

abbrev there : Load
there = record { horizon = 20; airtime = 6 }

abbrev quiet : Load
quiet = record { horizon = 20; airtime = 0 }

abbrev other : Load
other = record { horizon = 10; airtime = 3 }

-- what a call on it may leave wrongly: the site as it was, with another number
abbrev saying : ℕ → Networks
saying number = left 9 (four 20 0 0 0) (four 6 0 0 0) 6 number 255

abbrev twice : List Request
twice = put 0 cellar ∷ take 0 ∷ []

-- each breaks one sentence over a sequence of calls
abbrev pub WrongsAfter : Type 0
WrongsAfter =
    -- the sum: the one before the call; what was taken out still in use
    (Summed 9 (put 0 cellar ∷ []) (left 9 (four 20 0 0 0) (four 6 0 0 0) 0 0 255) → ⊥)
    × (Summed 9 twice (left 9 (four 0 0 0 0) (four 0 0 0 0) 6 0 255) → ⊥)
    -- a call that was refused counts
    × (Summed 9 (put 0 cellar ∷ put 1 cellar ∷ []) (left 9 (four 20 20 0 0) (four 6 6 0 0) 12 0 255) → ⊥)
    -- above the limit; another limit
    × (Within 5 (left 5 (four 20 0 0 0) (four 6 0 0 0) 6 0 255) → ⊥)
    × (Limited 9 (left 3 (four 20 0 0 0) (four 6 0 0 0) 6 0 255) → ⊥)
    -- a place that is empty after a network was put in; one that is filled after it was taken out; another place
    × (Present 9 (put 0 cellar ∷ []) (left 9 (four 0 0 0 0) (four 0 0 0 0) 6 0 255) → ⊥)
    × (Present 9 twice (left 9 (four 20 0 0 0) (four 6 0 0 0) 0 0 255) → ⊥)
    × (Present 9 (put 0 cellar ∷ []) (left 9 (four 0 20 0 0) (four 0 6 0 0) 6 0 255) → ⊥)
    -- two horizons
    × (OneHorizon (left 9 (four 20 0 0 10) (four 6 0 0 3) 9 0 255) → ⊥)

-- each breaks one sentence over one call
abbrev pub WrongsOfCall : Type 0
WrongsOfCall =
    -- a call on place 1 that empties place 0; one that clears an airtime where no network is
    (Others held (put 1 shorter) (left 9 (four 0 10 0 0) (four 0 3 0 0) 3 0 255) → ⊥)
    × (Others (left 9 (four 0 0 0 0) (four 7 0 0 0) 0 0 255) (put 1 shorter) (left 9 (four 0 10 0 0) (four 0 3 0 0) 3 0 255) → ⊥)
    -- a put that says 0 and puts nothing in; a take that says 0 and takes nothing out
    × (Done (put 1 cellar) (saying 0) → ⊥)
    × (Done (take 0) (saying 0) → ⊥)
    -- a refused call that fills a place; another limit; an airtime in use that is not that of the places
    × (RefusedKeeps held (left 9 (four 20 20 0 0) (four 6 6 0 0) 12 28 255) → ⊥)
    × (SameLimit held (left 3 (four 20 0 0 0) (four 6 0 0 0) 6 0 255) → ⊥)
    × (Returned (left 9 (four 20 0 0 0) (four 6 0 0 0) 0 26 255) → ⊥)

-- each breaks one sentence on 26 to 28
abbrev pub WrongNumbers : Type 0
WrongNumbers =
    -- the place before the table's checks; another component
    (ChecksFirst late (saying 26) → ⊥)
    × (ChecksFirst late (saying 16) → ⊥)
    -- a filled place, place 4: 27 or 28 in place of 26; 26 for an empty place
    × (PlaceRefused held 0 (saying 28) → ⊥)
    × (PlaceRefused held 4 (saying 27) → ⊥)
    × (PlaceRefused held 1 (saying 26) → ⊥)
    -- 28 before 27; 27 for the horizon that is there; 27 for a filled place
    × (HorizonRefused held 1 other (saying 28) → ⊥)
    × (HorizonRefused held 1 quiet (saying 27) → ⊥)
    × (HorizonRefused held 0 other (saying 27) → ⊥)
    -- a sum above the limit is let in; one at the limit is not; 28 for another horizon
    × (SumRefused held 1 there (saying 0) → ⊥)
    × (SumRefused (left 12 (four 20 0 0 0) (four 6 0 0 0) 6 0 255) 1 there (saying 28) → ⊥)
    × (SumRefused held 1 other (saying 28) → ⊥)
    -- nothing refuses it, and it is not carried out; it is carried out above the limit
    × (PutDone held 1 quiet (saying 28) → ⊥)
    × (PutDone held 1 there (saying 0) → ⊥)
    × (NoneConcerned (left 9 (four 20 0 0 0) (four 6 0 0 0) 6 26 0) → ⊥)
    -- a take from an empty place, and from place 4, that is carried out; one from a filled place that is not
    × (TakePlace held 1 (saying 0) → ⊥)
    × (TakePlace held 4 (saying 0) → ⊥)
    × (TakeDone held 0 (saying 26) → ⊥)

-- a place with a network is none without
filled_not : {l : Load} → ◌≡◌ {A = Option Load} none (some l) → ⊥
filled_not e = let z : ◌≡◌ {A = ℕ} 0 1 = cc in omega arith

empty_not : {l : Load} → ◌≡◌ {A = Option Load} (some l) none → ⊥
empty_not e = let z : ◌≡◌ {A = ℕ} 0 1 = cc in omega arith

same : {l m : Load} → some l ≡ some m → l ≡ m
same e = cc

-- the second number
abbrev second : List ℕ → ℕ
second [] = 0
second (x ∷ []) = 0
second (x ∷ y ∷ ys) = y

pub wrongs_after : WrongsAfter
unfolding load_in seen table_bytes
wrongs_after = (
  λ e. omega (arith, e),
  λ e. omega (arith, e),
  λ e. omega (arith, e),
  λ h. omega (arith, h),
  λ e. omega (arith, e),
  λ p. filled_not (p 0 (omega arith)),
  λ p. empty_not (p 0 (omega arith)),
  λ p. filled_not (p 0 (omega arith)),
  λ o. omega (arith, o 0 3 there other (omega arith) (omega arith) refl refl),
)

pub wrongs_of_call : WrongsOfCall
unfolding load_in table_bytes
wrongs_of_call = (
  λ o. omega (arith, (o 0 (omega arith) (λ e. omega (arith, e))).0),
  λ o. omega (arith, (o 0 (omega arith) (λ e. omega (arith, e))).1),
  λ d. filled_not (d refl),
  λ d. empty_not (d refl),
  λ k. let e = (k (λ z. omega (arith, z))).0 in let z : ◌≡◌ {A = ℕ} 20 0 = ap second e in omega (arith, z),
  λ e. omega (arith, e),
  λ e. omega (arith, e),
)

-- place 0 is filled, place 1 is free, place 4 is none
free : Free held 1
free = (omega arith, refl)

not_free : Free held 0 → ⊥
not_free h = empty_not h.1

share : Share held 20
share = λ j m h e. go j h m e
  where
    go : (j : ℕ) → j < 4 → (m : Load) → place_in held j ≡ some m → m.horizon ≡ 20
    go zero h m e = sym (ap (λ (x : Load). x.horizon) (same e))
    go (suc zero) h m e = absurd (filled_not e)
    go (suc (suc zero)) h m e = absurd (filled_not e)
    go (suc (suc (suc zero))) h m e = absurd (filled_not e)
    go (suc (suc (suc (suc j)))) h m e = absurd (omega arith)

not_shared : Share held 10 → ⊥
not_shared f = omega (arith, f 0 there (omega arith) refl)

pub wrong_numbers : WrongNumbers
unfolding load_in table_bytes
wrong_numbers = (
  λ c. omega (arith, (c 16 0 refl).0),
  λ c. omega (arith, (c 16 0 refl).1),
  λ p. omega (arith, p.1 not_free),
  λ p. omega (arith, p.1 (λ h. omega (arith, h.0))),
  λ p. p.0 refl free,
  λ p. omega (arith, p.1 (free, not_shared)),
  λ p. (p.0 refl).1 share,
  λ p. not_free (p.0 refl).0,
  λ p. omega (arith, p.1 (free, share, omega arith)),
  λ p. omega (arith, (p.0 refl).2),
  λ p. not_shared (p.0 refl).1,
  λ p. omega (arith, p.1 (free, share, omega arith)),
  λ p. omega (arith, (p.0 refl).2),
  λ e. omega (arith, e),
  λ p. omega (arith, p.1 (λ h. h.1 refl)),
  λ p. omega (arith, p.1 (λ h. omega (arith, h.0))),
  λ p. omega (arith, p.1 (omega arith, λ e. empty_not e)),
)
