-- One part: the walk passes it as the reader does, or stops there with the reader's number. Assumes nothing.
use mathlib.Core.Path.{◌≡◌, refl, sym, ◌∙◌}
use mathlib.Core.Bool.{Bool, true, false, ◌&&◌}
use mathlib.Core.List.{List, [], ◌∷◌}
use Prim.Native.Nat.{ℕ, ◌+◌, ◌-◌, ◌≤◌}
use native.Mathlib.Omega.{arith}
use borrow.Author.Tests.{leb-true, leb-false, le-leb, lt-leb, lt-ltb}
use lib.Dec.{leb}
use lib.ListN.{length}
use Rattle.model.specs.Lists.{all}
use Rattle.model.specs.Reader.{ok, fault, part}
use Rattle.model.proofs.Basics.Bools.{and_is, clash}
use Rattle.refusal_place.specs.Ranges.{bytes_field, allowed, number_at}
use Rattle.refusal_place.specs.Walk.{going, fits, ranged, contents, passed}
use Rattle.refusal_place.specs.declared.Subject.{Subject}
use Rattle.refusal_place.specs.declared.Field.{Field}
use Rattle.refusal_place.specs.declared.Walk.{Walk}
use Rattle.refusal_place.specs.Told.{Fault}
use Rattle.refusal_place.proofs.Rests.{rest, length_rest, drop_rest}
use Rattle.refusal_place.proofs.OneTest.{stop, in-range, out_of_range, asked, contents_stay, passed_stays, passes_on}
use Rattle.refusal_place.proofs.Tells.{Tells, goes, stopped}

-- every field lies in the part's n bytes
abbrev pub holds : ℕ → List Field → Bool
holds n fs = all (λ f. leb (f.offset + f.width) n) fs

module _ (bs : List ℕ) (c : ℕ) (who : Subject) (mine : who.component ≡ c) (w : Walk) (on : going w ≡ true) where
  -- ## The contents

  pub contents_fine : (fs : List Field) → asked bs w.at fs ≡ true → contents bs who fs w ≡ w
  unfolding contents ranged
  contents_fine [] e = refl
  contents_fine (f ∷ fs) e =
      let v = number_at bs (w.at + f.offset) f.width in
      let t = (and_is (allowed f v) (asked bs w.at fs)).0 e in
      rw (in-range 5 who f v w t.0) (contents_fine fs t.1)

  -- where they stop
  pub record Stops (n : ℕ) (w' : Walk) : Type 0 where
    pub halted : going w' ≡ false
    pub number : w'.place.number ≡ n
    pub place : w'.at ≡ w.at
    pub faulty : Fault bs c w'.place

  -- a field, and those after it
  bad_field : (n : ℕ) → w.at + n ≤ length bs → (f : Field) (fs : List Field) → f.offset + f.width ≤ n
      → (asked bs w.at fs ≡ false → Stops 5 (contents bs who fs w)) → asked bs w.at (f ∷ fs) ≡ false → Stops 5 (contents bs who fs (ranged bs who f w))
  unfolding ranged
  bad_field n h f fs l later e = go (allowed f v) refl e
    where
      v : ℕ
      v = number_at bs (w.at + f.offset) f.width

      fault : allowed f v ≡ false → Fault bs c (stop 5 who f v w).place
      fault q = record { number = (omega arith, omega arith); component = mine; starts = omega arith; stands = λ _. (refl, omega arith); outside = λ _. q; again = λ z. absurd (omega arith) }

      go : (b : Bool) → allowed f v ≡ b → b && asked bs w.at fs ≡ false → Stops 5 (contents bs who fs (ranged bs who f w))
      go true q r = rw (in-range 5 who f v w q) (later r)
      go false q r =
          rw (out_of_range 5 who f v w on q, contents_stay bs who fs (stop 5 who f v w) refl)
          (record { halted = refl; number = refl; place = refl; faulty = fault q })

  pub contents_bad : (n : ℕ) → w.at + n ≤ length bs → (fs : List Field) → holds n fs ≡ true → asked bs w.at fs ≡ false → Stops 5 (contents bs who fs w)
  unfolding contents ranged
  contents_bad n h [] k e = clash (sym e)
  contents_bad n h (f ∷ fs) k e =
      let t = (and_is (leb (f.offset + f.width) n) (holds n fs)).0 k in
      bad_field n h f fs (leb-true (f.offset + f.width) n t.0) (contents_bad n h fs t.1) e

-- ## A part

module _ (bs : List ℕ) (end : ℕ) (h : end ≤ length bs) (small : end ≤ 8192) (c : ℕ) {A : Type 0} (value : List ℕ → A) where
  -- it fits and is fine, and the walk is as before; or the walk stops as the reader does
  pub data Outcome (n : ℕ) (fine : List ℕ → Bool) (w w' : Walk) : Type 0 where
    fine_there : w' ≡ w → w.at + n ≤ end → fine (rest bs end w.at) ≡ true → Outcome n fine w w'
    stops_there : (k : ℕ) → part n fine value (rest bs end w.at) ≡ fault k
        → going w' ≡ false → w'.place.number ≡ k → w'.at ≡ w.at → Fault bs c w'.place → Outcome n fine w w'

  module _ (n : ℕ) (fs : List Field) (fine : List ℕ → Bool) (who : Subject) (mine : who.component ≡ c) (inside : holds n fs ≡ true)
      (w : Walk) (on : going w ≡ true) (k : w.at ≤ end) (same : n ≤ end - w.at → fine (rest bs end w.at) ≡ asked bs w.at fs) where
    -- it fits: its contents
    fitting : n ≤ end - w.at → Outcome n fine w (contents bs who fs w)
    fitting l = go (asked bs w.at fs) refl
      where
        go : (b : Bool) → asked bs w.at fs ≡ b → Outcome n fine w (contents bs who fs w)
        go true e = fine_there (contents_fine bs c who mine w on fs e) (omega arith) (same l ∙ e)
        go false e =
            let s = contents_bad bs c who mine w on n (omega arith) fs inside e in
            stops_there 5 (rw (le-leb n (length (rest bs end w.at)) (rw (length_rest bs end h w.at) l), same l, e))
            s.halted
            s.number
            s.place
            s.faulty

    pub outcome : Outcome n fine w (contents bs who fs (fits end who n w))
    outcome = go (leb n (end - w.at)) refl
      where
        fault : leb n (end - w.at) ≡ false → Fault bs c (stop 4 who (bytes_field n 8193) (end - w.at) w).place
        fault e = record { number = (omega arith, omega arith); component = mine; starts = omega arith; stands = λ z. absurd (omega arith); outside = λ _. rw e; again = λ z. absurd (omega arith) }

        go : (b : Bool) → leb n (end - w.at) ≡ b → Outcome n fine w (contents bs who fs (fits end who n w))
        go true e =
            rw (in-range 4 who (bytes_field n 8193) (end - w.at) w (rw (e, lt-ltb (end - w.at) 8193 (omega arith))))
            (fitting (leb-true n (end - w.at) e))
        go false e =
            let l = leb-false n (end - w.at) e in
            rw (out_of_range 4 who (bytes_field n 8193) (end - w.at) w on (rw e), contents_stay bs who fs (stop 4 who (bytes_field n 8193) (end - w.at) w) refl)
            (stops_there 4 (rw (lt-leb n (length (rest bs end w.at)) (rw (length_rest bs end h w.at) l))) refl refl refl (fault e))

    -- so it is told
    pub part_tells : Tells bs end c (part n fine value (rest bs end w.at)) (passed n (contents bs who fs (fits end who n w)))
    part_tells = go (contents bs who fs (fits end who n w)) outcome
      where
        go : (w' : Walk) → Outcome n fine w w' → Tells bs end c (part n fine value (rest bs end w.at)) (passed n w')
        go w' (fine_there e l g) =
            let q : part n fine value (rest bs end w.at) ≡ ok (value (rest bs end w.at)) (rest bs end (w.at + n)) =
            rw (le-leb n (length (rest bs end w.at)) (rw (length_rest bs end h w.at) (omega arith)), g, drop_rest bs end w.at n) in
            rw (e, q, passes_on n w on) (goes bs end c (value (rest bs end w.at)) (record { at = w.at + n; place = w.place }) on l)
        go w' (stops_there j reads e q a f) =
            rw (reads, passed_stays n w' e) (stopped bs end c j w' e q (rw a k) f)
