-- The place that is told, of a whole table. Assumes nothing.
use mathlib.Core.Path.{◌≡◌, refl, sym, ap, ap₂, subst, ◌∙◌}
use mathlib.Core.Logic.{◌↔◌}
use mathlib.Core.Bool.{Bool, true, false, cond, ◌&&◌}
use mathlib.Core.List.{List, ◌∷◌}
use Prim.Native.Nat.{ℕ, zero, suc, pred, ◌+◌, ◌-◌, ◌≤◌, ◌<◌}
use native.Mathlib.Omega.{arith}
use borrow.Author.Tests.{leb-true, leb-false, eqb-true, eqb-false, eq-eqb, ne_eqb}
use lib.Dec.{leb, eqb}
use lib.ListN.{length, take, drop, drop_of_length-le}
use lib.Seq.{drop-cons}
use Rattle.model.proofs.Basics.Bools.{clash}
use Rattle.model.specs.declared.TableHeader.{TableHeader}
use Rattle.model.specs.declared.Verdict.{Verdict}
use Rattle.model.specs.declared.Verdict.TheVariants.{Accepted, Refused}
use Rattle.model.specs.Lists.{Answer, accepted, refused, ◌after◌}
use Rattle.model.specs.Table.{Component}
use Rattle.model.specs.Reader.{byte, word, Parsed, ok, fault, read_component, about, at_end, read_components, body_start, header_at, version_fine, length_fine, count_fine, bands_fine, read_table}
use Rattle.model.specs.Calls.{verdict_of, check_call}
use Rattle.parts.specs.Place.{left, failed, skim}
use Rattle.table.specs.declared.Reading.{Reading}
use Rattle.table.specs.Directory.{header_of}
use Rattle.table.proofs.Whole.{header_refused, header_fine, fourth, its_length, its_count, bands-fit}
use Rattle.table.proofs.Answered.{verdict_refused}
use Rattle.refusal_place.specs.Ranges.{bytes_field}
use Rattle.refusal_place.specs.Walk.{going, nowhere, ends, counted, of_component, end_from, component, components, place_of}
use Rattle.refusal_place.specs.Told.{Fault, Told}
use Rattle.refusal_place.specs.declared.Part.TheVariants.{TableEnd}
use Rattle.refusal_place.specs.declared.Place.{Place}
use Rattle.refusal_place.specs.declared.Walk.{Walk}
use Rattle.refusal_place.proofs.Rests.{rest}
use Rattle.refusal_place.proofs.OneTest.{stop, counted_stays, component_stays}
use Rattle.refusal_place.proofs.Tells.{Tells, view}
use Rattle.refusal_place.proofs.ComponentTells.{none_over, some_over, fault_over, over_stays}
use Rattle.refusal_place.proofs.Lengths.{Read, length_stops, is_read, reads}
use Rattle.refusal_place.proofs.Numbered.{refused_so, refused_reading}

-- ## The components

-- the verdict that a place tells
abbrev pub verdict_at : Place → Verdict
verdict_at p = cond (eqb p.number 0) Accepted (Refused p.number p.component)

keeps : {A B : Type 0} (a : Answer A) (f : A → B) → verdict_of (a after λ x. accepted (f x)) ≡ verdict_of a
keeps (accepted x) f = refl
keeps (refused n c) f = refl

module _ (bs : List ℕ) (small : length bs ≤ 8192) (header : TableHeader) (last : ℕ) where
  pub record Ended (v : Verdict) (w : Walk) : Type 0 where
    pub says : v ≡ verdict_at w.place
    pub faulty : going w ≡ false → Fault bs w.place.component w.place

  -- it has stopped, with a refusal of component c
  halted : (n c : ℕ) (w : Walk) → going w ≡ false → w.place.number ≡ n → Fault bs c w.place → Ended (Refused n c) w
  halted n c w d e f =
      let q = f.component in record { says = rw (d, e, q); faulty = λ _. subst (λ (x : ℕ). Fault bs x w.place) (sym q) f }

  abbrev finish : Walk → Walk
  finish w = ends (length bs) (of_component last TableEnd) w

  -- no component is left
  at_last : (w : Walk) → going w ≡ true → w.at ≤ length bs → Ended (verdict_of (at_end last (drop w.at bs))) (finish w)
  at_last w on k = go (leb (length bs) w.at) refl
    where
      go : (b : Bool) → leb (length bs) w.at ≡ b → Ended (verdict_of (at_end last (drop w.at bs))) (finish w)
      go true e =
          let l = leb-true (length bs) w.at e in
          rw (drop_of_length-le bs l, none_over bs (length bs) (of_component last TableEnd) w l)
          (record { says = rw on; faulty = λ d. clash (sym d ∙ on) })
      go false e =
          let l = leb-false (length bs) w.at e in
          rw (drop-cons bs w.at 0 l, some_over bs (length bs) (of_component last TableEnd) w on l)
          (halted 4 last (stop 4 (of_component last TableEnd) (bytes_field 0 1) (length bs - w.at) w) refl refl (fault_over bs (length bs) (of_component last TableEnd) w (omega arith) l))

  -- a walk that has stopped stays to the end
  rest_stays : (n c : ℕ) (w : Walk) → going w ≡ false → finish (counted (component bs header) c n w) ≡ w
  rest_stays n c w d =
      rw (counted_stays (component bs header) (component_stays bs header) c n w d) (over_stays bs (length bs) (of_component last TableEnd) w d)

  -- a component, and those after it
  module _ (n c : ℕ) (w : Walk) (on : going w ≡ true) (k : w.at ≤ length bs) where
    -- what a component was read as decides
    read_as : (m : Parsed Component) (w' : Walk) → Tells bs (end_from bs w.at) c m w' → (going w' ≡ true → w'.at ≡ end_from bs w.at)
        → (going w' ≡ true → Ended (verdict_of (read_components header n (suc c) (drop w'.at bs))) (finish (counted (component bs header) (suc c) n w')))
        → Ended (verdict_of (about c m after λ C. read_components header n (suc c) (drop (end_from bs w.at) bs) after λ l. accepted (C ∷ l))) (finish (counted (component bs header) (suc c) n w'))
    read_as m w' t there later = go m (going w') refl t.says
      where
        go : (m : Parsed Component) (b : Bool) → going w' ≡ b → skim m ≡ view bs (end_from bs w.at) c w'
            → Ended (verdict_of (about c m after λ C. read_components header n (suc c) (drop (end_from bs w.at) bs) after λ l. accepted (C ∷ l))) (finish (counted (component bs header) (suc c) n w'))
        go (ok C r) true e q = rw (keeps (read_components header n (suc c) (drop (end_from bs w.at) bs)) (λ l. C ∷ l), ← there e) (later e)
        go (ok C r) false e q = let z : left r ≡ failed w'.place.number = q ∙ rw e in let y : ◌≡◌ {A = ℕ} 0 1 = cc in absurd (omega arith)
        go (fault j) true e q = let z : failed j ≡ left (rest bs (end_from bs w.at) w'.at) = q ∙ rw e in let y : ◌≡◌ {A = ℕ} 0 1 = cc in absurd (omega arith)
        go (fault j) false e q =
            let z : failed j ≡ failed w'.place.number = q ∙ rw e in
            let y : w'.place.number ≡ j = cc in
            rw (rest_stays n (suc c) w' e) (halted j c w' e y (t.faulty e))

    one_more : (w' : Walk) → Read bs c w on k small header w'
        → (going w' ≡ true → w'.at ≤ length bs → Ended (verdict_of (read_components header n (suc c) (drop w'.at bs))) (finish (counted (component bs header) (suc c) n w')))
        → Ended (verdict_of (read_components header (suc n) c (drop w.at bs))) (finish (counted (component bs header) (suc c) n w'))
    unfolding read_components
    one_more w' (length_stops f d e t) later = rw (f, rest_stays n (suc c) w' d) (halted 4 c w' d e t)
    one_more w' (is_read f l o t there) later =
        rw (f, o) (read_as (read_component header (take (word (drop w.at bs) 0) (drop w.at bs))) w' t there (λ g. later g (rw (there g) l)))

  pub components_tell : (n c : ℕ) → pred (c + n) ≡ last → (w : Walk) → going w ≡ true → w.at ≤ length bs
      → Ended (verdict_of (read_components header n c (drop w.at bs))) (finish (counted (component bs header) c n w))
  unfolding read_components counted
  components_tell zero c q w on k = let z : c + 0 ≡ c = omega arith in let e : pred c ≡ last = rw z at q in rw e (at_last w on k)
  components_tell (suc n) c q w on k =
      let z : c + suc n ≡ suc c + n = omega arith in
      one_more n c w on k (component bs header c w) (reads bs c w on k small header)
      (λ g l. components_tell n (suc c) (rw z at q) (component bs header c w) g l)

-- ## The table

module _ (bs : List ℕ) where
  -- checks 1 to 3 refuse: there is no place
  pub header_nowhere : (header_of bs ≡ 0 → ⊥) → place_of bs ≡ nowhere
  unfolding place_of
  header_nowhere n = rw (ne_eqb (header_of bs) 0 n)

  header_number : (header_of bs ≡ 0 → ⊥) → read_table bs ≡ refused (header_of bs) 255
  header_number n = verdict_refused (read_table bs) (sym (ap (λ (r : Reading). r.verdict) (header_refused bs (header_of bs) refl n)))

  header_low : header_of bs ≤ 3
  header_low = go (version_fine bs) (length_fine bs) (count_fine bs && bands_fine bs)
    where
      go : (a b c : Bool) → cond a (cond b (cond c 0 3) 2) 1 ≤ 3
      go true true true = omega arith
      go true true false = omega arith
      go true false c = omega arith
      go false b c = omega arith

  -- they do not: the components
  abbrev walked : Walk
  walked = components bs (record { at = body_start bs; place = nowhere })

  pub place_is : header_of bs ≡ 0 → place_of bs ≡ walked.place
  unfolding place_of
  place_is z = rw (eq-eqb (header_of bs) 0 z)

  module _ (z : header_of bs ≡ 0) where
    tests : (version_fine bs ≡ true) × (length_fine bs ≡ true) × (count_fine bs ≡ true) × (bands_fine bs ≡ true)
    tests = header_fine bs (header_of bs) refl z

    small : length bs ≤ 8192
    small = (its_length bs tests.1).1

    -- where the walk starts, and that there is a component
    pub walk_starts : (body_start bs ≤ length bs) × (length bs ≤ 8192) × (1 ≤ byte bs 3)
    walk_starts = (bands-fit bs tests.3, small, (its_count bs tests.2).0)

    ended : Ended bs small (header_at bs) (pred (byte bs 3)) (verdict_of (read_components (header_at bs) (byte bs 3) 0 (drop (body_start bs) bs))) walked
    unfolding components
    ended =
        let q : 0 + byte bs 3 ≡ byte bs 3 = omega arith in
        components_tell bs small (header_at bs) (pred (byte bs 3)) (byte bs 3) 0 (rw q) (record { at = body_start bs; place = nowhere }) refl (bands-fit bs tests.3)

    -- the verdict of the reader is that of the place
    pub says : verdict_of (read_table bs) ≡ verdict_at (place_of bs)
    says =
        sym (ap (λ (r : Reading). r.verdict) (fourth bs tests.0 tests.1 tests.2 tests.3)) ∙ ended.says ∙ ap verdict_at (sym (place_is z))

    faulty : eqb (place_of bs).number 0 ≡ false → Fault bs (place_of bs).component (place_of bs)
    faulty d = rw (place_is z) (ended.faulty (rw (← place_is z) d))

  -- a place that tells a refusal
  tells_refusal : (p : Place) {n c : ℕ} → verdict_at p ≡ Refused n c → (eqb p.number 0 ≡ false) × (p.number ≡ n) × (p.component ≡ c)
  tells_refusal p {n} {c} e = go (eqb p.number 0) refl e
    where
      go : (b : Bool) → eqb p.number 0 ≡ b → cond b Accepted (Refused p.number p.component) ≡ Refused n c
          → (eqb p.number 0 ≡ false) × (p.number ≡ n) × (p.component ≡ c)
      go true q r = let y : ◌≡◌ {A = ℕ} 0 1 = cc in absurd (omega arith)
      go false q r = let a : p.number ≡ n = cc in let b : p.component ≡ c = cc in (q, a, b)

  refused_number : {A : Type 0} (n c m d : ℕ) → ◌≡◌ {A = Answer A} (refused n c) (refused m d) → n ≡ m
  refused_number n c m d e = cc

  stops : (n c : ℕ) → 4 ≤ n → read_table bs ≡ refused n c → ((place_of bs).number ≡ n) × Fault bs c (place_of bs)
  stops n c k e = go (eqb (header_of bs) 0) refl
    where
      go : (b : Bool) → eqb (header_of bs) 0 ≡ b → ((place_of bs).number ≡ n) × Fault bs c (place_of bs)
      go true q =
          let z = eqb-true (header_of bs) 0 q in
          let t = tells_refusal (place_of bs) (sym (says z) ∙ ap verdict_of e) in
          (t.1, subst (λ (x : ℕ). Fault bs x (place_of bs)) t.2 (faulty z t.0))
      go false q =
          let m = refused_number (header_of bs) 255 n c (sym (header_number (eqb-false (header_of bs) 0 q)) ∙ e) in
          absurd (omega (arith, header_low))

  only : 0 < (place_of bs).number → (4 ≤ (place_of bs).number) × (read_table bs ≡ refused (place_of bs).number (place_of bs).component)
  only k = go (eqb (header_of bs) 0) refl
    where
      go : (b : Bool) → eqb (header_of bs) 0 ≡ b → (4 ≤ (place_of bs).number) × (read_table bs ≡ refused (place_of bs).number (place_of bs).component)
      go true q =
          let z = eqb-true (header_of bs) 0 q in
          let d : eqb (place_of bs).number 0 ≡ false = ne_eqb (place_of bs).number 0 (λ y. omega arith) in
          ((faulty z d).number.0, verdict_refused (read_table bs) (says z ∙ rw d))
      go false q = let n = ap (λ (p : Place). p.number) (header_nowhere (eqb-false (header_of bs) 0 q)) in absurd (omega arith)

  verdict : (n c : ℕ) → 4 ≤ n → n ≤ 6 → (check_call bs ≡ Refused n c) ↔ ((place_of bs).number ≡ n) × ((place_of bs).component ≡ c)
  verdict n c k l = (
    λ e. let t = stops n c k (refused_reading bs l e) in (t.0, t.1.component),
    λ (a, b). refused_so bs ((only (omega arith)).1 ∙ ap₂ {C = Answer _} (λ (m d : ℕ). refused m d) a b),
  )

  pub told : Told bs
  told = record { stops = stops; only = only; verdict = verdict }

  -- its byte is small
  pub place_within : 0 < (place_of bs).number → (place_of bs).start + (place_of bs).offset ≤ 8192
  place_within k = go (eqb (header_of bs) 0) refl
    where
      go : (b : Bool) → eqb (header_of bs) 0 ≡ b → (place_of bs).start + (place_of bs).offset ≤ 8192
      go true q =
          let t = only k in
          let f = (stops (place_of bs).number (place_of bs).component t.0 t.1).1 in
          omega (arith, f.starts, small (eqb-true (header_of bs) 0 q))
      go false q = let n = ap (λ (p : Place). p.number) (header_nowhere (eqb-false (header_of bs) 0 q)) in absurd (omega arith)
