-- One test of the walk: it goes on, or it stops; a walk that has stopped stays. Assumes nothing.
use mathlib.Core.Path.{◌≡◌, refl, ◌∙◌}
use mathlib.Core.Bool.{Bool, true, false, cond, ◌&&◌, not}
use mathlib.Core.List.{List, [], ◌∷◌}
use Prim.Native.Nat.{ℕ, zero, suc, ◌+◌}
use Rattle.model.specs.Lists.{all}
use Rattle.model.specs.declared.Sizes.{Sizes}
use Rattle.model.specs.declared.TableHeader.{TableHeader}
use Rattle.refusal_place.specs.Ranges.{allowed, number_at, fields_of, width_of}
use Rattle.refusal_place.specs.Walk.{going, place_at, stops_if, judged, ranged, contents, passed, inside, one_part, one_pair, counted, edge, component}
use Rattle.refusal_place.specs.declared.Subject.{Subject}
use Rattle.refusal_place.specs.declared.Field.{Field}
use Rattle.refusal_place.specs.declared.Walk.{Walk}

-- ## One test

module _ (number : ℕ) (who : Subject) (f : Field) (value : ℕ) (w : Walk) where
  -- where the walk stops at it
  abbrev pub stop : Walk
  stop = record { at = w.at; place = place_at number who w.at f value }

  pub stays : (fault : Bool) → going w ≡ false → stops_if fault number who f value w ≡ w
  unfolding stops_if
  stays fault e = rw e

  pub no_fault : (fault : Bool) → fault ≡ false → stops_if fault number who f value w ≡ w
  unfolding stops_if
  no_fault fault e = rw e (go (going w))
    where
      go : (g : Bool) → cond (g && false) stop w ≡ w
      go true = refl
      go false = refl

  pub a_fault : (fault : Bool) → going w ≡ true → fault ≡ true → stops_if fault number who f value w ≡ stop
  unfolding stops_if
  a_fault fault g e = rw (g, e)

  -- a value that is in its range, and one that is not
  pub in-range : allowed f value ≡ true → judged number who f value w ≡ w
  in-range e = no_fault (not (allowed f value)) (rw e)

  pub out_of_range : going w ≡ true → allowed f value ≡ false → judged number who f value w ≡ stop
  out_of_range g e = a_fault (not (allowed f value)) g (rw e)

  pub same_place : (fault : Bool) → (stops_if fault number who f value w).at ≡ w.at
  unfolding stops_if
  same_place fault = go (going w && fault)
    where
      go : (g : Bool) → (cond g stop w).at ≡ w.at
      go true = refl
      go false = refl

-- ## The contents of a part

-- every number of the part that starts at `at` is in its range
abbrev pub asked : List ℕ → ℕ → List Field → Bool
asked bs at fs = all (λ f. allowed f (number_at bs (at + f.offset) f.width)) fs

module _ (bs : List ℕ) (who : Subject) where
  pub contents_stay : (fs : List Field) (w : Walk) → going w ≡ false → contents bs who fs w ≡ w
  unfolding contents ranged
  contents_stay [] w e = refl
  contents_stay (f ∷ fs) w e =
      let s = stays 5 who f (number_at bs (w.at + f.offset) f.width) w (not (allowed f (number_at bs (w.at + f.offset) f.width))) e in
      rw s (contents_stay fs w e)

  pub contents_place : (fs : List Field) (w : Walk) → (contents bs who fs w).at ≡ w.at
  unfolding contents ranged
  contents_place [] w = refl
  contents_place (f ∷ fs) w =
      contents_place fs (ranged bs who f w)
      ∙ same_place 5 who f (number_at bs (w.at + f.offset) f.width) w (not (allowed f (number_at bs (w.at + f.offset) f.width)))

-- ## A walk that has stopped stays

pub passed_stays : (n : ℕ) (w : Walk) → going w ≡ false → passed n w ≡ w
unfolding passed
passed_stays n w e = rw e

pub passes_on : (n : ℕ) (w : Walk) → going w ≡ true → passed n w ≡ record { at = w.at + n; place = w.place }
unfolding passed
passes_on n w e = rw e

pub inside_stays : (bs : List ℕ) (end : ℕ) (s : Sizes) (who : Subject) (w : Walk) → going w ≡ false → inside bs end s who w ≡ w
unfolding inside
inside_stays bs end s who w e = rw (stays 4 who _ _ w _ e) (contents_stay bs who (fields_of who.part s bs w.at) w e)

pub part_stays : (bs : List ℕ) (end : ℕ) (s : Sizes) (who : Subject) (w : Walk) → going w ≡ false → one_part bs end s who w ≡ w
unfolding one_part
part_stays bs end s who w e = rw (inside_stays bs end s who w e) (passed_stays _ w e)

pub pair_stays : (bs : List ℕ) (end from : ℕ) (s : Sizes) (who : Subject) (w : Walk) → going w ≡ false → one_pair bs end from s who w ≡ w
unfolding one_pair
pair_stays bs end from s who w e = rw (inside_stays bs end s who w e, stays 6 who _ _ w _ e) (passed_stays (width_of who.part) w e)

pub counted_stays : (g : ℕ → Walk → Walk) → ((i : ℕ) (w : Walk) → going w ≡ false → g i w ≡ w)
    → (i n : ℕ) (w : Walk) → going w ≡ false → counted g i n w ≡ w
unfolding counted
counted_stays g st i zero w e = refl
counted_stays g st i (suc n) w e = rw (st i w e) (counted_stays g st (suc i) n w e)

pub edge_stays : (bs : List ℕ) (end : ℕ) (s : Sizes) (c e : ℕ) (w : Walk) → going w ≡ false → edge bs end s c e w ≡ w
unfolding edge
edge_stays bs end s c e w h = rw h

pub component_stays : (bs : List ℕ) (header : TableHeader) (c : ℕ) (w : Walk) → going w ≡ false → component bs header c w ≡ w
unfolding component
component_stays bs header c w h = rw h
