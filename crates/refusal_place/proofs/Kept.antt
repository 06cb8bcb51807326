-- A walk that goes on has the place that it had, so parts that the reader finds in order are passed over. Assumes nothing.
use mathlib.Core.Path.{◌≡◌, refl, sym, ap, subst, ◌∙◌}
use mathlib.Core.Bool.{Bool, true, false, cond, ◌&&◌, not}
use mathlib.Core.List.{List, [], ◌∷◌}
use Prim.Native.Nat.{ℕ, zero, suc, ◌+◌, ◌-◌, ◌≤◌}
use native.Mathlib.Omega.{arith}
use lib.Dec.{eqb}
use lib.ListN.{length, take, drop, length-take}
use Rattle.model.specs.declared.Sizes.{Sizes}
use Rattle.model.specs.Reader.{Parsed, byte, many, read_location, read_arc}
use Rattle.std.specs.Prelude.{Result, Ok}
use Rattle.parts.specs.declared.PartFault.{PartFault}
use Rattle.parts.specs.declared.Kind.TheVariants.{Locations}
use Rattle.parts.specs.Place.{left, failed, skim, Passed, passes}
use Rattle.parts.proofs.Sequence.{locations_as}
use Rattle.refusal_place.specs.Ranges.{allowed, number_at, fields_of, width_of, bytes_field, channel_field}
use Rattle.refusal_place.specs.Walk.{going, stops_if, ranged, contents, fits, once, passed, inside, one_part, one_pair, counted, numbered, of_component, of_edge, several, pairs, items, budget_part, edge_from, edge}
use Rattle.refusal_place.specs.Passing.{EdgeFine}
use Rattle.refusal_place.specs.declared.Part.TheVariants.{Location, EdgeHead, Budget, ClockBound, DataBound, Update, Channel, Pair}
use Rattle.refusal_place.specs.declared.Subject.{Subject}
use Rattle.refusal_place.specs.declared.Field.{Field}
use Rattle.refusal_place.specs.declared.Walk.{Walk}
use Rattle.refusal_place.proofs.Rests.{rest, length_rest, drop_take}
use Rattle.refusal_place.proofs.OneTest.{part_stays, counted_stays}
use Rattle.refusal_place.proofs.Tells.{Tells}
use Rattle.refusal_place.proofs.EdgeTells.{locations_tell, edge_tells}

-- v, which comes of w, goes on: then w did, and the place is the same
abbrev Kept : Walk → Walk → Type 0
Kept w v = going v ≡ true → (going w ≡ true) × (v.place ≡ w.place)

then_kept : (w v u : Walk) → Kept w v → Kept v u → Kept w u
then_kept w v u p q e = let a = q e in let b = p a.0 in (b.0, a.1 ∙ b.1)

-- one test, whatever its number, which is not 0
test_kept : (fault : Bool) (number : ℕ) (who : Subject) (f : Field) (value : ℕ) (w : Walk) → eqb number 0 ≡ false → Kept w (stops_if fault number who f value w)
unfolding stops_if
test_kept fault number who f value w z = go (going w && fault) refl
  where
    go : (b : Bool) → going w && fault ≡ b → Kept w (cond b (record { at = w.at; place = Rattle.refusal_place.specs.Walk.place_at number who w.at f value }) w)
    go true q e = let y : ◌≡◌ {A = ℕ} 0 1 = cc in absurd (omega arith)
    go false q e = (e, refl)

contents_kept : (bs : List ℕ) (who : Subject) (fs : List Field) (w : Walk) → Kept w (contents bs who fs w)
unfolding contents ranged
contents_kept bs who [] w = λ e. (e, refl)
contents_kept bs who (f ∷ fs) w =
    then_kept w (ranged bs who f w) (contents bs who fs (ranged bs who f w))
    (test_kept (not (allowed f (number_at bs (w.at + f.offset) f.width))) 5 who f (number_at bs (w.at + f.offset) f.width) w refl)
    (contents_kept bs who fs (ranged bs who f w))

passed_kept : (n : ℕ) (w : Walk) → Kept w (passed n w)
unfolding passed
passed_kept n w = go (going w) refl
  where
    go : (b : Bool) → going w ≡ b → Kept w (cond b (record { at = w.at + n; place = w.place }) w)
    go true q e = (q, refl)
    go false q e = (e, refl)

module _ (bs : List ℕ) (end : ℕ) (s : Sizes) where
  inside_kept : (who : Subject) (w : Walk) → Kept w (inside bs end s who w)
  unfolding inside
  inside_kept who w =
      then_kept w (fits end who (width_of who.part) w) (contents bs who (fields_of who.part s bs w.at) (fits end who (width_of who.part) w))
      (test_kept (not (allowed (bytes_field (width_of who.part) 8193) (end - w.at))) 4 who (bytes_field (width_of who.part) 8193) (end - w.at) w refl)
      (contents_kept bs who (fields_of who.part s bs w.at) (fits end who (width_of who.part) w))

  part_kept : (who : Subject) (w : Walk) → Kept w (one_part bs end s who w)
  unfolding one_part
  part_kept who w = then_kept w (inside bs end s who w) (passed (width_of who.part) (inside bs end s who w)) (inside_kept who w) (passed_kept (width_of who.part) (inside bs end s who w))

  pair_kept : (from : ℕ) (who : Subject) (w : Walk) → Kept w (one_pair bs end from s who w)
  unfolding one_pair
  pair_kept from who w =
      let v = inside bs end s who w in
      then_kept w v (passed (width_of who.part) (once bs from s who v)) (inside_kept who w)
      (then_kept v (once bs from s who v) (passed (width_of who.part) (once bs from s who v)) (test_kept _ 6 who (channel_field s) _ v refl) (passed_kept (width_of who.part) (once bs from s who v)))

  counted_kept : (g : ℕ → Walk → Walk) → ((i : ℕ) (w : Walk) → Kept w (g i w)) → (i n : ℕ) (w : Walk) → Kept w (counted g i n w)
  unfolding counted
  counted_kept g each i zero w = λ e. (e, refl)
  counted_kept g each i (suc n) w = then_kept w (g i w) (counted g (suc i) n (g i w)) (each i w) (counted_kept g each (suc i) n (g i w))

  several_kept : (who : Subject) (n : ℕ) (w : Walk) → Kept w (several bs end s who n w)
  several_kept who n w = counted_kept (λ i. one_part bs end s (numbered who i)) (λ i. part_kept (numbered who i)) 0 n w

  items_kept : (c e kind n : ℕ) (w : Walk) → Kept w (items bs end s c e kind n w)
  items_kept c e zero n w = several_kept (of_edge c e Update) n w
  items_kept c e (suc zero) n w = part_kept (numbered (of_edge c e Channel) 0) w
  items_kept c e (suc (suc kind)) n w = counted_kept (λ i. one_pair bs end w.at s (numbered (of_edge c e Pair) i)) (λ i. pair_kept w.at (numbered (of_edge c e Pair) i)) 0 n w

  budget_kept : (c e : ℕ) (w : Walk) → Kept w (budget_part bs end s c e w)
  unfolding budget_part
  budget_kept c e w = go s.budgets
    where
      go : (b : Bool) → Kept w (cond b (one_part bs end s (of_edge c e Budget) w) w)
      go true = part_kept (of_edge c e Budget) w
      go false = λ e. (e, refl)

  edge_kept : (c e : ℕ) (w : Walk) → Kept w (edge bs end s c e w)
  unfolding edge edge_from
  edge_kept c e w = go (going w) refl
    where
      from : Kept w (edge_from bs end s c e w.at w)
      from =
          let head = one_part bs end s (of_edge c e EdgeHead) w in
          let budget = budget_part bs end s c e head in
          let clocks = several bs end s (of_edge c e ClockBound) (byte bs (w.at + 4)) budget in
          let guards = several bs end s (of_edge c e DataBound) (byte bs (w.at + 5)) clocks in
          let all = items bs end s c e (byte bs w.at) (byte bs (w.at + 6)) guards in
          then_kept w head all (part_kept (of_edge c e EdgeHead) w)
          (then_kept head budget all (budget_kept c e head)
          (then_kept budget clocks all (several_kept (of_edge c e ClockBound) (byte bs (w.at + 4)) budget)
          (then_kept clocks guards all (several_kept (of_edge c e DataBound) (byte bs (w.at + 5)) clocks) (items_kept c e (byte bs w.at) (byte bs (w.at + 6)) guards))))

      go : (b : Bool) → going w ≡ b → Kept w (cond b (edge_from bs end s c e w.at w) w)
      go true q = from
      go false q = λ e. (e, refl)

-- ## Parts in order

module _ (bs : List ℕ) (end : ℕ) (h : end ≤ length bs) (c : ℕ) (w : Walk) where
  -- what a reading of parts in order says of the walk over them
  over : {A : Type 0} (m : Parsed A) (v : Walk) → Kept w v → Tells bs end c m v → (next : ℕ) → next ≤ end → skim m ≡ left (drop next (take end bs))
      → record { at = next; place = w.place } ≡ v
  over m v kept t next n e = go (going v) refl (sym (ap (λ l. left l) (drop_take next end bs)) ∙ sym e ∙ t.says)
    where
      go : (b : Bool) → going v ≡ b → left (rest bs end next) ≡ cond (going v) (left (rest bs end v.at)) (failed v.place.number)
          → record { at = next; place = w.place } ≡ v
      go true g q =
          let y : left (rest bs end next) ≡ left (rest bs end v.at) = q ∙ rw g refl in
          let x : rest bs end next ≡ rest bs end v.at = cc in
          let k : next ≡ v.at = omega (arith, n, t.within, ap length x, length_rest bs end h next, length_rest bs end h v.at) in
          rw (k, (kept g).1)
      go false g q = let y : left (rest bs end next) ≡ failed v.place.number = q ∙ rw g refl in let z : ◌≡◌ {A = ℕ} 0 1 = cc in absurd (omega arith)

  module _ (small : end ≤ 8192) (s : Sizes) (on : going w ≡ true) (k : w.at ≤ end) where
    -- an edge
    pub passed_over : (e next : ℕ) → EdgeFine bs end s w.at next → record { at = next; place = w.place } ≡ edge bs end s c e w
    passed_over e next f =
        over (read_arc s (rest bs end w.at)) (edge bs end s c e w) (edge_kept bs end s c e w) (edge_tells bs end h small c s e f.0 w on k) next f.1
        (ap (λ l. skim (read_arc s l)) (sym (drop_take w.at end bs)) ∙ f.2)

    -- locations
    pub locations_over : (n next : ℕ) {r : Result ℕ PartFault} → Passed (take end bs) w.at r (many (passes Locations s) n (drop w.at (take end bs))) → r ≡ Ok next
        → (next ≤ end) × (record { at = next; place = w.place } ≡ several bs end s (of_component c Location) n w)
    locations_over n next {r} p e =
        let q : Passed (take end bs) w.at (Ok next) (many (passes Locations s) n (drop w.at (take end bs))) = subst (λ x. Passed (take end bs) w.at x (many (passes Locations s) n (drop w.at (take end bs)))) e p in
        let m : next ≤ end = omega (arith, simp length-take at q.within.1) in (
          m,
          over (many (read_location s) n (rest bs end w.at)) (several bs end s (of_component c Location) n w) (several_kept bs end s (of_component c Location) n w) (locations_tell bs end h small c s n w on k) next m
              (ap (λ l. skim (many (read_location s) n l)) (sym (drop_take w.at end bs)) ∙ locations_as s n (drop w.at (take end bs)) ∙ q.says),
        )

-- locations of a walk that has stopped
pub locations_stay : (bs : List ℕ) (end : ℕ) (s : Sizes) (c n : ℕ) (w : Walk) → going w ≡ false → w ≡ several bs end s (of_component c Location) n w
locations_stay bs end s c n w e = sym (counted_stays (λ i. one_part bs end s (numbered (of_component c Location) i)) (λ i. part_stays bs end s (numbered (of_component c Location) i)) 0 n w e)

-- ## What the reader answers

pub read_fine : (bs : List ℕ) (end : ℕ) (s : Sizes) (at next : ℕ) → end ≤ length bs → s.clocks ≤ 4 → {r : Result ℕ PartFault} → Passed (take end bs) at r (read_arc s (drop at (take end bs))) → r ≡ Ok next
    → EdgeFine bs end s at next
read_fine bs end s at next h few {r} p e =
    let q : Passed (take end bs) at (Ok next) (read_arc s (drop at (take end bs))) = subst (λ x. Passed (take end bs) at x (read_arc s (drop at (take end bs)))) e p in
    (few, omega (arith, simp length-take at q.within.1), q.says)
