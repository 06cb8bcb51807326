-- The walk and the reader tell the same of a component, and of all of them. Assumes nothing.
use mathlib.Core.Path.{◌≡◌, refl, sym, ap, ◌∙◌}
use mathlib.Core.Bool.{Bool, true, false}
use mathlib.Core.List.{List, []}
use Prim.Native.Nat.{ℕ, suc, ◌+◌, ◌-◌, ◌≤◌, ◌<◌}
use native.Mathlib.Omega.{arith}
use borrow.Author.Tests.{leb-true, leb-false, le-leb, le-ltb}
use lib.Dec.{leb, leb-zero}
use lib.ListN.{length}
use lib.Seq.{drop-cons}
use Rattle.model.proofs.Basics.Bools.{clash}
use Rattle.model.specs.declared.TableHeader.{TableHeader}
use Rattle.model.specs.declared.Sizes.{Sizes}
use Rattle.model.specs.Table.{Component}
use Rattle.model.specs.Reader.{byte, ok, fault, ◌then◌, part, many, read_location, read_arc, head_fine, sizes_at, component_with, finished, read_body, read_component}
use Rattle.table.proofs.Pieces.{few-clocks}
use Rattle.refusal_place.specs.Ranges.{bytes_field, head_fields}
use Rattle.refusal_place.specs.Walk.{going, ends, passed, inside, one_part, counted, numbered, of_component, several, edge, sizes_from}
use Rattle.refusal_place.specs.declared.Part.TheVariants.{ComponentHead, Location, ComponentEnd}
use Rattle.refusal_place.specs.declared.Subject.{Subject}
use Rattle.refusal_place.specs.declared.Walk.{Walk}
use Rattle.refusal_place.specs.Told.{Fault}
use Rattle.refusal_place.proofs.Rests.{rest, length_rest, byte_rest, drop_rest}
use Rattle.refusal_place.proofs.OneTest.{stop, in-range, out_of_range, stays, passed_stays, passes_on, part_stays, counted_stays, edge_stays}
use Rattle.refusal_place.proofs.Fine.{head-fine}
use Rattle.refusal_place.proofs.Tells.{Tells, goes, stopped, chain, many_tell}
use Rattle.refusal_place.proofs.OnePart.{Outcome, fine_there, stops_there, outcome}
use Rattle.refusal_place.proofs.EdgeTells.{locations_tell, edge_tells}

-- ## Bytes left over

module _ (bs : List ℕ) (end : ℕ) (who : Subject) (w : Walk) where
  -- none is left
  pub none_over : end ≤ w.at → ends end who w ≡ w
  none_over h = let z : end - w.at ≡ 0 = omega arith in in-range 4 who (bytes_field 0 1) (end - w.at) w (rw z)

  -- some are
  pub some_over : going w ≡ true → w.at < end → ends end who w ≡ stop 4 who (bytes_field 0 1) (end - w.at) w
  some_over on h =
      out_of_range 4 who (bytes_field 0 1) (end - w.at) w on (rw (leb-zero (end - w.at), le-ltb (end - w.at) 1 (omega arith)))

  pub fault_over : end ≤ length bs → w.at < end → Fault bs who.component (stop 4 who (bytes_field 0 1) (end - w.at) w).place
  fault_over k h =
      record {
        number = (omega arith, omega arith);
        component = refl;
        starts = omega arith;
        stands = λ z. absurd (omega arith);
        outside = λ _. rw (leb-zero (end - w.at), le-ltb (end - w.at) 1 (omega arith));
        again = λ z. absurd (omega arith);
      }

  pub over_stays : going w ≡ false → ends end who w ≡ w
  over_stays d = stays 4 who (bytes_field 0 1) (end - w.at) w _ d

  -- a walk that goes on has reached the end
  pub at-end : (ends end who w).at ≤ end → going (ends end who w) ≡ true → (ends end who w).at ≡ end
  at-end k on = go (leb end w.at) refl (going w) refl
    where
      go : (b : Bool) → leb end w.at ≡ b → (g : Bool) → going w ≡ g → (ends end who w).at ≡ end
      go true e g q =
          let l = leb-true end w.at e in
          let t = none_over l in
          let a : w.at ≤ end = rw t at k in
          rw t (omega arith)
      go false e true q = clash (sym (ap going (some_over q (leb-false end w.at e))) ∙ on)
      go false e false q = clash (sym q ∙ sym (ap going (over_stays q)) ∙ on)

-- ## What follows a component's first 7 bytes

module _ (bs : List ℕ) (end c : ℕ) where
  abbrev pub body_walk : Sizes → ℕ → ℕ → Walk → Walk
  body_walk s n m w =
      ends end (of_component c ComponentEnd) (counted (edge bs end s c) 0 m (several bs end s (of_component c Location) n w))

  edges_stay : (s : Sizes) (m : ℕ) (w : Walk) → going w ≡ false → ends end (of_component c ComponentEnd) (counted (edge bs end s c) 0 m w) ≡ w
  edges_stay s m w d = rw (counted_stays (edge bs end s c) (edge_stays bs end s c) 0 m w d) (over_stays bs end (of_component c ComponentEnd) w d)

  pub body_stays : (s : Sizes) (n m : ℕ) (w : Walk) → going w ≡ false → body_walk s n m w ≡ w
  body_stays s n m w d =
      rw (counted_stays (λ i. one_part bs end s (numbered (of_component c Location) i)) (λ i. part_stays bs end s (numbered (of_component c Location) i)) 0 n w d)
      (edges_stay s m w d)

-- ## A component after its length

module _ (bs : List ℕ) (end : ℕ) (h : end ≤ length bs) (small : end ≤ 8192) (c : ℕ) where
  finished_tells : (C : Component) (w : Walk) → going w ≡ true → w.at ≤ end → Tells bs end c (finished C (rest bs end w.at)) (ends end (of_component c ComponentEnd) w)
  finished_tells C w on k = go (leb end w.at) refl
    where
      go : (b : Bool) → leb end w.at ≡ b → Tells bs end c (finished C (rest bs end w.at)) (ends end (of_component c ComponentEnd) w)
      go true e =
          let l = leb-true end w.at e in
          let z : end - w.at ≡ 0 = omega arith in
          let q : rest bs end w.at ≡ [] = rw z in
          let t : finished C (rest bs end w.at) ≡ ok C (rest bs end w.at) = rw q in
          rw (t, none_over bs end (of_component c ComponentEnd) w l) (goes bs end c C w on k)
      go false e =
          let l = leb-false end w.at e in
          let z : end - w.at ≡ suc (end - suc w.at) = omega arith in
          let t : finished C (rest bs end w.at) ≡ fault 4 = rw (z, drop-cons bs w.at 0 (omega arith)) in
          rw (t, some_over bs end (of_component c ComponentEnd) w on l) (stopped bs end c 4 (stop 4 (of_component c ComponentEnd) (bytes_field 0 1) (end - w.at) w) refl refl k (fault_over bs end (of_component c ComponentEnd) w h l))

  -- the edges
  edges_tell : (s : Sizes) → s.clocks ≤ 4 → (n : ℕ) (w : Walk) → going w ≡ true → w.at ≤ end
      → Tells bs end c (many (read_arc s) n (rest bs end w.at)) (counted (edge bs end s c) 0 n w)
  edges_tell s few n w on k =
      many_tell bs end c (read_arc s) (edge bs end s c) (λ e. edge_tells bs end h small c s e few) (edge_stays bs end s c) n 0 w on k

  body_tells : (s : Sizes) → s.clocks ≤ 4 → (head : List ℕ) (n m : ℕ) (w : Walk) → going w ≡ true → w.at ≤ end
      → Tells bs end c
      (many (read_location s) n (rest bs end w.at) then λ ls r₁. many (read_arc s) m r₁ then λ es r₂. finished (component_with head ls es) r₂)
      (body_walk bs end c s n m w)
  body_tells s few head n m w on k =
      let w₁ = several bs end s (of_component c Location) n w in
      let w₂ = counted (edge bs end s c) 0 m w₁ in
      let t₁ = locations_tell bs end h small c s n w on k in
      chain bs end c (many (read_location s) n (rest bs end w.at)) (λ ls r₁. many (read_arc s) m r₁ then λ es r₂. finished (component_with head ls es) r₂) w₁
      (λ v. ends end (of_component c ComponentEnd) (counted (edge bs end s c) 0 m v))
      t₁
      (λ ls on₁.
      let t₂ = edges_tell s few m w₁ on₁ t₁.within in
      chain bs end c (many (read_arc s) m (rest bs end w₁.at)) (λ es r₂. finished (component_with head ls es) r₂) w₂ (ends end (of_component c ComponentEnd)) t₂
      (λ es on₂. finished_tells (component_with head ls es) w₂ on₂ t₂.within)
      (over_stays bs end (of_component c ComponentEnd) w₂))
      (edges_stay bs end c s m w₁)

  -- ## A component

  pub component_tells : (header : TableHeader) (w : Walk) → going w ≡ true → w.at ≤ end
      → Tells bs end c (read_component header (rest bs end w.at))
      (body_walk bs end c (sizes_from bs header w.at) (byte bs (w.at + 2)) (byte bs (w.at + 6)) (one_part bs end (sizes_from bs header w.at) (of_component c ComponentHead) w))
  unfolding read_component one_part inside
  component_tells header w on k =
      go (inside bs end (sizes_from bs header w.at) (of_component c ComponentHead) w)
      (outcome bs end h small c (λ l. l) 7 (head_fields (byte bs (w.at + 2))) head_fine (of_component c ComponentHead) refl refl w on k (head-fine bs end h w.at))
    where
      go : (w' : Walk) → Outcome bs end h small c (λ l. l) 7 head_fine w w'
          → Tells bs end c (part 7 head_fine (λ l. l) (rest bs end w.at) then read_body header)
          (body_walk bs end c (sizes_from bs header w.at) (byte bs (w.at + 2)) (byte bs (w.at + 6)) (passed 7 w'))
      go w' (fine_there d l g) =
          let head = rest bs end w.at in
          let read : part 7 head_fine (λ l. l) head ≡ ok head (rest bs end (w.at + 7)) =
          rw (le-leb 7 (length head) (rw (length_rest bs end h w.at) (omega arith)), g, drop_rest bs end w.at 7) in
          rw (
            d,
            read,
            passes_on 7 w on,
            ← byte_rest bs end h w.at 2 (omega arith),
            ← byte_rest bs end h w.at 4 (omega arith),
            ← byte_rest bs end h w.at 5 (omega arith),
            ← byte_rest bs end h w.at 6 (omega arith),
          )
          (body_tells (sizes_at header head) (few-clocks head g) head (byte head 2) (byte head 6) (record { at = w.at + 7; place = w.place }) on l)
      go w' (stops_there j reads d a b f) =
          rw (reads, passed_stays 7 w' d, body_stays bs end c (sizes_from bs header w.at) (byte bs (w.at + 2)) (byte bs (w.at + 6)) w' d)
          (stopped bs end c j w' d a (rw b k) f)
