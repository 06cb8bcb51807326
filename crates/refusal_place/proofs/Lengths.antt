-- Of a component, its length included, the walk tells what the reader says. Assumes nothing.
use mathlib.Core.Path.{◌≡◌, refl, subst}
use mathlib.Core.Bool.{Bool, true, false, ◌&&◌}
use mathlib.Core.List.{List}
use Prim.Native.Nat.{ℕ, suc, ◌+◌, ◌-◌, min, ◌≤◌, ◌<◌}
use native.Mathlib.Omega.{arith}
use borrow.Author.Tests.{leb-true, leb-false, le-leb, lt-leb, lt-ltb, le-ltb}
use lib.Dec.{leb, leb-zero}
use lib.ListN.{length, take, drop, length-drop}
use lib.Seq.{drop-drop, get_or-drop}
use Rattle.model.specs.declared.TableHeader.{TableHeader}
use Rattle.model.specs.Reader.{byte, word, read_component, length_fits}
use Rattle.refusal_place.specs.Ranges.{bytes_field, word_field}
use Rattle.refusal_place.specs.Walk.{going, fits, one_part, of_component, sizes_from, end_from, length_stated, body_from, component_from, component}
use Rattle.refusal_place.specs.Told.{Fault}
use Rattle.refusal_place.specs.declared.Part.TheVariants.{ComponentLength, ComponentHead, ComponentEnd}
use Rattle.refusal_place.specs.declared.Subject.{Subject}
use Rattle.refusal_place.specs.declared.Walk.{Walk}
use Rattle.refusal_place.proofs.Rests.{rest}
use Rattle.refusal_place.proofs.OneTest.{stop, in-range, out_of_range, stays, part_stays}
use Rattle.refusal_place.proofs.Tells.{Tells}
use Rattle.refusal_place.proofs.ComponentTells.{at-end, body_walk, body_stays, component_tells}

-- ## A component's length

module _ (bs : List ℕ) (c : ℕ) (w : Walk) (on : going w ≡ true) (k : w.at ≤ length bs) (small : length bs ≤ 8192) where
  abbrev who : Subject
  who = of_component c ComponentLength

  abbrev there : ℕ
  there = length bs - w.at

  abbrev stated : ℕ
  stated = word bs w.at

  no_length : there < 2 → length_stated bs c w ≡ stop 4 who (bytes_field 2 8193) there w
  unfolding length_stated
  no_length l =
      rw (out_of_range 4 who (bytes_field 2 8193) there w on (rw (lt-leb 2 there l)))
      (stays 4 who (word_field 0 0 (suc there)) stated (stop 4 who (bytes_field 2 8193) there w) _ refl)

  two_bytes : 2 ≤ there → fits (length bs) who 2 w ≡ w
  two_bytes l = in-range 4 who (bytes_field 2 8193) there w (rw (le-leb 2 there l, lt-ltb there 8193 (omega arith)))

  too_long : 2 ≤ there → there < stated → length_stated bs c w ≡ stop 4 who (word_field 0 0 (suc there)) stated w
  unfolding length_stated
  too_long l g =
      rw (two_bytes l) (out_of_range 4 who (word_field 0 0 (suc there)) stated w on (rw (leb-zero stated, le-ltb stated (suc there) g)))

  length-fits : 2 ≤ there → stated ≤ there → length_stated bs c w ≡ w
  unfolding length_stated
  length-fits l g = rw (two_bytes l) (in-range 4 who (word_field 0 0 (suc there)) stated w (rw (leb-zero stated, lt-ltb stated (suc there) (omega arith))))

  -- ## The component

  abbrev after_length : TableHeader → Walk → Walk
  after_length header v =
      body_walk bs (end_from bs w.at) c (sizes_from bs header w.at) (byte bs (w.at + 2)) (byte bs (w.at + 6))
      (one_part bs (end_from bs w.at) (sizes_from bs header w.at) (of_component c ComponentHead) v)

  is_after : (header : TableHeader) → component bs header c w ≡ after_length header (length_stated bs c w)
  unfolding component component_from body_from
  is_after header = rw on

  after_stays : (header : TableHeader) (v : Walk) → going v ≡ false → after_length header v ≡ v
  after_stays header v d =
      rw (part_stays bs (end_from bs w.at) (sizes_from bs header w.at) (of_component c ComponentHead) v d)
      (body_stays bs (end_from bs w.at) c (sizes_from bs header w.at) (byte bs (w.at + 2)) (byte bs (w.at + 6)) v d)

  -- what it leads to: it stops with 4 at its length, or it is told, to its end
  pub data Read (header : TableHeader) (w' : Walk) : Type 0 where
    length_stops : length_fits (drop w.at bs) ≡ false → going w' ≡ false → w'.place.number ≡ 4 → Fault bs c w'.place → Read header w'
    is_read : length_fits (drop w.at bs) ≡ true → end_from bs w.at ≤ length bs → drop (word (drop w.at bs) 0) (drop w.at bs) ≡ drop (end_from bs w.at) bs
        → Tells bs (end_from bs w.at) c (read_component header (take (word (drop w.at bs) 0) (drop w.at bs))) w'
        → (going w' ≡ true → w'.at ≡ end_from bs w.at) → Read header w'

  as_stated : word (drop w.at bs) 0 ≡ stated
  as_stated =
      let z : w.at + 0 ≡ w.at = omega arith in
      let y : w.at + 1 ≡ suc w.at = omega arith in
      rw (get_or-drop w.at bs 0 0, get_or-drop w.at bs 1 0, z, y)

  fits_is : (b : Bool) → leb 2 there && leb stated there ≡ b → length_fits (drop w.at bs) ≡ b
  fits_is b e = rw (length-drop w.at bs, as_stated) e

  halts : (header : TableHeader) (v : Walk) → length_stated bs c w ≡ v → length_fits (drop w.at bs) ≡ false → going v ≡ false → v.place.number ≡ 4 → Fault bs c v.place
      → Read header (component bs header c w)
  halts header v e f d n t = rw (is_after header, e, after_stays header v d) (length_stops f d n t)

  goes_on : (header : TableHeader) → 2 ≤ there → stated ≤ there → Read header (component bs header c w)
  goes_on header l g =
      let end = end_from bs w.at in
      let m : min stated there ≡ stated = omega arith in
      let e : end ≡ w.at + stated = rw m in
      let d : end - w.at ≡ stated = omega arith in
      let q : rest bs end w.at ≡ take (word (drop w.at bs) 0) (drop w.at bs) = rw (d, as_stated) in
      let o : drop (word (drop w.at bs) 0) (drop w.at bs) ≡ drop end bs = rw (as_stated, drop-drop stated w.at bs, ← e) in
      let t = component_tells bs end (omega arith) (omega arith) c header w on (omega arith) in
      let told = subst (λ (x : List ℕ). Tells bs end c (read_component header x) (after_length header w)) q t in
      rw (is_after header, length-fits l g)
      (is_read (fits_is true (rw (le-leb 2 there l, le-leb stated there g))) (omega arith) o told (at-end bs end (of_component c ComponentEnd) _ t.within))

  pub reads : (header : TableHeader) → Read header (component bs header c w)
  reads header = go (leb 2 there) refl (leb stated there) refl
    where
      go : (a : Bool) → leb 2 there ≡ a → (b : Bool) → leb stated there ≡ b → Read header (component bs header c w)
      go true p true q = goes_on header (leb-true 2 there p) (leb-true stated there q)
      go true p false q =
          let l = leb-true 2 there p in
          let g = leb-false stated there q in
          let z : w.at + 0 ≡ w.at = omega arith in
          let f : Fault bs c (stop 4 who (word_field 0 0 (suc there)) stated w).place = record {
            number = (omega arith, omega arith);
            component = refl;
            starts = omega arith;
            stands = λ _. (rw z, omega arith);
            outside = λ _. rw (leb-zero stated, le-ltb stated (suc there) g);
            again = λ y. absurd (omega arith);
          } in
          halts header (stop 4 who (word_field 0 0 (suc there)) stated w) (too_long l g) (fits_is false (rw (p, q))) refl refl f
      go false p b q =
          let l = leb-false 2 there p in
          let f : Fault bs c (stop 4 who (bytes_field 2 8193) there w).place = record {
            number = (omega arith, omega arith);
            component = refl;
            starts = omega arith;
            stands = λ y. absurd (omega arith);
            outside = λ _. rw p;
            again = λ y. absurd (omega arith);
          } in
          halts header (stop 4 who (bytes_field 2 8193) there w) (no_length l) (fits_is false (rw p)) refl refl f
