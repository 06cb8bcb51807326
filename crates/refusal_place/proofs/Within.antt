-- The walk stays within the component; parts one after the other, turn by turn. Assumes nothing.
use mathlib.Core.Path.{◌≡◌, refl, sym, ap, ◌∙◌}
use mathlib.Core.Bool.{Bool, true, false}
use mathlib.Core.List.{List}
use Prim.Native.Nat.{ℕ, zero, suc, ◌+◌, ◌-◌, ◌*◌, ◌≤◌, ◌<◌}
use native.Mathlib.Omega.{arith}
use borrow.Author.Tests.{leb-true}
use lib.Dec.{leb}
use Rattle.model.proofs.Basics.Bools.{clash}
use lib.ListN.{drop}
use Rattle.model.specs.declared.Sizes.{Sizes}
use Rattle.model.specs.Reader.{byte, listed}
use Rattle.parts.specs.Place.{channels_before}
use Rattle.refusal_place.specs.Ranges.{bytes_field, channel_field, fields_of, width_of}
use Rattle.refusal_place.specs.Walk.{going, fits, once, contents, passed, inside, one_part, one_pair, counted}
use Rattle.refusal_place.specs.declared.Part.{Part}
use Rattle.refusal_place.specs.declared.Part.TheVariants.{Pair}
use Rattle.refusal_place.specs.declared.Subject.{Subject}
use Rattle.refusal_place.specs.declared.Walk.{Walk}
use Rattle.refusal_place.proofs.OneTest.{out_of_range, stays, same_place, contents_stay, contents_place, passed_stays, passes_on, inside_stays, pair_stays}

-- ## A walk that goes on went on before

pub went_on : (w w' : Walk) → (going w ≡ false → w' ≡ w) → going w' ≡ true → going w ≡ true
went_on w w' st on = go (going w) refl
  where
    go : (b : Bool) → going w ≡ b → going w ≡ true
    go true e = e
    go false e = clash (sym e ∙ sym (ap going (st e)) ∙ on)

-- a part that fits has room
pub fits_room : (end : ℕ) (who : Subject) (n : ℕ) (w : Walk) → going (fits end who n w) ≡ true → n ≤ end - w.at
fits_room end who n w on = go (leb n (end - w.at)) refl
  where
    before : going w ≡ true
    before = went_on w (fits end who n w) (stays 4 who (bytes_field n 8193) (end - w.at) w _) on

    go : (b : Bool) → leb n (end - w.at) ≡ b → n ≤ end - w.at
    go true e = leb-true n (end - w.at) e
    go false e = clash (sym (ap going (out_of_range 4 who (bytes_field n 8193) (end - w.at) w before (rw e))) ∙ on)

-- ## A part

module _ (bs : List ℕ) (end : ℕ) (s : Sizes) (who : Subject) (w : Walk) where
  pub inside_place : (inside bs end s who w).at ≡ w.at
  unfolding inside
  inside_place =
      contents_place bs who (fields_of who.part s bs w.at) (fits end who (width_of who.part) w)
      ∙ same_place 4 who (bytes_field (width_of who.part) 8193) (end - w.at) w _

  pub inside_room : going (inside bs end s who w) ≡ true → width_of who.part ≤ end - w.at
  unfolding inside
  inside_room on =
      fits_room end who (width_of who.part) w
      (went_on (fits end who (width_of who.part) w) (inside bs end s who w) (contents_stay bs who (fields_of who.part s bs w.at) (fits end who (width_of who.part) w)) on)

  -- the walk inside a part, from that of its kind
  pub inside_as : (p : Part) (fit r : Walk) → who.part ≡ p → fit ≡ fits end who (width_of who.part) w → fit.at ≡ w.at
      → r ≡ contents bs who (fields_of p s bs fit.at) fit → r ≡ inside bs end s who w
  unfolding inside
  inside_as p fit r q e a t =
      t ∙ ap (λ (x : ℕ). contents bs who (fields_of p s bs x) fit) a
      ∙ ap (λ (x : Part). contents bs who (fields_of x s bs w.at) fit) (sym q)
      ∙ ap (contents bs who (fields_of who.part s bs w.at)) e

passed_within : (end n : ℕ) (w : Walk) → w.at ≤ end → (going w ≡ true → n ≤ end - w.at) → (passed n w).at ≤ end
passed_within end n w h room = go (going w) refl
  where
    go : (b : Bool) → going w ≡ b → (passed n w).at ≤ end
    go true e = let l = room e in rw (passes_on n w e) (omega arith)
    go false e = rw (passed_stays n w e) h

module _ (bs : List ℕ) (end : ℕ) (s : Sizes) (who : Subject) (w : Walk) (h : w.at ≤ end) where
  pub part_within : (one_part bs end s who w).at ≤ end
  unfolding one_part
  part_within =
      passed_within end (width_of who.part) (inside bs end s who w) (rw (inside_place bs end s who w) h)
      (λ on. rw (inside_place bs end s who w) (inside_room bs end s who w on))

  pub pair_within : (from : ℕ) → (one_pair bs end from s who w).at ≤ end
  unfolding one_pair
  pair_within from =
      let tried = inside bs end s who w in
      let t = listed (byte bs tried.at) (channels_before (drop from bs) who.index) in
      let place = same_place 6 who (channel_field s) (byte bs tried.at) tried t ∙ inside_place bs end s who w in
      passed_within end (width_of who.part) (once bs from s who tried) (rw place h)
      (λ on. rw place (inside_room bs end s who w (went_on tried (once bs from s who tried) (stays 6 who (channel_field s) (byte bs tried.at) tried t) on)))

-- ## A pair

module _ (bs : List ℕ) (end : ℕ) (s : Sizes) (who : Subject) (w : Walk) (from : ℕ) where
  -- a walk that stops inside it stays there
  pub pair_halts : going (inside bs end s who w) ≡ false → inside bs end s who w ≡ one_pair bs end from s who w
  unfolding one_pair
  pair_halts d =
      let tried = inside bs end s who w in
      sym (ap (passed (width_of who.part)) (stays 6 who (channel_field s) (byte bs tried.at) tried _ d) ∙ passed_stays (width_of who.part) tried d)

  -- one that goes on inside it has room for it
  pub pair_room : who.part ≡ Pair → w.at ≤ end → (going w ≡ true → w.at ≡ from + who.index * 2) → going (inside bs end s who w) ≡ true
      → (w.at ≡ from + who.index * 2) × (w.at + 2 ≤ end)
  pair_room q k place on =
      let room = inside_room bs end s who w on in
      let two : width_of who.part ≡ 2 = ap width_of q in
      (place (went_on w (inside bs end s who w) (inside_stays bs end s who w) on), omega arith)

  -- and one that goes on behind it has passed it
  pub pair_next : going (one_pair bs end from s who w) ≡ true → (one_pair bs end from s who w).at ≡ w.at + width_of who.part
  unfolding one_pair
  pair_next on =
      let n = width_of who.part in
      let tried = inside bs end s who w in
      let t = listed (byte bs tried.at) (channels_before (drop from bs) who.index) in
      let asked = once bs from s who tried in
      let g = went_on asked (passed n asked) (passed_stays n asked) on in
      ap (λ (v : Walk). v.at) (passes_on n asked g)
      ∙ ap (λ (k : ℕ). k + n) (same_place 6 who (channel_field s) (byte bs tried.at) tried t ∙ inside_place bs end s who w)

  -- the next one of those that start at `first`
  pub pair_turn : who.part ≡ Pair → (first i : ℕ) → (going w ≡ true → w.at ≡ first + i * 2) → (r : Walk) → r ≡ one_pair bs end from s who w → going r ≡ true
      → r.at ≡ first + (i + 1) * 2
  pair_turn q first i place r e on =
      let g = sym (ap going e) ∙ on in
      let next = pair_next g in
      let two : width_of who.part ≡ 2 = ap width_of q in
      let before = place (went_on w (one_pair bs end from s who w) (pair_stays bs end from s who w) g) in
      ap (λ (v : Walk). v.at) e ∙ omega arith

-- ## Parts one after the other

module _ (g : ℕ → Walk → Walk) where
  pub counted_within : (end : ℕ) → ((i : ℕ) (w : Walk) → w.at ≤ end → (g i w).at ≤ end) → (i n : ℕ) (w : Walk) → w.at ≤ end → (counted g i n w).at ≤ end
  unfolding counted
  counted_within end each i zero w h = h
  counted_within end each i (suc n) w h = counted_within end each (suc i) n (g i w) (each i w h)

  -- all of them
  pub counted_start : (n : ℕ) (w : Walk) → counted g 0 (n - 0) w ≡ counted g 0 n w
  counted_start n w = let a : n - 0 ≡ n = omega arith in rw a

  -- one of them, and those after it
  pub counted_turn : (i n k : ℕ) (w x : Walk) → i < n → counted g i (n - i) w ≡ x → k ≡ i + 1 → counted g k (n - k) (g i w) ≡ x
  unfolding counted
  counted_turn i n k w x h e q =
      let a : n - i ≡ suc (n - suc i) = omega arith in
      let b : k ≡ suc i = omega arith in
      rw b (rw a at e)

  pub counted_done : (i n : ℕ) (w x : Walk) → n ≤ i → counted g i (n - i) w ≡ x → w ≡ x
  unfolding counted
  counted_done i n w x h e = let a : n - i ≡ 0 = omega arith in rw a at e
