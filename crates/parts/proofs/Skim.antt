-- Readings of parts, by where they end alone: one part, many of them, one after the other. Assumes nothing.
use mathlib.Core.Path.{◌≡◌, refl, sym, ap, subst, ◌∙◌}
use mathlib.Core.Bool.{Bool, true, false}
use mathlib.Core.List.{List, ◌∷◌}
use Prim.Native.Nat.{ℕ, zero, suc, ◌+◌, ◌-◌, ◌≤◌, ◌<◌}
use native.Mathlib.Omega.{arith}
use borrow.Author.Tests.{le-leb, lt-leb}
use lib.ListN.{length, take, drop, get_or, length-drop}
use lib.Seq.{drop-drop, take_all, get_or-drop}
use Rattle.model.specs.Reader.{byte, Parsed, ok, fault, ◌then◌, part, many}
use Rattle.parts.specs.Place.{Rest, left, failed, skim}

-- ## What a reading was, from where it ended

pub was_left : {A : Type 0} (m : Parsed A) {l : List ℕ} → skim m ≡ left l → (a : A) × (m ≡ ok a l)
was_left (ok a r) {l} e = let q : r ≡ l = cc in (a, ap (ok a) q)
was_left (fault n) e = let z : ◌≡◌ {A = ℕ} 0 1 = cc in absurd (omega arith)

pub was_failed : {A : Type 0} (m : Parsed A) {n : ℕ} → skim m ≡ failed n → m ≡ fault n
was_failed (ok a r) e = let z : ◌≡◌ {A = ℕ} 0 1 = cc in absurd (omega arith)
was_failed (fault k) {n} e = let q : k ≡ n = cc in ap fault q

-- what is made of a part's contents does not move the place
pub keeps : {A B : Type 0} (m : Parsed A) (f : A → B) → skim (m then λ a r. ok (f a) r) ≡ skim m
keeps (ok a r) f = refl
keeps (fault n) f = refl

-- the part of a slice from a place on is what is left there
pub tail : (p : List ℕ) (at : ℕ) → take (length p - at) (drop at p) ≡ drop at p
tail p at = take_all (length p - at) (drop at p) (simp length-drop (omega arith))

-- ## One part

module _ {A : Type 0} (w : ℕ) (fine : List ℕ → Bool) (value : List ℕ → A) (p : List ℕ) (at : ℕ) where
  pub part_good : at + w ≤ length p → fine (drop at p) ≡ true → skim (part w fine value (drop at p)) ≡ left (drop (at + w) p)
  part_good h e = rw (le-leb w (length (drop at p)) (simp length-drop (omega arith)), e, drop-drop)

  pub part_short : length p - at < w → skim (part w fine value (drop at p)) ≡ failed 4
  part_short h = rw (lt-leb w (length (drop at p)) (simp length-drop (omega arith)))

  pub part_bad : at + w ≤ length p → fine (drop at p) ≡ false → skim (part w fine value (drop at p)) ≡ failed 5
  part_bad h e = rw (le-leb w (length (drop at p)) (simp length-drop (omega arith)), e)

-- ## Many parts: read in a loop, of which k are left

module _ {A : Type 0} (R : List ℕ → Parsed A) where
  on : (k : ℕ) (bs l : List ℕ) → skim (R bs) ≡ left l → skim (many R (suc k) bs) ≡ skim (many R k l)
  unfolding many
  on k bs l e = let (a, q) = was_left (R bs) e in rw q (keeps (many R k l) (λ x. a ∷ x))

  off : (k : ℕ) (bs : List ℕ) {n : ℕ} → skim (R bs) ≡ failed n → skim (many R (suc k) bs) ≡ failed n
  unfolding many
  off k bs e = rw (was_failed (R bs) e)

  -- one part read, the rest of them after it
  pub turn : (k m : ℕ) (bs l : List ℕ) (x : Rest) → k ≡ suc m → skim (R bs) ≡ left l → skim (many R k bs) ≡ x → skim (many R m l) ≡ x
  turn k m bs l x h e q = sym (on m bs l e) ∙ subst (λ (n : ℕ). skim (many R n bs) ≡ x) h q

  -- a part that fails
  pub stop : (k m : ℕ) (bs : List ℕ) {n : ℕ} (x : Rest) → k ≡ suc m → skim (R bs) ≡ failed n → skim (many R k bs) ≡ x → x ≡ failed n
  stop k m bs x h e q = sym (subst (λ (n : ℕ). skim (many R n bs) ≡ x) h q) ∙ off m bs e

  -- none left
  pub done : (k : ℕ) (bs : List ℕ) (x : Rest) → k ≤ 0 → skim (many R k bs) ≡ x → x ≡ left bs
  unfolding many
  done zero bs x h q = sym q
  done (suc k) bs x h q = absurd (omega arith)

-- the byte at a place is the first of what is left there
pub first_of : (p : List ℕ) (at : ℕ) → byte (drop at p) 0 ≡ get_or p at 0
first_of p at = let z : at + 0 ≡ at = omega arith in get_or-drop at p 0 0 ∙ ap (λ (i : ℕ). get_or p i 0) z

-- a part that fits and is fine says what stands there
pub part_is : {A : Type 0} (w : ℕ) (fine : List ℕ → Bool) (value : List ℕ → A) (bs : List ℕ) → w ≤ length bs → fine bs ≡ true
    → part w fine value bs ≡ ok (value bs) (drop w bs)
part_is w fine value bs h e = rw (le-leb w (length bs) h, e)
