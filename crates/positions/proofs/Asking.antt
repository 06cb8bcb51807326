-- The pairs of a list of numbers, one after the other. Assumes nothing.
use Rattle.std.specs.Prelude.{Result, Ok, Err}
use Rattle.positions.specs.declared.BadPair.{BadPair}
use Rattle.positions.specs.declared.BadPair.TheVariants.{NotThere, Earlier}
use Rattle.positions.specs.Pairs.{number_of, number_tried}
use mathlib.Core.Path.{◌≡◌, refl, sym, ap, ◌∙◌}
use mathlib.Core.Bool.{Bool, true, false, cond, ◌&&◌}
use mathlib.Core.List.{List, [], ◌∷◌}
use Prim.Native.Nat.{ℕ, suc, ◌+◌, ◌/◌, ◌≤◌, ◌<◌, ◌*◌}
use native.Mathlib.Omega.{arith}
use borrow.Author.Tests.{lt-ltb, le-ltb}
use lib.Dec.{ltb}
use lib.ListN.{length, get_or, drop, length-drop}
use lib.Seq.{drop-cons}
use Rattle.model.specs.Table.{Read, size}
use Rattle.model.specs.Positions.{asked, bad_pair}

-- the pair at a place, and those after it
pub asked_next : (ps : List ℕ) (i : ℕ) → i + 1 < length ps → asked (drop i ps) ≡ record { component = get_or ps i 0; tick = get_or ps (i + 1) 0 } ∷ asked (drop (i + 2) ps)
asked_next ps i h =
    let a : suc i ≡ i + 1 = omega arith in
    let b : suc (i + 1) ≡ i + 2 = omega arith in
    ap asked (drop-cons ps i 0 (omega arith) ∙ ap (λ l. get_or ps i 0 ∷ l) (ap (λ k. drop k ps) a ∙ drop-cons ps (i + 1) 0 h ∙ ap (λ k. get_or ps (i + 1) 0 ∷ drop k ps) b))

-- none is left
short : (l : List ℕ) → length l ≤ 1 → asked l ≡ []
short [] h = refl
short (x ∷ []) h = refl
short (x ∷ y ∷ l) h = absurd (omega arith)

pub asked_done : (ps : List ℕ) (i : ℕ) → length ps ≤ i + 1 → asked (drop i ps) ≡ []
asked_done ps i h = short (drop i ps) (simp length-drop (omega arith))

-- two numbers a pair
pub asked_length : (ps : List ℕ) → length (asked ps) ≡ length ps / 2
asked_length [] = omega arith
asked_length (x ∷ []) = omega arith
asked_length (x ∷ y ∷ ps) = omega (arith, asked_length ps)

-- the pair after this one
pub pair_on : (pair : ℕ) → pair * 2 + 2 ≡ (pair + 1) * 2
pair_on pair = omega arith

-- what one pair says
module _ (t : Read) (ps : List ℕ) (i before x : ℕ) (h : i + 1 < length ps) (inv : bad_pair t before (asked (drop i ps)) ≡ x) where
  now : bad_pair t before (record { component = get_or ps i 0; tick = get_or ps (i + 1) 0 } ∷ asked (drop (i + 2) ps)) ≡ x
  now = ap (bad_pair t before) (sym (asked_next ps i h)) ∙ inv

  pub absent : size t.table ≤ get_or ps i 0 → ◌≡◌ {A = ℕ} 21 x
  absent q = rw (le-ltb (get_or ps i 0) (size t.table) q) at now

  pub too-late : t.horizon ≤ get_or ps (i + 1) 0 → ◌≡◌ {A = ℕ} 21 x
  too-late q = go (ltb (get_or ps i 0) (size t.table)) (rw (le-ltb (get_or ps (i + 1) 0) t.horizon q) at now)
    where
      go : (b : Bool) → cond (b && false) (cond (ltb (get_or ps (i + 1) 0) before) 24 (bad_pair t (get_or ps (i + 1) 0) (asked (drop (i + 2) ps)))) 21 ≡ x → ◌≡◌ {A = ℕ} 21 x
      go true e = e
      go false e = e

  module _ (there : get_or ps i 0 < size t.table) (early : get_or ps (i + 1) 0 < t.horizon) where
    asks : cond (ltb (get_or ps (i + 1) 0) before) 24 (bad_pair t (get_or ps (i + 1) 0) (asked (drop (i + 2) ps))) ≡ x
    asks = rw (lt-ltb (get_or ps i 0) (size t.table) there, lt-ltb (get_or ps (i + 1) 0) t.horizon early) at now

    pub earlier : get_or ps (i + 1) 0 < before → ◌≡◌ {A = ℕ} 24 x
    earlier q = rw (lt-ltb (get_or ps (i + 1) 0) before q) at asks

    pub goes_on : before ≤ get_or ps (i + 1) 0 → bad_pair t (get_or ps (i + 1) 0) (asked (drop (i + 2) ps)) ≡ x
    goes_on q = rw (le-ltb (get_or ps (i + 1) 0) before q) at asks

pub all_fine : (t : Read) (ps : List ℕ) (i before x : ℕ) → length ps ≤ i + 1 → bad_pair t before (asked (drop i ps)) ≡ x → ◌≡◌ {A = ℕ} 0 x
all_fine t ps i before x h inv = ap (bad_pair t before) (sym (asked_done ps i h)) ∙ inv

-- ## What was tried

pub refuses : (why : BadPair) → number_of why ≡ 0 → ⊥
refuses NotThere e = omega arith
refuses Earlier e = omega arith

pub tried_fine : {A : Type 0} (r : Result A BadPair) → ((why : BadPair) → r ≡ Err why → ⊥) → number_tried r ≡ 0
tried_fine (Ok done) h = refl
tried_fine (Err why) h = absurd (h why refl)
