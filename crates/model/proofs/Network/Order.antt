-- Works finished in any order, each in its window, are a passing of the network in the order of their ticks. Assumes nothing.
use mathlib.Core.Path.{◌≡◌, refl, sym, ap, subst, ◌∙◌}
use mathlib.Core.Bool.{Bool, true, false, cond}
use mathlib.Core.List.{List, [], ◌∷◌, ◌++◌, append-nil}
use mathlib.Core.Option.{Option, none, some}
use Prim.Native.Nat.{ℕ, zero, suc, ◌+◌, ◌-◌, ◌≤◌, ◌<◌}
use native.Mathlib.Omega.{arith}
use borrow.Author.Tests.{ltb-true, ltb-false}
use lib.Dec.{ltb}
use lib.Seq.{append_snoc}
use Rattle.model.specs.Lists.{All, empty, more}
use Rattle.model.specs.Table.{Table, size, component_of}
use Rattle.model.specs.Schedule.{Passage}
use Rattle.model.specs.Network.{Work, one, two}
use Rattle.model.specs.Order.{work_tick, placed, placed_all}
use Rattle.model.proofs.Schedule.Own.{all_then}
use Rattle.model.proofs.Network.Steps.{Alone}
use Rattle.model.proofs.Network.Passing.{Passing, Partners, passing_tick, passing_alone, passing_together}

-- ## One work

-- the first of these passages is finished, or none is
abbrev pub Moved : Option Passage → List Passage → List Passage → Type 0
Moved none xs ys = ys ≡ xs
Moved (some v) xs ys = xs ≡ v ∷ ys

-- the passages that a work finishes: at c, or at a sender and its receiver
pub data Does (T : Table) (at : ℕ → Option Passage) : Work → Type 0 where
  alone : (c τ : ℕ) → c < size T → (v : Passage) → at c ≡ some v → ((d : ℕ) → d < size T → (d ≡ c → ⊥) → at d ≡ none) → Alone (component_of T c) τ v → Does T at (one c τ)
  both : (a b k τ : ℕ) → a < size T → b < size T → (v w : Passage) → at a ≡ some v → at b ≡ some w
      → ((d : ℕ) → d < size T → (d ≡ a → ⊥) → (d ≡ b → ⊥) → at d ≡ none) → Partners T a v b w k → Does T at (two a b k τ)

-- a work takes the passages ahead from A to B, each in its window
pub record Fires (T : Table) (w : Work) (A B : ℕ → List Passage) : Type 0 where
  pub at : ℕ → Option Passage
  pub moved : (d : ℕ) → d < size T → Moved (at d) (A d) (B d)
  pub timely : (d : ℕ) → d < size T → (v : Passage) → at d ≡ some v → (v.ready ≤ work_tick w) × (work_tick w ≤ v.end)
  pub is : Does T at w

-- works one after the other
pub data Comes (T : Table) : (ℕ → List Passage) → List Work → (ℕ → List Passage) → Type 0 where
  stop : {A Z : ℕ → List Passage} → ((d : ℕ) → d < size T → Z d ≡ A d) → Comes T A [] Z
  next : {A B Z : ℕ → List Passage} {w : Work} {ws : List Work} → Fires T w A B → Comes T B ws Z → Comes T A (w ∷ ws) Z

-- ## Passages in turn

-- each begins when the one before has ended
abbrev pub After : Passage → List Passage → Type 0
After v [] = Unit {0}
After v (w ∷ ws) = v.end ≤ w.ready

abbrev pub InTurn : List Passage → Type 0
InTurn [] = Unit {0}
InTurn (v ∷ vs) = After v vs × InTurn vs

abbrev pub Ordered : Table → (ℕ → List Passage) → Type 0
Ordered T A = (d : ℕ) → d < size T → InTurn (A d)

-- works in the order of their ticks
abbrev pub Sorted : List Work → Type 0
Sorted [] = Unit {0}
Sorted (x ∷ xs) = All (λ y. work_tick x ≤ work_tick y) xs × Sorted xs

module _ (T : Table) where
  -- still so after a work
  ordered_on : {w : Work} {A B : ℕ → List Passage} → Ordered T A → Fires T w A B → Ordered T B
  ordered_on {w} {A} {B} o f d h = go (f.at d) (f.moved d h)
    where
      go : (x : Option Passage) → Moved x (A d) (B d) → InTurn (B d)
      go none e = subst InTurn (sym e) (o d h)
      go (some v) e = (let i : InTurn (v ∷ B d) = subst InTurn e (o d h) in i.1)

  -- ## A work before another one that has a later tick

  module _ {x w : Work} {A B D : ℕ → List Passage} (o : Ordered T A) (f : Fires T x A B) (g : Fires T w B D) (l : work_tick w < work_tick x) where
    -- they finish different passages of different components
    apart : (d : ℕ) → d < size T → (u v : Passage) → f.at d ≡ some u → g.at d ≡ some v → ⊥
    apart d h u v p q =
        let i : A d ≡ u ∷ B d = subst (λ (y : Option Passage). Moved y (A d) (B d)) p (f.moved d h) in
        let j : B d ≡ v ∷ D d = subst (λ (y : Option Passage). Moved y (B d) (D d)) q (g.moved d h) in
        let t : InTurn (u ∷ v ∷ D d) = subst InTurn (i ∙ ap (λ (y : List Passage). u ∷ y) j) (o d h) in
        omega (arith, t.0, f.timely d h u p, g.timely d h v q)

    -- the passages ahead once the second has come first
    abbrev middle : Option Passage → List Passage → List Passage → List Passage
    middle none as' ds = as'
    middle (some v) as' ds = ds

    abbrev M : ℕ → List Passage
    M d = middle (g.at d) (A d) (D d)

    earlier : (d : ℕ) → d < size T → Moved (g.at d) (A d) (M d)
    earlier d h = go (f.at d) refl (f.moved d h) (g.at d) refl (g.moved d h)
      where
        go : (p : Option Passage) → f.at d ≡ p → Moved p (A d) (B d) → (q : Option Passage) → g.at d ≡ q → Moved q (B d) (D d) → Moved q (A d) (middle q (A d) (D d))
        go p e a none i b = refl
        go none e a (some v) i b = sym a ∙ b
        go (some u) e a (some v) i b = absurd (apart d h u v e i)

    after : (d : ℕ) → d < size T → Moved (f.at d) (M d) (D d)
    after d h = go (f.at d) refl (f.moved d h) (g.at d) refl (g.moved d h)
      where
        go : (p : Option Passage) → f.at d ≡ p → Moved p (A d) (B d) → (q : Option Passage) → g.at d ≡ q → Moved q (B d) (D d) → Moved p (middle q (A d) (D d)) (D d)
        go none e a none i b = b ∙ a
        go none e a (some v) i b = refl
        go (some u) e a none i b = a ∙ ap (λ (y : List Passage). u ∷ y) (sym b)
        go (some u) e a (some v) i b = absurd (apart d h u v e i)

    -- so they change places
    pub swapped : (N : ℕ → List Passage) × Fires T w A N × Fires T x N D
    swapped = (
      M,
      record { at = g.at; moved = earlier; timely = g.timely; is = g.is },
      record { at = f.at; moved = after; timely = f.timely; is = f.is },
    )

  -- ## A work before all that have a later tick

  pub in_front : (xs : List Work) {w : Work} {A Z D : ℕ → List Passage} → Ordered T A → Comes T A xs Z → All (λ x. work_tick w < work_tick x) xs → Fires T w Z D
      → (N : ℕ → List Passage) × Fires T w A N × Comes T N xs D
  in_front [] {w} {A} {Z} {D} o (stop e) l f = (
    D,
    record { at = f.at; moved = λ d h. subst (λ (y : List Passage). Moved (f.at d) y (D d)) (e d h) (f.moved d h); timely = f.timely; is = f.is },
    stop (λ d h. refl),
  )
  in_front (x ∷ xs) o (next g c) (more l ls) f =
      let r = in_front xs (ordered_on o g) c ls f in
      let s = swapped o g r.1 l in
      (s.0, s.1, next s.2 r.2)

  -- ## In the order of ticks

  -- what holds of a work and of each of the others holds of each once it is placed
  pub all_placed : {P : Work → Type 0} (w : Work) (xs : List Work) → P w → All P xs → All P (placed w xs)
  unfolding placed
  all_placed w [] p a = more p empty
  all_placed {P} w (x ∷ xs) p (more q a) = go (ltb (work_tick w) (work_tick x)) (all_placed w xs p a)
    where
      go : (t : Bool) → All P (placed w xs) → All P (cond t (w ∷ x ∷ xs) (x ∷ placed w xs))
      go true r = more p (more q a)
      go false r = more q r

  pub placed_sorted : (w : Work) (xs : List Work) → Sorted xs → Sorted (placed w xs)
  unfolding placed
  placed_sorted w [] s = (empty, tt)
  placed_sorted w (x ∷ xs) s = go (ltb (work_tick w) (work_tick x)) refl (placed_sorted w xs s.1)
    where
      go : (t : Bool) → ltb (work_tick w) (work_tick x) ≡ t → Sorted (placed w xs) → Sorted (cond t (w ∷ x ∷ xs) (x ∷ placed w xs))
      go true e r =
          let l = ltb-true (work_tick w) (work_tick x) e in
          (more (let z : work_tick w ≤ work_tick x = omega arith in z) (all_then (λ y k. let z : work_tick w ≤ work_tick y = omega (arith, k) in z) s.0), s)
      go false e r = (all_placed w xs (ltb-false (work_tick w) (work_tick x) e) s.0, r)

  -- a work that comes last takes its place among works in order
  pub comes_placed : (xs : List Work) {w : Work} {A Z D : ℕ → List Passage} → Ordered T A → Sorted xs → Comes T A xs Z → Fires T w Z D → Comes T A (placed w xs) D
  unfolding placed
  comes_placed [] o s c f = let r = in_front [] o c empty f in next r.1 r.2
  comes_placed (x ∷ xs) {w} {A} {Z} {D} o s (next {B = B} g c) f = go (ltb (work_tick w) (work_tick x)) refl (comes_placed xs (ordered_on o g) s.1 c f)
    where
      go : (t : Bool) → ltb (work_tick w) (work_tick x) ≡ t → Comes T B (placed w xs) D → Comes T A (cond t (w ∷ x ∷ xs) (x ∷ placed w xs)) D
      go true e r =
          let l = ltb-true (work_tick w) (work_tick x) e in
          let i = in_front (x ∷ xs) o (next g c) (more l (all_then (λ y k. omega (arith, k)) s.0)) f in
          next i.1 i.2
      go false e r = next g r

  -- so all of them
  pub comes_sorted : (ws xs : List Work) {A Z D : ℕ → List Passage} → Ordered T A → Sorted xs → Comes T A xs Z → Comes T Z ws D → (Comes T A (placed_all xs ws) D) × Sorted (placed_all xs ws)
  unfolding placed_all
  comes_sorted [] xs {A} {Z} {D} o s c (stop e) = (over c e, s)
    where
      over : {A Z D : ℕ → List Passage} {ys : List Work} → Comes T A ys Z → ((d : ℕ) → d < size T → D d ≡ Z d) → Comes T A ys D
      over (stop i) j = stop (λ d h. j d h ∙ i d h)
      over (next g k) j = next g (over k j)
  comes_sorted (w ∷ ws) xs o s c (next f k) = comes_sorted ws (placed w xs) o (placed_sorted w xs s) (comes_placed xs o s c f) k

  -- ## The path

  module _ (H : ℕ) (S : List Passage) where
    -- up to a tick before which no passage ahead ends
    ticks_to : (n : ℕ) {τ : ℕ} {A : ℕ → List Passage} {us : List Work} → Passing T H S τ A us → τ + n ≤ H
        → ((d : ℕ) → d < size T → (v : Passage) (vs : List Passage) → A d ≡ v ∷ vs → τ + n ≤ v.end) → Passing T H S (τ + n) A us
    ticks_to zero {τ} {A} {us} g b l = subst (λ (x : ℕ). Passing T H S x A us) (let z : τ ≡ τ + 0 = omega arith in z) g
    ticks_to (suc n) {τ} {A} {us} g b l =
        subst (λ (x : ℕ). Passing T H S x A us) (let z : suc τ + n ≡ τ + suc n = omega arith in z)
        (ticks_to n (passing_tick T H S g (omega arith) (λ c h v vs e r. omega (arith, l c h v vs e))) (omega arith) (λ d h v vs e. omega (arith, l d h v vs e)))

    -- no passage ahead ends before the works that come
    none_before : (m : ℕ) {A Z : ℕ → List Passage} {ws : List Work} → Comes T A ws Z → All (λ w. m ≤ work_tick w) ws
        → ((d : ℕ) → d < size T → (v : Passage) (vs : List Passage) → Z d ≡ v ∷ vs → m ≤ v.end)
        → (d : ℕ) → d < size T → (v : Passage) (vs : List Passage) → A d ≡ v ∷ vs → m ≤ v.end
    none_before m (stop e) a l d h v vs i = l d h v vs (e d h ∙ i)
    none_before m {A} {Z} (next {B = B} {w = w} f c) (more p a) l d h v vs i = go (λ e. none_before m c a l d h v vs e) (f.at d) refl (f.moved d h)
      where
        go : (B d ≡ v ∷ vs → m ≤ v.end) → (x : Option Passage) → f.at d ≡ x → Moved x (A d) (B d) → m ≤ v.end
        go ih none q e = ih (e ∙ i)
        go ih (some u) q e =
            let j : u ∷ B d ≡ v ∷ vs = sym e ∙ i in
            let k : u ≡ v = cc in
            omega (arith, p, f.timely d h u q, ap (λ (y : Passage). y.end) k)

    -- one work, now
    fires_now : {τ : ℕ} {w : Work} {A B : ℕ → List Passage} {us : List Work} → work_tick w ≡ τ → Passing T H S τ A us → Fires T w A B → Passing T H S τ B (us ++ (w ∷ []))
    fires_now {τ} {w} {A} {B} {us} i g f = go w i f.timely f.is
      where
        took : (d : ℕ) → d < size T → (v : Passage) → f.at d ≡ some v → A d ≡ v ∷ B d
        took d h v e = subst (λ (y : Option Passage). Moved y (A d) (B d)) e (f.moved d h)

        left : (d : ℕ) → d < size T → f.at d ≡ none → B d ≡ A d
        left d h e = subst (λ (y : Option Passage). Moved y (A d) (B d)) e (f.moved d h)

        go : (x : Work) → work_tick x ≡ τ → ((d : ℕ) → d < size T → (v : Passage) → f.at d ≡ some v → (v.ready ≤ work_tick x) × (work_tick x ≤ v.end)) → Does T f.at x
            → Passing T H S τ B (us ++ (x ∷ []))
        go x e t (alone c k h v p q a) =
            subst (λ (n : ℕ). Passing T H S τ B (us ++ (one c n ∷ []))) (sym e)
            (passing_alone T H S g c h v (B c) (took c h v p) (omega (arith, e, t c h v p)) (subst (λ (n : ℕ). Alone (component_of T c) n v) e a) B refl (λ d l n. left d l (q d l n)))
        go x e t (both a b k n ha hb v u p q o r) =
            subst (λ (m : ℕ). Passing T H S τ B (us ++ (two a b k m ∷ []))) (sym e)
            (passing_together T H S g a b k ha hb v u (B a) (B b) (took a ha v p) (took b hb u q) (omega (arith, e, t a ha v p)) (omega (arith, e, t b hb u q)) r B refl refl
            (λ d l m z. left d l (o d l m z)))

    -- works in order, then up to a tick before which nothing that is left ends
    pub passes : (ws : List Work) (m : ℕ) {τ : ℕ} {A Z : ℕ → List Passage} {us : List Work} → m ≤ H → τ ≤ m → Passing T H S τ A us → Comes T A ws Z → Sorted ws
        → All (λ w. (τ ≤ work_tick w) × (work_tick w ≤ m)) ws → ((d : ℕ) → d < size T → (v : Passage) (vs : List Passage) → Z d ≡ v ∷ vs → m ≤ v.end) → Passing T H S m Z (us ++ ws)
    passes [] m {τ} {A} {Z} {us} b l g (stop e) s a z =
        let k = ticks_to (m - τ) g (omega arith) (λ d h v vs i. omega (arith, z d h v vs (e d h ∙ i))) in
        let r : Passing T H S m A us = subst (λ (x : ℕ). Passing T H S x A us) (let q : τ + (m - τ) ≡ m = omega arith in q) k in
        subst (λ (x : List Work). Passing T H S m Z x) (sym (append-nil us))
        (record { path = r.path; lanes = r.lanes; reached = r.reached; aheads = λ c h. r.aheads c h ∙ sym (e c h) })
    passes (w ∷ ws) m {τ} {A} {Z} {us} b l g (next {B = B} f c) s (more p a) z =
        let n = work_tick w in
        let k = ticks_to (n - τ) g (omega (arith, p)) (λ d h v vs i.
        omega (arith, p, none_before n (next f c) (more (let q : n ≤ n = omega arith in q) s.0) (λ d h v vs i. omega (arith, p, z d h v vs i)) d h v vs i)) in
        let r : Passing T H S n A us = subst (λ (x : ℕ). Passing T H S x A us) (let q : τ + (n - τ) ≡ n = omega (arith, p) in q) k in
        let t : All (λ x. (n ≤ work_tick x) × (work_tick x ≤ m)) ws = both_of s.0 a in
        subst (λ (x : List Work). Passing T H S m Z x) (append_snoc us w ws)
        (passes ws m b (omega (arith, p)) (fires_now refl r f) c s.1 t z)
      where
        both_of : {xs : List Work} → All (λ y. work_tick w ≤ work_tick y) xs → All (λ y. (τ ≤ work_tick y) × (work_tick y ≤ m)) xs → All (λ y. (work_tick w ≤ work_tick y) × (work_tick y ≤ m)) xs
        both_of empty empty = empty
        both_of (more x y) (more u v) = more (x, u.1) (both_of y v)
