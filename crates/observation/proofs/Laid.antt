-- Four clocks and four variables of which a node has the first k, and their bytes put one run after the other. Assumes nothing.
use mathlib.Core.Path.{◌≡◌, refl, sym, ap, ◌∙◌}
use mathlib.Core.Bool.{cond}
use mathlib.Core.List.{List, [], ◌∷◌, ◌++◌, map, append_assoc, append-nil, map-id}
use Prim.Native.Nat.{ℕ, zero, suc, ◌+◌, ◌≤◌}
use native.Mathlib.Nat.{add-zero, add-suc, suc-add}
use native.Mathlib.Omega.{arith}
use lib.Dec.{ltb}
use lib.IntN.{ℤ, pos}
use lib.ListN.{length, set, take, get_or, length-append}
use lib.Seq.{sets}
use Rattle.model.specs.Lists.{All, empty, more, each, be16}
use Rattle.model.specs.Bytes.{unsigned}
use Rattle.model.specs.Network.{Observation}
use Rattle.model.specs.Run.{be32, four, observation_bytes, Written, written_bytes}
use Rattle.model.proofs.Observations.Size.{clocks_long, observation_long}

-- each is bounded, and so is what stands at a place
pub bounded : (m : ℕ) {xs : List ℕ} → All (λ x. x ≤ m) xs → (i : ℕ) → get_or xs i 0 ≤ m
bounded m empty i = omega arith
bounded m (more h a) zero = h
bounded m (more h a) (suc i) = bounded m a i

-- a run of stores after a run of stores
sets_append : (xs ys l : List ℕ) (i : ℕ) → sets l i (xs ++ ys) ≡ sets (sets l i xs) (i + length xs) ys
sets_append [] ys l i = rw add-zero
sets_append (x ∷ xs) ys l i = rw (add-suc, ← suc-add) (sets_append xs ys (set l i x) (suc i))

-- a run after a run
joined : (o x y : List ℕ) (at : ℕ) {p q : List ℕ} {m : ℕ} → p ≡ sets o at x → q ≡ sets p m y → m ≡ at + length x → q ≡ sets o at (x ++ y)
joined o x y at a b e = b ∙ rw (a, e) (sym (sets_append x y o at))

module _ {A : Type 0} (f : A → List ℕ) (w : ℕ) (sized : (x : A) → length (f x) ≡ w) where
  -- four runs of one width
  four_put : (o : List ℕ) (at i j k : ℕ) (a b c d : A) {p q r s : List ℕ} → i ≡ w → j ≡ w + w → k ≡ w + w + w → p ≡ sets o at (f a)
      → q ≡ sets p (at + i) (f b) → r ≡ sets q (at + j) (f c) → s ≡ sets r (at + k) (f d) → s ≡ sets o at (each f (a ∷ b ∷ c ∷ d ∷ []))
  unfolding each
  four_put o at i j k a b c d hi hj hk ea eb ec ed =
      let two = length-append (f a) (f b) in
      let three = length-append (f a ++ f b) (f c) in
      let x = joined o (f a) (f b) at ea eb (omega (arith, sized a)) in
      let y = joined o (f a ++ f b) (f c) at x ec (omega (arith, sized a, sized b)) in
      let z = joined o ((f a ++ f b) ++ f c) (f d) at y ed (omega (arith, sized a, sized b, sized c)) in
      let e : ((f a ++ f b) ++ f c) ++ f d ≡ f a ++ (f b ++ (f c ++ (f d ++ []))) = simp (append_assoc, append-nil) in
      z ∙ ap (λ (l : List ℕ). sets o at l) e

-- the four of which the first k are there
first_four : {A : Type 0} (z d : A) (f : A → A) (k : ℕ) (xs : List A) → k ≤ 4 → length xs ≡ 4
    → four z (map f (take k xs)) ≡ cond (ltb 0 k) (f (get_or xs 0 d)) z ∷ cond (ltb 1 k) (f (get_or xs 1 d)) z ∷ cond (ltb 2 k) (f (get_or xs 2 d)) z ∷ cond (ltb 3 k) (f (get_or xs 3 d)) z ∷ []
first_four z d f k (a ∷ b ∷ c ∷ e ∷ []) h l = go k h
  where
    go : (k : ℕ) → k ≤ 4 → four z (map f (take k (a ∷ b ∷ c ∷ e ∷ []))) ≡ cond (ltb 0 k) (f a) z ∷ cond (ltb 1 k) (f b) z ∷ cond (ltb 2 k) (f c) z ∷ cond (ltb 3 k) (f e) z ∷ []
    go zero h = refl
    go (suc zero) h = refl
    go (suc (suc zero)) h = refl
    go (suc (suc (suc zero))) h = refl
    go (suc (suc (suc (suc zero)))) h = refl
    go (suc (suc (suc (suc (suc k))))) h = absurd (omega arith)
first_four z d f k [] h l = absurd (omega arith)
first_four z d f k (a ∷ []) h l = absurd (omega arith)
first_four z d f k (a ∷ b ∷ []) h l = absurd (omega arith)
first_four z d f k (a ∷ b ∷ c ∷ []) h l = absurd (omega arith)
first_four z d f k (a ∷ b ∷ c ∷ e ∷ g ∷ xs) h l = absurd (omega arith)

-- the four clocks put one after the other
pub clocks_put : (o : List ℕ) (at n k : ℕ) (xs : List ℕ) {a b c d : ℕ} {p q r s : List ℕ} → k ≤ 4 → length xs ≡ 4
    → a ≡ cond (ltb 0 k) (get_or xs 0 0 + n) 0 → b ≡ cond (ltb 1 k) (get_or xs 1 0 + n) 0 → c ≡ cond (ltb 2 k) (get_or xs 2 0 + n) 0 → d ≡ cond (ltb 3 k) (get_or xs 3 0 + n) 0
    → p ≡ sets o at (be32 a) → q ≡ sets p (at + 4) (be32 b) → r ≡ sets q (at + 8) (be32 c) → s ≡ sets r (at + 12) (be32 d)
    → s ≡ sets o at (each be32 (four 0 (map (λ x. x + n) (take k xs))))
clocks_put o at n k xs {a} {b} {c} {d} h l ea eb ec ed ep eq er es =
    let all : four 0 (map (λ x. x + n) (take k xs)) ≡ a ∷ b ∷ c ∷ d ∷ [] = rw (ea, eb, ec, ed) (first_four 0 0 (λ x. x + n) k xs h l) in
    four_put be32 4 (λ x. refl) o at 4 8 12 a b c d refl refl refl ep eq er es ∙ ap (λ (t : List ℕ). sets o at (each be32 t)) (sym all)

-- the four variables put one after the other
pub values_put : (o : List ℕ) (at k : ℕ) (zs : List ℤ) {a b c d : ℕ} {x y z w : ℤ} {p q r s : List ℕ} → k ≤ 4 → length zs ≡ 4
    → x ≡ get_or zs 0 (pos 0) → y ≡ get_or zs 1 (pos 0) → z ≡ get_or zs 2 (pos 0) → w ≡ get_or zs 3 (pos 0)
    → a ≡ unsigned (cond (ltb 0 k) x (pos 0)) → b ≡ unsigned (cond (ltb 1 k) y (pos 0)) → c ≡ unsigned (cond (ltb 2 k) z (pos 0)) → d ≡ unsigned (cond (ltb 3 k) w (pos 0))
    → p ≡ sets o at (be16 a) → q ≡ sets p (at + 2) (be16 b) → r ≡ sets q (at + 4) (be16 c) → s ≡ sets r (at + 6) (be16 d)
    → s ≡ sets o at (each (λ z. be16 (unsigned z)) (four (pos 0) (take k zs)))
unfolding each
values_put o at k zs h l ex ey ez ew ea eb ec ed ep eq er es =
    let all = ap (four (pos 0)) (sym (map-id (take k zs))) ∙ first_four (pos 0) (pos 0) (λ z. z) k zs h l in
    four_put be16 2 (λ x. refl) o at 2 4 6 _ _ _ _ refl refl refl ep eq er es
    ∙ rw (ea, eb, ec, ed, ex, ey, ez, ew) (ap (λ (t : List ℤ). sets o at (each (λ z. be16 (unsigned z)) t)) (sym all))

-- the observation's four runs put one after the other
pub observation_put : (o : List ℕ) (at : ℕ) (v : Observation) {p q r s : List ℕ}
    → p ≡ sets o at (v.component ∷ v.edge ∷ v.location ∷ 0 ∷ []) → q ≡ sets p (at + 4) (be32 v.tick) → r ≡ sets q (at + 8) (each be32 (four 0 v.clocks))
    → s ≡ sets r (at + 24) (each (λ z. be16 (unsigned z)) (four (pos 0) v.values))
    → s ≡ sets o at (observation_bytes v)
unfolding observation_bytes
observation_put o at v ep eq er es =
    let head = v.component ∷ v.edge ∷ v.location ∷ 0 ∷ [] in
    let clocks = each be32 (four 0 v.clocks) in
    let values = each (λ z. be16 (unsigned z)) (four (pos 0) v.values) in
    let three = length-append (head ++ be32 v.tick) clocks in
    let x = joined o head (be32 v.tick) at ep eq refl in
    let y = joined o (head ++ be32 v.tick) clocks at x er refl in
    let z = joined o ((head ++ be32 v.tick) ++ clocks) values at y es (omega (arith, clocks_long v.clocks)) in
    z ∙ ap (λ (l : List ℕ). sets o at l) (append_assoc (head ++ be32 v.tick) clocks values)

-- the tick behind the 32 bytes
pub written_put : (o : List ℕ) (at : ℕ) (w : Written) {p q : List ℕ} → p ≡ sets o at (observation_bytes w.observation) → q ≡ sets p (at + 32) (be32 w.previous) → q ≡ sets o at (written_bytes w)
written_put o at w ep eq = joined o (observation_bytes w.observation) (be32 w.previous) at ep eq (omega (arith, observation_long w.observation))
