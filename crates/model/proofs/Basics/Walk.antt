-- Where parts stand in bytes, one after the other: the walk along them, and parts of one width read as a list. Assumes nothing.
use mathlib.Core.Path.{◌≡◌, refl, sym, ap, ap₂, subst, ◌∙◌}
use mathlib.Core.List.{List, [], ◌∷◌, ◌++◌, map, append-nil, append_assoc}
use Prim.Native.Nat.{ℕ, zero, suc, ◌+◌, ◌*◌, ◌≤◌, ◌<◌}
use native.Mathlib.Omega.{arith}
use lib.ListN.{length, drop, get_or, length-append, get_or-append}
use lib.Seq.{drop-append_seam, drop_at, drop-drop, get_or-drop}
use Rattle.model.specs.Lists.{All, empty, more, each}
use Rattle.model.specs.Reader.{byte, word}
use Rattle.model.specs.Places.{list_at}

-- what holds of each holds by number
pub all_at : {A : Type 0} {P : A → Type 0} {xs : List A} (d : A) → All P xs → (i : ℕ) → i < length xs → P (get_or xs i d)
all_at d empty i h = absurd (omega arith)
all_at d (more p a) zero h = p
all_at d (more p a) (suc i) h = all_at d a i (omega arith)

-- ## Bytes from a place on

-- byte number i from p on
pub byte_drop : (bs : List ℕ) (p i : ℕ) → byte bs (p + i) ≡ byte (drop p bs) i
byte_drop bs p i = sym (get_or-drop p bs i 0)

-- the byte at p is the first from p on
pub first_drop : (bs : List ℕ) (p : ℕ) → byte bs p ≡ byte (drop p bs) 0
first_drop bs p =
    let e : p ≡ p + 0 = omega arith in
    ap (byte bs) e ∙ byte_drop bs p 0

-- the number at p is the first from p on
pub word_drop : (bs : List ℕ) (p : ℕ) → word bs p ≡ word (drop p bs) 0
word_drop bs p =
    let e : suc p ≡ p + 1 = omega arith in
    ap₂ (λ a b. a * 256 + b) (first_drop bs p) (ap (byte bs) e ∙ byte_drop bs p 1)

-- ## Where a part stands

-- the part stands at p in the bytes, whole
pub record Stands (bs : List ℕ) (p : ℕ) (part : List ℕ) : Type 0 where
  pub rest : List ℕ
  pub same : drop p bs ≡ part ++ rest
  pub fits : p + length part ≤ length bs

-- the whole stands at 0
pub stands_whole : {bs part : List ℕ} → bs ≡ part → Stands bs 0 part
stands_whole {bs} {part} e = record { rest = []; same = e ∙ sym (append-nil part); fits = omega (arith, ap length e) }

-- byte i of a part that stands at p
pub stands_byte : {bs part : List ℕ} {p : ℕ} → Stands bs p part → (i : ℕ) → i < length part → byte bs (p + i) ≡ byte part i
stands_byte {bs} {part} {p} h i k = byte_drop bs p i ∙ ap (λ l. byte l i) h.same ∙ get_or-append part h.rest 0 i k

-- what is told of a part with anything after it is told where the part stands
pub stands_says : {A : Type 0} {bs part : List ℕ} {p : ℕ} {x : A} (value : List ℕ → A) → ((r : List ℕ) → value (part ++ r) ≡ x) → Stands bs p part → value (drop p bs) ≡ x
stands_says value back h = ap value h.same ∙ back h.rest

module _ (bs : List ℕ) (p : ℕ) (x y : List ℕ) (h : Stands bs p (x ++ y)) where
  -- the first of two parts
  pub stands_first : Stands bs p x
  stands_first = record { rest = y ++ h.rest; same = h.same ∙ append_assoc x y h.rest; fits = omega (arith, length-append x y) }

  -- the second of two parts
  pub stands_second : Stands bs (p + length x) y
  stands_second =
      record {
        rest = h.rest;
        same = sym (drop-drop (length x) p bs) ∙ ap (drop (length x)) (h.same ∙ append_assoc x y h.rest) ∙ drop-append_seam x (y ++ h.rest);
        fits = omega (arith, length-append x y);
      }

-- the same part at an equal place
pub stands_at : {bs part : List ℕ} {p q : ℕ} → p ≡ q → Stands bs p part → Stands bs q part
stands_at {bs} {part} e h = subst (λ n. Stands bs n part) e h

-- ## The walk

module _ {A : Type 0} (f : A → List ℕ) (len : List ℕ → ℕ) (In : A → Type 0) (sized : (x : A) (r : List ℕ) → In x → len (f x ++ r) ≡ length (f x)) (bs : List ℕ) (d : A) where
  -- parts one after the other, each place the one before and the length told there: part e stands at place e
  pub walk : {xs : List A} (place : ℕ → ℕ) → ((e : ℕ) → place (suc e) ≡ place e + len (drop (place e) bs)) → All In xs → Stands bs (place 0) (each f xs)
      → (e : ℕ) → e < length xs → Stands bs (place e) (f (get_or xs e d))
  unfolding each
  walk place next empty h e k = absurd (omega arith)
  walk place next (more {x = x} {xs = xs} i a) h zero k = stands_first bs (place 0) (f x) (each f xs) h
  walk place next (more {x = x} {xs = xs} i a) h (suc e) k =
      let first = stands_first bs (place 0) (f x) (each f xs) h in
      let size : len (drop (place 0) bs) ≡ length (f x) = stands_says len (λ r. sized x r i) first in
      let there : place 0 + length (f x) ≡ place 1 = sym (next 0 ∙ ap (λ n. place 0 + n) size) in
      walk (λ j. place (suc j)) (λ j. next (suc j)) a (stands_at there (stands_second bs (place 0) (f x) (each f xs) h)) e (omega arith)

-- ## Parts of one width

module _ {A : Type 0} (f : A → List ℕ) (w : ℕ) (sized : (x : A) → length (f x) ≡ w) where
  -- the length of all
  pub each_length : (xs : List A) → length (each f xs) ≡ length xs * w
  unfolding each
  each_length [] = omega arith
  each_length (x ∷ xs) = length-append (f x) (each f xs) ∙ omega (arith, sized x, each_length xs)

  -- parts written are the list that stands there
  pub list_back : (value : List ℕ → A) (In : A → Type 0) → ((x : A) (r : List ℕ) → In x → value (f x ++ r) ≡ x) → {xs : List A} → All In xs → (r : List ℕ)
      → list_at value w (length xs) (each f xs ++ r) ≡ xs
  unfolding each list_at
  list_back value In back empty r = refl
  list_back value In back (more {x = x} {xs = xs} h a) r =
      let e = append_assoc (f x) (each f xs) r in
      let t = list_back value In back a r in
      rw (e, back x (each f xs ++ r) h, drop_at (f x) (each f xs ++ r) w (sized x), t)

  -- something read of each of them is that of each of the list
  pub list_read : {B : Type 0} (value : List ℕ → B) (h : A → B) (In : A → Type 0) → ((x : A) (r : List ℕ) → In x → value (f x ++ r) ≡ h x) → {xs : List A} → All In xs → (r : List ℕ)
      → list_at value w (length xs) (each f xs ++ r) ≡ map h xs
  unfolding each list_at
  list_read value h In back empty r = refl
  list_read value h In back (more {x = x} {xs = xs} i a) r =
      let e = append_assoc (f x) (each f xs) r in
      let t = list_read value h In back a r in
      rw (e, back x (each f xs ++ r) i, drop_at (f x) (each f xs ++ r) w (sized x), t)

module _ {A : Type 0} (value : List ℕ → A) (w : ℕ) where
  -- n parts are read
  pub list_length : (n : ℕ) (bs : List ℕ) → length (list_at value w n bs) ≡ n
  unfolding list_at
  list_length zero bs = refl
  list_length (suc n) bs = ap suc (list_length n (drop w bs))

  -- part i of a list
  pub list_part : (n : ℕ) (bs : List ℕ) (d : A) (i : ℕ) → i < n → get_or (list_at value w n bs) i d ≡ value (drop (i * w) bs)
  unfolding list_at
  list_part zero bs d i h = absurd (omega arith)
  list_part (suc n) bs d zero h = let e : 0 * w ≡ 0 = omega arith in rw e
  list_part (suc n) bs d (suc i) h =
      let e : suc i * w ≡ w + i * w = omega arith in
      list_part n (drop w bs) d i (omega arith) ∙ ap value (drop-drop (i * w) w bs) ∙ ap (λ k. value (drop k bs)) (sym e)
