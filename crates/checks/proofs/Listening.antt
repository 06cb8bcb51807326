-- The receive windows that may hear a send, as they are noted: a bit for each component, a bit if it listens again, and its row. Assumes nothing.
use mathlib.Core.Logic.{◌⊎◌, inl, inr, ⊎_elim}
use mathlib.Core.Path.{◌≡◌, refl, sym, ap, ◌∙◌}
use mathlib.Core.Bool.{Bool, true, false, cond}
use mathlib.Core.List.{List, [], ◌∷◌}
use Prim.Native.Nat.{ℕ, zero, suc, ◌+◌, ◌-◌, ◌*◌, ◌/◌, ◌%◌, ◌^◌, ◌≤◌, ◌<◌, max}
use native.Mathlib.Nat.{pow-suc, max-zero, max-eq_right}
use native.Mathlib.Omega.{arith}
use borrow.Author.Tests.{eq-eqb, ne_eqb}
use lib.Bits.{bit_or, or_zero_l, or_zero_r, or_step, or_add_and, and_le_l, and_le_r}
use lib.Dec.{eqb}
use lib.Pow.{pow_pos}
use lib.Count.{ones, count_trailing_zeros, ones_step, ones_cat}
use lib.ListN.{length, get_or, set, length-set}
use lib.Seq.{get_or-set_same}
use Rattle.model.specs.declared.Hearing.TheVariants.{Nobody, Several}
use Rattle.model.specs.Lists.{only, snoc}
use Rattle.model.specs.Schedule.{Passage}
use Rattle.model.specs.Checks.{hearing_of}
use Rattle.rows.specs.Rows.{num, row_passage, rows_from, RowsPlaced}
use Rattle.checks.specs.Listening.{repeated_with, Alone, Masks, Noted}
use Rattle.checks.proofs.Swept.{Near, back_in, back_out, Swept, swept_in, swept_out}

-- ## One bit

-- the count of ones and the trailing zeros of a power of two
ones_of_bit : (c : ℕ) → ones (2 ^ c) ≡ 1
unfolding ones
ones_of_bit c = let e : 2 ^ c ≡ 1 * 2 ^ c + 0 = omega arith in ap ones e ∙ ones_cat c 1 0 (pow_pos c)

half_of_bit : (c : ℕ) → 2 ^ suc c / 2 ≡ 2 ^ c
half_of_bit c = omega (arith, pow-suc 2 c)

even_bit : (c : ℕ) → 2 ^ suc c % 2 ≡ 0
even_bit c = omega (arith, pow-suc 2 c)

zeros_of_bit : (k c : ℕ) → c < k → count_trailing_zeros k (2 ^ c) ≡ c
unfolding count_trailing_zeros
zeros_of_bit zero c h = absurd (omega arith)
zeros_of_bit (suc k) zero h = refl
zeros_of_bit (suc k) (suc c) h = rw (even_bit c, half_of_bit c) (ap suc (zeros_of_bit k c (omega arith)))

no_ones : ones 0 ≡ 0
unfolding ones
no_ones = refl

-- a digit below a number's other digits
ones_low : (n q d : ℕ) → n ≡ q * 2 + d → d < 2 → ones n ≡ ones q + d
ones_low n q d e h =
    let half : n / 2 ≡ q = omega arith in
    let low : n % 2 ≡ d = omega arith in
    omega (arith, ones_step n, ap ones half)

-- a bit that is set changes nothing, or adds one to the count
pub set_bit : (m c : ℕ) → (bit_or m (2 ^ c) ≡ m) ⊎ (ones (bit_or m (2 ^ c)) ≡ ones m + 1)
set_bit m zero = go (m % 2) refl
  where
    or_one : bit_or m 1 ≡ m / 2 * 2 + 1
    or_one =
        let top : max (m % 2) 1 ≡ 1 = max-eq_right (omega arith) in
        or_step m 1 ∙ rw (or_zero_r (m / 2), top)

    go : (d : ℕ) → m % 2 ≡ d → (bit_or m 1 ≡ m) ⊎ (ones (bit_or m 1) ≡ ones m + 1)
    go zero e = inr (omega (arith, ones_low (bit_or m 1) (m / 2) 1 or_one (omega arith), ones_step m))
    go (suc zero) e = inl (omega (arith, or_one))
    go (suc (suc d)) e = absurd (omega arith)
set_bit m (suc c) =
    ⊎_elim
    (λ e. inl (omega (arith, low, e)))
    (λ e. inr (omega (arith, ones_low (bit_or m (2 ^ suc c)) (bit_or (m / 2) (2 ^ c)) (m % 2) low (omega arith), ones_step m, e)))
    (set_bit (m / 2) c)
  where
    low : bit_or m (2 ^ suc c) ≡ bit_or (m / 2) (2 ^ c) * 2 + m % 2
    low = or_step m (2 ^ suc c) ∙ rw (half_of_bit c, even_bit c, max-zero (m % 2))

or_le_l : (a b : ℕ) → a ≤ bit_or a b
or_le_l a b = omega (arith, or_add_and a b, and_le_r a b)

or_le_r : (a b : ℕ) → b ≤ bit_or a b
or_le_r a b = omega (arith, or_add_and a b, and_le_l a b)

-- ## What is noted

pub noted_none : (l rows : List ℕ) (n : ℕ) → length rows ≡ 8 → Noted l n [] 0 0 rows
noted_none l rows n h = record { masks = (refl, refl); room = h }

-- where a component listens, one does so with one more window
still_one : (m c : ℕ) → 1 ≤ ones m → 1 ≤ ones (bit_or m (2 ^ c))
still_one m c h = ⊎_elim (λ e. omega (arith, h, ap ones e)) (λ e. omega (arith, e)) (set_bit m c)

-- .. and that window makes two components or one by more than one window ..
more_of_one : (m r c : ℕ) → 1 ≤ ones m → (1 ≤ ones (bit_or m (2 ^ c))) × ((2 ≤ ones (bit_or m (2 ^ c))) ⊎ (1 ≤ repeated_with m r c))
more_of_one m r c h = (
  still_one m c h,
  ⊎_elim
      (λ e. inr (rw (eq-eqb (bit_or m (2 ^ c)) m e) (omega (arith, or_le_r r (2 ^ c), pow_pos c))))
      (λ e. inl (omega (arith, e)))
      (set_bit m c),
)

-- .. and so it stays
more_of_several : (m r c : ℕ) → (1 ≤ ones m) × ((2 ≤ ones m) ⊎ (1 ≤ r)) → (1 ≤ ones (bit_or m (2 ^ c))) × ((2 ≤ ones (bit_or m (2 ^ c))) ⊎ (1 ≤ repeated_with m r c))
more_of_several m r c q = (
  still_one m c q.0,
  ⊎_elim (λ h. (more_of_one m r c q.0).1) (λ h. inr (go h (eqb (bit_or m (2 ^ c)) m))) q.1,
)
  where
    go : 1 ≤ r → (x : Bool) → 1 ≤ cond x (bit_or r (2 ^ c)) r
    go h true = omega (arith, or_le_l r (2 ^ c))
    go h false = h

module _ (l : List ℕ) (n : ℕ) (rows : List ℕ) (m r k c : ℕ) (h : k < n) (e : c ≡ num l k 0) (s : c < 8) where
  first_of_all : m ≡ 0 → r ≡ 0 → length rows ≡ 8 → Alone l n (row_passage l k) (bit_or m (2 ^ c)) (repeated_with m r c) (set rows c k)
  first_of_all y z room =
      record {
        row = k;
        there = h;
        is = refl;
        bit = ap (λ (x : ℕ). bit_or x (2 ^ c)) y ∙ or_zero_l (2 ^ c) ∙ ap (λ (x : ℕ). 2 ^ x) e;
        once = rw (ne_eqb (bit_or m (2 ^ c)) m (λ q. omega (arith, or_le_r m (2 ^ c), pow_pos c))) z;
        at = rw (← e) (get_or-set_same rows c k 0 (omega (arith, room)));
      }

  one_is_heard : (v : Passage) → Alone l n v m r rows → 1 ≤ ones m
  one_is_heard v a = let q : ones m ≡ 1 = ap ones a.bit ∙ ones_of_bit (num l a.row 0) in omega arith

  -- row k is noted, of component c, before the windows found ..
  pub noted_before : (found : List Passage) → Noted l n found m r rows → Noted l n (row_passage l k ∷ found) (bit_or m (2 ^ c)) (repeated_with m r c) (set rows c k)
  noted_before found q = record { masks = go found q.masks; room = length-set rows c k ∙ q.room }
    where
      go : (vs : List Passage) → Masks l n vs m r rows → Masks l n (row_passage l k ∷ vs) (bit_or m (2 ^ c)) (repeated_with m r c) (set rows c k)
      go [] a = first_of_all a.0 a.1 q.room
      go (v ∷ []) a = more_of_one m r c (one_is_heard v a)
      go (v ∷ w ∷ vs) a = more_of_several m r c a

  -- .. or after them
  pub noted_after : (found : List Passage) → Noted l n found m r rows → Noted l n (snoc found (row_passage l k)) (bit_or m (2 ^ c)) (repeated_with m r c) (set rows c k)
  noted_after found q = record { masks = go found q.masks; room = length-set rows c k ∙ q.room }
    where
      go : (vs : List Passage) → Masks l n vs m r rows → Masks l n (snoc vs (row_passage l k)) (bit_or m (2 ^ c)) (repeated_with m r c) (set rows c k)
      go [] a = first_of_all a.0 a.1 q.room
      go (v ∷ []) a = more_of_one m r c (one_is_heard v a)
      go (v ∷ w ∷ vs) a = more_of_several m r c a

-- ## The loop over the rows before row i

-- what is found and noted from row j on, up to row i
pub record ListenedBack (p : Passage → Bool) (l : List ℕ) (n i j listening repeated : ℕ) (rows : List ℕ) : Type 0 where
  pub found : List Passage
  pub back : only p (rows_from l j (i - j)) ≡ found
  pub noted : Noted l n found listening repeated rows

module _ {G : ℕ} (p : Passage → Bool) (bs l : List ℕ) (n i : ℕ) (r : RowsPlaced bs l n) (there : i < n) (near : Near G p l i)
    (j k m q : ℕ) (rows : List ℕ) (h : k < i) (b : j ≤ k) (ended : (t : ℕ) → j ≤ t → t < k → num l t 5 + G < num l i 4)
    (x : Bool) (e : x ≡ p (row_passage l k)) (a : ListenedBack p l n i (k + 1) m q rows) (m' q' : ℕ) (rows' : List ℕ) where
  pub listened_back_in : x ≡ true → (c : ℕ) → c ≡ num l k 0 → c < 8 → q' ≡ repeated_with m q c → m' ≡ bit_or m (2 ^ c) → rows' ≡ set rows c k → ListenedBack p l n i j m' q' rows'
  listened_back_in t c f s u v w =
      rw (u, v, w)
      record {
        found = row_passage l k ∷ a.found;
        back = back_in p bs l n i r there near j k a.found h b ended a.back x e t;
        noted = noted_before l n rows m q k c (omega (arith, h, there)) f s a.found a.noted;
      }

  pub listened_back_out : x ≡ false → m' ≡ m → q' ≡ q → rows' ≡ rows → ListenedBack p l n i j m' q' rows'
  listened_back_out t u v w =
      rw (u, v, w)
      record { found = a.found; back = back_out p bs l n i r there near j k a.found h b ended a.back x e t; noted = a.noted }

-- ## The loop from row i on

-- what is found and noted before row j
pub record Listened (p : Passage → Bool) (l : List ℕ) (n j listening repeated : ℕ) (rows : List ℕ) : Type 0 where
  pub found : List Passage
  pub swept : Swept p l n j found
  pub noted : Noted l n found listening repeated rows

module _ (p : Passage → Bool) (l : List ℕ) (n j m q : ℕ) (rows : List ℕ) (x : Bool) (h : j < n) (e : x ≡ p (row_passage l j)) (a : Listened p l n j m q rows) (m' q' : ℕ) (rows' : List ℕ) where
  pub listened_in : x ≡ true → (c : ℕ) → c ≡ num l j 0 → c < 8 → q' ≡ repeated_with m q c → m' ≡ bit_or m (2 ^ c) → rows' ≡ set rows c j → Listened p l n (j + 1) m' q' rows'
  listened_in t c f s u v w =
      rw (u, v, w)
      record {
        found = snoc a.found (row_passage l j);
        swept = swept_in p l n j a.found x h e t a.swept;
        noted = noted_after l n rows m q j c h f s a.found a.noted;
      }

  pub listened_out : x ≡ false → m' ≡ m → q' ≡ q → rows' ≡ rows → Listened p l n (j + 1) m' q' rows'
  listened_out t u v w =
      rw (u, v, w)
      record { found = a.found; swept = swept_out p l n j a.found x h e t a.swept; noted = a.noted }

-- ## The decision

-- the listener's number gives its row, whose window is the only one found
pub record AloneAt (l : List ℕ) (n listening : ℕ) (rows : List ℕ) (found : List Passage) : Type 0 where
  pub small : count_trailing_zeros 8 listening < 8
  pub there : get_or rows (count_trailing_zeros 8 listening) 0 < n
  pub only : found ≡ row_passage l (get_or rows (count_trailing_zeros 8 listening) 0) ∷ []

module _ (l : List ℕ) (n m r : ℕ) (rows : List ℕ) where
  pub alone_at : ((k : ℕ) → k < n → num l k 0 < 8) → ones m ≡ 1 → r ≡ 0 → (found : List Passage) → Noted l n found m r rows → AloneAt l n m rows found
  alone_at small one once [] q = absurd (omega (arith, ap ones q.masks.0, no_ones, one))
  alone_at small one once (v ∷ []) q =
      let a = q.masks in
      let s = small a.row a.there in
      let z : count_trailing_zeros 8 m ≡ num l a.row 0 = ap (count_trailing_zeros 8) a.bit ∙ zeros_of_bit 8 (num l a.row 0) s in
      let t : get_or rows (count_trailing_zeros 8 m) 0 ≡ a.row = rw z a.at in
      record {
        small = omega (arith, z, s);
        there = omega (arith, t, a.there);
        only = ap (λ (w : Passage). w ∷ []) a.is ∙ ap (λ (k : ℕ). row_passage l k ∷ []) (sym t);
      }
  alone_at small one once (v ∷ w ∷ vs) q = absurd (⊎_elim (λ (h : 2 ≤ ones m). omega (arith, one)) (λ (h : 1 ≤ r). omega (arith, once)) q.masks.1)

  -- ## How the send is heard

  -- no component listens, or more than one does, or one by more than one window
  pub by_nobody : (G : ℕ) (s : Passage) (found : List Passage) → Noted l n found m r rows → ones m ≡ 0 → Nobody ≡ hearing_of G s found
  by_nobody G s [] q h = refl
  by_nobody G s (v ∷ []) q h = absurd (omega (arith, h, ap ones q.masks.bit, ones_of_bit (num l q.masks.row 0)))
  by_nobody G s (v ∷ w ∷ vs) q h = absurd (omega (arith, h, q.masks.0))

  pub by_components : (G : ℕ) (s : Passage) (found : List Passage) → Noted l n found m r rows → (ones m ≡ 0 → ⊥) → (ones m ≡ 1 → ⊥) → Several ≡ hearing_of G s found
  by_components G s [] q z o = absurd (z (ap ones q.masks.0 ∙ no_ones))
  by_components G s (v ∷ []) q z o = absurd (o (ap ones q.masks.bit ∙ ones_of_bit (num l q.masks.row 0)))
  by_components G s (v ∷ w ∷ vs) q z o = refl

  pub by_windows : (G : ℕ) (s : Passage) (found : List Passage) → Noted l n found m r rows → (r ≡ 0 → ⊥) → Several ≡ hearing_of G s found
  by_windows G s [] q h = absurd (h q.masks.1)
  by_windows G s (v ∷ []) q h = absurd (h q.masks.once)
  by_windows G s (v ∷ w ∷ vs) q h = refl
