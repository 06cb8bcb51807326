-- The chart: its cells cover each tick below the horizon exactly once, and each shows what it says. Assumes nothing.
use mathlib.Core.Path.{◌≡◌, refl, sym, ap, subst, ◌∙◌}
use mathlib.Core.Logic.{◌↔◌, ◌⊎◌, inl, inr}
use mathlib.Core.Bool.{Bool, true, false, cond, ◌&&◌}
use mathlib.Core.List.{List, [], ◌∷◌, ◌++◌, map}
use Prim.Native.Nat.{ℕ, zero, suc, ◌+◌, ◌-◌, ◌*◌, ◌/◌, ◌%◌, ◌≤◌, ◌<◌, max}
use native.Mathlib.Nat.{lt_of_mul-lt-mul_left}
use native.Mathlib.Omega.{arith, div_fact, mod_fact}
use borrow.Author.Tests.{ltb-true, ltb-false, lt-ltb, le-ltb, leb-true, le-leb, eqb-true, eq-eqb}
use lib.Dec.{leb, ltb, eqb}
use lib.ListN.{length, length-append}
use Rattle.model.specs.declared.Action.{Action}
use Rattle.model.specs.declared.Action.TheVariants.{Internal, Send, Receive}
use Rattle.model.specs.Lists.{any, from, below, each, ◌∈◌}
use Rattle.model.specs.Table.{Table, size}
use Rattle.model.specs.Schedule.{Passage, passage_arc}
use Rattle.model.specs.Checks.{InWindow}
use Rattle.model.specs.Chart.{cell_from, tick_in, letter_of, shows, shown_for, cell_of, cells, row_of, chart, Covers, Shown}
use Rattle.model.proofs.Basics.Bools.{clash, and_is}
use Rattle.model.proofs.Basics.Members.{any_is, any_none, not_true_is}
use Rattle.model.proofs.Checks.Heard.{Windows}

-- ## The cells cover the ticks below H, each once

module _ (H : ℕ) where
  -- the first cell starts at 0, and what follows the last would start at H
  pub starts : cell_from H 0 ≡ 0
  starts = omega arith

  pub ends : cell_from H 64 ≡ H
  ends = omega arith

  up : (i : ℕ) → cell_from H i ≤ cell_from H (suc i)
  up i = let e : suc i * H ≡ i * H + H = omega arith in rw e (omega arith)

  pub up_to : (i n : ℕ) → cell_from H i ≤ cell_from H (i + n)
  up_to i zero = let e : i + 0 ≡ i = omega arith in rw e (omega arith)
  up_to i (suc n) = let e : i + suc n ≡ suc (i + n) = omega arith in rw e (omega (arith, up_to i n, up (i + n)))

  -- a tick below the start of cell n lies in a cell before it
  some_cell : (t n : ℕ) → t < cell_from H n → (i : ℕ) × (i < n) × Covers H i t
  some_cell t zero h = absurd (omega (arith, starts))
  some_cell t (suc n) h = go (some_cell t n) (ltb t (cell_from H n)) refl
    where
      go : (t < cell_from H n → (i : ℕ) × (i < n) × Covers H i t) → (b : Bool) → ltb t (cell_from H n) ≡ b → (i : ℕ) × (i < suc n) × Covers H i t
      go ih true e = let k = ih (ltb-true t (cell_from H n) e) in (k.0, omega (arith, k.1), k.2)
      go ih false e = (n, omega arith, record { from = ltb-false t (cell_from H n) e; to = h })

  -- each tick below H is covered ..
  pub covered : (t : ℕ) → t < H → (i : ℕ) × (i < 64) × Covers H i t
  covered t h = some_cell t 64 (omega (arith, ends))

  -- .. by one cell ..
  pub once : (i j t : ℕ) → Covers H i t → Covers H j t → i ≡ j
  once i j t a b = go (ltb i j) refl (ltb j i) refl
    where
      apart : (i j : ℕ) → i < j → Covers H i t → Covers H j t → ⊥
      apart i j h a b =
          let n : (k : ℕ) × (j ≡ suc i + k) = less i j h in
          omega (arith, a.to, b.from, subst (λ m. cell_from H (suc i) ≤ cell_from H m) (sym n.1) (up_to (suc i) n.0))
        where
          less : (i j : ℕ) → i < j → (k : ℕ) × (j ≡ suc i + k)
          less zero (suc j) h = (j, omega arith)
          less (suc i) (suc j) h = let k = less i j (omega arith) in (k.0, omega (arith, k.1))
          less i zero h = absurd (omega arith)

      go : (p : Bool) → ltb i j ≡ p → (q : Bool) → ltb j i ≡ q → i ≡ j
      go true e q f = absurd (apart i j (ltb-true i j e) a b)
      go false e true f = absurd (apart j i (ltb-true j i f) b a)
      go false e false f = omega (arith, ltb-false i j e, ltb-false j i f)

  -- .. and no cell covers a tick from H on
  pub below_horizon : (i t : ℕ) → i < 64 → Covers H i t → t < H
  below_horizon i t h a =
      let n = gap i h in
      omega (arith, a.to, ends, subst (λ m. cell_from H (suc i) ≤ cell_from H m) n.1 (up_to (suc i) n.0))
    where
      gap : (i : ℕ) → i < 64 → (k : ℕ) × (suc i + k ≡ 64)
      gap i h = (64 - suc i, omega arith)

-- ## The cell of a tick, in closed form

module _ (t h : ℕ) (less : t < suc h) where
  abbrev q : ℕ
  q = (64 * t + 63) / suc h

  back : suc h * q + (64 * t + 63) % suc h ≡ 64 * t + 63
  back = div_fact (64 * t + 63) h

  small : (64 * t + 63) % suc h < suc h
  small = mod_fact (64 * t + 63) h

  cell_starts : cell_from (suc h) q ≤ t
  cell_starts = let e : q * suc h ≡ suc h * q = omega arith in rw e (omega (arith, back))

  cell_ends : t < cell_from (suc h) (suc q)
  cell_ends = let e : suc q * suc h ≡ suc h * q + suc h = omega arith in rw e (omega (arith, back, small))

  cell_few : q < 64
  cell_few =
      let e : suc h * 64 ≡ 64 * h + 64 = omega arith in
      lt_of_mul-lt-mul_left (suc h) (rw e (omega (arith, back)))

-- the cell (64 × t + 63) / H is one of the 64, and covers t
pub cell_there : (H t : ℕ) → t < H → Covers H ((64 * t + 63) / H) t × ((64 * t + 63) / H < 64)
cell_there zero t h = absurd (omega arith)
cell_there (suc h) t less = (record { from = cell_starts t h less; to = cell_ends t h less }, cell_few t h less)

-- ## What a cell shows

module _ (T : Table) (H : ℕ) (S : List Passage) (wins : Windows S) (c i : ℕ) where
  abbrev a : ℕ
  a = cell_from H i

  abbrev b : ℕ
  b = cell_from H (suc i)

  -- a letter is found exactly if a window with that letter has a tick there
  pub found_is : (letter : ℕ) → a < b → (any (shows T c letter a b) S ≡ true) ↔ Shown T H S c i letter
  found_is letter some = (
    λ e.
        let (v, m, h) = (any_is (shows T c letter a b) S).0 e in
        let p = (and_is (eqb v.component c && eqb (letter_of (passage_arc T v).edge.action) letter) (tick_in a b v)).0 h in
        let q = (and_is (eqb v.component c) (eqb (letter_of (passage_arc T v).edge.action) letter)).0 p.0 in
        let r = (and_is (ltb v.ready b) (leb a v.end)).0 p.1 in
        let x = ltb-true v.ready b r.0 in
        let y = leb-true a v.end r.1 in
        let w = wins v m in
        record {
          passage = v;
          tick = max a v.ready;
          listed = m;
          component = eqb-true v.component c q.0;
          kind = eqb-true (letter_of (passage_arc T v).edge.action) letter q.1;
          covered = record { from = omega arith; to = omega arith };
          in_window = record { from = omega arith; to = omega arith };
        },
    λ s. (any_is (shows T c letter a b) S).1 (
      s.passage,
      s.listed,
      rw (
        eq-eqb s.passage.component c s.component,
        eq-eqb (letter_of (passage_arc T s.passage).edge.action) letter s.kind,
        lt-ltb s.passage.ready b (omega (arith, s.in_window.from, s.covered.to)),
        le-leb a s.passage.end (omega (arith, s.in_window.to, s.covered.from)),
      ),
    ),
  )

  -- what `shown_for` shows, by cases on its four tests
  send_shown : (p q r w : Bool) → (shown_for p q r w ≡ 83) ↔ ((p ≡ true) × (q ≡ true))
  send_shown true true r w = (λ e. (refl, refl), λ h. refl)
  send_shown true false true w = (λ e. absurd (omega (arith, e)), λ h. clash h.1)
  send_shown true false false true = (λ e. absurd (omega (arith, e)), λ h. clash h.1)
  send_shown true false false false = (λ e. absurd (omega (arith, e)), λ h. clash h.1)
  send_shown false q r w = (λ e. absurd (omega (arith, e)), λ h. clash h.0)

  receive_shown : (p q r w : Bool) → (shown_for p q r w ≡ 82) ↔ ((p ≡ true) × (q ≡ false) × (r ≡ true))
  receive_shown true true r w = (λ e. absurd (omega (arith, e)), λ h. clash (sym h.1))
  receive_shown true false true w = (λ e. (refl, refl, refl), λ h. refl)
  receive_shown true false false true = (λ e. absurd (omega (arith, e)), λ h. clash h.2)
  receive_shown true false false false = (λ e. absurd (omega (arith, e)), λ h. clash h.2)
  receive_shown false q r w = (λ e. absurd (omega (arith, e)), λ h. clash h.0)

  internal_shown : (p q r w : Bool) → (shown_for p q r w ≡ 87) ↔ ((p ≡ true) × (q ≡ false) × (r ≡ false) × (w ≡ true))
  internal_shown true true r w = (λ e. absurd (omega (arith, e)), λ h. clash (sym h.1))
  internal_shown true false true w = (λ e. absurd (omega (arith, e)), λ h. clash (sym h.2))
  internal_shown true false false true = (λ e. (refl, refl, refl, refl), λ h. refl)
  internal_shown true false false false = (λ e. absurd (omega (arith, e)), λ h. clash h.3)
  internal_shown false q r w = (λ e. absurd (omega (arith, e)), λ h. clash h.0)

  dot_shown : (p q r w : Bool) → (shown_for p q r w ≡ 46) ↔ ((p ≡ true) × (q ≡ false) × (r ≡ false) × (w ≡ false))
  dot_shown true true r w = (λ e. absurd (omega (arith, e)), λ h. clash (sym h.1))
  dot_shown true false true w = (λ e. absurd (omega (arith, e)), λ h. clash (sym h.2))
  dot_shown true false false true = (λ e. absurd (omega (arith, e)), λ h. clash (sym h.3))
  dot_shown true false false false = (λ e. (refl, refl, refl, refl), λ h. refl)
  dot_shown false q r w = (λ e. absurd (omega (arith, e)), λ h. clash h.0)

  space_shown : (p q r w : Bool) → (shown_for p q r w ≡ 32) ↔ (p ≡ false)
  space_shown true true r w = (λ e. absurd (omega (arith, e)), λ h. clash (sym h))
  space_shown true false true w = (λ e. absurd (omega (arith, e)), λ h. clash (sym h))
  space_shown true false false true = (λ e. absurd (omega (arith, e)), λ h. clash (sym h))
  space_shown true false false false = (λ e. absurd (omega (arith, e)), λ h. clash (sym h))
  space_shown false q r w = (λ e. refl, λ h. refl)

  -- the cell's byte, its tests, and that a letter is there
  abbrev shown : ℕ
  shown = cell_of T S c a b

  abbrev found : ℕ → Bool
  found letter = any (shows T c letter a b) S

  abbrev There : ℕ → Type 0
  There letter = Shown T H S c i letter

  ticks-of : {letter : ℕ} → There letter → a < b
  ticks-of s = omega (arith, s.covered.from, s.covered.to)

  absent : (letter : ℕ) → a < b → found letter ≡ false → There letter → ⊥
  absent letter some e s = clash (sym e ∙ (found_is letter some).1 s)

  missed : (letter : ℕ) → a < b → (There letter → ⊥) → found letter ≡ false
  missed letter some h = (not_true_is (found letter)).1 (λ e. h ((found_is letter some).0 e))

  -- "It shows `S` if a send window has a tick there"
  pub shows_send : (shown ≡ 83) ↔ There 83
  shows_send = (
    λ e. let h = (send_shown (ltb a b) (found 83) (found 82) (found 87)).0 e in (found_is 83 (ltb-true a b h.0)).0 h.1,
    λ s. (send_shown (ltb a b) (found 83) (found 82) (found 87)).1 (lt-ltb a b (ticks-of s), (found_is 83 (ticks-of s)).1 s),
  )

  -- "else `R` for receive"
  pub shows_receive : (shown ≡ 82) ↔ (There 82 × (There 83 → ⊥))
  shows_receive = (
    λ e. let h = (receive_shown (ltb a b) (found 83) (found 82) (found 87)).0 e in
        let some = ltb-true a b h.0 in
        ((found_is 82 some).0 h.2, absent 83 some h.1),
    λ s. let some = ticks-of s.0 in
        (receive_shown (ltb a b) (found 83) (found 82) (found 87)).1 (lt-ltb a b some, missed 83 some s.1, (found_is 82 some).1 s.0),
  )

  -- "else `W` for internal"
  pub shows_internal : (shown ≡ 87) ↔ (There 87 × (There 83 → ⊥) × (There 82 → ⊥))
  shows_internal = (
    λ e. let h = (internal_shown (ltb a b) (found 83) (found 82) (found 87)).0 e in
        let some = ltb-true a b h.0 in
        ((found_is 87 some).0 h.3, absent 83 some h.1, absent 82 some h.2),
    λ s. let some = ticks-of s.0 in
        (internal_shown (ltb a b) (found 83) (found 82) (found 87)).1 (lt-ltb a b some, missed 83 some s.1, missed 82 some s.2, (found_is 87 some).1 s.0),
  )

  -- "else a dot": the cell has a tick, and no window of the component, whatever its letter, has one there
  pub shows_dot : (shown ≡ 46) ↔ (((t : ℕ) × Covers H i t) × ((letter : ℕ) → There letter → ⊥))
  shows_dot = (
    λ e. let h = (dot_shown (ltb a b) (found 83) (found 82) (found 87)).0 e in
        let some = ltb-true a b h.0 in
        ((a, record { from = omega arith; to = some }), none_there (absent 83 some h.1) (absent 82 some h.2) (absent 87 some h.3)),
    λ s. let some : a < b = omega (arith, s.0.1.from, s.0.1.to) in
        (dot_shown (ltb a b) (found 83) (found 82) (found 87)).1 (lt-ltb a b some, missed 83 some (s.1 83), missed 82 some (s.1 82), missed 87 some (s.1 87)),
  )
    where
      none_there : (There 83 → ⊥) → (There 82 → ⊥) → (There 87 → ⊥) → (letter : ℕ) → There letter → ⊥
      none_there x y z letter s = go (passage_arc T s.passage).edge.action s.kind
        where
          go : (act : Action) → letter_of act ≡ letter → ⊥
          go (Send k) e = x (subst There (sym e) s)
          go Receive e = y (subst There (sym e) s)
          go Internal e = z (subst There (sym e) s)

  -- "A cell without ticks is a space."
  pub shows_space : (shown ≡ 32) ↔ ((t : ℕ) → Covers H i t → ⊥)
  shows_space = (
    λ e t h. absurd (omega (arith, h.from, h.to, ltb-false a b ((space_shown (ltb a b) (found 83) (found 82) (found 87)).0 e))),
    λ h. (space_shown (ltb a b) (found 83) (found 82) (found 87)).1 ((not_true_is (ltb a b)).1 (λ e. h a (record { from = omega arith; to = ltb-true a b e }))),
  )

-- ## The length

from_length : (i n : ℕ) → length (from i n) ≡ n
from_length i zero = refl
from_length i (suc n) = ap suc (from_length (suc i) n)

module _ (T : Table) (H : ℕ) (S : List Passage) where
  pub row_length : (c : ℕ) → length (row_of T H S c) ≡ 69
  row_length c = refl

  rows_length : (cs : List ℕ) → length (each (row_of T H S) cs) ≡ length cs * 69
  unfolding each
  rows_length [] = refl
  rows_length (c ∷ cs) = length-append (row_of T H S c) (each (row_of T H S) cs) ∙ omega (arith, row_length c, rows_length cs)

  pub chart_length : length (chart T H S) ≡ size T * 69
  unfolding chart
  chart_length = rows_length (below (size T)) ∙ ap (λ n. n * 69) (from_length 0 (size T))
