-- One window more: which cells it raises, and what they show then. Assumes nothing.
use mathlib.Core.Path.{◌≡◌, refl, sym, ap, subst, ◌∙◌}
use mathlib.Core.Logic.{◌⊎◌, inl, inr}
use mathlib.Core.Bool.{Bool, true, false, ◌&&◌, ◌||◌, or-false}
use mathlib.Core.List.{List, [], ◌∷◌}
use Prim.Native.Nat.{ℕ, suc, ◌+◌, ◌-◌, ◌*◌, ◌≤◌, ◌<◌}
use native.Mathlib.Omega.{arith}
use native.Mathlib.Decide.{ℕ_discrete}
use borrow.Author.Tests.{ltb-true, ltb-false, lt-ltb, le-ltb, le-leb, lt-leb, eq-eqb, ne_eqb}
use lib.Dec.{ltb, eqb}
use lib.ListN.{get_or}
use Rattle.model.specs.declared.Action.{Action}
use Rattle.model.specs.declared.Action.TheVariants.{Internal, Send, Receive}
use Rattle.model.specs.Lists.{any, snoc}
use Rattle.model.specs.Table.{Table}
use Rattle.model.specs.Schedule.{Passage, passage_arc}
use Rattle.model.specs.Chart.{cell_from, tick_in, letter_of, shows, shown_for, cell_of, Covers}
use Rattle.model.proofs.Basics.Members.{any_append}
use Rattle.model.proofs.Schedule.Charted.{ends, up_to}
use Rattle.chart.specs.declared.Window.{Window}
use Rattle.chart.specs.Drawn.{raised_of, Tells, Painted, Drawn}

-- ## What a cell shows with one window more

raise_space : (q r w : Bool) (letter : ℕ) → shown_for false q r w ≡ raised_of 32 letter
raise_space q r w letter = refl

raise_send : (p q r w : Bool) → shown_for p true r w ≡ raised_of (shown_for p q r w) 83
raise_send false q r w = refl
raise_send true true r w = refl
raise_send true false true w = refl
raise_send true false false true = refl
raise_send true false false false = refl

raise_receive : (p q r w : Bool) → shown_for p q true w ≡ raised_of (shown_for p q r w) 82
raise_receive false q r w = refl
raise_receive true true r w = refl
raise_receive true false true w = refl
raise_receive true false false true = refl
raise_receive true false false false = refl

raise_internal : (p q r w : Bool) → shown_for p q r true ≡ raised_of (shown_for p q r w) 87
raise_internal false q r w = refl
raise_internal true true r w = refl
raise_internal true false true w = refl
raise_internal true false false true = refl
raise_internal true false false false = refl

or_true : (b : Bool) → b || true ≡ true
or_true true = refl
or_true false = refl

and_false : (b : Bool) → b && false ≡ false
and_false true = refl
and_false false = refl

module _ (T : Table) (S : List Passage) (v : Passage) (c a b : ℕ) where
  abbrev found : ℕ → Bool
  found letter = any (shows T c letter a b) S

  -- the test of a letter, with v looked at too
  more : (letter : ℕ) → any (shows T c letter a b) (snoc S v) ≡ found letter || shows T c letter a b v
  more letter = any_append (shows T c letter a b) S (v ∷ []) ∙ ap (λ x. found letter || x) (or-false (shows T c letter a b v))

  -- a window that is not the component's, or has no tick there, changes nothing
  pub stays : eqb v.component c && tick_in a b v ≡ false → cell_of T (snoc S v) c a b ≡ cell_of T S c a b
  stays h = rw (more 83, more 82, more 87, unseen 83, unseen 82, unseen 87, or-false (found 83), or-false (found 82), or-false (found 87))
    where
      go : (x y z : Bool) → x && z ≡ false → x && y && z ≡ false
      go false y z e = refl
      go true false z e = refl
      go true true z e = e

      unseen : (letter : ℕ) → shows T c letter a b v ≡ false
      unseen letter = go (eqb v.component c) (eqb (letter_of (passage_arc T v).edge.action) letter) (tick_in a b v) h

  -- a window of the component that has a tick there raises what the cell shows
  pub raises : v.component ≡ c → tick_in a b v ≡ true → cell_of T (snoc S v) c a b ≡ raised_of (cell_of T S c a b) (letter_of (passage_arc T v).edge.action)
  raises e t = rw (more 83, more 82, more 87, seen 83, seen 82, seen 87) (go (passage_arc T v).edge.action)
    where
      seen : (letter : ℕ) → shows T c letter a b v ≡ eqb (letter_of (passage_arc T v).edge.action) letter
      seen letter = rw (eq-eqb v.component c e, t) (both_true (eqb (letter_of (passage_arc T v).edge.action) letter))
        where
          both_true : (x : Bool) → true && x && true ≡ x
          both_true true = refl
          both_true false = refl

      go : (act : Action)
          → shown_for (ltb a b) (found 83 || eqb (letter_of act) 83) (found 82 || eqb (letter_of act) 82) (found 87 || eqb (letter_of act) 87)
          ≡ raised_of (shown_for (ltb a b) (found 83) (found 82) (found 87)) (letter_of act)
      go (Send k) = rw (or_true (found 83)) (raise_send (ltb a b) (found 83) (found 82) (found 87))
      go Receive = rw (or-false (found 83), or_true (found 82)) (raise_receive (ltb a b) (found 83) (found 82) (found 87))
      go Internal = rw (or-false (found 83), or-false (found 82), or_true (found 87)) (raise_internal (ltb a b) (found 83) (found 82) (found 87))

-- ## Which cells have a tick of the window

-- no cell starts before an earlier one
rising : (H i j : ℕ) → i ≤ j → cell_from H i ≤ cell_from H j
rising H i j h = let e : i + (j - i) ≡ j = omega arith in subst (λ m. cell_from H i ≤ cell_from H m) e (up_to H i (j - i))

-- no cell has a tick from H on
within : (H i : ℕ) → i < 64 → cell_from H (suc i) ≤ H
within H i h = omega (arith, rising H (suc i) 64 (omega arith), ends H)

-- a later tick is not in an earlier cell
pub in_order : (H first last r t : ℕ) → Covers H first r → Covers H last t → r ≤ t → first ≤ last
in_order H first last r t p q h = go (ltb last first) refl
  where
    go : (x : Bool) → ltb last first ≡ x → first ≤ last
    go true e = absurd (omega (arith, p.from, q.to, rising H (suc last) first (ltb-true last first e)))
    go false e = ltb-false last first e

-- the last tick shown does not lie before ready
pub reached : {ready end tick H : ℕ} → ready ≤ end → ready < H → (tick ≡ end) ⊎ (suc tick ≡ H) → ready ≤ tick
reached h g (inl e) = omega (arith, h, e)
reached h g (inr e) = omega (arith, g, e)

-- a window that starts at H or later changes nothing
late_stays : (T : Table) (H : ℕ) (S : List Passage) (v : Passage) (c i : ℕ) → i < 64 → H ≤ v.ready
    → cell_of T (snoc S v) c (cell_from H i) (cell_from H (suc i)) ≡ cell_of T S c (cell_from H i) (cell_from H (suc i))
late_stays T H S v c i less h =
    stays T S v c (cell_from H i) (cell_from H (suc i)) (rw (le-ltb v.ready (cell_from H (suc i)) (omega (arith, within H i less))) (and_false (eqb v.component c)))

-- the window's first and last tick below H stand in the cells from `first` to `last`
module _ (T : Table) (H : ℕ) (S : List Passage) (v : Passage) (c i first last tick : ℕ) (less : i < 64) (starts : Covers H first v.ready) (stops : Covers H last tick) (reach : tick ≤ v.end) (far : (tick ≡ v.end) ⊎ (suc tick ≡ H)) where
  abbrev a : ℕ
  a = cell_from H i

  abbrev b : ℕ
  b = cell_from H (suc i)

  -- within them the cell has a tick of the window ..
  inside : first ≤ i → i ≤ last → tick_in a b v ≡ true
  inside g h =
      rw (
        lt-ltb v.ready b (omega (arith, starts.to, rising H (suc first) (suc i) (omega arith))),
        le-leb a v.end (omega (arith, stops.from, rising H i last h)),
      )

  -- .. before them and, if the cell has ticks, after them it has none
  before : i < first → tick_in a b v ≡ false
  before g = rw (le-ltb v.ready b (omega (arith, starts.from, rising H (suc i) first g)))

  behind : a < b → last < i → tick_in a b v ≡ false
  behind some g = rw (lt-leb a v.end (elim far [ inl e ↦ omega (arith, e, past) | inr e ↦ absurd (omega (arith, e, past, some, within H i less)) ])) (and_false (ltb v.ready b))
    where
      past : tick < a
      past = omega (arith, stops.to, rising H (suc last) i g)

  no_tick : tick_in a b v ≡ false → cell_of T (snoc S v) c a b ≡ cell_of T S c a b
  no_tick e = stays T S v c a b (rw e (and_false (eqb v.component c)))

  pub front_stays : i < first → cell_of T (snoc S v) c a b ≡ cell_of T S c a b
  front_stays g = no_tick (before g)

  pub back_stays : last < i → cell_of T (snoc S v) c a b ≡ cell_of T S c a b
  back_stays g = go (ltb a b) refl
    where
      go : (t : Bool) → ltb a b ≡ t → cell_of T (snoc S v) c a b ≡ cell_of T S c a b
      go true e = no_tick (behind (ltb-true a b e) g)
      go false e = rw e

  pub middle_raised : v.component ≡ c → first ≤ i → i ≤ last → cell_of T (snoc S v) c a b ≡ raised_of (cell_of T S c a b) (letter_of (passage_arc T v).edge.action)
  middle_raised e g h = raises T S v c a b e (inside g h)

pub other_stays : (T : Table) (S : List Passage) (v : Passage) (c a b : ℕ) → (v.component ≡ c → ⊥) → cell_of T (snoc S v) c a b ≡ cell_of T S c a b
other_stays T S v c a b h = stays T S v c a b (rw (ne_eqb v.component c h))

-- ## The lent bytes

-- a window from H on: nothing is drawn
pub drawn_late : (T : Table) (H : ℕ) (S : List Passage) (v : Passage) (n : ℕ) (w : Window) (old l : List ℕ) → Tells T v w → H ≤ w.ready → Drawn T H S n old l → Drawn T H (snoc S v) n old l
drawn_late T H S v n w old l t h p =
    record {
      same = p.same;
      frame = p.frame;
      cell = λ c i g k. p.cell c i g k ∙ sym (late_stays T H S v c i k (omega (arith, t.ready)));
      rest = p.rest;
    }

-- the cells from the first to the last of the window are raised
module _ (T : Table) (H : ℕ) (S : List Passage) (v : Passage) (n : ℕ) (w : Window) (old l l' : List ℕ) (first last tick : ℕ) (starts : Covers H first w.ready) (low : first < 64) (stops : Covers H last tick) (high : last < 64) (reach : tick ≤ w.end) (far : (tick ≡ w.end) ⊎ (suc tick ≡ H)) (t : Tells T v w) (p : Drawn T H S n old l) (here : w.component < n) (q : Painted (w.component * 69 + 4 + first) (w.component * 69 + 4 + last + 1) w.letter l l') where
  -- a byte outside the component's cells
  outside : (k : ℕ) → (w.component * 69 + 4 ≤ k → w.component * 69 + 68 ≤ k) → get_or l' k 0 ≡ get_or l k 0
  outside k h = go (ltb k (w.component * 69 + 4)) refl
    where
      go : (x : Bool) → ltb k (w.component * 69 + 4) ≡ x → get_or l' k 0 ≡ get_or l k 0
      go true e = q.front k (omega (arith, ltb-true k (w.component * 69 + 4) e))
      go false e = q.rest k (omega (arith, h (ltb-false k (w.component * 69 + 4) e), high))

  -- what the cell shows, by the window's component
  own : (c i : ℕ) → c < n → i < 64 → w.component ≡ c → get_or l' (c * 69 + 4 + i) 0 ≡ cell_of T (snoc S v) c (cell_from H i) (cell_from H (suc i))
  own c i h k e = go (ltb i first) refl (ltb last i) refl
    where
      from : Covers H first v.ready
      from = subst (λ r. Covers H first r) t.ready starts

      to : tick ≤ v.end
      to = omega (arith, t.end, reach)

      until : (tick ≡ v.end) ⊎ (suc tick ≡ H)
      until = subst (λ r. (tick ≡ r) ⊎ (suc tick ≡ H)) t.end far

      before : get_or l (c * 69 + 4 + i) 0 ≡ cell_of T S c (cell_from H i) (cell_from H (suc i))
      before = p.cell c i h k

      go : (x : Bool) → ltb i first ≡ x → (y : Bool) → ltb last i ≡ y → get_or l' (c * 69 + 4 + i) 0 ≡ cell_of T (snoc S v) c (cell_from H i) (cell_from H (suc i))
      go true f y g =
          let less = ltb-true i first f in
          q.front (c * 69 + 4 + i) (omega (arith, e, less)) ∙ before ∙ sym (front_stays T H S v c i first last tick k from stops to until less)
      go false f true g =
          let more = ltb-true last i g in
          q.rest (c * 69 + 4 + i) (omega (arith, e, more)) ∙ before ∙ sym (back_stays T H S v c i first last tick k from stops to until more)
      go false f false g =
          let less = ltb-false i first f in
          let more = ltb-false last i g in
          q.raised (c * 69 + 4 + i) (omega (arith, e, less)) (omega (arith, e, more))
          ∙ ap (λ x. raised_of x w.letter) before
          ∙ ap (raised_of (cell_of T S c (cell_from H i) (cell_from H (suc i)))) t.letter
          ∙ sym (middle_raised T H S v c i first last tick k from stops to until (sym t.component ∙ e) less more)

  other : (c i : ℕ) → c < n → i < 64 → (w.component ≡ c → ⊥) → get_or l' (c * 69 + 4 + i) 0 ≡ cell_of T (snoc S v) c (cell_from H i) (cell_from H (suc i))
  other c i h k e =
      outside (c * 69 + 4 + i) (λ g. omega (arith, g, k, e))
      ∙ p.cell c i h k
      ∙ sym (other_stays T S v c (cell_from H i) (cell_from H (suc i)) (λ z. e (t.component ∙ z)))

  pub drawn_more : Drawn T H (snoc S v) n old l'
  drawn_more =
      record {
        same = q.same ∙ p.same;
        frame = λ c h.
            let f = p.frame c h in (
              outside (c * 69) (λ g. omega arith) ∙ f.0,
              outside (c * 69 + 1) (λ g. omega arith) ∙ f.1,
              outside (c * 69 + 2) (λ g. omega arith) ∙ f.2,
              outside (c * 69 + 3) (λ g. omega arith) ∙ f.3,
              outside (c * 69 + 68) (λ g. omega arith) ∙ f.4,
            );
        cell = λ c i h k. elim (ℕ_discrete w.component c) [ yes e ↦ own c i h k e | no e ↦ other c i h k e ];
        rest = λ k h. outside k (λ g. omega (arith, here)) ∙ p.rest k h;
      }
