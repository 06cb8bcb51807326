-- The readies that a run goes by after so many turns: those of the table's own rows up to the second tick of the pair and the passages entered there,
-- each so many periods later, agree with the readies of the longer schedule as far as that run looks. Assumes nothing.
use mathlib.Core.Path.{◌≡◌, refl, sym, ap, ap₂, subst, ◌∙◌}
use mathlib.Core.Bool.{Bool, true, false, cond}
use mathlib.Core.Logic.{by_cases}
use mathlib.Core.List.{List, [], ◌∷◌, ◌++◌, map}
use mathlib.Core.Option.{Option, none, some}
use Prim.Native.Nat.{ℕ, zero, suc, ◌+◌, ◌-◌, ◌*◌, ◌/◌, ◌%◌, ◌≤◌, ◌<◌}
use native.Mathlib.Omega.{arith}
use native.Mathlib.Decide.{ℕ_discrete}
use borrow.Author.Tests.{ltb-true, ltb-false, lt-ltb, le-ltb, leb-true, le-leb}
use lib.Dec.{ltb, eqb, leb}
use lib.ListN.{length, length-append}
use Rattle.model.specs.Lists.{◌∈◌, only}
use Rattle.model.specs.Table.{Table, size}
use Rattle.model.specs.Schedule.{Passage, own}
use Rattle.model.specs.Checks.{no_passage, passage_at}
use Rattle.model.specs.Chains.{IsSchedule}
use Rattle.model.specs.Run.{Setting, overdue}
use Rattle.model.proofs.Basics.Members.{in_at, only_is}
use Rattle.model.proofs.Schedule.Own.{own_in}
use Rattle.recurrence.specs.Recurrence.{Recurs}
use Rattle.recurrence.specs.Rows.{rows_before, place_row, place_turns, rows_ready}
use Rattle.recurrence.proofs.Seam.{enters_before, enters_from, split_at, starts_early}
use Rattle.recurrence.proofs.Grow.{ordered_only}
use Rattle.recurrence.proofs.Every.{again_of}
use Rattle.recurrence.proofs.Index.{at_second, comes_again}
use Rattle.recurrence.proofs.Beyond.{own_period, some_in}
use Rattle.recurrence.proofs.ByRows.{place_low, place_high, place_is}

-- ## So many periods

-- a remainder and a quotient are one
one_place : (d r s q j : ℕ) → r < d → s < d → r + q * d ≡ s + j * d → (r ≡ s) × (q ≡ j)
one_place d r s zero zero h k e = (omega arith, refl)
one_place d r s zero (suc j) h k e = absurd (omega arith)
one_place d r s (suc q) zero h k e = absurd (omega arith)
one_place d r s (suc q) (suc j) h k e = let o = one_place d r s q j h k (omega arith) in (o.0, ap suc o.1)

-- a number from u on and below w, j rounds of w − u later, is that number and j
module _ (u w : ℕ) (less : u < w) where
  later_place : (k j : ℕ) → k < w → (0 < j → u ≤ k) → (place_row u w (k + j * (w - u)) ≡ k) × (place_turns u w (k + j * (w - u)) ≡ j)
  later_place k zero h l =
      let e : ltb (k + 0 * (w - u)) w ≡ true = lt-ltb (k + 0 * (w - u)) w (omega arith) in
      (ap (λ (b : Bool). cond b (k + 0 * (w - u)) (u + (k + 0 * (w - u) - u) % (w - u))) e ∙ (let z : k + 0 * (w - u) ≡ k = omega arith in z), ap (λ (b : Bool). cond b 0 ((k + 0 * (w - u) - u) / (w - u))) e)
  later_place k (suc j) h l =
      let n = k + suc j * (w - u) in
      let q = place_turns u w n in
      let r = place_row u w n in
      let low = place_low u w n less in
      let is = place_is u w n less in
      let up = l (omega arith) in
      let some_turn : 0 < q = positive q (place_high u w n less) low is in
      let high = place_high u w n less some_turn in
      let o = one_place (w - u) (r - u) (k - u) q (suc j) (omega arith) (omega arith) (omega (arith, is)) in
      (omega (arith, o.0), o.1)
    where
      positive : (q : ℕ) → (0 < q → u ≤ place_row u w (k + suc j * (w - u))) → place_row u w (k + suc j * (w - u)) < w → place_row u w (k + suc j * (w - u)) + q * (w - u) ≡ k + suc j * (w - u) → 0 < q
      positive zero f low e = absurd (omega (arith, l (omega arith)))
      positive (suc q) f low e = omega arith

  -- a number beyond w is at least j + 1 turns on
  more_turns : (k j : ℕ) → w ≤ k → (u ≤ place_row u w (k + j * (w - u))) × (suc j ≤ place_turns u w (k + j * (w - u)))
  more_turns k j h =
      let n = k + j * (w - u) in
      let low = place_low u w n less in
      let is = place_is u w n less in
      let t = turns (place_turns u w n) j (place_row u w n) n low is (omega arith) in
      (place_high u w n less (omega arith), t)
    where
      -- r + q × d = n, r < w and w + j × d ≤ n
      turns : (q j r n : ℕ) → r < w → r + q * (w - u) ≡ n → w + j * (w - u) ≤ n → suc j ≤ q
      turns zero zero r n low e h = absurd (omega arith)
      turns zero (suc j) r n low e h = absurd (omega arith)
      turns (suc q) zero r n low e h = omega arith
      turns (suc q) (suc j) r n low e h = let i = turns q j r (n - (w - u)) low (omega arith) (omega arith) in omega arith

-- ## The readies

-- no later than the last tick of four bytes, so that a row holds it
abbrev pub capped : ℕ → ℕ
capped n = cond (ltb 4294967295 n) 4294967295 n

cap_overdue : (n now : ℕ) → now ≤ 4294967295 → ltb (capped n) now ≡ ltb n now
cap_overdue n now h = go (ltb 4294967295 n) refl
  where
    go : (b : Bool) → ltb 4294967295 n ≡ b → ltb (cond b 4294967295 n) now ≡ ltb n now
    go true e = le-ltb 4294967295 now h ∙ sym (le-ltb n now (omega (arith, ltb-true 4294967295 n e)))
    go false e = refl

-- of one component's passages those up to number w, each so much later
abbrev pub round_ready : List Passage → ℕ → ℕ → ℕ → Option ℕ
round_ready vs w later k = cond (ltb w k) none (some (capped ((passage_at vs k).ready + later)))

-- a passage with so many before it as are entered before a tick is not ready before that tick
pub ready_after : {l : ℕ} (T : Table) (h : ℕ) {S : List Passage} (s : IsSchedule l T h S) (x c i : ℕ) → rows_before S c x ≤ i → i < length (own c S) → x ≤ (passage_at (own c S) i).ready
ready_after {l} T h {S} s x c i k q =
    let Z = own c S in
    let z = split_at x (ordered_only (λ (v : Passage). eqb v.component c) s.order) in
    let F = only (enters_before x) Z in
    let R = only (enters_from x) Z in
    let j = i - length F in
    let at : passage_at Z i ≡ passage_at R j = sym (ap (λ (vs : List Passage). passage_at vs i) z) ∙ ap (passage_at (F ++ R)) (let y : i ≡ length F + j = omega arith in y) ∙ at_second F R j in
    let inside : passage_at R j ∈ R = in_at no_passage R j (omega (arith, ap length z, length-append F R)) in
    let late = leb-true x (passage_at R j).entry.tick ((only_is (enters_from x) Z).0 inside).1 in
    let early = starts_early l T h S s (passage_at R j) (own_in c S ((only_is (enters_from x) Z).0 inside).0).0 in
    omega (arith, ap (λ (v : Passage). v.ready) at)

module _ {l : ℕ} (T : Table) (h : ℕ) {S : List Passage} (s : IsSchedule l T h S) (a P : ℕ) (longer : 0 < P) (r : Recurs T h S a (a + P)) (g : Setting) where
  module _ (c : ℕ) (there : c < size T) where
    abbrev u : ℕ
    u = rows_before S c a

    abbrev w : ℕ
    w = rows_before S c (a + P)

    fewer : rows_before S c a < rows_before S c (a + P)
    fewer = own_period T h S s a P longer (again_of T h S a P r) c there

    -- a passage from number u on is not ready before a
    ready_from : (i : ℕ) → rows_before S c a ≤ i → i < length (own c S) → a ≤ (passage_at (own c S) i).ready
    ready_from i k q = ready_after T h s a c i k q

    -- the passage that is entered at the second tick
    second : rows_before S c (a + P) < length (own c S)
    second =
        let e = (r.enters c there).2 in
        let Z = own c S in
        let z = split_at (a + P) (ordered_only (λ (v : Passage). eqb v.component c) s.order) in
        let m : e.passage ∈ only (enters_from (a + P)) Z = (only_is (enters_from (a + P)) Z).1 (e.listed, le-leb (a + P) e.passage.entry.tick (omega (arith, e.tick))) in
        omega (arith, ap length z, length-append (only (enters_before (a + P)) Z) (only (enters_from (a + P)) Z), some_in m)

    ready-is : (k : ℕ) → rows_ready S a (a + P) c k ≡ some ((passage_at (own c S) (place_row (rows_before S c a) (rows_before S c (a + P)) k)).ready + place_turns (rows_before S c a) (rows_before S c (a + P)) k * P)
    ready-is k =
        ap (λ (t : Bool). cond t (some ((passage_at (own c S) (place_row (rows_before S c a) (rows_before S c (a + P)) k)).ready + place_turns (rows_before S c a) (rows_before S c (a + P)) k * (a + P - a))) none) (lt-ltb (rows_before S c a) (rows_before S c (a + P)) fewer)
        ∙ ap (λ (p : ℕ). some ((passage_at (own c S) (place_row (rows_before S c a) (rows_before S c (a + P)) k)).ready + place_turns (rows_before S c a) (rows_before S c (a + P)) k * p)) (let z : a + P - a ≡ P = omega arith in z)

    -- The law: after j turns, to a horizon that is not beyond the second tick, j periods later.
    pub round_agrees : (j k now : ℕ) → (0 < j → rows_before S c a ≤ k) → now ≤ a + P + j * P → now ≤ 4294967295
        → overdue g (rows_ready S a (a + P) c (k + j * (rows_before S c (a + P) - rows_before S c a))) now ≡ overdue g (round_ready (own c S) (rows_before S c (a + P)) (j * P) k) now
    round_agrees j k now low near small = ap (λ (o : Option ℕ). overdue g o now) (ready-is (k + j * (w - u))) ∙ go (ltb w k) refl
      where
        R : ℕ
        R = (passage_at (own c S) (place_row u w (k + j * (w - u)))).ready + place_turns u w (k + j * (w - u)) * P

        told : R ≡ (passage_at (own c S) k).ready + j * P → ltb R now ≡ ltb (capped ((passage_at (own c S) k).ready + j * P)) now
        told e = ap (λ (n : ℕ). ltb n now) e ∙ sym (cap_overdue ((passage_at (own c S) k).ready + j * P) now small)

        go : (b : Bool) → ltb w k ≡ b → ltb R now ≡ overdue g (cond b none (some (capped ((passage_at (own c S) k).ready + j * P)))) now
        go true e =
            let m = more_turns u w fewer k j (omega (arith, ltb-true w k e)) in
            let q = ready_from (place_row u w (k + j * (w - u))) m.0 (omega (arith, place_low u w (k + j * (w - u)) fewer, second)) in
            le-ltb R now (omega (arith, q, more_periods (place_turns u w (k + j * (w - u))) (suc j) P m.1))
          where
            more_periods : (x y p : ℕ) → y ≤ x → y * p ≤ x * p
            more_periods x zero p i = omega arith
            more_periods zero (suc y) p i = absurd (omega arith)
            more_periods (suc x) (suc y) p i = omega (arith, more_periods x y p (omega arith))
        go false e = by_cases (ℕ_discrete k w) last before
          where
            here_on : k ≤ w
            here_on = ltb-false w k e

            before : (k ≡ w → ⊥) → ltb R now ≡ ltb (capped ((passage_at (own c S) k).ready + j * P)) now
            before n =
                let o = later_place u w fewer k j (omega (arith, here_on)) low in
                told (ap₂ (λ (x y : ℕ). (passage_at (own c S) x).ready + y * P) o.0 o.1)

            last : k ≡ w → ltb R now ≡ ltb (capped ((passage_at (own c S) k).ready + j * P)) now
            last n =
                let o = later_place u w fewer u (suc j) fewer (λ x. omega arith) in
                let z : k + j * (w - u) ≡ u + suc j * (w - u) = omega (arith, n, fewer) in
                let again = comes_again T h S s a P longer r c 0 (omega (arith, second)) in
                let f : w + 0 ≡ k = omega (arith, n) in
                let x : u + 0 ≡ u = omega arith in
                told
                (ap (λ (i : ℕ). (passage_at (own c S) (place_row u w i)).ready + place_turns u w i * P) z
                ∙ ap₂ (λ (i y : ℕ). (passage_at (own c S) i).ready + y * P) o.0 o.1
                ∙ omega (arith, again.1, ap (λ (i : ℕ). (passage_at (own c S) i).ready) f, ap (λ (i : ℕ). (passage_at (own c S) i).ready) x))
