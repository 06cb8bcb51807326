-- What is made of an edge's parts, part by part. Assumes nothing.
use mathlib.Core.Path.{◌≡◌, refl, sym, ap, subst, ◌∙◌}
use mathlib.Core.Bool.{Bool, true, false, cond}
use mathlib.Core.List.{List, [], ◌∷◌, ◌++◌, map}
use Prim.Native.Nat.{ℕ, zero, suc, ◌+◌, ◌-◌, ◌*◌, ◌≤◌, ◌<◌}
use native.Mathlib.Nat.{suc-mul}
use native.Mathlib.Numerals.{sub-one}
use native.Mathlib.Omega.{arith}
use borrow.Author.Tests.{eq-eqb, ne_eqb}
use lib.Dec.{eqb}
use lib.ListN.{length, take, drop, length-append, length-drop}
use lib.Seq.{drop-drop}
use Rattle.model.specs.declared.ClockGuard.{ClockGuard}
use Rattle.model.specs.Lists.{each}
use Rattle.model.specs.Reader.{byte, word, clock_guard_at, data_guard_at, update_at, pair_at}
use Rattle.model.specs.Places.{list_at}
use Rattle.model.specs.Program.{low, high, clock_tests, data_tests, update_of, quad, pair_quad, code, block_bytes}
use Rattle.model.proofs.Basics.Words.{unsigned_back}
use Rattle.model.proofs.Program.Size.{block_join, updates_length}
use Rattle.parts.proofs.Skim.{tail}
use Rattle.blocks.specs.declared.Kind.{Kind}
use Rattle.blocks.specs.declared.Kind.TheVariants.{ClockGuards, DataGuards, Updates, Pairs}
use Rattle.blocks.specs.Put.{Room, Put}
use Rattle.blocks.specs.Made.{width_of, made_of, all_made}
use Rattle.blocks.proofs.Runs.{Writing, left_is, put_on, room_left, put_all}

-- ## One part, as statements

-- a clock bound without a high
pub low_only : (h : List ℕ) (l k : ℕ) → l ≡ word h 1 → k ≡ word h 3 → k ≡ 65535 → quad 0x0B (byte h 0) l ≡ block_bytes (clock_tests (clock_guard_at h ∷ []))
unfolding block_bytes each code
low_only h l k p q e = rw (← p, ← q, eq-eqb k 65535 e)

-- a clock bound with both
pub low_and_high : (h : List ℕ) (l k : ℕ) → l ≡ word h 1 → k ≡ word h 3 → (k ≡ 65535 → ⊥)
    → quad 0x0B (byte h 0) l ++ quad 0x0C (byte h 0) k ≡ block_bytes (clock_tests (clock_guard_at h ∷ []))
unfolding block_bytes each code
low_and_high h l k p q e = rw (← p, ← q, ne_eqb k 65535 e)

-- either has a low
pub low_first : (g : ClockGuard) (o : List ℕ) (at : ℕ) → Room o at (block_bytes (clock_tests (g ∷ []))) → at + 4 ≤ length o
unfolding block_bytes each code
low_first g o at r = go (eqb g.high 65535) r
  where
    go : (t : Bool) → Room o at (block_bytes (low g.clock g.low ∷ cond t [] (high g.clock g.high ∷ []))) → at + 4 ≤ length o
    go true h = omega arith
    go false h = omega arith

-- a data bound: the words of the table
pub data_words : (h : List ℕ) (l k : ℕ) → l < 65536 → k < 65536 → l ≡ word h 1 → k ≡ word h 3
    → quad 0x0D (byte h 0) l ++ quad 0x0E (byte h 0) k ≡ block_bytes (data_tests (data_guard_at h ∷ []))
unfolding block_bytes each code
data_words h l k a b p q = rw (← p, ← q, unsigned_back l a, unsigned_back k b)

-- an update that adds, and one that sets
pub adds : (h : List ℕ) (k : ℕ) → k < 65536 → k ≡ word h 2 → byte h 1 ≡ 1 → quad 0x02 (byte h 0) k ≡ block_bytes (update_of (update_at h) ∷ [])
unfolding block_bytes each code
adds h k a p e = rw (eq-eqb (byte h 1) 1 e, ← p, unsigned_back k a)

pub sets-to : (h : List ℕ) (k : ℕ) → k < 65536 → k ≡ word h 2 → (byte h 1 ≡ 1 → ⊥) → quad 0x01 (byte h 0) k ≡ block_bytes (update_of (update_at h) ∷ [])
unfolding block_bytes each code
sets-to h k a p e = rw (ne_eqb (byte h 1) 1 e, ← p, unsigned_back k a)

-- a data bound has two statements
pub data_room : (h o : List ℕ) (at : ℕ) → Room o at (block_bytes (data_tests (data_guard_at h ∷ []))) → (at + 4 ≤ length o) × (at + 8 ≤ length o)
unfolding block_bytes each code
data_room h o at r = (omega arith, omega arith)

-- an update has one
pub update_room : (h o : List ℕ) (at : ℕ) → Room o at (block_bytes (update_of (update_at h) ∷ [])) → at + 4 ≤ length o
update_room h o at r = omega (arith, updates_length (update_at h ∷ []))

-- ## By kind

-- what a kind of part asks for
abbrev pub Asked : Kind → List ℕ → List ℕ → ℕ → Type 0
Asked k h o at = (width_of k ≤ length h) × Room o at (made_of k h)

pub asked_as : (h o : List ℕ) (at : ℕ) {k j : Kind} → k ≡ j → Asked k h o at → Asked j h o at
asked_as h o at e a = subst (λ (i : Kind). Asked i h o at) e a

pub made_as : (h : List ℕ) {o p : List ℕ} {at n : ℕ} {k j : Kind} → k ≡ j → Put o at (made_of j h) n p → Put o at (made_of k h) n p
made_as h {o} {p} {at} {n} e a = subst (λ (i : Kind). Put o at (made_of i h) n p) (sym e) a

-- ## Many parts: a loop that counts down

pub one_of : (i j : ℕ) → 0 < i → j ≤ i * j
one_of zero j q = absurd (omega arith)
one_of (suc i) j q = omega (arith, suc-mul i j)

module _ (kind : Kind) (h : List ℕ) (k place : ℕ) {o₀ all o : List ℕ} {at₀ at : ℕ}
    (more : 0 < k) (w : Writing o₀ at₀ all o at (all_made kind k (drop place h))) where
  -- the first of what is left, and the rest
  ahead : all_made kind k (drop place h) ≡ made_of kind (drop place h) ++ all_made kind (k - 1) (drop (place + width_of kind) h)
  unfolding all_made
  ahead =
      let e : k ≡ suc (k - 1) = omega arith in
      ap (λ (n : ℕ). all_made kind n (drop place h)) e
      ∙ ap (λ (l : List ℕ). made_of kind (drop place h) ++ all_made kind (k - 1) l) (drop-drop (width_of kind) place h)

  -- what the part ahead asks for
  pub part_asked : place + k * width_of kind ≤ length h → Room o₀ at₀ all → Asked kind (take (length h - place) (drop place h)) o at
  part_asked f r =
      let room = room_left w r in
      let e = ap length ahead ∙ length-append (made_of kind (drop place h)) (all_made kind (k - 1) (drop (place + width_of kind) h)) in
      rw (tail h place) (simp length-drop (omega (arith, one_of k (width_of kind) more)), omega (arith, e))

  -- a turn
  pub part_put : {p : List ℕ} {n : ℕ} → Put o at (made_of kind (take (length h - place) (drop place h))) n p
      → Writing o₀ at₀ all p n (all_made kind (k - 1) (drop (place + width_of kind) h))
  part_put {p} {n} q =
      let t : Put o at (made_of kind (drop place h)) n p = subst (λ (l : List ℕ). Put o at (made_of kind l) n p) (tail h place) q in
      put_on (all_made kind (k - 1) (drop (place + width_of kind) h)) (left_is ahead w) t

-- the loop's place: what is left of the parts fits
pub parts_fit : (k w place n : ℕ) → 0 < k → place + k * w ≤ n → place + w + (k - 1) * w ≤ n
parts_fit zero w place n h f = absurd (omega arith)
parts_fit (suc k) w place n h f = rw sub-one (omega (arith, suc-mul k w))

-- none left
pub parts_done : (kind : Kind) (h : List ℕ) (k : ℕ) {o₀ all o : List ℕ} {at₀ at : ℕ} → k ≤ 0 → Writing o₀ at₀ all o at (all_made kind k h) → Put o₀ at₀ all at o
unfolding all_made
parts_done kind h zero q w = put_all w
parts_done kind h (suc k) q w = absurd (omega arith)

-- ## What is made of a list of parts

clock_tests_cons : (g : ClockGuard) (gs : List ClockGuard) → block_bytes (clock_tests (g ∷ [])) ++ block_bytes (clock_tests gs) ≡ block_bytes (clock_tests (g ∷ gs))
unfolding block_bytes each code
clock_tests_cons g gs = go (eqb g.high 65535)
  where
    go : (t : Bool) → block_bytes (low g.clock g.low ∷ cond t [] (high g.clock g.high ∷ [])) ++ block_bytes (clock_tests gs)
        ≡ block_bytes (low g.clock g.low ∷ cond t (clock_tests gs) (high g.clock g.high ∷ clock_tests gs))
    go true = refl
    go false = refl

pub clocks_made : (n : ℕ) (h : List ℕ) → all_made ClockGuards n h ≡ block_bytes (clock_tests (list_at clock_guard_at 5 n h))
unfolding all_made list_at block_bytes each
clocks_made zero h = refl
clocks_made (suc n) h =
    ap (λ (l : List ℕ). block_bytes (clock_tests (clock_guard_at h ∷ [])) ++ l) (clocks_made n (drop 5 h)) ∙ clock_tests_cons (clock_guard_at h) (list_at clock_guard_at 5 n (drop 5 h))

pub datas_made : (n : ℕ) (h : List ℕ) → all_made DataGuards n h ≡ block_bytes (data_tests (list_at data_guard_at 5 n h))
unfolding all_made list_at block_bytes each code
datas_made zero h = refl
datas_made (suc n) h = ap (λ (l : List ℕ). block_bytes (data_tests (data_guard_at h ∷ [])) ++ l) (datas_made n (drop 5 h))

pub updates_made : (n : ℕ) (h : List ℕ) → all_made Updates n h ≡ block_bytes (map update_of (list_at update_at 4 n h))
unfolding all_made list_at block_bytes each
updates_made zero h = refl
updates_made (suc n) h =
    ap (λ (l : List ℕ). block_bytes (update_of (update_at h) ∷ []) ++ l) (updates_made n (drop 4 h))
    ∙ sym (block_join (update_of (update_at h) ∷ []) (map update_of (list_at update_at 4 n (drop 4 h))))

pub pairs_made : (n : ℕ) (h : List ℕ) → all_made Pairs n h ≡ each pair_quad (list_at pair_at 2 n h)
unfolding all_made list_at each
pairs_made zero h = refl
pairs_made (suc n) h = ap (λ (l : List ℕ). pair_quad (pair_at h) ++ l) (pairs_made n (drop 2 h))

-- ## Parts from a place on

module _ (kind : Kind) (n : ℕ) (h : List ℕ) (place q : ℕ) (e : place ≡ q) where
  -- what the parts there ask for
  pub parts_asked : (o : List ℕ) (at : ℕ) → q + n * width_of kind ≤ length h → Room o at (all_made kind n (drop q h))
      → (n * width_of kind ≤ length (take (length h - place) (drop place h))) × Room o at (all_made kind n (take (length h - place) (drop place h)))
  parts_asked o at f r = rw (tail h place, e) (simp length-drop (omega arith), r)

  pub parts_there : {o p : List ℕ} {at m : ℕ} → Put o at (all_made kind n (take (length h - place) (drop place h))) m p → Put o at (all_made kind n (drop q h)) m p
  parts_there k = rw (tail h place, e) at k
