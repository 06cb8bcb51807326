-- The part of a node by what the tests on the way showed. Assumes nothing.
use mathlib.Core.Path.{◌≡◌, refl}
use mathlib.Core.List.{List}
use Prim.Native.Nat.{ℕ, zero, suc, ◌+◌, ◌-◌, ◌≤◌, ◌<◌}
use native.Mathlib.Omega.{arith}
use native.Mathlib.Numerals.{sub-one}
use borrow.Author.Tests.{lt-ltb, le-ltb, le-leb, lt-leb}
use lib.ListN.{length, take, drop}
use Rattle.model.specs.Reader.{byte, word}
use Rattle.model.specs.Program.{Range, no_part, part_from, part_of, within}
use Rattle.program.specs.declared.Span.{Span}
use Rattle.program.specs.Part.{Spans}

module _ (bs : List ℕ) (node : ℕ) where
  -- the header runs out of the bytes
  pub headless : length bs < 6 → part_of bs node ≡ no_part
  unfolding part_of
  headless h = rw (lt-leb 6 (length bs) h)

  -- a number without a node
  pub absent : 6 ≤ length bs → byte bs 3 ≤ node → part_of bs node ≡ no_part
  unfolding part_of
  absent h k = rw (le-leb 6 (length bs) h, le-ltb node (byte bs 3) k)

  -- the walk starts behind the header
  pub begun : 6 ≤ length bs → node < byte bs 3 → part_from bs 6 node ≡ part_of bs node
  unfolding part_of
  begun h k = rw (le-leb 6 (length bs) h, lt-ltb node (byte bs 3) k)

module _ (bs : List ℕ) (at left : ℕ) where
  -- a length runs out of the bytes
  pub lengthless : length bs < at + 2 → part_from bs at left ≡ no_part
  unfolding part_from
  lengthless h = go left
    where
      go : (n : ℕ) → part_from bs at n ≡ no_part
      go zero = rw (lt-leb (at + 2) (length bs) h)
      go (suc n) = rw (lt-leb (at + 2) (length bs) h)

  module _ (n : ℕ) (e : n ≡ word bs at) (h : at + 2 ≤ length bs) where
    -- a part runs out of the bytes
    pub too_long : length bs < at + n → part_from bs at left ≡ no_part
    unfolding part_from
    too_long k = go left
      where
        go : (i : ℕ) → part_from bs at i ≡ no_part
        go zero = rw (le-leb (at + 2) (length bs) h, ← e, lt-leb (at + n) (length bs) k)
        go (suc i) = rw (le-leb (at + 2) (length bs) h, ← e, lt-leb (at + n) (length bs) k)

    -- the part is here
    pub here : left ≡ 0 → at + n ≤ length bs → part_from bs at left ≡ record { start = at; long = n }
    unfolding part_from
    here z k = rw (z, le-leb (at + 2) (length bs) h, ← e, le-leb (at + n) (length bs) k)

    -- one part on
    pub onward : 0 < left → at + n ≤ length bs → part_from bs at left ≡ part_from bs (at + n) (left - 1)
    unfolding part_from
    onward p k = go left p
      where
        go : (i : ℕ) → 0 < i → part_from bs at i ≡ part_from bs (at + n) (i - 1)
        go zero q = absurd (omega arith)
        go (suc i) q = rw (sub-one, le-leb (at + 2) (length bs) h, ← e, le-leb (at + n) (length bs) k)

-- no span where there is no part
pub spans_none : (bs : List ℕ) {r : Range} → r ≡ no_part → Spans bs (record { start = 0; long = 0 }) r
spans_none bs e = rw e (record { start = refl; long = refl; fits = omega arith })

pub spans_here : (bs : List ℕ) (at n : ℕ) {r : Range} → r ≡ record { start = at; long = n } → at + n ≤ length bs → Spans bs (record { start = at; long = n }) r
spans_here bs at n e h = rw e (record { start = refl; long = refl; fits = h })

-- the bytes of a span are those of the range
pub cut : (bs : List ℕ) (s : Span) {r : Range} → Spans bs s r → take (s.start + s.long - s.start) (drop s.start bs) ≡ within r bs
cut bs s h =
    let z : s.start + s.long - s.start ≡ s.long = omega arith in
    rw (z, h.start, h.long)
