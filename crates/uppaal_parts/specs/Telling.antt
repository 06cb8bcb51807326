-- What puts a part of some width, behind what was written.
use Rattle.std.specs.Prelude.{ℕ, List, ◌+◌, ◌≤◌, length}
use Rattle.std.specs.Fn.{Shared}
use denote.Ref.{Bor, MutBor}
use Rattle.blocks.specs.Put.{Put}

-- how it is called: the bytes whose front it puts, the buffer and a place there; its answer is the place behind it
abbrev pub Putter : Type 0 → Type 1
Putter F = Shared F (Bor (List ℕ) × (MutBor (List ℕ) × (ℕ × Unit {0}))) (ℕ × (MutBor (List ℕ) × Unit {0}))

module _ {F : Type 0} (g : Putter F) (f : F) (width most : ℕ) where
  -- it takes any part that is whole, where there are so many numbers left for the place
  abbrev pub Takes : Type 0
  Takes = (b : Bor (List ℕ)) (o : MutBor (List ℕ)) (at : ℕ) → width ≤ length b.now → at + most ≤ 2305843009213693952 → g.pre f (b, (o, (at, tt)))

  -- and puts what tell says of it, in at most so many bytes
  abbrev pub Tells : (List ℕ → List ℕ) → Type 0
  Tells tell =
      (b : Bor (List ℕ)) (o : MutBor (List ℕ)) (at n : ℕ) (p : MutBor (List ℕ)) → width ≤ length b.now → at + most ≤ 2305843009213693952
      → g.post f (b, (o, (at, tt))) (n, (p, tt)) → Put o.now at (tell b.now) n p.now × (n ≤ at + most)
