-- What puts a step in or a step out of an edge, behind what was written.
use Rattle.std.specs.Prelude.{◌≡◌, Bool, ℕ, List, ◌+◌, ◌≤◌}
use Rattle.std.specs.Fn.{Shared}
use denote.Ref.{Bor, MutBor}
use Rattle.blocks.specs.Put.{Put}
use Rattle.uppaal_steps.specs.declared.Origin.{Origin}
use Rattle.uppaal_steps.specs.Steps.{step_told}

-- how it is called: the edge and its origin, the message, the mark, the buffer and a place there; its answer is the place behind it
abbrev pub Stepper : Type 0 → Type 1
Stepper F = Shared F (Bor (List ℕ) × (Origin × (ℕ × (ℕ × (MutBor (List ℕ) × (ℕ × Unit {0})))))) (ℕ × (MutBor (List ℕ) × Unit {0}))

module _ {F : Type 0} (g : Stepper F) (f : F) (edge : List ℕ) (origin : Origin) (message : ℕ) where
  -- it takes any mark, where there are so many numbers left for the place
  abbrev pub TakesSteps : Type 0
  TakesSteps = (b : Bor (List ℕ)) (mark : ℕ) (o : MutBor (List ℕ)) (at : ℕ) → b.now ≡ edge → at + 1250 ≤ 2305843009213693952 → g.pre f (b, (origin, (message, (mark, (o, (at, tt))))))

  -- and puts the steps in, or the steps out
  abbrev pub TellsSteps : Bool → Type 0
  TellsSteps inwards =
      (b : Bor (List ℕ)) (mark : ℕ) (o : MutBor (List ℕ)) (at n : ℕ) (p : MutBor (List ℕ)) → b.now ≡ edge → at + 1250 ≤ 2305843009213693952
      → g.post f (b, (origin, (message, (mark, (o, (at, tt)))))) (n, (p, tt)) → Put o.now at (step_told inwards origin edge message mark) n p.now × (n ≤ at + 1250)
