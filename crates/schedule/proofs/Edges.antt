-- The index of all edges, from component to component. Assumes nothing.
use mathlib.Core.Path.{◌≡◌, refl, subst, ◌∙◌}
use mathlib.Core.List.{List}
use Prim.Native.Nat.{ℕ, ◌+◌, ◌*◌, ◌≤◌, ◌<◌}
use native.Mathlib.Omega.{arith}
use native.Mathlib.Decide.{ℕ_discrete}
use lib.ListN.{length, get_or}
use Rattle.model.specs.Places.{start_of, component_in}
use Rattle.window.specs.Indexed.{Indexed, Within}
use Rattle.window.proofs.Indexing.{still_indexed}

-- the edges of the components below c are noted, all else stays
pub record IndexedBelow (bs before index : List ℕ) (c : ℕ) : Type 0 where
  pub same : length index ≡ length before
  pub done : (d : ℕ) → d < c → Indexed bs index d (start_of bs d)
  pub rest : (j : ℕ) → c * 80 ≤ j → get_or index j 0 ≡ get_or before j 0

pub indexed_none : (bs before : List ℕ) → IndexedBelow bs before before 0
indexed_none bs before = record { same = refl; done = λ d h. absurd (omega (arith, h)); rest = λ j h. refl }

-- one component more
pub indexed_turn : (bs before index after : List ℕ) (c start : ℕ) → IndexedBelow bs before index c → ((d : ℕ) → d < c → length (component_in bs d).arcs ≤ 32) → start ≡ start_of bs c
    → Indexed bs after c start → Within index after c → IndexedBelow bs before after (c + 1)
indexed_turn bs before index after c start p few e x w =
    record {
      same = w.same ∙ p.same;
      done = λ d h. go d h (ℕ_discrete d c);
      rest = λ j h. w.above j (omega (arith, h)) ∙ p.rest j (omega (arith, h));
    }
  where
    go : (d : ℕ) → d < c + 1 → Dec (d ≡ c) → Indexed bs after d (start_of bs d)
    go d h (yes q) = rw q (subst (Indexed bs after c) e x)
    go d h (no q) = let l : d < c = omega (arith, h, q) in still_indexed bs index after d c (start_of bs d) w l (few d l) (p.done d l)
