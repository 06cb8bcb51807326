-- The registers at a program's start. Assumes nothing.
use mathlib.Core.Path.{◌≡◌, refl, sym, ap, subst, ◌∙◌}
use mathlib.Core.List.{List, [], ◌∷◌}
use Prim.Native.Nat.{ℕ, zero, suc, ◌≤◌}
use native.Mathlib.Omega.{arith}
use lib.IntN.{pos}
use lib.ListN.{take, replicate}
use Rattle.model.specs.Lists.{empty, more}
use Rattle.model.specs.Reader.{byte}
use Rattle.model.specs.Machine.{start_node}
use Rattle.node.specs.declared.Counts.{Counts}
use Rattle.node.specs.declared.Node.{Node}
use Rattle.node.specs.Views.{node_of, Held, Within}
use Rattle.node.specs.After.{start_of}
use Rattle.node.proofs.Rest.{rest_block}

-- of four places the first n
first_of : {A : Type 0} (a : A) (n : ℕ) → n ≤ 4 → take n (a ∷ a ∷ a ∷ a ∷ []) ≡ replicate n a
first_of a zero h = refl
first_of a (suc zero) h = refl
first_of a (suc (suc zero)) h = refl
first_of a (suc (suc (suc zero))) h = refl
first_of a (suc (suc (suc (suc zero)))) h = refl
first_of a (suc (suc (suc (suc (suc n))))) h = absurd (omega arith)

-- in the initial location's block, all else 0
module _ (p : List ℕ) where
  -- a node is at its program's start
  pub begins : (held : Counts) → Held held → node_of p held (start_of p) ≡ start_node p held.clocks held.variables
  begins held h =
      rw (rest_block p (byte p 4), first_of {A = ℕ} 0 held.clocks h.clocks, first_of (pos 0) held.variables h.variables)

  -- and no register has grown
  pub still : Within 0 (start_of p)
  still = record { t = none; clocks = more none (more none (more none (more none empty))); sleeps = none }
    where
      none : ◌≤◌ 0 0
      none = omega arith

  -- both, of registers that are those
  pub starts : (r : Node) → r ≡ start_of p → ((held : Counts) → Held held → node_of p held r ≡ start_node p held.clocks held.variables) × Within 0 r
  starts r e = (λ held h. ap (node_of p held) e ∙ begins held h, subst (Within 0) (sym e) still)
