-- The lines of the nodes, one after the other. Assumes nothing.
use mathlib.Core.Path.{◌≡◌, sym, ap, ◌∙◌}
use mathlib.Core.List.{List, ◌++◌, append_assoc, append-nil}
use Prim.Native.Nat.{ℕ, suc, ◌+◌, ◌-◌, ◌≤◌, ◌<◌}
use native.Mathlib.Numerals.{add-one}
use native.Mathlib.Omega.{arith}
use lib.ListN.{take, get_or}
use Rattle.model.specs.Lists.{each, from}
use Rattle.text.specs.Words.{decimal, Added}
use Rattle.simulation_text.specs.SimulationText.{node_line, node_lines}

module _ (nodes : List ℕ) (n : ℕ) where
  abbrev line : ℕ → List ℕ
  line c = node_line c (get_or nodes c 0)

  -- the line of node c and those behind it
  unfoldable pub rest : ℕ → List ℕ
  unfolding each decimal
  rest c = each line (from c (n - c))

  pub rest_all : (out : List ℕ) (at : ℕ) → take at out ++ rest 0 ≡ take at out ++ node_lines nodes n
  unfolding rest node_lines
  rest_all out at = let e : n - 0 ≡ n = omega arith in ap (λ (m : ℕ). take at out ++ each line (from 0 m)) e

  pub rest_turn : (out out' text : List ℕ) (at at' c : ℕ) → c < n → Added out at (line c) out' at' → take at out ++ rest c ≡ text → take at' out' ++ rest (c + 1) ≡ text
  unfolding rest each
  rest_turn out out' text at at' c h added e =
      let more : n - c ≡ suc (n - (c + 1)) = omega arith in
      let split : rest c ≡ line c ++ rest (c + 1) = rw (more, add-one c) in
      ap (λ (l : List ℕ). l ++ rest (c + 1)) added.text ∙ append_assoc (take at out) (line c) (rest (c + 1))
      ∙ ap (λ (l : List ℕ). take at out ++ l) (sym split)
      ∙ e

  pub rest_done : (out text : List ℕ) (at c : ℕ) → n ≤ c → take at out ++ rest c ≡ text → take at out ≡ text
  unfolding rest each
  rest_done out text at c h e =
      let none : n - c ≡ 0 = omega arith in
      sym (append-nil (take at out)) ∙ ap (λ (m : ℕ). take at out ++ each line (from c m)) (sym none) ∙ e
