-- The words of simulated runs, computed.
use Rattle.std.specs.Prelude.{◌≡◌, refl, [], ◌∷◌, ◌++◌}
use Rattle.text.specs.Words.{ascii}
use Rattle.simulation_text.specs.SimulationText.{node_lines, simulation_text}

-- of two nodes, those of six more are not told
pub told : simulation_text 2 50 21 (0 ∷ 21 ∷ 0 ∷ 0 ∷ 0 ∷ 0 ∷ 0 ∷ 0 ∷ []) 655692483
    ≡ ascii "runs 50\nlate 21\n" ++ ascii "node 0: 0\nnode 1: 21\n" ++ ascii "generator 655692483\n"
unfolding node_lines
told = refl
