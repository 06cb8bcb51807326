-- Simulated runs in words: how many there were, how many of them ended late, in all and of each node, and the generator afterwards.
use Rattle.std.specs.Prelude.{List, ◌++◌, ℕ, get_or}
use Rattle.model.specs.declared.Verdict.{Verdict}
use Rattle.model.specs.declared.Verdict.TheVariants.{Accepted, Refused}
use Rattle.model.specs.Lists.{each, below}
use Rattle.model.specs.Reader.{byte}
use Rattle.simulation.specs.Simulated.{SimulateCall, simulate_call}
use Rattle.text.specs.Words.{ascii, decimal, field}
use Rattle.refusal_text.specs.RefusalText.{refusal_text}

-- the late runs of one node
abbrev pub node_line : ℕ → ℕ → List ℕ
node_line node late = field "node " node ++ field ": " late ++ ascii "\n"

-- of so many nodes
unfoldable pub node_lines : List ℕ → ℕ → List ℕ
unfolding each decimal
node_lines nodes n = each (λ c. node_line c (get_or nodes c 0)) (below n)

-- all of it, for so many nodes and runs
abbrev pub simulation_text : ℕ → ℕ → ℕ → List ℕ → ℕ → List ℕ
simulation_text n runs late nodes draw =
    field "runs " runs ++ field "\nlate " late ++ ascii "\n" ++ node_lines nodes n ++ field "generator " draw ++ ascii "\n"

abbrev pub simulated_text : ℕ → ℕ → Verdict → SimulateCall → List ℕ
simulated_text n runs (Refused number component) r = refusal_text number component
simulated_text n runs Accepted r = simulation_text n runs r.late r.nodes r.draw

-- for any bytes and numbers; a table's byte 3 is the number of its nodes
unfoldable pub printed_simulation : List ℕ → ℕ → ℕ → ℕ → ℕ → List ℕ
unfolding simulate_call decimal refusal_text node_lines
printed_simulation table lo hi runs seed =
    simulated_text (byte table 3) runs (simulate_call table lo hi runs seed).verdict (simulate_call table lo hi runs seed)
