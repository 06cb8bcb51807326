-- The words of simulated runs from what the call `simulate_from` leaves. Assumes nothing.
use mathlib.Core.Path.{◌≡◌, refl, sym, ap, ◌∙◌}
use mathlib.Core.List.{List}
use Prim.Native.Nat.{ℕ, ◌≤◌}
use native.Mathlib.Omega.{arith}
use Rattle.model.specs.declared.Verdict.{Verdict}
use Rattle.model.specs.declared.Verdict.TheVariants.{Accepted, Refused}
use Rattle.model.specs.Lists.{Answer, accepted, refused}
use Rattle.model.specs.Table.{Read}
use Rattle.model.specs.Reader.{byte, read_table}
use Rattle.node_count.proofs.Few.{read_few}
use Rattle.simulation.specs.Simulated.{simulate_read, simulate_call}
use Rattle.simulated_runs.specs.declared.call.Simulation.{Simulation}
use Rattle.simulated_runs.specs.Answers.{SimulatedAs}
use Rattle.refusal_text.specs.RefusalText.{refusal_text}
use Rattle.simulation_text.specs.SimulationText.{simulation_text, simulated_text, printed_simulation}

module _ (table : List ℕ) (lo hi runs seed : ℕ) (r : Simulation) (is : SimulatedAs (simulate_call table lo hi runs seed) r) where
  by_verdict : {v : Verdict} → r.verdict ≡ v → simulated_text (byte table 3) runs v (simulate_call table lo hi runs seed) ≡ printed_simulation table lo hi runs seed
  unfolding printed_simulation
  by_verdict e = sym (ap (λ (v : Verdict). simulated_text (byte table 3) runs v (simulate_call table lo hi runs seed)) (sym is.verdict ∙ e))

  pub simulated_words : r.verdict ≡ Accepted → (nodes : ℕ) → nodes ≡ byte table 3 → simulation_text nodes runs r.late r.nodes r.state ≡ printed_simulation table lo hi runs seed
  simulated_words h nodes e = rw (e, is.late, is.nodes, is.state) (by_verdict h)

  pub refused_words : (n c : ℕ) → r.verdict ≡ Refused n c → refusal_text n c ≡ printed_simulation table lo hi runs seed
  refused_words n c h = by_verdict h

  -- a table that is simulated has at most 8 nodes
  pub few_nodes : r.verdict ≡ Accepted → byte table 3 ≤ 8
  unfolding simulate_call
  few_nodes h = go (read_table table) refl (sym is.verdict ∙ h)
    where
      go : (a : Answer Read) → read_table table ≡ a → (simulate_read a (record { lo = lo; hi = hi }) runs seed).verdict ≡ Accepted → byte table 3 ≤ 8
      go (accepted t) e q = read_few table t e
      go (refused n c) e q = let y : ◌≡◌ {A = ℕ} 0 1 = cc in absurd (omega arith)
