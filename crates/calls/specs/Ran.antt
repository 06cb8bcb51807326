-- The answer of the call `run`, held against its definition.
use Rattle.std.specs.Prelude.{◌≡◌, List, ℕ, ◌≤◌}
use Rattle.model.specs.Calls.{RunCall}
use Rattle.calls.specs.declared.Ran.{Ran}

-- every number of the answer, and every lent byte afterwards; no more observations than a schedule has passages
pub record Answers (call : RunCall) (r : Ran) (later : List ℕ) : Type 0 where
  pub verdict : r.verdict ≡ call.verdict
  pub end : r.end ≡ call.end
  pub tick : r.tick ≡ call.tick
  pub used : r.used ≡ call.used
  pub size : r.size ≡ call.size
  pub lent : later ≡ call.lent
  pub few : r.size ≤ 1024
