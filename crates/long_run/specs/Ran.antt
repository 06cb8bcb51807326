-- The answer of the call that runs to a horizon, held against its definition.
use Rattle.std.specs.Prelude.{◌≡◌, List, ℕ}
use Rattle.model.specs.Calls.{RunCall}
use Rattle.long_run.specs.declared.LongRan.{LongRan}

-- every number of the answer, and every lent byte afterwards
pub record AnswersTo (call : RunCall) (r : LongRan) (later : List ℕ) : Type 0 where
  pub verdict : r.verdict ≡ call.verdict
  pub end : r.end ≡ call.end
  pub tick : r.tick ≡ call.tick
  pub used : r.used ≡ call.used
  pub size : r.size ≡ call.size
  pub lent : later ≡ call.lent
