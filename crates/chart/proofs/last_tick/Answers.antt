-- `chart::last_tick` meets its contract. Assumes nothing.
use mathlib.Core.Path.{refl}
use mathlib.Core.Logic.{inl, inr}
use native.Mathlib.Omega.{arith}
use Rattle.chart.proofs.last_tick.Goals as goal

pub returns-then-end-horizon : goal.returns-then-end-horizon
returns-then-end-horizon c = (omega arith, omega arith, inl refl)

pub returns-else-end-horizon : goal.returns-else-end-horizon
returns-else-end-horizon c = (omega arith, omega arith, inr (omega arith))
