-- `spread_text::lacking` meets its contract. Assumes nothing.
use native.Mathlib.Omega.{arith}
use Rattle.spread_text.proofs.lacking.Goals as goal

pub returns-then-least-reached : goal.returns-then-least-reached
returns-then-least-reached c = (omega arith, omega arith)
