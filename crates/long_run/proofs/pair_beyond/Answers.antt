-- `long_run::pair_beyond` meets its contract. Assumes nothing.
use mathlib.Core.Path.{refl}
use native.Mathlib.Omega.{arith}
use Rattle.long_run.proofs.pair_beyond.Goals as goal

pub returns-then-own-horizon : goal.returns-then-own-horizon
returns-then-own-horizon c = (λ h. c.pair_in.ensures, λ h. absurd (omega (arith, h, c.if-own-horizon.true)))

pub returns : goal.returns
returns c = (λ h. absurd (omega (arith, h, c.if-own-horizon.false)), λ h. refl)
