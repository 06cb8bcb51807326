-- `period::alike_at` meets its contract. Assumes nothing.
use mathlib.Core.Path.{sym, ◌∙◌}
use native.Mathlib.Omega.{arith}
use Rattle.period.proofs.Joining.{no_state}
use Rattle.period.proofs.alike_at.Goals as goal

pub number-requires : goal.number-requires
number-requires c = let p = c.requires in omega (arith, p.0.placed.fits, p.7)

pub returns-then-number-tick : goal.returns-then-number-tick
returns-then-number-tick c = no_state (λ q. c.if-number-tick.true (c.number.ensures ∙ q.0))

pub alike-requires : goal.alike-requires
alike-requires c = let p = c.requires in (p.0, p.1, p.2, p.3, p.4, p.5, p.6)

pub returns : goal.returns
returns c = (λ e. (sym c.number.ensures ∙ c.if-number-tick.false, c.alike.ensures.0 e), λ q. c.alike.ensures.1 q.1)
