-- `period::states::enter_there` meets its contract. Assumes nothing.
use mathlib.Core.Path.{sym, ◌∙◌}
use Prim.Native.Nat.{◌-◌}
use native.Mathlib.Omega.{arith}
use Rattle.model.proofs.Basics.Bools.{clash}
use Rattle.period.proofs.Joining.{no_state}
use Rattle.period.proofs.states.enter_there.Goals as goal

pub joins-requires : goal.joins-requires
joins-requires c =
    let p = c.requires in (p.0, p.1, p.2, p.4)

pub places_agree-requires : goal.places_agree-requires
places_agree-requires c =
    let p = c.requires in
    let a = c.args in
    let r = (c.joins.ensures.0 c.if-joins.true (a.components - 1) (omega (arith, p.3))).0 in
    (p.0, p.1, omega (arith, r, p.3), p.5)

pub returns-then-joins : goal.returns-then-joins
returns-then-joins c = (λ e. (c.joins.ensures.0 c.if-joins.true, c.places_agree.ensures.0 e), λ q. c.places_agree.ensures.1 q.1)

pub returns : goal.returns
returns c = no_state (λ q. clash (sym c.if-joins.false ∙ c.joins.ensures.1 q.0))
