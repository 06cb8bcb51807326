-- `site::one_horizon` meets its contract. Assumes nothing.
use mathlib.Core.Path.{ap₂, ◌∙◌}
use mathlib.Core.Bool.{Bool, ◌&&◌}
use Rattle.site.specs.Airtime.{shares_horizon}
use Rattle.site.specs.Lent.{place_in}
use Rattle.site.proofs.Keeping.{four_all}
use Rattle.site.proofs.one_horizon.Goals as goal

pub returns : goal.returns
returns c =
    let b = c in
    let s = b.args.site in
    let h = b.args.horizon in
    let e = ap₂ (λ (x y : Bool). x && y) b.shares_horizon.ensures b.shares_horizon-2.ensures in
    let f = ap₂ (λ (x y : Bool). x && y) c.shares_horizon-3.ensures c.shares_horizon-4.ensures in
    c.both.ensures ∙ ap₂ (λ (x y : Bool). x && y) (b.both-first.ensures ∙ e) (c.both-second.ensures ∙ f) ∙ four_all (shares_horizon h (place_in s 0)) (shares_horizon h (place_in s 1)) (shares_horizon h (place_in s 2)) (shares_horizon h (place_in s 3))
