-- `site::refuse` meets its contract. Assumes nothing.
use mathlib.Core.Path.{ap}
use Prim.Native.Nat.{ℕ}
use Rattle.site.proofs.refuse.Goals as goal

pub returns : goal.returns
returns c =
    let a = c.args in
    ap (λ (n : ℕ). record { limit = a.site.limit; horizons = a.site.horizons; airtimes = a.site.airtimes; in_use = n; number = a.number; component = a.component }) c.in_use.ensures.0
