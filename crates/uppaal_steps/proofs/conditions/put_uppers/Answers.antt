-- `uppaal_steps::conditions::put_uppers` meets its contract. Assumes nothing.
use mathlib.Core.Path.{ap, ap₂, ◌∙◌}
use mathlib.Core.List.{List}
use Prim.Native.Nat.{ℕ}
use lib.ListN.{drop}
use Rattle.model.specs.Reader.{byte}
use Rattle.parts.proofs.Skim.{tail}
use Rattle.uppaal_parts.specs.Marks.{highs_text}
use Rattle.uppaal_steps.proofs.Guarding.{uppers_told}
use native.Mathlib.Omega.{arith}
use Rattle.blocks.proofs.Runs.{put_is, put_join}
use Rattle.uppaal_steps.proofs.conditions.put_uppers.Goals as goal

pub returns : goal.returns
returns c =
    let a = c.args in
    let h = a.edge.now in
    let e = ap₂ (λ (t : ℕ) (l : List ℕ). highs_text t (byte h 4) l) c.put_upper-mark.ensures.1 (tail h c.head_length-head.result ∙ ap (λ (n : ℕ). drop n h) c.head_length-head.ensures.0) in
    (put_is (uppers_told a.budgets h a.tight a.location) (put_join c.put_upper-mark.ensures.0 (put_is e c.put_highs.ensures.0)), omega (arith, c.requires.0.clock_guards))
