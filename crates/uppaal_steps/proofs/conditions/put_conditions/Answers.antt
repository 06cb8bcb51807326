-- `uppaal_steps::conditions::put_conditions` meets its contract. Assumes nothing.
use mathlib.Core.Path.{◌≡◌, ap, ◌∙◌}
use Prim.Native.Nat.{ℕ, ◌+◌, ◌*◌}
use lib.ListN.{drop}
use Rattle.model.specs.Reader.{byte}
use Rattle.model.specs.Places.{arc_head_length}
use Rattle.parts.proofs.Skim.{tail}
use Rattle.uppaal_parts.specs.Marks.{lows_text, datas_text}
use Rattle.uppaal_parts.proofs.Turns.{put_three}
use Rattle.uppaal_steps.proofs.Guarding.{conditions_told}
use native.Mathlib.Omega.{arith}
use Rattle.blocks.proofs.Runs.{put_is}
use Rattle.uppaal_steps.proofs.conditions.put_conditions.Goals as goal

pub returns : goal.returns
returns c =
    let a = c.args in
    let w = c.requires.0 in
    let h = a.edge.now in
    let q : c.head_length-head.result + c.wide.result * 5 ≡ arc_head_length a.budgets + byte h 4 * 5 = omega (arith, c.head_length-head.ensures.0, c.wide.ensures.0) in
    let lows = ap (lows_text (byte h 4)) (tail h c.head_length-head.result ∙ ap (λ (k : ℕ). drop k h) c.head_length-head.ensures.0) in
    let datas = ap (datas_text (byte h 5)) (tail h (c.head_length-head.result + c.wide.result * 5) ∙ ap (λ (k : ℕ). drop k h) q) in
    (put_is (conditions_told a.budgets h) (put_three (put_is lows c.put_lows-first.ensures.0) (put_is datas c.put_datas-second.ensures.0) c.put_edge_ranges.ensures.0), omega (arith, w.clock_guards, w.data_guards))
