-- `uppaal_steps::put_transitions` meets its contract. Assumes nothing.
use mathlib.Core.Path.{◌≡◌, ap, ◌∙◌}
use Prim.Native.Nat.{ℕ}
use lib.ListN.{length, drop}
use Rattle.model.specs.Reader.{byte}
use Rattle.model.specs.Places.{arc_at}
use Rattle.parts.proofs.Skim.{tail}
use Rattle.window.specs.Views.{message_of}
use Rattle.uppaal.specs.Export.{highs}
use Rattle.uppaal_parts.specs.Marks.{highs_count}
use Rattle.uppaal_steps.proofs.Guarding.{highs_are}
use Rattle.uppaal_steps.proofs.Stepping.{transitions_told}
use native.Mathlib.Omega.{arith}
use Rattle.blocks.proofs.Runs.{put_is, put_join}
use Rattle.uppaal_steps.proofs.put_transitions.Goals as goal

pub put_entries-next-requires : goal.put_entries-next-requires
put_entries-next-requires c =
    let a = c.args in
    let p = c.requires in
    let h = a.edge.now in
    let e = c.highs_count-highs.ensures.0 ∙ ap (highs_count (byte h 4)) (tail h c.head_length-head.result ∙ ap (λ (k : ℕ). drop k h) c.head_length-head.ensures.0) ∙ highs_are a.origin.budgets h in
    (p.0, p.1, e, omega (arith, c.highs_count-highs.ensures.1, p.0.clock_guards), omega arith)

pub overflow_add-highs : goal.overflow_add-highs
overflow_add-highs c = omega (arith, c.highs_count-highs.ensures.1, c.requires.0.clock_guards)

pub returns : goal.returns
returns c =
    let a = c.args in
    let o = a.origin in
    let h = a.edge.now in
    let e : c.highs_count-highs.result ≡ length (highs (arc_at o.budgets h).clock_guards) = c.highs_count-highs.ensures.0 ∙ ap (highs_count (byte h 4)) (tail h c.head_length-head.result ∙ ap (λ (k : ℕ). drop k h) c.head_length-head.ensures.0) ∙ highs_are o.budgets h in
    (put_is (transitions_told o.location o.clocks o.number (arc_at o.budgets h) (message_of a.message) c.highs_count-highs.result e) (put_join c.put_entries-next.ensures.0 c.put_steps.ensures.told), omega (arith, c.highs_count-highs.ensures.1, c.requires.0.clock_guards, c.put_entries-next.ensures.1, c.put_steps.ensures.near))
