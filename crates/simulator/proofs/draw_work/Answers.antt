-- `simulator::draw_work` meets its contract. Assumes nothing.
use mathlib.Core.Path.{◌≡◌, ap, ◌∙◌}
use Prim.Native.Nat.{ℕ, ◌+◌}
use lib.ListN.{set}
use Rattle.generator.specs.Xorshift.{next_of}
use Rattle.simulation.specs.Simulated.{work_ticks}
use Rattle.simulator.proofs.draw_work.Goals as goal

pub returns : goal.returns
returns c =
    let a = c.args in
    let e : c.next-drawn.result.state ≡ next_of a.state = c.next-drawn.ensures ∙ ap next_of c.seeded.ensures in
    (e, ap (λ (x : ℕ). set a.until.now a.c (a.tick + x)) (c.work_ticks.ensures.0 ∙ ap (work_ticks (record { lo = a.lo; hi = a.hi })) e))
