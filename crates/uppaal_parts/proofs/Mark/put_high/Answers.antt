-- `uppaal_parts::Mark::put_high` meets its contract. Assumes nothing.
use mathlib.Core.Path.{◌∙◌}
use native.Mathlib.Omega.{arith}
use Rattle.blocks.proofs.Runs.{put_none, put_is, put_join}
use Rattle.uppaal_parts.proofs.Marked.{high_none, high_told}
use Rattle.uppaal_parts.proofs.Mark.put_high.Goals as goal

pub returns-then-guard : goal.returns-then-guard
returns-then-guard c =
    let h = high_none c.args.self.tight c.clock_guard_at-guard.ensures c.if-guard.true in
    (put_is h.0 (put_none c.args.out.now c.args.self.at), h.1, omega arith)

pub returns : goal.returns
returns c =
    let h = high_told c.args.self.tight c.clock_guard_at-guard.ensures c.if-guard.false in
    (put_is h.0 (put_join c.put_words-at.ensures c.put_upper.ensures.0), c.put_upper.ensures.1 ∙ h.1, omega (arith, c.put_upper.ensures.2))
