-- `uppaal_parts::assignments::put_reset` meets its contract. Assumes nothing.
use native.Mathlib.Omega.{arith}
use Rattle.blocks.proofs.Runs.{put_is, put_none}
use Rattle.uppaal_parts.proofs.Marked.{reset_told, reset_none}
use Rattle.uppaal_parts.proofs.Turns.{put_three}
use Rattle.uppaal_parts.proofs.assignments.put_reset.Goals as goal

pub returns-then-bits-eq0 : goal.returns-then-bits-eq0
returns-then-bits-eq0 c =
    let a = c.args in
    let h = reset_none a.led.first a.clock a.bits (λ z. omega arith) in
    (put_is h.0 (put_none a.out.now a.led.at), h.1, omega arith)

pub returns : goal.returns
returns c =
    let a = c.args in
    let h = reset_told a.led.first a.clock a.bits (omega arith) in
    (put_is h.0 (put_three c.put_lead-next.ensures.0 c.put_field-name.ensures.0 c.put_words-at.ensures), h.1, omega arith)
