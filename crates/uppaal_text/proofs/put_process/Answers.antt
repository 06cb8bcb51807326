-- `uppaal_text::put_process` meets its contract. Assumes nothing.
use Rattle.uppaal_parts.proofs.Turns.{put_five}
use Rattle.uppaal_text.proofs.Processes.{process_told}
use native.Mathlib.Omega.{arith}
use Rattle.blocks.proofs.Runs.{put_is}
use Rattle.uppaal_text.proofs.put_process.Goals as goal

pub put_head-first-requires : goal.put_head-first-requires
put_head-first-requires c =
    (omega (arith, c.requires.0.locations), c.requires.0.clocks, c.requires.0.variables, omega arith)

pub put_init-third-requires : goal.put_init-third-requires
put_init-third-requires c = (omega (arith, c.requires.0.locations), omega (arith, c.requires.1, c.put_head-first.ensures.1, c.put_states-second.ensures.1))

pub returns : goal.returns
returns c =
    let a = c.args in
    (put_is (process_told a.budgets a.component.now c.requires.0 a.number) (put_five c.put_head-first.ensures.0 c.put_states-second.ensures.0 c.put_init-third.ensures.0 c.put_transitions-fourth.ensures.0 c.put_words.ensures), omega (arith, c.put_head-first.ensures.1, c.put_states-second.ensures.1, c.put_init-third.ensures.1, c.put_transitions-fourth.ensures.1, c.put_words.ensures.next))
