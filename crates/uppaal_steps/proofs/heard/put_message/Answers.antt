-- `uppaal_steps::heard::put_message` meets its contract. Assumes nothing.
use Rattle.blocks.proofs.Runs.{put_is, put_join}
use Rattle.uppaal_steps.proofs.Keeping.{message_told}
use native.Mathlib.Omega.{arith}
use Rattle.uppaal_steps.proofs.heard.put_message.Goals as goal

pub put_transitions-requires : goal.put_transitions-requires
put_transitions-requires c = (c.requires.0, c.requires.1, c.requires.7)

pub returns-then-message-eq255 : goal.returns-then-message-eq255
returns-then-message-eq255 c = c.put_transitions.ensures

pub put_kept_in-next-requires : goal.put_kept_in-next-requires
put_kept_in-next-requires c = (c.requires.0, c.requires.2, c.requires.3, omega (arith, c.requires.7))

pub put_kept_outs-requires : goal.put_kept_outs-requires
put_kept_outs-requires c = (c.requires.0, omega (arith, c.requires.4), c.requires.5, c.requires.6, omega (arith, c.put_kept_in-next.ensures.1, c.requires.7, c.requires.5))

pub returns : goal.returns
returns c =
    let a = c.args in
    (put_is (message_told a.origin a.edge.now a.message a.last c.if-message-eq255.false c.requires.4) (put_join c.put_kept_in-next.ensures.0 c.put_kept_outs.ensures.0), omega (arith, c.put_kept_in-next.ensures.1, c.put_kept_outs.ensures.1, c.requires.5))
