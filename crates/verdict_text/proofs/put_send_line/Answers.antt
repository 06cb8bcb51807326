-- `verdict_text::put_send_line` meets its contract. Assumes nothing.
use native.Mathlib.Omega.{arith}
use Rattle.text.proofs.Appended.{next}
use Rattle.verdict_text.proofs.put_send_line.Goals as goal

pub returns : goal.returns
returns c =
    (next (next (next (next c.put_place-kind.ensures.0 c.put-channel.ensures.0) c.put_send-close.ensures.0) c.put_close-last.ensures.0) c.put.ensures.0, omega (arith, c.put_place-kind.ensures.1, c.put-channel.ensures.1, c.put_send-close.ensures.1, c.put_close-last.ensures.1, c.put.ensures.1))
