-- `verdict_text::put_send_fault` meets its contract. Assumes nothing.
use native.Mathlib.Omega.{arith}
use Rattle.text.proofs.Appended.{next}
use Rattle.verdict_text.proofs.put_send_fault.Goals as goal

pub returns : goal.returns
returns c =
    (next (next c.put_place-channel.ensures.0 c.put_send-last.ensures.0) c.put_fault_end.ensures.0, omega (arith, c.put_place-channel.ensures.1, c.put_send-last.ensures.1, c.put_fault_end.ensures.1))
