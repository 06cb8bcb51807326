-- `verdict_text::put_receive_fault` meets its contract. Assumes nothing.
use native.Mathlib.Omega.{arith}
use Rattle.text.proofs.Appended.{next}
use Rattle.verdict_text.proofs.put_receive_fault.Goals as goal

pub returns : goal.returns
returns c =
    (next (next (next c.put_place-ticks.ensures.0 c.put_window-meeting.ensures.0) c.put_meeting-last.ensures.0) c.put.ensures.0, omega (arith, c.put_place-ticks.ensures.1, c.put_window-meeting.ensures.1, c.put_meeting-last.ensures.1, c.put.ensures.1))
