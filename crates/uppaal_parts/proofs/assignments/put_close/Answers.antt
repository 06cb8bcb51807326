-- `uppaal_parts::assignments::put_close` meets its contract. Assumes nothing.
use Rattle.uppaal_parts.proofs.Marked.{closed_none, closed_some}
use native.Mathlib.Omega.{arith}
use Rattle.blocks.proofs.Runs.{put_is, put_none}
use Rattle.uppaal_parts.proofs.assignments.put_close.Goals as goal

pub returns-then-led : goal.returns-then-led
returns-then-led c = let a = c.args in (put_is (closed_none a.led.first c.if-led.true) (put_none a.out.now a.led.at), omega arith)

pub returns : goal.returns
returns c = let a = c.args in (put_is (closed_some a.led.first c.if-led.false) c.put_words.ensures, omega arith)
