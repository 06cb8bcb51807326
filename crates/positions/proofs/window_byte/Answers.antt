-- `positions::window_byte` meets its contract. Assumes nothing.
use borrow.Author.Tests.{lt-ltb, le-ltb}
use Rattle.positions.proofs.window_byte.Goals as goal

pub returns-then-tick-ready : goal.returns-then-tick-ready
returns-then-tick-ready c = rw (lt-ltb c.args.tick c.args.ready c.if-tick-ready.true)

pub returns-else-tick-ready : goal.returns-else-tick-ready
returns-else-tick-ready c = rw (le-ltb c.args.tick c.args.ready c.if-tick-ready.false)
