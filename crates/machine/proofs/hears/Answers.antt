-- `machine::hears` meets its contract. Assumes nothing.
use native.Mathlib.Omega.{arith}
use Rattle.machine.proofs.Hearing.{deaf_late, deaf_taken, heard}
use Rattle.machine.proofs.hears.Goals as goal

pub returns-then-since-began : goal.returns-then-since-began
returns-then-since-began c v =
    let a = c.args in
    deaf_late a.program.now a.words.now v a.channel a.since a.i (omega arith)

pub returns-then-word-eq1 : goal.returns-then-word-eq1
returns-then-word-eq1 c v =
    let a = c.args in
    deaf_taken a.program.now a.words.now v a.channel a.since a.i (omega arith)

pub returns : goal.returns
returns c v =
    let f = c in
    let a = f.args in
    heard a.program.now a.words.now v a.channel a.since a.i _ _ _ c.names.result f.word-base.ensures f.word-2.ensures c.word-pc.ensures c.names.ensures (omega arith) (λ e. omega arith)
