-- `simulator::idle::still_until` meets its contract. Assumes nothing.
use mathlib.Core.Path.{refl, sym, ◌∙◌}
use mathlib.Core.Logic.{inl, inr, ⊎_elim}
use mathlib.Core.List.{[]}
use native.Mathlib.Omega.{arith}
use Rattle.simulator.proofs.Idling.{still_early, still_works, still_unkept, still_never}
use Rattle.simulator.proofs.idle.still_until.Goals as goal

pub returns-then-due-lt-NEVER : goal.returns-then-due-lt-NEVER
returns-then-due-lt-NEVER c = still_early c.args.program.now c.args.words.now c.args.until.now c.args.c (c.requires.3.noted (omega (arith, c.word-due.ensures, c.if-due-lt-NEVER.true))) c.word-due.ensures c.before-then-due-lt-NEVER.ensures

pub op_of-op-requires : goal.op_of-op-requires
op_of-op-requires c = (c.requires.0, c.requires.2, c.requires.3.inside)

pub returns-then-op-eq-DONE : goal.returns-then-op-eq-DONE
returns-then-op-eq-DONE c =
    let op = sym (c.op_of-op.ensures []) in
    still_works c.args.program.now c.args.words.now c.args.until.now c.args.c (⊎_elim (λ w. inl (op ∙ w)) (λ w. inr (op ∙ w.1)) c.then-op-eq-DONE.either) refl c.before-then-op-eq-DONE.ensures

pub returns-then-op-ne-TAKE : goal.returns-then-op-ne-TAKE
returns-then-op-ne-TAKE c = still_never c.args.program.now c.args.words.now c.args.until.now c.args.c

pub returns-then-word-eq1 : goal.returns-then-word-eq1
returns-then-word-eq1 c = still_never c.args.program.now c.args.words.now c.args.until.now c.args.c

pub returns-else-word-eq1 : goal.returns-else-word-eq1
returns-else-word-eq1 c = still_unkept c.args.program.now c.args.words.now c.args.until.now c.args.c (sym (c.op_of-op.ensures []) ∙ c.if-op-ne-TAKE.false) c.word.ensures c.if-word-eq1.false
