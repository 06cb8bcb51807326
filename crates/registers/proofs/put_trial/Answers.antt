-- `registers::put_trial` meets its contract. Assumes nothing.
use Rattle.registers.proofs.PutParts.{trial_stored}
use borrow.Author.Rules.{rules}
use Rattle.registers.proofs.put_trial.Goals as goal

pub returns : goal.returns
returns c v =
    let s = c in
    let a = s.args in
    trial_stored a.words.now a.c a.trial c.store_trial.ensures s.requires.0 s.requires.1 (search rules) (search rules) v
