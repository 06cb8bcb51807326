-- `registers::put_kept` meets its contract. Assumes nothing.
use Rattle.registers.proofs.PutParts.{kept_stored}
use borrow.Author.Rules.{rules}
use Rattle.registers.proofs.put_kept.Goals as goal

pub returns : goal.returns
returns c v =
    let s = c in
    let a = s.args in
    kept_stored a.words.now a.c a.kept c.store_kept.ensures s.requires.0 s.requires.1 (search rules) (search rules) (search rules) v
