-- `decoder::update_at` meets its contract. Assumes nothing.
use mir.Syntax.{w16}
use mir.ValLaws.{to_z-of_z}
use borrow.Author.Rules.{sfits_of}
use Rattle.decoder.proofs.update_at.Goals as goal

pub returns : goal.returns
returns c = rw (to_z-of_z w16 c.signed_at.result (sfits_of c.signed_at.type_inv), c.signed_at.ensures)
