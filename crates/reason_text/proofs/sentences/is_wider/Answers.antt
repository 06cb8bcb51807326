-- `reason_text::sentences::is_wider` meets its contract. Assumes nothing.
use Rattle.reason_text.proofs.sentences.is_wider.Goals as goal

pub returns-then-over : goal.returns-then-over
returns-then-over c = rw c.if-over.true

pub returns-else-over : goal.returns-else-over
returns-else-over c = rw c.if-over.false
