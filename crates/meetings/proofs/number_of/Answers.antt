-- `meetings::number_of` meets its contract. Assumes nothing.
use Rattle.meetings.proofs.number_of.Goals as goal

pub returns-in-Unheard : goal.returns-in-Unheard
returns-in-Unheard c = rw c.in-Unheard.is c.number.ensures
