-- `meetings::list_concerned` meets its contract. Assumes nothing.
use borrow.Author.Rules.{rules}
use Rattle.model.specs.Checks.{checked}
use Rattle.model.specs.Meetings.{concerned}
use Rattle.model.specs.declared.Verdict.TheVariants.{Accepted}
use Rattle.meetings.proofs.Listing.{says_none}
use Rattle.meetings.proofs.list_concerned.Goals as goal

pub returns-in-Some : goal.returns-in-Some
unfolding checked concerned
returns-in-Some c = search rules

pub returns-in-Some-first_unheard : goal.returns-in-Some-first_unheard
unfolding checked concerned
returns-in-Some-first_unheard c = search rules

pub returns-in-Some-first_crowded : goal.returns-in-Some-first_crowded
unfolding checked concerned
returns-in-Some-first_crowded c = search rules

pub returns : goal.returns
unfolding checked concerned
returns c =
    let none10 = c.in_default.ensures.0 in
    let none11 = c.in_default-first_unheard.ensures.0 in
    let none12 = c.in_default-first_crowded.ensures.0 in
    rw (← none10, ← none11, ← none12) (says_none Accepted c.args.list.now c.nothing.result c.nothing.ensures.0 c.nothing.ensures.1 c.nothing.ensures.2)
