-- `refused_opening::reasons::tallied` meets its contract. Assumes nothing.
use native.Mathlib.Omega.{arith}
use Rattle.refused_opening.proofs.reasons.tallied.Goals as goal

pub returns-in-Elsewhere : goal.returns-in-Elsewhere
returns-in-Elsewhere c = rw c.in-Elsewhere.is (omega arith, omega arith, omega arith)

pub returns-in-Blocked : goal.returns-in-Blocked
returns-in-Blocked c = rw c.in-Blocked.is (omega arith, omega arith, omega arith)

pub returns-in-Windowless : goal.returns-in-Windowless
returns-in-Windowless c = rw c.in-Windowless.is (omega arith, omega arith, omega arith)

pub returns-in-Candidate : goal.returns-in-Candidate
returns-in-Candidate c = rw c.in-Candidate.is (omega arith, omega arith, omega arith)
