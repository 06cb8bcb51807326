-- `meetings::put_met` meets its contract. Assumes nothing.
use Rattle.model.specs.Places.{read_of}
use Rattle.rows.specs.Rows.{row_passage}
use Rattle.meetings.specs.Asked.{met_by}
use Rattle.meetings.proofs.Collected.{Put}
use Rattle.meetings.proofs.put_met.Given as goal

abbrev pub invariant-loop-j : goal.invariant-loop-j
invariant-loop-j l = Put (met_by l.spread l.question (read_of l.table).table l.horizon (row_passage l.rows l.i)) l.rows l.count l.j l.k (row_passage l.rows l.i) l.initial.list l.list
