-- `edge_choice::edge_choice` meets its contract. Assumes nothing.
use mathlib.Core.Path.{◌∙◌}
use Rattle.table.proofs.Answered.{was_valid, its_starts, read_refused}
use Rattle.window.specs.Views.{entry_of}
use Rattle.edge_choice.proofs.Chosen.{call_refused}
use Rattle.edge_choice.proofs.edge_choice.Goals as goal

pub choose_read-requires : goal.choose_read-requires
choose_read-requires c =
    let bs = c.args.table.now in
    (was_valid bs c.read-r.result c.read-r.ensures c.in-Accepted.is, its_starts bs c.read-r.result c.read-r.ensures c.in-Accepted.is)

pub returns-in-Refused : goal.returns-in-Refused
returns-in-Refused c =
    let s = c in
    c.refused.ensures ∙ call_refused s.args.table.now s.args.c (entry_of s.args.at) (read_refused s.args.table.now c.read-r.result c.read-r.ensures c.in-Refused.is)
