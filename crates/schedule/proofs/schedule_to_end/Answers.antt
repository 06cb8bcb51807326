-- `schedule::schedule_to_end` meets its contract. Assumes nothing.
use mathlib.Core.Path.{refl, ◌∙◌}
use Prim.Native.Nat.{◌+◌, ◌*◌}
use native.Mathlib.Omega.{arith}
use lib.ListN.{get_or-replicate}
use Rattle.schedule.proofs.Tables.{header, horizon_is}
use Rattle.model.specs.declared.Verdict.TheVariants.{Refused}
use Rattle.schedule.proofs.Stopping.{told_stop, first-stop}
use Rattle.schedule.proofs.Whole.{begun_refused, told_at, filled_put}
use Rattle.schedule.proofs.schedule_to_end.Goals as goal

pub budgeted-budgets-requires : goal.budgeted-budgets-requires
budgeted-budgets-requires c = let e = c in omega (arith, header e.args.table.now c.type_inv.table e.requires.0)

pub index_edges-requires : goal.index_edges-requires
index_edges-requires c = (c.requires.0, c.requires.1, omega arith, λ d q h l. get_or-replicate 640 (d * 80 + q) 32 0 (omega arith), c.budgeted-budgets.ensures)

pub go_on-r-requires : goal.go_on-r-requires
go_on-r-requires c =
    (c.requires.0, c.requires.1, omega (arith, c.begin-begun.auto.rows, c.requires.2), c.begin-begun.ensures.started c.in-Accepted.is, c.index_edges.ensures, c.budgeted-budgets.ensures)

pub word_at-requires : goal.word_at-requires
word_at-requires c = omega (arith, header c.args.table.now c.type_inv.table c.requires.0)

pub put_messages-requires : goal.put_messages-requires
put_messages-requires c =
    let e = c in
    let h = c.word32.ensures.0 ∙ c.word_at.ensures ∙ horizon_is e.args.table.now c.type_inv.table e.requires.0 in
    (c.go_on-r.ensures.lists.placed, told_at e.args.table.now c.go_on-r.result.scheduled c.go_on-r.new.rows c.word32.result h c.go_on-r.ensures.lists)

pub returns-in-Refused : goal.returns-in-Refused
returns-in-Refused c =
    let s = c.args.table.now in record {
      fills = begun_refused s c.begin-begun.new.rows c.begin-begun.ensures.verdict c.in-Refused.is;
      stops = told_stop s (record { scheduled = record { verdict = Refused c.in-Refused.number c.in-Refused.component; count = 0 }; passage = c.wide.result; at = c.begin-begun.result.at }) refl c.wide.ensures.0 refl
          (rw (first-stop s c.begin-begun.ensures.verdict c.in-Refused.is) (c.begin-begun.ensures.stops c.in-Refused.number c.in-Refused.component c.in-Refused.is));
    }

pub returns-in-Accepted : goal.returns-in-Accepted
returns-in-Accepted c =
    let s = c.args.table.now in record {
      fills = filled_put s c.go_on-r.result.scheduled c.go_on-r.new.rows c.put_messages.new.rows c.word32.result
          (c.word32.ensures.0 ∙ c.word_at.ensures ∙ horizon_is s c.type_inv.table c.requires.0) c.go_on-r.ensures.lists c.put_messages.ensures;
      stops = c.go_on-r.ensures.stops;
    }
