-- `reason_text::put_reasons_text` meets its contract. Assumes nothing.
use native.Mathlib.Omega.{arith}
use Rattle.model.specs.Lists.{each}
use Rattle.model.specs.Places.{component_in}
use Rattle.model.specs.Reasons.{edges_from}
use Rattle.schedule.proofs.Tables.{header}
use Rattle.reasons.specs.Stays.{named_by}
use Rattle.text.proofs.Appended.{next, same_words}
use Rattle.reason_text.specs.ReasonText.{edge_line, passage_head}
use Rattle.reason_text.proofs.Lining.{all_lines, head_is}
use Rattle.reason_text.proofs.put_reasons_text.Goals as goal

pub budgeted-budgets-requires : goal.budgeted-budgets-requires
budgeted-budgets-requires c = let s = c in omega (arith, header s.args.table.now c.type_inv.table s.requires.1.valid)

pub returns : goal.returns
returns c =
    let s = c in
    let bs = s.args.table.now in
    let r = s.args.asked in
    let C = component_in bs r.component in
    let head = same_words (passage_head r.number (named_by bs r).passage) c.put_head-lines.ensures.0 (head_is bs r) in
    let lines = same_words (each (edge_line C (named_by bs r).passage) (edges_from C r.at.location)) c.put_edges.ensures.0 (all_lines bs c.type_inv.table r s.requires.1) in
    (next head lines, omega (arith, c.put_head-lines.ensures.1, c.put_edges.ensures.1))
