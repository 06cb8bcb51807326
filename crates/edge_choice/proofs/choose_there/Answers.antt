-- `edge_choice::choose_there` meets its contract. Assumes nothing.
use mathlib.Core.Path.{sym, ap, subst, ◌∙◌}
use Prim.Native.Nat.{◌+◌, ◌*◌}
use native.Mathlib.Omega.{arith}
use lib.ListN.{get_or-replicate}
use Rattle.model.specs.Places.{start_of, component_in}
use Rattle.model.proofs.Window.Looked.{looked_most}
use Rattle.window.specs.Indexed.{Indexed}
use Rattle.window.specs.Views.{entry_of}
use Rattle.rows.proofs.Placed.{known_bytes, valid_small}
use Rattle.schedule.proofs.Tables.{header, few_components, limits_of}
use Rattle.edge_choice.proofs.Chosen.{call_read}
use Rattle.edge_choice.proofs.choose_there.Goals as goal

pub budgeted-budgets-requires : goal.budgeted-budgets-requires
budgeted-budgets-requires c = let s = c in omega (arith, header s.args.table.now c.type_inv.table s.requires.0)

pub put_edges-requires : goal.put_edges-requires
put_edges-requires c =
    let s = c in
    let bs = s.args.table.now in
    let few = few_components bs c.type_inv.table s.requires.0 in (
      s.requires.0,
      omega (arith, c.from.ensures, s.requires.1),
      s.requires.2 ∙ ap (start_of bs) (sym c.from.ensures),
      omega (arith, c.from.ensures, s.requires.1, few),
      omega (arith, c.from.ensures, s.requires.1, few),
      valid_small bs (known_bytes bs c.type_inv.table) s.requires.0,
      λ q h. get_or-replicate 640 (c.from.result * 80 + q) 32 0 (omega (arith, h, c.from.ensures, s.requires.1, few)),
      c.budgeted-budgets.ensures,
    )

pub choose-found-requires : goal.choose-found-requires
choose-found-requires c =
    let s = c in
    (s.requires.0, s.requires.1, s.requires.2, s.requires.3, subst (λ n. Indexed s.args.table.now c.put_edges.new.index n s.args.start) c.from.ensures c.put_edges.ensures.noted, c.budgeted-budgets.ensures)

pub overflow_cast-found : goal.overflow_cast-found
overflow_cast-found c =
    let s = c in
    let bs = s.args.table.now in
    let most = (limits_of bs c.type_inv.table s.requires.0 s.args.c s.requires.1).most_arcs in
    omega (arith, c.choose-found.ensures.counts, looked_most (component_in bs s.args.c) (entry_of s.args.at), most)

pub answered-requires : goal.answered-requires
answered-requires c = λ h. (c.choose-found.ensures.keeps h).1

pub returns : goal.returns
returns c =
    let s = c in
    c.answered.ensures ∙ call_read s.args.table.now s.args.c (entry_of s.args.at) s.requires.0 c.choose-found.ensures.picks c.choose-found.ensures.counts
