-- `reason_text::sentences::put_later` meets its contract. Assumes nothing.
use mathlib.Core.Path.{ap}
use Prim.Native.Nat.{◌+◌}
use native.Mathlib.Omega.{arith}
use Rattle.model.specs.Places.{arc_at}
use Rattle.model.specs.Window.{ready_of}
use Rattle.window.proofs.Fronts.{clock_guards_asked, ready_found}
use Rattle.text.specs.Words.{field}
use Rattle.text.proofs.Appended.{same_words}
use Rattle.reason_text.proofs.sentences.put_later.Goals as goal

pub window-delays-requires : goal.window-delays-requires
window-delays-requires c =
    let s = c in
    let g = clock_guards_asked s.args.budgets s.args.edge.now s.requires.1 _ c.head_length-head.ensures.0 in
    (g.0, s.requires.2, g.1)

pub returns : goal.returns
returns c =
    let a = c.args in
    let ready = ready_found a.budgets a.edge.now _ a.entry.clocks c.head_length-head.ensures.0 c.window-delays.ensures.0 in
    (same_words (field "ready later, at tick " (a.entry.tick + ready_of (arc_at a.budgets a.edge.now).clock_guards a.entry.clocks)) c.put_field.ensures.0 (ap (λ n. field "ready later, at tick " (a.entry.tick + n)) ready), omega (arith, c.put_field.ensures.1))
