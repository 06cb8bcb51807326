-- `reason_text::sentences::put_ready` meets its contract. Assumes nothing.
use mathlib.Core.Path.{ap}
use Prim.Native.Nat.{◌+◌}
use native.Mathlib.Omega.{arith}
use Rattle.model.specs.Window.{ready_of}
use Rattle.text.specs.Words.{field}
use Rattle.text.proofs.Appended.{next, same_words}
use Rattle.reason_text.specs.Bounds.{bounds_at}
use Rattle.reason_text.proofs.sentences.put_ready.Goals as goal

pub returns : goal.returns
returns c =
    let s = c in
    let a = s.args in
    let first = same_words (field ": ready at tick " (a.entry.tick + ready_of (bounds_at a.count a.guards.now) a.entry.clocks)) c.put_field-by.ensures.0 (ap (λ n. field ": ready at tick " (a.entry.tick + n)) s.requires.2.ready) in
    (next first c.put_by.ensures.0, omega (arith, c.put_field-by.ensures.1, c.put_by.ensures.1))
