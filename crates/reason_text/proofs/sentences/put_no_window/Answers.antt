-- `reason_text::sentences::put_no_window` meets its contract. Assumes nothing.
use mathlib.Core.Path.{ap}
use Prim.Native.Nat.{◌+◌}
use native.Mathlib.Omega.{arith}
use Rattle.model.specs.Window.{past_of}
use Rattle.text.specs.Words.{field}
use Rattle.text.proofs.Appended.{next, same_words}
use Rattle.reason_text.specs.Bounds.{bounds_at}
use Rattle.reason_text.proofs.sentences.put_no_window.Goals as goal

pub returns : goal.returns
returns c =
    let s = c in
    let a = s.args in
    let third = same_words (field ", over from tick " (a.entry.tick + past_of a.location (bounds_at a.count a.guards.now) a.entry.clocks)) c.put_field-on.ensures.0 (ap (λ n. field ", over from tick " (a.entry.tick + n)) s.requires.2.past) in
    (next (next (next (next c.put-ready.ensures.0 c.put_ready-comma.ensures.0) third) c.put-until.ensures.0) c.put_by.ensures.0, omega (arith, c.put-ready.ensures.1, c.put_ready-comma.ensures.1, c.put_field-on.ensures.1, c.put-until.ensures.1, c.put_by.ensures.1))
