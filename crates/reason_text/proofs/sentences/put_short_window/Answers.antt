-- `reason_text::sentences::put_short_window` meets its contract. Assumes nothing.
use mathlib.Core.Path.{◌≡◌, ap}
use Prim.Native.Nat.{pred, ◌+◌, ◌-◌}
use native.Mathlib.Omega.{arith}
use Rattle.model.specs.Window.{past_of}
use Rattle.text.specs.Words.{field}
use Rattle.text.proofs.Appended.{next, same_words}
use Rattle.reason_text.specs.Bounds.{bounds_at}
use Rattle.reason_text.proofs.sentences.put_short_window.Goals as goal

pub returns : goal.returns
returns c =
    let s = c in
    let a = s.args in
    let past = past_of a.location (bounds_at a.count a.guards.now) a.entry.clocks in
    let end : a.all.past - 1 ≡ pred past = omega (arith, s.requires.2.past) in
    let first = same_words (field "window shorter than its budget of " a.budget) c.put_field-ready.ensures.0 (ap (field "window shorter than its budget of ") c.word32.ensures.0) in
    let third = same_words (field ", end at tick " (a.entry.tick + pred past)) c.put_field-until.ensures.0 (ap (λ n. field ", end at tick " (a.entry.tick + n)) end) in
    (next (next (next first c.put_ready-comma.ensures.0) third) c.put_by.ensures.0, omega (arith, c.put_field-ready.ensures.1, c.put_ready-comma.ensures.1, c.put_field-until.ensures.1, c.put_by.ensures.1))
