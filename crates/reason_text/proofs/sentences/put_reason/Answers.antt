-- `reason_text::sentences::put_reason` meets its contract. Assumes nothing.
use native.Mathlib.Omega.{arith}
use Rattle.text.proofs.Appended.{next}
use Rattle.reason_text.proofs.sentences.put_reason.Goals as goal

pub put_bound-requires : goal.put_bound-requires
put_bound-requires c = let s = c in (omega (arith, s.requires.0), s.requires.1, s.requires.4 _ c.in-DataBound.is)

pub put_window-requires : goal.put_window-requires
put_window-requires c = let s = c in (s.requires.0, s.requires.1, s.requires.2, s.requires.3)

pub put_later-requires : goal.put_later-requires
put_later-requires c = let s = c in (omega (arith, s.requires.0), s.requires.1, s.requires.2, s.requires.3)

pub returns-in-Taken : goal.returns-in-Taken
returns-in-Taken c =
    rw c.in-Taken.is (next c.put_field-to.ensures.0 c.put_field.ensures.0, omega (arith, c.put_field-to.ensures.1, c.put_field.ensures.1))

pub returns-in-DataBound : goal.returns-in-DataBound
returns-in-DataBound c =
    rw c.in-DataBound.is (c.put_bound.ensures.0, omega (arith, c.put_bound.ensures.1))

pub returns-in-NoWindow : goal.returns-in-NoWindow
returns-in-NoWindow c =
    rw c.in-NoWindow.is (c.put_window.ensures.0, omega (arith, c.put_window.ensures.1))

pub returns-in-ReadyLater : goal.returns-in-ReadyLater
returns-in-ReadyLater c =
    rw c.in-ReadyLater.is (c.put_later.ensures.0, omega (arith, c.put_later.ensures.1))

pub returns-in-HigherNumber : goal.returns-in-HigherNumber
returns-in-HigherNumber c =
    rw c.in-HigherNumber.is (next c.put_field-higher.ensures.0 c.put.ensures.0, omega (arith, c.put_field-higher.ensures.1, c.put.ensures.1))
