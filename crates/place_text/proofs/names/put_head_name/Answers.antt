-- `place_text::names::put_head_name` meets its contract. Assumes nothing.
use mathlib.Core.Path.{sym, ap}
use native.Mathlib.Omega.{arith}
use Rattle.text.proofs.Appended.{same_words}
use Rattle.place_text.specs.PlaceText.{head_names, name_in}
use Rattle.place_text.proofs.Past.{rest_head}
use Rattle.place_text.proofs.names.put_head_name.Goals as goal

pub returns-in-2 : goal.returns-in-2
returns-in-2 c =
    (same_words (name_in head_names c.args.offset) c.put.ensures.0 (sym (ap (name_in head_names) c.in-2.is)), omega (arith, c.put.ensures.1))

pub returns-in-3 : goal.returns-in-3
returns-in-3 c =
    (same_words (name_in head_names c.args.offset) c.put-in-3.ensures.0 (sym (ap (name_in head_names) c.in-3.is)), omega (arith, c.put-in-3.ensures.1))

pub returns-in-4 : goal.returns-in-4
returns-in-4 c =
    (same_words (name_in head_names c.args.offset) c.put-in-4.ensures.0 (sym (ap (name_in head_names) c.in-4.is)), omega (arith, c.put-in-4.ensures.1))

pub returns-in-5 : goal.returns-in-5
returns-in-5 c =
    (same_words (name_in head_names c.args.offset) c.put-in-5.ensures.0 (sym (ap (name_in head_names) c.in-5.is)), omega (arith, c.put-in-5.ensures.1))

pub returns-in-6 : goal.returns-in-6
returns-in-6 c =
    (same_words (name_in head_names c.args.offset) c.put-in-6.ensures.0 (sym (ap (name_in head_names) c.in-6.is)), omega (arith, c.put-in-6.ensures.1))

pub returns-in_default : goal.returns-in_default
returns-in_default c =
    (same_words (name_in head_names c.args.offset) c.put-in_default.ensures.0 (sym (rest_head c.args.offset (omega arith) (omega arith) (omega arith) (omega arith) (omega arith))), omega (arith, c.put-in_default.ensures.1))
