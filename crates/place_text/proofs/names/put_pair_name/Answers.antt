-- `place_text::names::put_pair_name` meets its contract. Assumes nothing.
use mathlib.Core.Path.{sym, ap}
use native.Mathlib.Omega.{arith}
use Rattle.text.proofs.Appended.{same_words}
use Rattle.place_text.specs.PlaceText.{pair_names, name_in}
use Rattle.place_text.proofs.Past.{rest_pair}
use Rattle.place_text.proofs.names.put_pair_name.Goals as goal

pub returns-in-0 : goal.returns-in-0
returns-in-0 c =
    (same_words (name_in pair_names c.args.offset) c.put.ensures.0 (sym (ap (name_in pair_names) c.in-0.is)), omega (arith, c.put.ensures.1))

pub returns-in-1 : goal.returns-in-1
returns-in-1 c =
    (same_words (name_in pair_names c.args.offset) c.put-in-1.ensures.0 (sym (ap (name_in pair_names) c.in-1.is)), omega (arith, c.put-in-1.ensures.1))

pub returns-in_default : goal.returns-in_default
returns-in_default c =
    (same_words (name_in pair_names c.args.offset) c.put-in_default.ensures.0 (sym (rest_pair c.args.offset (omega arith) (omega arith))), omega (arith, c.put-in_default.ensures.1))
