-- `place_text::put_part_name` meets its contract. Assumes nothing.
use mathlib.Core.Path.{sym, ap}
use native.Mathlib.Omega.{arith}
use Rattle.text.proofs.Appended.{same_words}
use Rattle.place_text.specs.PlaceText.{part_name}
use Rattle.place_text.proofs.Past.{rest_name}
use Rattle.place_text.proofs.put_part_name.Goals as goal

pub returns-in-1 : goal.returns-in-1
unfolding part_name
returns-in-1 c =
    (same_words (part_name c.args.part) c.put.ensures.0 (sym (ap part_name c.in-1.is)), omega (arith, c.put.ensures.1))

pub returns-in-2 : goal.returns-in-2
unfolding part_name
returns-in-2 c =
    (same_words (part_name c.args.part) c.put-in-2.ensures.0 (sym (ap part_name c.in-2.is)), omega (arith, c.put-in-2.ensures.1))

pub returns-in-3 : goal.returns-in-3
unfolding part_name
returns-in-3 c =
    (same_words (part_name c.args.part) c.put-in-3.ensures.0 (sym (ap part_name c.in-3.is)), omega (arith, c.put-in-3.ensures.1))

pub returns-in-5 : goal.returns-in-5
unfolding part_name
returns-in-5 c =
    (same_words (part_name c.args.part) c.put-in-5.ensures.0 (sym (ap part_name c.in-5.is)), omega (arith, c.put-in-5.ensures.1))

pub returns-in-6 : goal.returns-in-6
unfolding part_name
returns-in-6 c =
    (same_words (part_name c.args.part) c.put-in-6.ensures.0 (sym (ap part_name c.in-6.is)), omega (arith, c.put-in-6.ensures.1))

pub returns-in-7 : goal.returns-in-7
unfolding part_name
returns-in-7 c =
    (same_words (part_name c.args.part) c.put-in-7.ensures.0 (sym (ap part_name c.in-7.is)), omega (arith, c.put-in-7.ensures.1))

pub returns-in-8 : goal.returns-in-8
unfolding part_name
returns-in-8 c =
    (same_words (part_name c.args.part) c.put-in-8.ensures.0 (sym (ap part_name c.in-8.is)), omega (arith, c.put-in-8.ensures.1))

pub returns-in-9 : goal.returns-in-9
unfolding part_name
returns-in-9 c =
    (same_words (part_name c.args.part) c.put-in-9.ensures.0 (sym (ap part_name c.in-9.is)), omega (arith, c.put-in-9.ensures.1))

pub returns-in-10 : goal.returns-in-10
unfolding part_name
returns-in-10 c =
    (same_words (part_name c.args.part) c.put-in-10.ensures.0 (sym (ap part_name c.in-10.is)), omega (arith, c.put-in-10.ensures.1))

pub returns-in-11 : goal.returns-in-11
unfolding part_name
returns-in-11 c =
    (same_words (part_name c.args.part) c.put-in-11.ensures.0 (sym (ap part_name c.in-11.is)), omega (arith, c.put-in-11.ensures.1))

pub returns-in-12 : goal.returns-in-12
unfolding part_name
returns-in-12 c =
    (same_words (part_name c.args.part) c.put-in-12.ensures.0 (sym (ap part_name c.in-12.is)), omega (arith, c.put-in-12.ensures.1))

pub returns-in_default : goal.returns-in_default
returns-in_default c =
    (same_words (part_name c.args.part) c.put-in_default.ensures.0 (sym (rest_name c.args.part (omega arith) (omega arith) (omega arith) (omega arith) (omega arith) (omega arith) (omega arith) (omega arith) (omega arith) (omega arith) (omega arith))), omega (arith, c.put-in_default.ensures.1))
