-- `place_text::names::put_name` meets its contract. Assumes nothing.
use mathlib.Core.Path.{sym, ap}
use Prim.Native.Nat.{ℕ}
use native.Mathlib.Omega.{arith}
use Rattle.text.proofs.Appended.{same_words}
use Rattle.place_text.specs.PlaceText.{field_name}
use Rattle.place_text.proofs.Past.{rest_part}
use Rattle.place_text.proofs.names.put_name.Goals as goal

pub returns-in-2 : goal.returns-in-2
unfolding field_name
returns-in-2 c =
    let a = c.args in
    (same_words (field_name a.part a.offset) c.put_head_name.ensures.0 (sym (ap (λ (n : ℕ). field_name n a.offset) c.in-2.is)), omega (arith, c.put_head_name.ensures.1))

pub returns-in-3 : goal.returns-in-3
unfolding field_name
returns-in-3 c =
    let a = c.args in
    (same_words (field_name a.part a.offset) c.put_location_name.ensures.0 (sym (ap (λ (n : ℕ). field_name n a.offset) c.in-3.is)), omega (arith, c.put_location_name.ensures.1))

pub returns-in-4 : goal.returns-in-4
unfolding field_name
returns-in-4 c =
    let a = c.args in
    (same_words (field_name a.part a.offset) c.put_edge_name.ensures.0 (sym (ap (λ (n : ℕ). field_name n a.offset) c.in-4.is)), omega (arith, c.put_edge_name.ensures.1))

pub returns-in-5 : goal.returns-in-5
unfolding field_name
returns-in-5 c =
    let a = c.args in
    (same_words (field_name a.part a.offset) c.put_clock_bound_name.ensures.0 (sym (ap (λ (n : ℕ). field_name n a.offset) c.in-5.is)), omega (arith, c.put_clock_bound_name.ensures.1))

pub returns-in-6 : goal.returns-in-6
unfolding field_name
returns-in-6 c =
    let a = c.args in
    (same_words (field_name a.part a.offset) c.put_data_bound_name.ensures.0 (sym (ap (λ (n : ℕ). field_name n a.offset) c.in-6.is)), omega (arith, c.put_data_bound_name.ensures.1))

pub returns-in-7 : goal.returns-in-7
unfolding field_name
returns-in-7 c =
    let a = c.args in
    (same_words (field_name a.part a.offset) c.put_update_name.ensures.0 (sym (ap (λ (n : ℕ). field_name n a.offset) c.in-7.is)), omega (arith, c.put_update_name.ensures.1))

pub returns-in-8 : goal.returns-in-8
unfolding field_name
returns-in-8 c =
    let a = c.args in
    (same_words (field_name a.part a.offset) c.put_channel_name.ensures.0 (sym (ap (λ (n : ℕ). field_name n a.offset) c.in-8.is)), omega (arith, c.put_channel_name.ensures.1))

pub returns-in-9 : goal.returns-in-9
unfolding field_name
returns-in-9 c =
    let a = c.args in
    (same_words (field_name a.part a.offset) c.put_pair_name.ensures.0 (sym (ap (λ (n : ℕ). field_name n a.offset) c.in-9.is)), omega (arith, c.put_pair_name.ensures.1))

pub returns-in_default : goal.returns-in_default
returns-in_default c =
    let a = c.args in
    (same_words (field_name a.part a.offset) c.put.ensures.0 (sym (rest_part a.part a.offset (omega arith) (omega arith) (omega arith) (omega arith) (omega arith) (omega arith) (omega arith) (omega arith))), omega (arith, c.put.ensures.1))
