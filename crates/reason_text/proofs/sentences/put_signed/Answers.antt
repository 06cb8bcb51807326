-- `reason_text::sentences::put_signed` meets its contract. Assumes nothing.
use mathlib.Core.Path.{◌≡◌}
use mathlib.Core.Bool.{true, false}
use native.Mathlib.Omega.{arith}
use lib.IntN.{pos}
use lib.Signed.{lt_z}
use mir.Syntax.{w16}
use mir.ValLaws.{to_z-of_z}
use Rattle.text.proofs.Appended.{same_words}
use Rattle.reason_text.specs.ReasonText.{signed}
use Rattle.reason_text.proofs.Signing.{more, small, fits, itself, sum, whole, below_zero, from_zero}
use Rattle.reason_text.proofs.sentences.put_signed.Goals as goal

pub overflow_cast-complement : goal.overflow_cast-complement
overflow_cast-complement c = let s = c in rw (to_z-of_z w16 s.args.value s.ranges.value) (more s.ranges.value)

pub overflow_add-complement : goal.overflow_add-complement
overflow_add-complement c =
    let below : lt_z c.args.value (pos 0) ≡ true =
    (let s = c in rw (← to_z-of_z w16 s.args.value s.ranges.value) c.if-value-lt0.true) in
    let s = c in rw (sum s.args.value s.ranges.value below) (fits s.args.value s.ranges.value)

pub overflow_cast-complement-then-value-lt0 : goal.overflow_cast-complement-then-value-lt0
overflow_cast-complement-then-value-lt0 c =
    let below : lt_z c.args.value (pos 0) ≡ true =
    (let s = c in rw (← to_z-of_z w16 s.args.value s.ranges.value) c.if-value-lt0.true) in
    let s = c in rw (whole s.args.value s.ranges.value below) (tt, omega (arith, small s.args.value s.ranges.value))

pub overflow_sub-complement : goal.overflow_sub-complement
overflow_sub-complement c =
    let below : lt_z c.args.value (pos 0) ≡ true =
    (let s = c in rw (← to_z-of_z w16 s.args.value s.ranges.value) c.if-value-lt0.true) in
    let s = c in rw (whole s.args.value s.ranges.value below) (omega (arith, small s.args.value s.ranges.value))

pub returns-then-value-lt0 : goal.returns-then-value-lt0
returns-then-value-lt0 c =
    let below : lt_z c.args.value (pos 0) ≡ true =
    (let s = c in rw (← to_z-of_z w16 s.args.value s.ranges.value) c.if-value-lt0.true) in
    let s = c in
    let w = rw (whole s.args.value s.ranges.value below) at c.put_field.ensures.0 in
    (same_words (signed s.args.value) w (below_zero s.args.value s.ranges.value below), omega (arith, c.put_field.ensures.1))

pub overflow_cast-value : goal.overflow_cast-value
overflow_cast-value c =
    let above : lt_z c.args.value (pos 0) ≡ false =
    (let s = c in rw (← to_z-of_z w16 s.args.value s.ranges.value) c.if-value-lt0.false) in
    let s = c in rw (to_z-of_z w16 s.args.value s.ranges.value, itself s.args.value above) (tt, omega (arith, small s.args.value s.ranges.value))

pub returns : goal.returns
returns c =
    let above : lt_z c.args.value (pos 0) ≡ false =
    (let s = c in rw (← to_z-of_z w16 s.args.value s.ranges.value) c.if-value-lt0.false) in
    let s = c in
    let w = rw (to_z-of_z w16 s.args.value s.ranges.value, itself s.args.value above) at c.put_decimal.ensures.0 in
    (same_words (signed s.args.value) w (from_zero s.args.value above), omega (arith, c.put_decimal.ensures.1))
