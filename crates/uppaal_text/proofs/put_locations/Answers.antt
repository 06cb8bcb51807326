-- `uppaal_text::put_locations` meets its contract. Assumes nothing.
use mathlib.Core.Path.{◌≡◌, ap}
use Prim.Native.Nat.{◌+◌, ◌*◌}
use Rattle.model.specs.Reader.{byte}
use Rattle.blocks.proofs.Runs.{put_is}
use Rattle.translator.specs.Front.{front_component}
use Rattle.uppaal.specs.Export.{plain_location}
use Rattle.uppaal_parts.proofs.Turns.{numbers_on, numbers_done}
use Rattle.uppaal_text.specs.Texts.{place_text, plain_text}
use Rattle.uppaal_text.proofs.Edges.{location_is}
use native.Mathlib.Omega.{arith}
use Rattle.uppaal_text.proofs.put_locations.Goals as goal

pub loop-number-preserved : goal.loop-number-preserved
loop-number-preserved c =
    let a = c.args in
    let l = c.loop-number in
    let d : 7 + c.from.result * 3 ≡ 7 + l.number * 3 = omega arith in
    let e = ap (plain_text l.number) (location_is a.budgets a.component.now l.number (7 + c.from.result * 3) c.location_at-location.result (omega arith) d c.location_at-location.ensures) in
    (omega (arith, c.put_location-next.ensures.1), numbers_on (λ x. place_text (plain_location (front_component a.budgets a.component.now) x)) l.number (byte a.component.now 2) (omega arith) l.invariant.1 (put_is e c.put_location-next.ensures.0))

pub returns : goal.returns
returns c =
    let a = c.args in
    (numbers_done (λ x. place_text (plain_location (front_component a.budgets a.component.now) x)) c.loop-number.number (byte a.component.now 2) (omega arith) c.loop-number.invariant.1, omega (arith, c.requires.0.most_locations))
