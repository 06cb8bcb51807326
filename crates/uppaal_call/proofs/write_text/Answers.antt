-- `uppaal_call::write_text` meets its contract. Assumes nothing.
use mathlib.Core.Path.{sym, ap, ◌∙◌}
use Prim.Native.Nat.{◌≤◌}
use lib.ListN.{length}
use Rattle.model.specs.Calls.{Call}
use Rattle.uppaal_call.proofs.Exporting.{too_short, written}
use native.Mathlib.Omega.{arith}
use Rattle.uppaal_call.proofs.write_text.Goals as goal

pub text_room-requires : goal.text_room-requires
text_room-requires c = (c.requires.0, c.requires.1)

pub put_system-requires : goal.put_system-requires
put_system-requires c = (c.requires.0, c.requires.1, omega arith)

pub returns-then-text_room-text : goal.returns-then-text_room-text
returns-then-text_room-text c =
    let a = c.args in
    let short : c.put_system.result ≤ length a.text.now = omega (arith, c.put_system.ensures.0.next, c.text_room.ensures, c.if-text_room-text.true) in
    let k = written a.table.now a.text.now c.put_system.result c.put_system.ensures.0 short c.put_system.ensures.0 in
    (sym (ap (λ (x : Call). x.verdict) k), sym (ap (λ (x : Call). x.size) k), sym (ap (λ (x : Call). x.lent) k), omega (arith, c.put_system.ensures.1))

pub put_system-size-requires : goal.put_system-size-requires
put_system-size-requires c = (c.requires.0, c.requires.1, omega arith)

pub returns-then-text-size : goal.returns-then-text-size
returns-then-text-size c =
    let a = c.args in
    let k = too_short a.table.now a.text.now c.put_system-size.result c.put_system-size.ensures.0 c.if-text-size.true in
    (c.refused.ensures.0 ∙ sym (ap (λ (x : Call). x.verdict) k), c.refused.ensures.1 ∙ sym (ap (λ (x : Call). x.size) k), sym (ap (λ (x : Call). x.lent) k), omega (arith, c.refused.ensures.1))

pub put_system-requires-2 : goal.put_system-requires-2
put_system-requires-2 c = (c.requires.0, c.requires.1, omega arith)

pub returns : goal.returns
returns c =
    let a = c.args in
    let k = written a.table.now a.text.now c.put_system-size.result c.put_system-size.ensures.0 c.if-text-size.false c.put_system-2.ensures.0 in
    (sym (ap (λ (x : Call). x.verdict) k), sym (ap (λ (x : Call). x.size) k), sym (ap (λ (x : Call). x.lent) k), omega (arith, c.put_system-size.ensures.1))
