-- `refusal_place::locate` meets its contract. Assumes nothing.
use mathlib.Core.Path.{◌≡◌, sym, ◌∙◌}
use native.Mathlib.Omega.{arith}
use Rattle.model.specs.Reader.{body_start}
use Rattle.table.specs.Directory.{header_of}
use Rattle.table.proofs.Whole.{questioned, unquestioned}
use Rattle.refusal_place.specs.Walk.{nowhere, components, place_of}
use Rattle.refusal_place.proofs.Whole.{header_nowhere, place_is, walk_starts, place_within}
use Rattle.refusal_place.proofs.locate.Goals as goal

pub returns-then-is_err : goal.returns-then-is_err
returns-then-is_err c =
    let s = c.args.table.now in
    let e = c.nowhere.ensures ∙ sym (header_nowhere s (λ z. questioned c.header.result (sym c.is_err.ensures.value ∙ c.if-is_err.true) (c.header.ensures ∙ z))) in
    record { value = e; offset_bound = rw e (place_within s) }

pub body_start-requires : goal.body_start-requires
body_start-requires c =
    let s = c.args.table.now in
    let z : header_of s ≡ 0 = sym c.header.ensures ∙ unquestioned c.header.result (sym c.is_err.ensures.value ∙ c.if-is_err.false) in
    let k = walk_starts s z in
    omega (arith, k.0)

pub heading-header-requires : goal.heading-header-requires
heading-header-requires c =
    let s = c.args.table.now in
    let z : header_of s ≡ 0 = sym c.header.ensures ∙ unquestioned c.header.result (sym c.is_err.ensures.value ∙ c.if-is_err.false) in
    let k = walk_starts s z in
    omega (arith, k.0)

pub components-walked-requires : goal.components-walked-requires
components-walked-requires c =
    let s = c.args.table.now in
    let z : header_of s ≡ 0 = sym c.header.ensures ∙ unquestioned c.header.result (sym c.is_err.ensures.value ∙ c.if-is_err.false) in
    let k = walk_starts s z in
    (rw c.body_start.ensures.0 k.0, k.1, omega (arith, k.2), c.byte_at-count.ensures, c.heading-header.ensures)

pub returns : goal.returns
returns c =
    let s = c.args.table.now in
    let z : header_of s ≡ 0 = sym c.header.ensures ∙ unquestioned c.header.result (sym c.is_err.ensures.value ∙ c.if-is_err.false) in
    let w : c.components-walked.result ≡ components s (record { at = body_start s; place = nowhere }) =
    rw (c.components-walked.ensures, c.nowhere-2.ensures, c.body_start.ensures.0) in
    let e : c.components-walked.result.place ≡ place_of s = rw w (sym (place_is s z)) in record { value = e; offset_bound = rw e (place_within s) }
