-- `parts::arc_parts` meets its contract. Assumes nothing.
use mathlib.Core.Option.{none}
use mathlib.Core.Path.{◌≡◌, subst, ap, ◌∙◌}
use Prim.Native.Nat.{◌≤◌}
use native.Mathlib.Omega.{arith}
use lib.ListN.{length, drop}
use lib.Seq.{get_or-drop}
use Rattle.std.proofs.lemmas.Result.{err_from_is_err_and}
use Rattle.model.specs.Reader.{byte, many, read_items}
use Rattle.parts.specs.declared.Kind.TheVariants.{ClockGuards, DataGuards}
use Rattle.parts.specs.Place.{left, skim, placed, Within, Passed, passes}
use Rattle.parts.proofs.Skim.{first_of}
use Rattle.parts.proofs.Sequence.{moved, further, guards_fail, data_fail, guards_pass}
use Rattle.parts.proofs.arc_parts.Goals as goal

pub returns-in_err-data : goal.returns-in_err-data
returns-in_err-data c =
    let a = c.args in
    let h = drop a.at a.component.now in
    let e : skim (many (passes ClockGuards a.sizes) (byte h 4) (drop a.from a.component.now)) ≡ placed a.component.now c.parts.result =
    rw (get_or-drop a.at a.component.now 4 0) c.parts.ensures.says in
    let p = err_from_is_err_and c.from_residual.result c.from_residual.ensures.1 in
    rw (p.1, p.2) (record { says = guards_fail a.sizes h none (drop a.from a.component.now) (e ∙ ap (placed a.component.now) c.in_err-data.was); within = tt })

pub returns-in_err-rest : goal.returns-in_err-rest
returns-in_err-rest c =
    let a = c.args in
    let h = drop a.at a.component.now in
    let from = c.in_ok-data.data in
    let e : skim (many (passes ClockGuards a.sizes) (byte h 4) (drop a.from a.component.now)) ≡ left (drop from a.component.now) =
    rw (get_or-drop a.at a.component.now 4 0) (c.parts.ensures.says ∙ ap (placed a.component.now) c.in_ok-data.was) in
    let f : skim (many (passes DataGuards a.sizes) (byte h 5) (drop from a.component.now)) ≡ placed a.component.now c.parts-2.result =
    rw (get_or-drop a.at a.component.now 5 0) c.parts-2.ensures.says in
    let p = err_from_is_err_and c.from_residual-in_err-rest.result c.from_residual-in_err-rest.ensures.1 in
    rw (p.1, p.2) (record { says = data_fail a.sizes h none (drop a.from a.component.now) (drop from a.component.now) e (f ∙ ap (placed a.component.now) c.in_err-rest.was); within = tt })

pub returns : goal.returns
returns c =
    let a = c.args in
    let h = drop a.at a.component.now in
    let from = c.in_ok-data.data in
    let e : skim (many (passes ClockGuards a.sizes) (byte h 4) (drop a.from a.component.now)) ≡ left (drop from a.component.now) =
    rw (get_or-drop a.at a.component.now 4 0) (c.parts.ensures.says ∙ ap (placed a.component.now) c.in_ok-data.was) in
    let on = c.in_ok-rest.rest in
    let f : skim (many (passes DataGuards a.sizes) (byte h 5) (drop from a.component.now)) ≡ left (drop on a.component.now) =
    rw (get_or-drop a.at a.component.now 5 0) (c.parts-2.ensures.says ∙ ap (placed a.component.now) c.in_ok-rest.was) in
    let w = subst (Within a.from (length a.component.now)) c.in_ok-data.was c.parts.ensures.within in
    let v = subst (Within from (length a.component.now)) c.in_ok-rest.was c.parts-2.ensures.within in
    let n : a.from ≤ on = omega (arith, w.0, v.0) in
    let q : Passed a.component.now on c.items.result (read_items a.sizes (byte h 0) (byte h 6) (drop on a.component.now)) =
    rw (first_of a.component.now a.at, get_or-drop a.at a.component.now 6 0) c.items.ensures in
    further c.items.result n
    (moved (guards_pass a.sizes h none (drop a.from a.component.now) (drop from a.component.now) e (drop on a.component.now) f) q)
