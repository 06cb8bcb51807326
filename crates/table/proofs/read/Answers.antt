-- `table::read` meets its contract. Assumes nothing.
use mathlib.Core.Path.{refl, ap, ◌∙◌}
use native.Mathlib.Omega.{arith}
use lib.ListN.{drop}
use Rattle.model.specs.Reader.{byte, read_components, body_start}
use Rattle.table.specs.Directory.{reading_from}
use Rattle.table.proofs.Whole.{header_refused, header_fine, fourth, asks}
use Rattle.table.proofs.read.Goals as goal

pub returns-in-Err : goal.returns-in-Err
returns-in-Err c = c.refused.ensures ∙ header_refused c.args.table.now c.from.result (c.from.ensures ∙ c.in-Err.ensures) (λ z. asks c.in-Err.fault (omega (arith, z, c.from.ensures)))

pub returns : goal.returns
returns c =
    let bs = c.args.table.now in
    let f = header_fine bs 0 c.in_default.ensures refl in
    c.components.ensures ∙ ap (λ h. reading_from bs (byte bs 3) (read_components h (byte bs 3) 0 (drop (body_start bs) bs))) c.heading.ensures ∙ fourth bs f.0 f.1 f.2 f.3
