-- `window::index::put_edges` meets its contract. Assumes nothing.
use mathlib.Core.Path.{◌∙◌}
use Prim.Native.Nat.{◌+◌, ◌*◌}
use native.Mathlib.Omega.{arith}
use Rattle.window.proofs.Indexing.{indexed, within}
use Rattle.window.proofs.index.put_edges.Goals as goal

pub put_links-requires : goal.put_links-requires
put_links-requires c =
    let h = c.requires in
    (h.0, h.1, h.2, h.3, omega (arith, h.4, c.put_places.ensures.same), c.put_places.ensures.place, λ q l. c.put_places.ensures.below (c.args.c * 80 + q) (omega (arith, l)) ∙ h.6 q l)

pub returns : goal.returns
returns c =
    let a = c.args in record { noted = indexed a.table.now a.index.now c.put_places.new.index c.put_links.new.index a.c a.start c.put_places.ensures c.put_links.ensures c.requires.4; others = within a.table.now a.index.now c.put_places.new.index c.put_links.new.index a.c a.start c.put_places.ensures c.put_links.ensures }
