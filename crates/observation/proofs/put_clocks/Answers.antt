-- `observation::put_clocks` meets its contract. Assumes nothing.
use mathlib.Core.Path.{◌≡◌}
use lib.ListN.{length}
use Rattle.observation.proofs.Laid.{bounded, clocks_put}
use borrow.Author.Rules.{rules}
use Rattle.observation.proofs.put_clocks.Goals as goal

pub grown-requires : goal.grown-requires
grown-requires c = bounded 4000000000000000000 c.requires.2 0

pub grown-requires-2 : goal.grown-requires-2
grown-requires-2 c = bounded 4000000000000000000 c.requires.2 1

pub grown-requires-3 : goal.grown-requires-3
grown-requires-3 c = bounded 4000000000000000000 c.requires.2 2

pub grown-requires-4 : goal.grown-requires-4
grown-requires-4 c = bounded 4000000000000000000 c.requires.2 3

pub returns : goal.returns
returns c =
    let a = c.args in
    let h = c.requires in
    let long : length a.clocks ≡ 4 = search rules in
    clocks_put a.out.now a.at a.delay a.count a.clocks h.1 long c.grown.ensures c.grown-2.ensures c.grown-3.ensures c.grown-4.ensures
    c.put32.ensures c.put32-2.ensures c.put32-3.ensures c.put32-4.ensures
