-- `window::age` meets its contract. Assumes nothing.
use mathlib.Core.Path.{◌≡◌, sym}
use Prim.Native.Nat.{◌<◌}
use lib.ListN.{length}
use Rattle.model.proofs.Basics.Walk.{all_at}
use Rattle.window.proofs.Leaving.{aged_four}
use borrow.Author.Rules.{rules}
use Rattle.window.proofs.age.Goals as goal

pub aged_clock-requires : goal.aged_clock-requires
aged_clock-requires c =
    let s = c in
    let k : 0 < length s.args.clocks = search rules in
    (s.requires.0, all_at 0 s.requires.1 0 k)

pub aged_clock-requires-2 : goal.aged_clock-requires-2
aged_clock-requires-2 c =
    let s = c in
    let k : 1 < length s.args.clocks = search rules in
    (s.requires.0, all_at 0 s.requires.1 1 k)

pub aged_clock-requires-3 : goal.aged_clock-requires-3
aged_clock-requires-3 c =
    let s = c in
    let k : 2 < length s.args.clocks = search rules in
    (s.requires.0, all_at 0 s.requires.1 2 k)

pub aged_clock-requires-4 : goal.aged_clock-requires-4
aged_clock-requires-4 c =
    let s = c in
    let k : 3 < length s.args.clocks = search rules in
    (s.requires.0, all_at 0 s.requires.1 3 k)

pub returns : goal.returns
returns c =
    let a = c.args in
    let k : length a.clocks ≡ 4 = search rules in
    rw (c.aged_clock.ensures, c.aged_clock-2.ensures, c.aged_clock-3.ensures, c.aged_clock-4.ensures) (sym (aged_four a.mask a.grown a.clocks k))
