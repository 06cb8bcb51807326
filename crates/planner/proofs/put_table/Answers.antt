-- `planner::put_table` meets its contract. Assumes nothing.
use native.Mathlib.Omega.{arith}
use Rattle.planner.proofs.Runs.{put_is, put_join, put_long}
use Rattle.planner.proofs.Pieces.{probes_long, table-bytes}
use Rattle.planner.proofs.put_table.Goals as goal

pub put_hub-requires : goal.put_hub-requires
put_hub-requires c =
    let e = c in
    (e.requires.0, omega (arith, e.requires.1, c.put_table_head-first.ensures.ends, c.put_probes-last.ensures.ends, put_long c.put_table_head-first.ensures, put_long c.put_probes-last.ensures, probes_long e.args.slots e.requires.0))

pub returns : goal.returns
returns c =
    let e = c in
    put_is (table-bytes e.args.slots e.requires.0) (put_join (put_join c.put_table_head-first.ensures c.put_probes-last.ensures) c.put_hub.ensures)
