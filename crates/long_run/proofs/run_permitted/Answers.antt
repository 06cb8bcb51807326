-- `long_run::run_permitted` meets its contract. Assumes nothing.
use mathlib.Core.Path.{refl}
use native.Mathlib.Omega.{arith}
use Rattle.translator.proofs.Standing.{slice_bytes}
use Rattle.long_run.proofs.Bounds.{tick_most}
use Rattle.long_run.proofs.Answering.{reached_to, bytes_done}
use Rattle.long_run.proofs.run_permitted.Goals as goal

pub overflow_cast-result : goal.overflow_cast-result
overflow_cast-result c =
    let a = c.args in
    let p = c.requires in
    let u = reached_to p.0 p.2 in
    let e = c.run_table-e.ensures u.passages u.planned in
    omega (arith, e.tick, tick_most a.table.now (slice_bytes a.table.now c.type_inv.table) p.0 a.horizon (omega (arith, c.ranges.horizon)) p.2.least u.passages a.choices.now)

pub returns : goal.returns
returns c =
    λ L q.
    let a = c.args in
    let e = c.run_table-e.ensures L q in
    record {
      verdict = refl;
      end = e.end;
      tick = e.tick;
      used = e.used;
      size = e.written;
      lent = bytes_done _ a.choices.now a.observations.now _ e.bytes;
    }
