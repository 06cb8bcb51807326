-- `calls::apart::run_permitted` meets its contract. Assumes nothing.
use mathlib.Core.Path.{refl}
use native.Mathlib.Omega.{arith}
use Rattle.calls.proofs.RunCalls.{used_most, tick_most, seen_most, bytes_done}
use Rattle.calls.proofs.apart.run_permitted.Goals as goal

pub overflow_cast-result : goal.overflow_cast-result
overflow_cast-result c =
    let s = c in
    let P = s.requires.2 in
    let E = c.run_table-e.ensures P.spread P.plan.passages P.plan.accepted_schedule in
    omega (arith, E.tick, tick_most s.args.table.now s.requires.0 P s.args.choices.now, s.requires.4)

pub overflow_cast-result-2 : goal.overflow_cast-result-2
overflow_cast-result-2 c =
    let s = c in
    let P = s.requires.2 in
    let E = c.run_table-e.ensures P.spread P.plan.passages P.plan.accepted_schedule in
    omega (arith, E.used, used_most s.args.table.now s.requires.0 P s.args.choices.now, s.requires.4)

pub returns : goal.returns
returns c G S q =
    let s = c in
    let P = s.requires.2 in
    let E = c.run_table-e.ensures G S q in
    let own = c.run_table-e.ensures P.spread P.plan.passages P.plan.accepted_schedule in
    record {
      verdict = refl;
      end = E.end;
      tick = E.tick;
      used = E.used;
      size = E.written;
      lent = bytes_done _ s.args.choices.now s.args.observations.now _ E.bytes;
      few = omega (arith, own.written, seen_most s.args.table.now s.requires.0 P s.args.choices.now);
    }
