use mathlib.Core.Path.{◌≡◌}
use mathlib.Core.List.{List}
use Prim.Native.Nat.{ℕ}
use lib.ListN.{length, replicate, length-replicate}
use Rattle.passages.proofs.Planning.{slice_bytes, plans_refused, plans_short, plans_laid, few_planned, long_planned, small_planned}
use Rattle.passages.proofs.plan.Goals as goal

-- the numbers before the call
abbrev zeros : List ℕ
zeros = replicate 7168 0

long : length zeros ≡ 7168
long = length-replicate {A = ℕ} 7168 0

pub returns-then-places-n : goal.returns-then-places-n
returns-then-places-n c =
    plans_short c.args.table.now (slice_bytes c.args.table.now c.type_inv.table) zeros long c.schedule-c.result.verdict c.schedule-c.result.size c.schedule-c.new.list c.schedule-c.ensures c.in-Accepted.is c.args.places c.refused-then-places-n.result c.if-places-n.true c.refused-then-places-n.ensures

pub laid_out-requires : goal.laid_out-requires
laid_out-requires c =
    (few_planned c.args.table.now (slice_bytes c.args.table.now c.type_inv.table) zeros long c.schedule-c.result.verdict c.schedule-c.result.size c.schedule-c.new.list c.schedule-c.ensures c.in-Accepted.is, long_planned c.args.table.now (slice_bytes c.args.table.now c.type_inv.table) zeros long c.schedule-c.result.verdict c.schedule-c.result.size c.schedule-c.new.list c.schedule-c.ensures c.in-Accepted.is, small_planned c.args.table.now (slice_bytes c.args.table.now c.type_inv.table) zeros long c.schedule-c.result.verdict c.schedule-c.result.size c.schedule-c.new.list c.schedule-c.ensures c.in-Accepted.is)

pub returns-in-Refused : goal.returns-in-Refused
returns-in-Refused c =
    plans_refused c.args.table.now (slice_bytes c.args.table.now c.type_inv.table) zeros long c.schedule-c.result.verdict c.schedule-c.result.size c.schedule-c.new.list c.schedule-c.ensures c.args.places _ _ c.refused.result c.in-Refused.is c.refused.ensures

pub returns-else-places-n : goal.returns-else-places-n
returns-else-places-n c =
    plans_laid c.args.table.now (slice_bytes c.args.table.now c.type_inv.table) zeros long c.schedule-c.result.verdict c.schedule-c.result.size c.schedule-c.new.list c.schedule-c.ensures c.in-Accepted.is c.args.places c.laid_out.result c.if-places-n.false c.laid_out.ensures
