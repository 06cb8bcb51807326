-- `blocks::put_trial` meets its contract. Assumes nothing.
use mathlib.Core.Path.{◌≡◌, sym, ap}
use mathlib.Core.List.{List}
use Prim.Native.Nat.{ℕ, ◌+◌, ◌*◌}
use native.Mathlib.Omega.{arith}
use lib.ListN.{drop}
use Rattle.model.specs.Reader.{byte}
use Rattle.model.specs.Places.{arc_head_length, budget_at}
use Rattle.model.specs.Program.{budget_test, quad, block_bytes}
use Rattle.blocks.specs.declared.Kind.TheVariants.{ClockGuards, DataGuards}
use Rattle.blocks.specs.Made.{all_made}
use Rattle.blocks.proofs.Runs.{put_is, put_join, room_is, room_first, room_next}
use Rattle.blocks.proofs.Parts.{parts_asked, parts_there}
use Rattle.blocks.proofs.Blocks.{from_high, from_clocks, from_datas, from_budget, trial_made, bounds_fit}
use Rattle.blocks.proofs.put_trial.Goals as goal

pub put_quad-first-requires : goal.put_quad-first-requires
put_quad-first-requires c =
    let args = c.args in
    let pre = c.requires in
    let h = args.bytes.now in
    let b = args.budgets in
    let r0 = room_is args.out.now args.at (sym (trial_made args.location args.number args.budgets args.bytes.now)) pre.2 in
    room_first args.out.now args.at (quad 0x0A 0 0) (from_high args.location args.number args.budgets args.bytes.now) r0

pub put_quad-second-requires : goal.put_quad-second-requires
put_quad-second-requires c =
    let args = c.args in
    let pre = c.requires in
    let h = args.bytes.now in
    let b = args.budgets in
    let r0 = room_is args.out.now args.at (sym (trial_made args.location args.number args.budgets args.bytes.now)) pre.2 in
    let r1 = room_next c.put_quad-first.ensures (from_high args.location args.number args.budgets args.bytes.now) r0 in
    room_first c.put_quad-first.new.out c.put_quad-first.result (quad 0x0C args.location.clock args.location.bound) (from_clocks args.location args.number args.budgets args.bytes.now) r1

pub put_parts-third-requires : goal.put_parts-third-requires
put_parts-third-requires c =
    let args = c.args in
    let pre = c.requires in
    let h = args.bytes.now in
    let b = args.budgets in
    let r0 = room_is args.out.now args.at (sym (trial_made args.location args.number args.budgets args.bytes.now)) pre.2 in
    let r1 = room_next c.put_quad-first.ensures (from_high args.location args.number args.budgets args.bytes.now) r0 in
    let r2 = room_next c.put_quad-second.ensures (from_clocks args.location args.number args.budgets args.bytes.now) r1 in
    parts_asked ClockGuards (byte h 4) h c.head_length-head.result (arc_head_length b) c.head_length-head.ensures.0 c.put_quad-second.new.out c.put_quad-second.result (bounds_fit b h pre.1).0 (room_first c.put_quad-second.new.out c.put_quad-second.result (all_made ClockGuards (byte h 4) (drop (arc_head_length b) h)) (from_datas args.location args.number args.budgets args.bytes.now) r2)

pub put_parts-fourth-requires : goal.put_parts-fourth-requires
put_parts-fourth-requires c =
    let args = c.args in
    let pre = c.requires in
    let h = args.bytes.now in
    let b = args.budgets in
    let r0 = room_is args.out.now args.at (sym (trial_made args.location args.number args.budgets args.bytes.now)) pre.2 in
    let r1 = room_next c.put_quad-first.ensures (from_high args.location args.number args.budgets args.bytes.now) r0 in
    let r2 = room_next c.put_quad-second.ensures (from_clocks args.location args.number args.budgets args.bytes.now) r1 in
    let p3 = parts_there ClockGuards (byte h 4) h c.head_length-head.result (arc_head_length b) c.head_length-head.ensures.0 c.put_parts-third.ensures in
    let r3 = room_next p3 (from_datas args.location args.number args.budgets args.bytes.now) r2 in
    let e : c.head_length-head.result + c.wide.result * 5 ≡ arc_head_length b + byte h 4 * 5 = omega (arith, c.wide.ensures.0, c.head_length-head.ensures.0) in
    parts_asked DataGuards (byte h 5) h (c.head_length-head.result + c.wide.result * 5) (arc_head_length b + byte h 4 * 5) e c.put_parts-third.new.out c.put_parts-third.result (bounds_fit b h pre.1).1 (room_first c.put_parts-third.new.out c.put_parts-third.result (all_made DataGuards (byte h 5) (drop (arc_head_length b + byte h 4 * 5) h)) (from_budget args.location args.number args.budgets args.bytes.now) r3)

pub put_budget-fifth-requires : goal.put_budget-fifth-requires
put_budget-fifth-requires c =
    let args = c.args in
    let pre = c.requires in
    let h = args.bytes.now in
    let b = args.budgets in
    let r0 = room_is args.out.now args.at (sym (trial_made args.location args.number args.budgets args.bytes.now)) pre.2 in
    let r1 = room_next c.put_quad-first.ensures (from_high args.location args.number args.budgets args.bytes.now) r0 in
    let r2 = room_next c.put_quad-second.ensures (from_clocks args.location args.number args.budgets args.bytes.now) r1 in
    let p3 = parts_there ClockGuards (byte h 4) h c.head_length-head.result (arc_head_length b) c.head_length-head.ensures.0 c.put_parts-third.ensures in
    let r3 = room_next p3 (from_datas args.location args.number args.budgets args.bytes.now) r2 in
    let e : c.head_length-head.result + c.wide.result * 5 ≡ arc_head_length b + byte h 4 * 5 = omega (arith, c.wide.ensures.0, c.head_length-head.ensures.0) in
    let p4 = parts_there DataGuards (byte h 5) h (c.head_length-head.result + c.wide.result * 5) (arc_head_length b + byte h 4 * 5) e c.put_parts-fourth.ensures in
    (omega (arith, pre.1), room_first c.put_parts-fourth.new.out c.put_parts-fourth.result (block_bytes (budget_test (budget_at b h))) (quad 0x0F 0 args.number) (room_next p4 (from_budget args.location args.number args.budgets args.bytes.now) r3))

pub put_quad-requires : goal.put_quad-requires
put_quad-requires c =
    let args = c.args in
    let pre = c.requires in
    let h = args.bytes.now in
    let b = args.budgets in
    let r0 = room_is args.out.now args.at (sym (trial_made args.location args.number args.budgets args.bytes.now)) pre.2 in
    let r1 = room_next c.put_quad-first.ensures (from_high args.location args.number args.budgets args.bytes.now) r0 in
    let r2 = room_next c.put_quad-second.ensures (from_clocks args.location args.number args.budgets args.bytes.now) r1 in
    let p3 = parts_there ClockGuards (byte h 4) h c.head_length-head.result (arc_head_length b) c.head_length-head.ensures.0 c.put_parts-third.ensures in
    let r3 = room_next p3 (from_datas args.location args.number args.budgets args.bytes.now) r2 in
    let e : c.head_length-head.result + c.wide.result * 5 ≡ arc_head_length b + byte h 4 * 5 = omega (arith, c.wide.ensures.0, c.head_length-head.ensures.0) in
    let p4 = parts_there DataGuards (byte h 5) h (c.head_length-head.result + c.wide.result * 5) (arc_head_length b + byte h 4 * 5) e c.put_parts-fourth.ensures in
    let r4 = room_next p4 (from_budget args.location args.number args.budgets args.bytes.now) r3 in
    room_next c.put_budget-fifth.ensures (quad 0x0F 0 args.number) r4

pub returns : goal.returns
returns c =
    let args = c.args in
    let h = args.bytes.now in
    let b = args.budgets in
    let e : c.head_length-head.result + c.wide.result * 5 ≡ arc_head_length b + byte h 4 * 5 = omega (arith, c.wide.ensures.0, c.head_length-head.ensures.0) in
    let p3 = parts_there ClockGuards (byte h 4) h c.head_length-head.result (arc_head_length b) c.head_length-head.ensures.0 c.put_parts-third.ensures in
    let p4 = parts_there DataGuards (byte h 5) h (c.head_length-head.result + c.wide.result * 5) (arc_head_length b + byte h 4 * 5) e c.put_parts-fourth.ensures in
    let p5 = put_is (ap {B = List ℕ} (λ (k : ℕ). quad 0x0F 0 k) c.wide16.ensures.0) c.put_quad.ensures in
    put_is (trial_made args.location args.number args.budgets args.bytes.now) (put_join c.put_quad-first.ensures (put_join c.put_quad-second.ensures (put_join p3 (put_join p4 (put_join c.put_budget-fifth.ensures p5)))))
