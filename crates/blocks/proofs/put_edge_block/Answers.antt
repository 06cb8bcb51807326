-- `blocks::put_edge_block` meets its contract. Assumes nothing.
use mathlib.Core.Path.{sym, ap}
use mathlib.Core.List.{List, map}
use Prim.Native.Nat.{ℕ}
use Rattle.model.specs.Lists.{below}
use Rattle.model.specs.Program.{ageing, block_bytes, quad}
use Rattle.blocks.proofs.Runs.{put_is, put_join, room_is, room_first, room_next}
use Rattle.blocks.proofs.Blocks.{work_bytes, from_enter, from_ages, from_work, edge_made}
use Rattle.blocks.proofs.put_edge_block.Goals as goal

pub put_quad-first-requires : goal.put_quad-first-requires
put_quad-first-requires c =
    let args = c.args in
    let pre = c.requires in
    let h = args.bytes.now in
    let r0 = room_is args.out.now args.at (sym (edge_made args.clocks args.budgets args.bytes.now c.edge_at-edge.result c.edge_at-edge.ensures)) pre.2 in
    room_first args.out.now args.at (quad 0x00 0 0) (from_work args.clocks args.budgets args.bytes.now c.edge_at-edge.result) r0

pub put_work-second-requires : goal.put_work-second-requires
put_work-second-requires c =
    let args = c.args in
    let pre = c.requires in
    let h = args.bytes.now in
    let r0 = room_is args.out.now args.at (sym (edge_made args.clocks args.budgets args.bytes.now c.edge_at-edge.result c.edge_at-edge.ensures)) pre.2 in
    let r1 = room_next c.put_quad-first.ensures (from_work args.clocks args.budgets args.bytes.now c.edge_at-edge.result) r0 in
    (pre.0, pre.1, room_first c.put_quad-first.new.out c.put_quad-first.result (work_bytes args.budgets h) (from_ages args.clocks args.budgets args.bytes.now c.edge_at-edge.result) r1)

pub put_clocks-third-requires : goal.put_clocks-third-requires
put_clocks-third-requires c =
    let args = c.args in
    let pre = c.requires in
    let h = args.bytes.now in
    let r0 = room_is args.out.now args.at (sym (edge_made args.clocks args.budgets args.bytes.now c.edge_at-edge.result c.edge_at-edge.ensures)) pre.2 in
    let r1 = room_next c.put_quad-first.ensures (from_work args.clocks args.budgets args.bytes.now c.edge_at-edge.result) r0 in
    let r2 = room_next c.put_work-second.ensures (from_ages args.clocks args.budgets args.bytes.now c.edge_at-edge.result) r1 in
    room_first c.put_work-second.new.out c.put_work-second.result (block_bytes (map (ageing c.edge_at-edge.result.mask) (below args.clocks))) (from_enter args.clocks args.budgets args.bytes.now c.edge_at-edge.result) r2

pub put_quad-fourth-requires : goal.put_quad-fourth-requires
put_quad-fourth-requires c =
    let args = c.args in
    let pre = c.requires in
    let h = args.bytes.now in
    let r0 = room_is args.out.now args.at (sym (edge_made args.clocks args.budgets args.bytes.now c.edge_at-edge.result c.edge_at-edge.ensures)) pre.2 in
    let r1 = room_next c.put_quad-first.ensures (from_work args.clocks args.budgets args.bytes.now c.edge_at-edge.result) r0 in
    let r2 = room_next c.put_work-second.ensures (from_ages args.clocks args.budgets args.bytes.now c.edge_at-edge.result) r1 in
    let r3 = room_next c.put_clocks-third.ensures (from_enter args.clocks args.budgets args.bytes.now c.edge_at-edge.result) r2 in
    room_first c.put_clocks-third.new.out c.put_clocks-third.result (quad 0x09 0 c.edge_at-edge.result.destination) (quad 0x11 0 0) r3

pub put_quad-requires : goal.put_quad-requires
put_quad-requires c =
    let args = c.args in
    let pre = c.requires in
    let h = args.bytes.now in
    let r0 = room_is args.out.now args.at (sym (edge_made args.clocks args.budgets args.bytes.now c.edge_at-edge.result c.edge_at-edge.ensures)) pre.2 in
    let r1 = room_next c.put_quad-first.ensures (from_work args.clocks args.budgets args.bytes.now c.edge_at-edge.result) r0 in
    let r2 = room_next c.put_work-second.ensures (from_ages args.clocks args.budgets args.bytes.now c.edge_at-edge.result) r1 in
    let r3 = room_next c.put_clocks-third.ensures (from_enter args.clocks args.budgets args.bytes.now c.edge_at-edge.result) r2 in
    let p4 = put_is (ap {B = List ℕ} (λ (k : ℕ). quad 0x09 0 k) c.wide16.ensures.0) c.put_quad-fourth.ensures in
    room_next p4 (quad 0x11 0 0) r3

pub returns : goal.returns
returns c =
    let args = c.args in
    let h = args.bytes.now in
    let p4 = put_is (ap {B = List ℕ} (λ (k : ℕ). quad 0x09 0 k) c.wide16.ensures.0) c.put_quad-fourth.ensures in
    put_is (edge_made args.clocks args.budgets args.bytes.now c.edge_at-edge.result c.edge_at-edge.ensures) (put_join c.put_quad-first.ensures (put_join c.put_work-second.ensures (put_join c.put_clocks-third.ensures (put_join p4 c.put_quad.ensures))))
