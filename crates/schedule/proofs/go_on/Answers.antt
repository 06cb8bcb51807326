-- `schedule::go_on` meets its contract. Assumes nothing.
use mathlib.Core.Path.{◌≡◌, refl, sym, subst, ◌∙◌}
use Prim.Native.Nat.{◌+◌, ◌≤◌, ◌<◌}
use native.Mathlib.Omega.{arith}
use borrow.Author.Rules.{rules}
use lib.ListN.{get_or, set, length-set}
use Rattle.model.specs.Table.{size}
use Rattle.model.specs.Places.{start_of, read_of}
use Rattle.std.specs.Prelude.{Ok}
use Rattle.window.specs.declared.TakenEdge.{TakenEdge}
use Rattle.rows.proofs.Sought.{linked_below}
use Rattle.schedule.specs.declared.Scheduled.{Scheduled}
use Rattle.schedule.specs.Going.{Soonest, Turned, blank, Listed, unfinished}
use Rattle.schedule.proofs.Grown.{keeps, until}
use Rattle.schedule.proofs.Tables.{unmapped, counted, some_components, few_components, horizon_is, horizon_small, header, start_read, edge_small}
use Rattle.schedule.proofs.Stopping.{told_stop, not_both}
use Rattle.schedule.proofs.Turns.{Progress, progress_first, listed_is, turned_tick, node_stands, loop_stops, loop_full, loop_full_at, loop_fails, loop_fails_at, loop_on}
use Rattle.window.specs.Indexed.{Indexed}
use Rattle.schedule.proofs.go_on.Goals as goal

pub bounds-table-3 : goal.bounds-table-3
bounds-table-3 c = let e = c in omega (arith, header e.args.table.now c.type_inv.table e.requires.0)

pub word_at-requires : goal.word_at-requires
word_at-requires c = let e = c in omega (arith, header e.args.table.now c.type_inv.table e.requires.0)

pub loop-starts-init : goal.loop-starts-init
loop-starts-init c =
    let e = c in
    let s = e.args.table.now in
    let n : c.wide-count.result ≡ size (read_of s).table = c.wide-count.ensures.0 ∙ counted s c.type_inv.table e.requires.0 in
    let h : c.word32-horizon.result ≡ (read_of s).horizon = c.word32-horizon.ensures.0 ∙ c.word_at.ensures ∙ horizon_is s c.type_inv.table e.requires.0 in
    let few : c.wide-count.result ≤ 8 = omega (arith, n, few_components s c.type_inv.table e.requires.0) in (
      omega arith,
      omega (arith, n, some_components s c.type_inv.table e.requires.0),
      few,
      n,
      h,
      omega (arith, h, horizon_small s c.type_inv.table e.requires.0),
      search (rules, unmapped),
      search rules,
      e.requires.2,
      refl,
      progress_first s e.args.rows.now c.wide-count.result e.args.from e.args.until e.requires.3 n,
    )

pub shape_of-rows-then-horizon-end : goal.shape_of-rows-then-horizon-end
shape_of-rows-then-horizon-end c = c.loop-starts.invariant.9

pub returns-then-horizon-end : goal.returns-then-horizon-end
returns-then-horizon-end c =
    let closes : Soonest c.loop-starts.ends (size (read_of c.args.table.now).table) c.soonest-component.result =
    (subst (λ k. Soonest c.loop-starts.ends k c.soonest-component.result) c.loop-starts.invariant.3 c.soonest-component.ensures) in
    let l = c.loop-starts in
    let s = c.args.table.now in
    let f = loop_stops s l.rows c.type_inv.table l.filled l.nodes l.ends l.invariant.10 c.soonest-component.result closes (omega (arith, c.if-horizon-end.true, l.invariant.4)) in record { lists = subst (λ (r : Scheduled). Listed s (unfinished s) r l.rows) (listed_is _ _ c.listed.ensures.0 c.listed.ensures.1) f; stops = λ i d q. absurd (not_both c.listed.ensures.0 q) }

pub shape_of-rows-then-filled-ge1024 : goal.shape_of-rows-then-filled-ge1024
shape_of-rows-then-filled-ge1024 c = c.loop-starts.invariant.9

pub returns-then-filled-ge1024 : goal.returns-then-filled-ge1024
returns-then-filled-ge1024 c =
    let closes : Soonest c.loop-starts.ends (size (read_of c.args.table.now).table) c.soonest-component.result =
    (subst (λ k. Soonest c.loop-starts.ends k c.soonest-component.result) c.loop-starts.invariant.3 c.soonest-component.ensures) in
    let turned : Turned c.args.table.now c.loop-starts.rows c.loop-starts.filled c.soonest-component.result (read_of c.args.table.now).horizon (get_or c.loop-starts.nodes c.soonest-component.result blank)
    (get_or c.loop-starts.ends c.soonest-component.result 0) c.next_turn-turn.result =
    (let l = c.loop-starts in
    subst (λ h. Turned c.args.table.now l.rows l.filled c.soonest-component.result h (get_or l.nodes c.soonest-component.result blank) (get_or l.ends c.soonest-component.result 0) c.next_turn-turn.result) l.invariant.4 c.next_turn-turn.ensures) in
    let l = c.loop-starts in
    let s = c.args.table.now in
    let k = c in
    let below : get_or l.ends k.soonest-component.result 0 < (read_of s).horizon = omega (arith, c.if-horizon-end.false, l.invariant.4) in record {
      lists = loop_full s l.rows c.type_inv.table l.filled l.nodes l.ends l.invariant.10 k.soonest-component.result closes below c.if-filled-ge1024.true c.refused_at.result.scheduled c.refused_at.ensures.0 c.refused_at.ensures.1;
      stops = told_stop s c.refused_at.result c.refused_at.ensures.0 c.refused_at.ensures.2 c.refused_at.ensures.3
          (loop_full_at s l.rows c.type_inv.table l.filled l.nodes l.ends l.invariant.10 k.soonest-component.result closes below c.next_turn-turn.result turned l.invariant.0 c.if-filled-ge1024.true);
    }

pub next_turn-turn-requires : goal.next_turn-turn-requires
next_turn-turn-requires c =
    let closes : Soonest c.loop-starts.ends (size (read_of c.args.table.now).table) c.soonest-component.result =
    (subst (λ k. Soonest c.loop-starts.ends k c.soonest-component.result) c.loop-starts.invariant.3 c.soonest-component.ensures) in
    let e = c in
    let l = c.loop-starts in
    let g = l.invariant.10 in
    let s = e.args.table.now in
    let start = start_read s c.type_inv.table e.requires.0 e.args.starts c.soonest-component.result c.word_place.result e.requires.1 closes.there c.word_place.ensures.0 in (
      g.going.placed,
      start,
      node_stands s l.rows c.type_inv.table l.filled l.nodes l.ends g c.soonest-component.result closes,
      omega (arith, c.if-horizon-end.false, l.invariant.5),
      subst (λ z. Indexed s e.args.index.now c.soonest-component.result z) (sym start) (e.requires.4 c.soonest-component.result closes.there),
      e.requires.5,
    )

pub shape_of-rows-in-Err : goal.shape_of-rows-in-Err
shape_of-rows-in-Err c = c.loop-starts.invariant.9

pub returns-in-Err : goal.returns-in-Err
returns-in-Err c =
    let closes : Soonest c.loop-starts.ends (size (read_of c.args.table.now).table) c.soonest-component.result =
    (subst (λ k. Soonest c.loop-starts.ends k c.soonest-component.result) c.loop-starts.invariant.3 c.soonest-component.ensures) in
    let turned : Turned c.args.table.now c.loop-starts.rows c.loop-starts.filled c.soonest-component.result (read_of c.args.table.now).horizon (get_or c.loop-starts.nodes c.soonest-component.result blank)
    (get_or c.loop-starts.ends c.soonest-component.result 0) c.next_turn-turn.result =
    (let l = c.loop-starts in
    subst (λ h. Turned c.args.table.now l.rows l.filled c.soonest-component.result h (get_or l.nodes c.soonest-component.result blank) (get_or l.ends c.soonest-component.result 0) c.next_turn-turn.result) l.invariant.4 c.next_turn-turn.ensures) in
    let l = c.loop-starts in
    let s = c.args.table.now in
    let k = c in
    let below : get_or l.ends k.soonest-component.result 0 < (read_of s).horizon = omega (arith, c.if-horizon-end.false, l.invariant.4) in
    let room : l.filled < 1024 = omega (arith, c.if-filled-ge1024.false) in
    let t = c in record {
      lists = loop_fails s l.rows c.type_inv.table l.filled l.nodes l.ends l.invariant.10 k.soonest-component.result closes below t.next_turn-turn.result turned room c.number.ensures c.in-Err.is c.refused_at-in-Err.result.scheduled c.refused_at-in-Err.ensures.0 c.refused_at-in-Err.ensures.1;
      stops = told_stop s c.refused_at-in-Err.result c.refused_at-in-Err.ensures.0 c.refused_at-in-Err.ensures.2 c.refused_at-in-Err.ensures.3
          (loop_fails_at s l.rows c.type_inv.table l.filled l.nodes l.ends l.invariant.10 k.soonest-component.result closes below t.next_turn-turn.result turned room c.number.ensures c.in-Err.is);
    }

pub overflow_add-at : goal.overflow_add-at
overflow_add-at c =
    let closes : Soonest c.loop-starts.ends (size (read_of c.args.table.now).table) c.soonest-component.result =
    (subst (λ k. Soonest c.loop-starts.ends k c.soonest-component.result) c.loop-starts.invariant.3 c.soonest-component.ensures) in
    let turned : Turned c.args.table.now c.loop-starts.rows c.loop-starts.filled c.soonest-component.result (read_of c.args.table.now).horizon (get_or c.loop-starts.nodes c.soonest-component.result blank)
    (get_or c.loop-starts.ends c.soonest-component.result 0) c.next_turn-turn.result =
    (let l = c.loop-starts in
    subst (λ h. Turned c.args.table.now l.rows l.filled c.soonest-component.result h (get_or l.nodes c.soonest-component.result blank) (get_or l.ends c.soonest-component.result 0) c.next_turn-turn.result) l.invariant.4 c.next_turn-turn.ensures) in
    let edge-is : (t : TakenEdge) → c.next_turn-turn.result.opening ≡ Ok t
    → (c.next_turn-turn.result.at.tick ≤ 60000) × (t.place < 65536) × (t.ready ≤ 65535) × (t.end ≤ 65535) =
    (λ t q. let l = c.loop-starts in
    let s = c.args.table.now in
    let z = edge_small s c.type_inv.table c.requires.0 c.soonest-component.result (start_of s c.soonest-component.result) q closes.there refl turned.placed in
    let m = turned_tick s l.rows l.filled c.soonest-component.result (read_of s).horizon (get_or l.nodes c.soonest-component.result blank) (get_or l.ends c.soonest-component.result 0) c.next_turn-turn.result turned in
    (omega (arith, m, c.if-horizon-end.false, l.invariant.5), z.0, z.1, z.2)) in
    let z = edge-is _ c.in-Ok.is in omega (arith, z)

pub overflow_add-at-in-Ok : goal.overflow_add-at-in-Ok
overflow_add-at-in-Ok c =
    let closes : Soonest c.loop-starts.ends (size (read_of c.args.table.now).table) c.soonest-component.result =
    (subst (λ k. Soonest c.loop-starts.ends k c.soonest-component.result) c.loop-starts.invariant.3 c.soonest-component.ensures) in
    let turned : Turned c.args.table.now c.loop-starts.rows c.loop-starts.filled c.soonest-component.result (read_of c.args.table.now).horizon (get_or c.loop-starts.nodes c.soonest-component.result blank)
    (get_or c.loop-starts.ends c.soonest-component.result 0) c.next_turn-turn.result =
    (let l = c.loop-starts in
    subst (λ h. Turned c.args.table.now l.rows l.filled c.soonest-component.result h (get_or l.nodes c.soonest-component.result blank) (get_or l.ends c.soonest-component.result 0) c.next_turn-turn.result) l.invariant.4 c.next_turn-turn.ensures) in
    let edge-is : (t : TakenEdge) → c.next_turn-turn.result.opening ≡ Ok t
    → (c.next_turn-turn.result.at.tick ≤ 60000) × (t.place < 65536) × (t.ready ≤ 65535) × (t.end ≤ 65535) =
    (λ t q. let l = c.loop-starts in
    let s = c.args.table.now in
    let z = edge_small s c.type_inv.table c.requires.0 c.soonest-component.result (start_of s c.soonest-component.result) q closes.there refl turned.placed in
    let m = turned_tick s l.rows l.filled c.soonest-component.result (read_of s).horizon (get_or l.nodes c.soonest-component.result blank) (get_or l.ends c.soonest-component.result 0) c.next_turn-turn.result turned in
    (omega (arith, m, c.if-horizon-end.false, l.invariant.5), z.0, z.1, z.2)) in
    let z = edge-is _ c.in-Ok.is in omega (arith, z)

pub open_before-back-requires : goal.open_before-back-requires
open_before-back-requires c = let l = c.loop-starts in linked_below l.invariant.10.going.placed l.filled (omega arith)

pub overflow_cast-component-in-Ok : goal.overflow_cast-component-in-Ok
overflow_cast-component-in-Ok c =
    let small : c.soonest-component.result < 8 =
    (omega (arith, c.soonest-component.ensures.there, c.loop-starts.invariant.2)) in
    omega (arith, small)

pub put_opened-requires : goal.put_opened-requires
put_opened-requires c =
    let closes : Soonest c.loop-starts.ends (size (read_of c.args.table.now).table) c.soonest-component.result =
    (subst (λ k. Soonest c.loop-starts.ends k c.soonest-component.result) c.loop-starts.invariant.3 c.soonest-component.ensures) in
    let turned : Turned c.args.table.now c.loop-starts.rows c.loop-starts.filled c.soonest-component.result (read_of c.args.table.now).horizon (get_or c.loop-starts.nodes c.soonest-component.result blank)
    (get_or c.loop-starts.ends c.soonest-component.result 0) c.next_turn-turn.result =
    (let l = c.loop-starts in
    subst (λ h. Turned c.args.table.now l.rows l.filled c.soonest-component.result h (get_or l.nodes c.soonest-component.result blank) (get_or l.ends c.soonest-component.result 0) c.next_turn-turn.result) l.invariant.4 c.next_turn-turn.ensures) in
    let edge-is : (t : TakenEdge) → c.next_turn-turn.result.opening ≡ Ok t
    → (c.next_turn-turn.result.at.tick ≤ 60000) × (t.place < 65536) × (t.ready ≤ 65535) × (t.end ≤ 65535) =
    (λ t q. let l = c.loop-starts in
    let s = c.args.table.now in
    let z = edge_small s c.type_inv.table c.requires.0 c.soonest-component.result (start_of s c.soonest-component.result) q closes.there refl turned.placed in
    let m = turned_tick s l.rows l.filled c.soonest-component.result (read_of s).horizon (get_or l.nodes c.soonest-component.result blank) (get_or l.ends c.soonest-component.result 0) c.next_turn-turn.result turned in
    (omega (arith, m, c.if-horizon-end.false, l.invariant.5), z.0, z.1, z.2)) in
    let e = c in
    let l = c.loop-starts in
    let z = edge-is _ c.in-Ok.is in
    (omega (arith, l.invariant.8, c.if-filled-ge1024.false), omega (arith, c.if-filled-ge1024.false), z.1, omega (arith, c.open_before-back.ensures.0, l.invariant.0), z.0, z.2, z.3)

pub put_message-requires : goal.put_message-requires
put_message-requires c =
    let closes : Soonest c.loop-starts.ends (size (read_of c.args.table.now).table) c.soonest-component.result =
    (subst (λ k. Soonest c.loop-starts.ends k c.soonest-component.result) c.loop-starts.invariant.3 c.soonest-component.ensures) in
    let l = c.loop-starts in
    let k = c in
    let z = (node_stands c.args.table.now l.rows c.type_inv.table l.filled l.nodes l.ends l.invariant.10 k.soonest-component.result closes).row in
    (omega (arith, z, l.invariant.0, l.invariant.8, c.put_opened.auto.rows), omega (arith, z, l.invariant.0))

pub offset_bounds-nodes-component-in-Ok : goal.offset_bounds-nodes-component-in-Ok
offset_bounds-nodes-component-in-Ok c =
    let small : c.soonest-component.result < 8 =
    (omega (arith, c.soonest-component.ensures.there, c.loop-starts.invariant.2)) in
    omega (arith, small)

pub bounds-nodes-component-in-Ok : goal.bounds-nodes-component-in-Ok
bounds-nodes-component-in-Ok c =
    let small : c.soonest-component.result < 8 =
    (omega (arith, c.soonest-component.ensures.there, c.loop-starts.invariant.2)) in
    omega (arith, small)

pub overflow_add-ends : goal.overflow_add-ends
overflow_add-ends c =
    let closes : Soonest c.loop-starts.ends (size (read_of c.args.table.now).table) c.soonest-component.result =
    (subst (λ k. Soonest c.loop-starts.ends k c.soonest-component.result) c.loop-starts.invariant.3 c.soonest-component.ensures) in
    let turned : Turned c.args.table.now c.loop-starts.rows c.loop-starts.filled c.soonest-component.result (read_of c.args.table.now).horizon (get_or c.loop-starts.nodes c.soonest-component.result blank)
    (get_or c.loop-starts.ends c.soonest-component.result 0) c.next_turn-turn.result =
    (let l = c.loop-starts in
    subst (λ h. Turned c.args.table.now l.rows l.filled c.soonest-component.result h (get_or l.nodes c.soonest-component.result blank) (get_or l.ends c.soonest-component.result 0) c.next_turn-turn.result) l.invariant.4 c.next_turn-turn.ensures) in
    let edge-is : (t : TakenEdge) → c.next_turn-turn.result.opening ≡ Ok t
    → (c.next_turn-turn.result.at.tick ≤ 60000) × (t.place < 65536) × (t.ready ≤ 65535) × (t.end ≤ 65535) =
    (λ t q. let l = c.loop-starts in
    let s = c.args.table.now in
    let z = edge_small s c.type_inv.table c.requires.0 c.soonest-component.result (start_of s c.soonest-component.result) q closes.there refl turned.placed in
    let m = turned_tick s l.rows l.filled c.soonest-component.result (read_of s).horizon (get_or l.nodes c.soonest-component.result blank) (get_or l.ends c.soonest-component.result 0) c.next_turn-turn.result turned in
    (omega (arith, m, c.if-horizon-end.false, l.invariant.5), z.0, z.1, z.2)) in
    let z = edge-is _ c.in-Ok.is in omega (arith, z)

pub offset_bounds-ends-component-in-Ok : goal.offset_bounds-ends-component-in-Ok
offset_bounds-ends-component-in-Ok c =
    let small : c.soonest-component.result < 8 =
    (omega (arith, c.soonest-component.ensures.there, c.loop-starts.invariant.2)) in
    omega (arith, small)

pub bounds-ends-component-in-Ok : goal.bounds-ends-component-in-Ok
bounds-ends-component-in-Ok c =
    let small : c.soonest-component.result < 8 =
    (omega (arith, c.soonest-component.ensures.there, c.loop-starts.invariant.2)) in
    omega (arith, small)

pub overflow_add-filled : goal.overflow_add-filled
overflow_add-filled c = omega (arith, c.if-filled-ge1024.false)

pub loop-starts-smaller : goal.loop-starts-smaller
loop-starts-smaller c = omega (arith, c.if-filled-ge1024.false)

pub loop-starts-preserved : goal.loop-starts-preserved
loop-starts-preserved c =
    let closes : Soonest c.loop-starts.ends (size (read_of c.args.table.now).table) c.soonest-component.result =
    (subst (λ k. Soonest c.loop-starts.ends k c.soonest-component.result) c.loop-starts.invariant.3 c.soonest-component.ensures) in
    let small : c.soonest-component.result < 8 =
    (omega (arith, c.soonest-component.ensures.there, c.loop-starts.invariant.2)) in
    let turned : Turned c.args.table.now c.loop-starts.rows c.loop-starts.filled c.soonest-component.result (read_of c.args.table.now).horizon (get_or c.loop-starts.nodes c.soonest-component.result blank)
    (get_or c.loop-starts.ends c.soonest-component.result 0) c.next_turn-turn.result =
    (let l = c.loop-starts in
    subst (λ h. Turned c.args.table.now l.rows l.filled c.soonest-component.result h (get_or l.nodes c.soonest-component.result blank) (get_or l.ends c.soonest-component.result 0) c.next_turn-turn.result) l.invariant.4 c.next_turn-turn.ensures) in
    let e = c in
    let l = c.loop-starts in
    let s = e.args.table.now in
    let n : l.filled < 1024 = c.if-filled-ge1024.false in (
      omega arith,
      l.invariant.1,
      l.invariant.2,
      l.invariant.3,
      l.invariant.4,
      l.invariant.5,
      simp length-set l.invariant.6,
      simp length-set l.invariant.7,
      omega (arith, c.put_message.auto.rows, c.put_opened.auto.rows, l.invariant.8),
      c.put_message.auto.rows ∙ c.put_opened.auto.rows ∙ l.invariant.9,
      subst (λ m. Progress s c.put_message.new.rows (l.filled + 1) (set l.nodes c.soonest-component.result m) (until l.ends c.soonest-component.result c.next_turn-turn.result.at c.in-Ok.next)) (sym c.kept.ensures)
          (subst (λ x. Progress s x (l.filled + 1) (keeps l.nodes l.filled c.soonest-component.result c.next_turn-turn.result.at c.in-Ok.next) (until l.ends c.soonest-component.result c.next_turn-turn.result.at c.in-Ok.next)) (sym c.put_message.ensures) (loop_on s l.rows c.type_inv.table l.filled l.nodes l.ends l.invariant.10 c.soonest-component.result closes (omega (arith, c.if-horizon-end.false, l.invariant.4)) c.next_turn-turn.result turned n
          c.in-Ok.is (omega (arith, l.invariant.8)) c.open_before-back.result c.open_before-back.ensures.0 (λ i x y. omega (arith, c.open_before-back.ensures.1 i x y)) c.put_opened.new.rows c.put_opened.ensures
          (omega (arith, small, l.invariant.6)) (omega (arith, small, l.invariant.7)))),
    )
