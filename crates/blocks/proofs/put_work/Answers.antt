-- `blocks::put_work` meets its contract. Assumes nothing.
use mathlib.Core.Path.{sym, ◌∙◌}
use lib.ListN.{drop}
use Rattle.model.specs.Reader.{byte}
use Rattle.model.specs.Places.{items_place}
use Rattle.model.specs.Program.{quad}
use Rattle.blocks.specs.declared.Kind.TheVariants.{Updates, Pairs}
use Rattle.blocks.specs.Made.{all_made}
use Rattle.blocks.proofs.Runs.{put_is, put_join, room_is, room_first, room_next}
use Rattle.blocks.proofs.Parts.{parts_asked, parts_there}
use Rattle.blocks.proofs.Blocks.{internal_work, send_work, receive_work, updates_stand, pairs_stand}
use Rattle.blocks.proofs.put_work.Goals as goal

pub put_parts-next-requires : goal.put_parts-next-requires
put_parts-next-requires c =
    let args = c.args in
    let pre = c.requires in
    let h = args.bytes.now in
    let is = sym c.in-Internal.is ∙ c.action_at-action.ensures in
    let r = room_is args.out.now args.at (sym (internal_work args.budgets h is)) pre.2 in
    parts_asked Updates (byte h 6) h c.items_place-items.result (items_place args.budgets h) c.items_place-items.ensures.0 args.out.now args.at (updates_stand args.budgets h is pre.1) (room_first args.out.now args.at (all_made Updates (byte h 6) (drop (items_place args.budgets h) h)) (quad 0x03 0 0) r)

pub put_quad-requires : goal.put_quad-requires
put_quad-requires c =
    let args = c.args in
    let pre = c.requires in
    let h = args.bytes.now in
    let is = sym c.in-Internal.is ∙ c.action_at-action.ensures in
    let r = room_is args.out.now args.at (sym (internal_work args.budgets h is)) pre.2 in
    room_next (parts_there Updates (byte h 6) h c.items_place-items.result (items_place args.budgets h) c.items_place-items.ensures.0 c.put_parts-next.ensures) (quad 0x03 0 0) r

pub put_quad-requires-in-Send : goal.put_quad-requires-in-Send
put_quad-requires-in-Send c =
    let args = c.args in
    let pre = c.requires in
    let h = args.bytes.now in
    let is = sym c.in-Send.is ∙ c.action_at-action.ensures in
    room_is args.out.now args.at (sym (send_work args.budgets h _ is)) pre.2

pub put_quad-next-requires : goal.put_quad-next-requires
put_quad-next-requires c =
    let args = c.args in
    let pre = c.requires in
    let h = args.bytes.now in
    let is = sym c.in-Receive.is ∙ c.action_at-action.ensures in
    let r = room_is args.out.now args.at (sym (receive_work args.budgets h is)) pre.2 in
    room_first args.out.now args.at (quad 0x05 (byte h 6) 0) (all_made Pairs (byte h 6) (drop (items_place args.budgets h) h)) r

pub put_parts-requires : goal.put_parts-requires
put_parts-requires c =
    let args = c.args in
    let pre = c.requires in
    let h = args.bytes.now in
    let is = sym c.in-Receive.is ∙ c.action_at-action.ensures in
    let r = room_is args.out.now args.at (sym (receive_work args.budgets h is)) pre.2 in
    parts_asked Pairs (byte h 6) h c.items_place-items.result (items_place args.budgets h) c.items_place-items.ensures.0 c.put_quad-next.new.out c.put_quad-next.result (pairs_stand args.budgets h is pre.1) (room_next c.put_quad-next.ensures (all_made Pairs (byte h 6) (drop (items_place args.budgets h) h)) r)

pub returns-in-Internal : goal.returns-in-Internal
returns-in-Internal c =
    let args = c.args in
    let h = args.bytes.now in
    let is = sym c.in-Internal.is ∙ c.action_at-action.ensures in
    put_is (internal_work args.budgets h is) (put_join (parts_there Updates (byte h 6) h c.items_place-items.result (items_place args.budgets h) c.items_place-items.ensures.0 c.put_parts-next.ensures) c.put_quad.ensures)

pub returns-in-Send : goal.returns-in-Send
returns-in-Send c =
    let args = c.args in
    let h = args.bytes.now in
    let is = sym c.in-Send.is ∙ c.action_at-action.ensures in
    put_is (send_work args.budgets h _ is) c.put_quad-in-Send.ensures

pub returns-in-Receive : goal.returns-in-Receive
returns-in-Receive c =
    let args = c.args in
    let h = args.bytes.now in
    let is = sym c.in-Receive.is ∙ c.action_at-action.ensures in
    put_is (receive_work args.budgets h is) (put_join c.put_quad-next.ensures (parts_there Pairs (byte h 6) h c.items_place-items.result (items_place args.budgets h) c.items_place-items.ensures.0 c.put_parts.ensures))
