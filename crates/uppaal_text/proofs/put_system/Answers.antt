-- `uppaal_text::put_system` meets its contract. Assumes nothing.
use Rattle.model.proofs.Reader.Located.{valid_located}
use Rattle.uppaal_parts.proofs.Turns.{put_three}
use Rattle.translator.proofs.Standing.{slice_bytes, valid_limits, few_nodes, valid_long}
use Rattle.uppaal_text.proofs.Processes.{system_told}
use native.Mathlib.Omega.{arith}
use Rattle.blocks.proofs.Runs.{put_is}
use Rattle.uppaal_text.proofs.put_system.Goals as goal

pub bounds-table-4 : goal.bounds-table-4
bounds-table-4 c = omega (arith, valid_long c.args.table.now (slice_bytes c.args.table.now c.type_inv.table) c.requires.0)

pub put_names-first-requires : goal.put_names-first-requires
put_names-first-requires c = (omega arith, omega arith, omega (arith, (valid_located c.args.table.now (slice_bytes c.args.table.now c.type_inv.table) c.requires.0).channels, (valid_limits c.args.table.now (slice_bytes c.args.table.now c.type_inv.table) c.requires.0).channels), omega (arith, c.requires.2))

pub bounds-table-3 : goal.bounds-table-3
bounds-table-3 c = omega (arith, valid_long c.args.table.now (slice_bytes c.args.table.now c.type_inv.table) c.requires.0)

pub put_names-requires : goal.put_names-requires
put_names-requires c = (omega arith, omega arith, omega (arith, few_nodes c.args.table.now (slice_bytes c.args.table.now c.type_inv.table) c.requires.0), omega (arith, c.requires.2, c.put_names-first.ensures.1, c.put_processes-second.ensures.1))

pub returns : goal.returns
returns c = (put_is (system_told c.args.table.now (slice_bytes c.args.table.now c.type_inv.table) c.requires.0) (put_three c.put_names-first.ensures.0 c.put_processes-second.ensures.0 c.put_names.ensures.0), omega (arith, c.put_names-first.ensures.1, c.put_processes-second.ensures.1, c.put_names.ensures.1))
