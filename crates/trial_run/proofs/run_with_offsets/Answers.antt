-- `trial_run::run_with_offsets` meets its contract. Assumes nothing.
use Rattle.trial_run.proofs.run_with_offsets.Goals as goal

pub slice_bounds-run_named-end : goal.slice_bounds-run_named-end
slice_bounds-run_named-end g c = (c.read_offsets.ensures.counts _ c.in-Some.is).0

pub slice_bounds-run_named-end-in-Some : goal.slice_bounds-run_named-end-in-Some
slice_bounds-run_named-end-in-Some g c = (c.read_offsets.ensures.counts _ c.in-Some.is).1
