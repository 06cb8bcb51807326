-- `parts::fine` meets its contract. Assumes nothing.
use Rattle.parts.specs.Place.{width_of}
use Rattle.parts.specs.declared.Kind.{Kind}
use lib.ListN.{length}
use Prim.Native.Nat.{◌≤◌}
use mathlib.Core.Path.{subst}
use Rattle.parts.proofs.fine.Goals as goal

pub location_fine-requires : goal.location_fine-requires
location_fine-requires c =
    let s = c in
    subst (λ (k : Kind). width_of k ≤ length s.args.bytes.now) c.in-Locations.is s.requires

pub clock_guard_fine-requires : goal.clock_guard_fine-requires
clock_guard_fine-requires c =
    let s = c in
    subst (λ (k : Kind). width_of k ≤ length s.args.bytes.now) c.in-ClockGuards.is s.requires

pub data_guard_fine-requires : goal.data_guard_fine-requires
data_guard_fine-requires c =
    let s = c in
    subst (λ (k : Kind). width_of k ≤ length s.args.bytes.now) c.in-DataGuards.is s.requires

pub update_fine-requires : goal.update_fine-requires
update_fine-requires c =
    let s = c in
    subst (λ (k : Kind). width_of k ≤ length s.args.bytes.now) c.in-Updates.is s.requires

pub returns-in-Locations : goal.returns-in-Locations
returns-in-Locations c = rw c.in-Locations.is c.location_fine.ensures

pub returns-in-ClockGuards : goal.returns-in-ClockGuards
returns-in-ClockGuards c = rw c.in-ClockGuards.is c.clock_guard_fine.ensures

pub returns-in-DataGuards : goal.returns-in-DataGuards
returns-in-DataGuards c = rw c.in-DataGuards.is c.data_guard_fine.ensures

pub returns-in-Updates : goal.returns-in-Updates
returns-in-Updates c = rw c.in-Updates.is c.update_fine.ensures
