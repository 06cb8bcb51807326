-- Clocks and variables after a passage, from those at its entry.
use Rattle.std.specs.Prelude.{◌≡◌, ℕ, ◌≤◌}
use Rattle.std.proofs.Math.Option.{Option}
use Rattle.model.specs.Lists.{All}
use Rattle.model.specs.Table.{Arc}
use Rattle.model.specs.Window.{leads_to, leaves}
use Rattle.window.specs.declared.Entry.{Entry}
use Rattle.window.specs.Views.{entry_of}

-- an entry of another location
abbrev pub relocated : ℕ → Rattle.model.specs.Window.Entry → Rattle.model.specs.Window.Entry
relocated here e = record { location = here; tick = e.tick; clocks = e.clocks; values = e.values }

-- tick, clocks and variables are those that edge a leads to at its end from an entry, whatever the message; and no clock is older than the table
pub record Grown (a : Arc) (end : ℕ) (at r : Entry) : Type 0 where
  pub leads : (m : Option ℕ) → relocated (leads_to a m) (entry_of r) ≡ leaves a m end (entry_of at)
  pub young : All (λ x. x ≤ end) r.clocks
