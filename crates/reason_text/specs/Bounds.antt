-- What is known of an edge's clock bounds where their words are written.
use Rattle.std.specs.Prelude.{◌≡◌, List, ℕ, ◌*◌, ◌≤◌, ◌<◌, length}
use Rattle.model.specs.declared.ClockGuard.{ClockGuard}
use Rattle.model.specs.declared.Location.{Location}
use Rattle.model.specs.Lists.{All}
use Rattle.model.specs.Reader.{clock_guard_at}
use Rattle.model.specs.Places.{list_at}
use Rattle.model.specs.Window.{ready_of, past_of}
use Rattle.window.specs.declared.Delays.{Delays}

-- `count` clock bounds at the front of bytes
abbrev pub bounds_at : ℕ → List ℕ → List ClockGuard
bounds_at count h = list_at clock_guard_at 5 count h

-- They stand whole, name clocks that have a place, and leave this window in a location entered with these clocks.
pub record BoundsLeave (h : List ℕ) (count : ℕ) (l : Location) (xs : List ℕ) (d : Delays) : Type 0 where
  pub whole : count * 5 ≤ length h
  pub invariant : l.clock < 4
  pub clocks : All (λ g. g.clock < 4) (bounds_at count h)
  pub ready : d.ready ≡ ready_of (bounds_at count h) xs
  pub past : d.past ≡ past_of l (bounds_at count h) xs
  pub small_ready : d.ready ≤ 65535
  pub small_past : d.past ≤ 65536
