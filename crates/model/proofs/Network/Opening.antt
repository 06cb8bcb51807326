-- An accepted opening, as the network sees it: the passage opened fits. Assumes nothing.
use mathlib.Core.Path.{◌≡◌, refl, sym, ap, subst, ◌∙◌}
use mathlib.Core.Bool.{false}
use Prim.Native.Nat.{ℕ, pred, ◌+◌, ◌≤◌, ◌<◌}
use native.Mathlib.Omega.{arith}
use Rattle.model.specs.Table.{Component, arc_of, location_of}
use Rattle.model.specs.Window.{Entry, past_of, updated, channel_of, listens}
use Rattle.model.specs.Schedule.{Passage, with_message}
use Rattle.model.specs.Chains.{Opens}
use Rattle.model.proofs.Window.Opening.{Opened, opened}
use Rattle.model.proofs.Network.Passage.{Fits}

-- a passage that opens there, with the message of the schedule: its component and entry, and that it fits
pub opens : (c : ℕ) (C : Component) (at : Entry) (w : Passage) → Opens c C at w → (listens (arc_of C w.edge) ≡ false → w.message ≡ channel_of (arc_of C w.edge))
    → (w.component ≡ c) × (w.entry ≡ at) × Fits C w
opens c C at w e s = ((opened c C at e).component, (opened c C at e).entry, fits)
  where
    v : Passage
    v = with_message w (channel_of (arc_of C w.edge))

    o : Opened c C w.entry v
    o = subst (λ (x : Entry). Opened c C x v) (sym (opened c C at e).entry) (opened c C at e)

    fits : Fits C w
    fits =
        let ends : w.end ≡ w.entry.tick + pred (past_of (location_of C w.entry.location) (arc_of C w.edge).clock_guards w.entry.clocks) = o.end in
        let wide : w.ready < w.end = o.wide in
        let early : w.entry.tick ≤ w.ready = o.early in
        record {
          there = o.there;
          source = o.source;
          bounds = o.bounds;
          ranged = rw o.updates;
          ready = o.ready;
          end = omega arith;
          window = wide;
          said = s;
        }
