-- What is told of a refused opening, field by field. Assumes nothing.
use Rattle.std.specs.Prelude.{Option as Found}
use Rattle.std.specs.Prelude.{Some, None}
use Rattle.std.specs.Option.{unwrap_or}
use Rattle.opening_place.specs.Opening.{Overflow as Told}
use Rattle.refused_opening.specs.declared.Overflow.{Overflow}
use Rattle.refused_opening.specs.Counting.{overflow_of}
use mathlib.Core.Path.{◌≡◌, refl, sym, ap, ◌∙◌}
use mathlib.Core.List.{List}
use mathlib.Core.Option.{Option, some}
use Prim.Native.Nat.{ℕ}
use native.Mathlib.Omega.{arith}
use lib.IntN.{ℤ, pos}
use Rattle.model.specs.declared.Verdict.TheVariants.{Accepted}
use Rattle.model.specs.Lists.{Answer, accepted, refused}
use Rattle.model.specs.Reader.{read_table}
use Rattle.model.specs.Places.{Valid, read_of}
use Rattle.model.specs.Schedule.{Passage}
use Rattle.model.specs.Checks.{limit}
use Rattle.model.specs.Run.{four}
use Rattle.model.specs.Calls.{verdict_of}
use Rattle.model.proofs.Reader.Located.{valid_read}
use Rattle.opening_place.specs.declared.RefusedOpening.{RefusedOpening}
use Rattle.opening_place.specs.Opening.{Stop, reasons_for, overflow_for, edge_told, update_told, no_opening, opening_told, stop_read, table_stop, opening_of}
use Rattle.opening_place.proofs.Stopped.{Stopped, schedule_stops}
use Rattle.schedule.specs.Filled.{schedule_of}
use Rattle.schedule.specs.Going.{stop_in}

pub told_is : (s : Stop) {clocks : List ℕ} {values : List ℤ} {leaving blocked windowless edge update : ℕ}
    → clocks ≡ four 0 s.entry.clocks → values ≡ four (pos 0) s.entry.values → leaving ≡ (reasons_for s).leaving → blocked ≡ (reasons_for s).blocked
    → windowless ≡ (reasons_for s).windowless → edge ≡ edge_told (overflow_for s) → update ≡ update_told (overflow_for s)
    → ◌≡◌ {A = RefusedOpening}
    (record {
      number = s.number;
      component = s.component;
      passage = s.passage;
      location = s.entry.location;
      tick = s.entry.tick;
      clocks = clocks;
      values = values;
      leaving = leaving;
      blocked = blocked;
      windowless = windowless;
      edge = edge;
      update = update;
    })
    (opening_told (some s))
told_is s a b c d e f g = rw (a, b, c, d, e, f, g)

-- the edge and the update that are told, with 255 where there is none
module _ (found : Found Overflow) {o : Option Told} (is : overflow_of found ≡ o) where
  pub edge_shown : (unwrap_or found (record { edge = 255; update = 255 })).edge ≡ edge_told o
  edge_shown = go found ∙ ap edge_told is
    where
      go : (found : Found Overflow) → (unwrap_or found (record { edge = 255; update = 255 })).edge ≡ edge_told (overflow_of found)
      go None = refl
      go (Some x) = refl

  pub update_shown : (unwrap_or found (record { edge = 255; update = 255 })).update ≡ update_told o
  update_shown = go found ∙ ap update_told is
    where
      go : (found : Found Overflow) → (unwrap_or found (record { edge = 255; update = 255 })).update ≡ update_told (overflow_of found)
      go None = refl
      go (Some x) = refl

-- a schedule that is made stops nowhere
pub nothing_told : (bs : List ℕ) → verdict_of (schedule_of bs) ≡ Accepted → no_opening ≡ opening_told (stop_in bs)
nothing_told bs e = go (schedule_of bs) (stop_in bs) e (schedule_stops limit (read_of bs).table (read_of bs).horizon)
  where
    go : (a : Answer (List Passage)) (o : Option Stop) → verdict_of a ≡ Accepted → Stopped a o → no_opening ≡ opening_told o
    go (accepted S) o q s = ap opening_told (sym s)
    go (refused n c) o q s = let z : ◌≡◌ {A = ℕ} 0 1 = cc in absurd (omega arith)

-- for any bytes
pub told_read : (bs : List ℕ) → Valid bs → opening_told (stop_in bs) ≡ opening_of bs
unfolding opening_of table_stop
told_read bs v = ap (λ a. opening_told (stop_read a)) (sym (valid_read bs v))

pub told_unread : (bs : List ℕ) {n c : ℕ} → read_table bs ≡ refused n c → no_opening ≡ opening_of bs
unfolding opening_of table_stop
told_unread bs e = sym (ap (λ a. opening_told (stop_read a)) e)
