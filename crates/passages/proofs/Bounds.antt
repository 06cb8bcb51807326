-- The fields of the passages of a schedule fit a byte, but for the ticks, and no channel has the number for no message. Assumes nothing.
use mathlib.Core.Path.{◌≡◌, sym, subst}
use mathlib.Core.Bool.{Bool, true, false, cond}
use mathlib.Core.List.{List, []}
use mathlib.Core.Option.{Option, none, some}
use Prim.Native.Nat.{ℕ, zero, suc, ◌≤◌, ◌<◌}
use native.Mathlib.Omega.{arith}
use lib.ListN.{length, get_or}
use Rattle.model.specs.declared.Action.{Action}
use Rattle.model.specs.declared.Action.TheVariants.{Internal, Send, Receive}
use Rattle.model.specs.declared.Sizes.{Sizes}
use Rattle.model.specs.Lists.{All, empty, more, or_else, accepted, Bytes}
use Rattle.model.specs.declared.TableHeader.{TableHeader}
use Rattle.model.specs.Table.{Arc, Component, Read, no_arc, no_component, size, component_of, arc_of}
use Rattle.model.specs.Limits.{ActionIn, ArcIn, ComponentIn}
use Rattle.model.specs.Reader.{read_table}
use Rattle.model.specs.Window.{sends, channel_of, listens}
use Rattle.model.specs.Schedule.{Passage, passage_arc, earliest, heard_by, carried, message_in}
use Rattle.model.specs.Checks.{limit, accepted_schedule_of}
use Rattle.model.specs.Calls.{accepted_schedule_in}
use Rattle.model.proofs.Reader.Parts.{after_ok}
use Rattle.model.proofs.Schedule.Own.{in_all, all_in}
use Rattle.model.proofs.Schedule.Passages.{Entered, entered}
use Rattle.model.proofs.Reader.RoundTrip.{written_read}
use Rattle.model.proofs.Node.Working.{arc_in}
use Rattle.model.proofs.Run.Tied.{Given, schedule_at, given, component-in}

-- ## Channels

-- a message is a channel, or none
abbrev pub Channel : Option ℕ → Type 0
Channel none = Unit
Channel (some k) = k < 16

-- so its number fits a byte, also the number for none
channel_small : (m : Option ℕ) → Channel m → or_else m 255 < 256
channel_small none h = omega arith
channel_small (some k) h = omega (arith, h)

-- a message of this edge
abbrev Sends : Arc → Type 0
Sends a = Channel (channel_of a)

-- what holds of each, and of what an index past the end reads, holds of what any index reads
any_at : {A : Type 0} (P : A → Type 0) {xs : List A} (d : A) → P d → All P xs → (i : ℕ) → P (get_or xs i d)
any_at P d p empty i = p
any_at P d p (more q a) zero = q
any_at P d p (more q a) (suc i) = any_at P d p a i

sends_in : {s : Sizes} {a : Arc} → s.channels ≤ 16 → ArcIn s a → Sends a
sends_in {s} {a} few h = go a.edge.action h.action
  where
    go : (x : Action) → ActionIn s a x → Channel (sends x)
    go Internal i = tt
    go (Send k) i = omega (arith, i.channel)
    go Receive i = tt

arcs_send : {s : Sizes} {xs : List Arc} → s.channels ≤ 16 → All (ArcIn s) xs → All Sends xs
arcs_send few empty = empty
arcs_send few (more {x = x} h a) = more {x = x} (sends_in {a = x} few h) (arcs_send few a)

-- each edge of the component
abbrev AllSend : Component → Type 0
AllSend C = (e : ℕ) → Sends (arc_of C e)

components_send : {header : TableHeader} {Cs : List Component} → header.channels ≤ 16 → All (ComponentIn header) Cs → All AllSend Cs
components_send few empty = empty
components_send few (more {x = C} h a) =
    more {x = C} (any_at Sends no_arc tt (arcs_send few h.arcs)) (components_send few a)

-- ## A schedule's passages

-- the four fields of one byte
pub record SmallPassage (v : Passage) : Type 0 where
  pub component : v.component < 256
  pub edge : v.edge < 256
  pub location : v.entry.location < 256
  pub message : or_else v.message 255 < 256
  pub channel : Channel v.message

module _ (t : Read) (S : List Passage) (G : Given t t.horizon S []) where
  arc_sends : (v : Passage) → Sends (passage_arc t.table v)
  arc_sends v =
      any_at AllSend no_component (λ e. tt) (components_send G.limits.channels G.limits.components) v.component v.edge

  its_channel : (H : ℕ) (v : Passage) → Channel (message_in t.table H S v)
  unfolding message_in
  its_channel H v = go (listens (passage_arc t.table v)) (earliest (heard_by t.table H v) S none)
    where
      go : (b : Bool) (o : Option Passage) → Channel (cond b (carried t.table o) (channel_of (passage_arc t.table v)))
      go true none = tt
      go true (some s) = arc_sends s
      go false o = arc_sends v

  small_passage : (v : Passage) → v.component < size t.table → Entered t.horizon v.component (component_of t.table v.component) v
      → v.message ≡ message_in t.table t.horizon S v → SmallPassage v
  small_passage v h k m =
      let C = component-in G v.component h in
      let o = k.opened in
      let sent : Channel v.message = subst Channel (sym m) (its_channel t.horizon v) in
      record {
        component = omega (arith, h, G.limits.most_components);
        edge = omega (arith, o.there, C.most_arcs);
        location = omega (arith, o.source, (arc_in C v.edge o.there).source, C.most_locations);
        message = channel_small v.message sent;
        channel = sent;
      }

  small_passages : All SmallPassage S
  small_passages = in_all S (λ v i. small_passage v (all_in G.sched.present i) (all_in (entered G.sched) i) (all_in G.sched.messages i))

-- an accepted table's schedule
module _ (bs : List ℕ) (b : Bytes bs) (S : List Passage) (e : accepted_schedule_in bs ≡ accepted S) where
  its_read : (t : Read) × (read_table bs ≡ accepted t) × (accepted_schedule_of t ≡ accepted S)
  unfolding accepted_schedule_in
  its_read = after_ok (read_table bs) accepted_schedule_of e

  its_given : Given its_read.0 its_read.0.horizon S []
  its_given = given its_read.0 S (written_read bs its_read.0 b its_read.1).0 its_read.2

  pub all_small : All SmallPassage S
  all_small = small_passages its_read.0 S its_given

  pub few_passages : length S ≤ 1024
  few_passages = (schedule_at 0 its_read.0.table its_read.0.horizon limit S its_read.2).0.few
