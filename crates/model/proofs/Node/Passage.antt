-- A node and the passages of the schedule: where it starts, its registers in the passage that the schedule opens at its entry, and the
-- observation that its finished sleep writes. Assumes nothing.
use mathlib.Core.Path.{◌≡◌, refl, sym, ap, ap₂, subst, ◌∙◌}
use mathlib.Core.List.{List, [], map}
use mathlib.Core.Option.{Option, some}
use Prim.Native.Nat.{ℕ, ◌+◌}
use lib.IntN.{ℤ}
use lib.ListN.{length-replicate}
use Rattle.model.specs.Table.{TableHeader, header_of, Component, arc_of}
use Rattle.model.specs.Limits.{ComponentIn}
use Rattle.model.specs.Reader.{byte}
use Rattle.model.specs.Window.{Entry, Pick, choice, ready_of, updated, channel_of, leaves}
use Rattle.model.specs.Schedule.{Passage, with_message, start_entry}
use Rattle.model.specs.Program.{location_block}
use Rattle.model.specs.Network.{Observation, observation}
use Rattle.model.specs.Machine.{Node, no_trial, start_node, finish, location_code}
use Rattle.model.specs.Run.{window_end, observes}
use Rattle.model.proofs.Window.Choice.{choice_picked}
use Rattle.model.proofs.Window.Opening.{Opened}
use Rattle.model.proofs.Node.Choosing.{Coded, Placed, trials_at, Asleep}
use Rattle.model.proofs.Node.Working.{Working, sleep_step}
use Rattle.model.proofs.Node.Phase.{Heading, is_choosing, afterwards}
use Rattle.model.proofs.Node.Facts.{asleep_end, working_end}

-- ## The start

-- the start entry is to a location that is there
pub placed_start : {channels : TableHeader} {C : Component} → ComponentIn channels C → Placed C (start_entry C)
placed_start {channels} {C} fits = record { location = fits.initial; clocks = length-replicate C.clocks 0 }

-- "It starts there with t, n, d all 0": a node starts in the block of its initial location, with nothing finished
pub starts : {p : List ℕ} {channels : TableHeader} {C : Component} → Coded p C → ComponentIn channels C → byte p 4 ≡ C.initial
    → Heading C 0 (start_entry C) (start_node p C.clocks C.variables)
unfolding location_block
starts {p} {channels} {C} coded fits e =
    is_choosing
    (record {
      placed = placed_start fits;
      past = [];
      left = trials_at C C.initial;
      rest = ap (location_code p) e ∙ coded.locations C.initial fits.initial;
      block = refl;
      location = e;
      clocks = refl;
      values = refl;
      base = refl;
      goes = refl;
      sleeps = refl;
      begun = no_trial;
      judged = refl;
    })

-- ## In a passage

-- one window is chosen
same_pick : {o : Option Pick} {j k : Pick} → o ≡ some j → o ≡ some k → j ≡ k
same_pick e f = cc

-- the node's registers are those of passage w: t its ready, t + d its end
pub record InPassage (w : Passage) (r : Node) : Type 0 where
  pub ready : r.t ≡ w.ready
  pub end : window_end r ≡ w.end
  pub edge : r.edge ≡ w.edge

-- passage w is the one that component c opens at the entry, whatever its message
pub record Begins (c : ℕ) (C : Component) (at : Entry) (w : Passage) : Type 0 where
  pub opens : Opened c C at (with_message w (channel_of (arc_of C w.edge)))

module _ {c : ℕ} {C : Component} {at : Entry} {w : Passage} (b : Begins c C at w) where
  -- the window chosen is the one of the passage that the schedule opens there
  pub passage_pick : {j : Pick} → choice C at ≡ some j → (w.edge ≡ j.edge) × (w.ready ≡ at.tick + j.ready) × (w.end ≡ at.tick + j.end)
  passage_pick {j} e =
      let k : b.opens.pick ≡ j = same_pick b.opens.taken e in (
        ap (λ (v : Passage). v.edge) b.opens.is ∙ ap (λ (x : Pick). x.edge) k,
        ap (λ (v : Passage). v.ready) b.opens.is ∙ ap (λ (x : Pick). at.tick + x.ready) k,
        ap (λ (v : Passage). v.end) b.opens.is ∙ ap (λ (x : Pick). at.tick + x.end) k,
      )

  -- asleep where the schedule opens passage w
  pub asleep_passage : {i : ℕ} {j : Pick} {r : Node} → Asleep C i at j r → InPassage w r
  asleep_passage {i} {j} {r} g =
      let k = passage_pick g.chosen in
      record { ready = g.t ∙ sym k.1; end = asleep_end g ∙ sym k.2; edge = g.edge ∙ sym k.0 }

  -- at work there
  pub working_passage : {i : ℕ} {j : Pick} {r : Node} → Working C i at j r → InPassage w r
  working_passage {i} {j} {r} g =
      let k = passage_pick g.chosen in
      record { ready = g.t ∙ sym k.1; end = working_end g ∙ sym k.2; edge = g.edge ∙ sym k.0 }

  -- the entry after it is the one that the schedule's passage leads to
  pub passage_leads : {j : Pick} → choice C at ≡ some j → (m : Option ℕ) → afterwards C at j m ≡ leaves (arc_of C w.edge) m w.end w.entry
  passage_leads {j} e m =
      let k = passage_pick e in
      ap (λ (n : ℕ). leaves (arc_of C n) m (at.tick + j.end) at) (sym k.0)
      ∙ (ap (λ (n : ℕ). leaves (arc_of C w.edge) m n at) (sym k.2) ∙ ap (leaves (arc_of C w.edge) m w.end) (sym b.opens.entry))

  -- its finished sleep leads to its work, since its updates stay in range
  pub passage_works : {channels : TableHeader} {i : ℕ} {j : Pick} {r : Node} (p : List ℕ) → ComponentIn channels C → Asleep C i at j r → Working C i at j (finish p r r.rest)
  passage_works {channels} {i} {j} {r} p fits g =
      sleep_step p fits g b.opens.values
      (subst (λ (n : ℕ). updated (arc_of C n).updates at.values ≡ some b.opens.values) (passage_pick g.chosen).0 b.opens.updates)

-- ## The observation

same_observation : (c : ℕ) {e e' l l' t t' : ℕ} {xs xs' : List ℕ} {vs vs' : List ℤ} → e ≡ e' → l ≡ l' → t ≡ t' → xs ≡ xs' → vs ≡ vs'
    → ◌≡◌ {A = Observation} (record { component = c; edge = e; location = l; tick = t; clocks = xs; values = vs })
    (record { component = c; edge = e'; location = l'; tick = t'; clocks = xs'; values = vs' })
same_observation c p q r s t = rw (p, q, r, s, t)

-- a sleep finished at its tick writes the observation of the stay from its entry, on the edge chosen
pub observes_is : {C : Component} {i : ℕ} {at : Entry} {k : Pick} {r : Node} (c tick : ℕ) → tick ≡ r.t → Asleep C i at k r
    → observes c tick r ≡ observation C c at k.edge
observes_is {C} {i} {at} {k} {r} c tick e g =
    same_observation c g.edge g.location (e ∙ (g.t ∙ ap (λ (n : ℕ). at.tick + n) ready))
    (ap₂ (λ (n : ℕ) (xs : List ℕ). map (λ x. x + n) xs) (g.n ∙ ready) g.clocks)
    g.values
  where
    ready : k.ready ≡ ready_of (arc_of C k.edge).clock_guards at.clocks
    ready = (choice_picked C at g.chosen).ready

-- the same, of the schedule's passage
pub observes_passage : {C : Component} {i : ℕ} {at : Entry} {w : Passage} {j : Pick} {r : Node} (c tick : ℕ) → Begins c C at w → tick ≡ r.t → Asleep C i at j r
    → observes c tick r ≡ observation C c w.entry w.edge
observes_passage {C} {i} {at} {w} {j} {r} c tick b e g =
    observes_is c tick e g ∙ ap₂ (observation C c) (sym b.opens.entry) (sym (passage_pick b g.chosen).0)
