-- What a question names: from the rows of an accepted schedule to the definition's answer. Assumes nothing.
use mathlib.Core.Path.{◌≡◌, refl, sym, ap, ◌∙◌}
use mathlib.Core.Bool.{Bool, true, false, cond}
use mathlib.Core.List.{List}
use mathlib.Core.Option.{Option, none, some}
use Prim.Native.Nat.{ℕ, ◌+◌, ◌*◌, ◌≤◌, ◌<◌}
use native.Mathlib.Omega.{arith}
use borrow.Author.Tests.{lt-ltb, le-ltb, eqb-true}
use lib.Dec.{eqb}
use lib.ListN.{length, get_or}
use mir.Syntax.{w8}
use mir.Val.{Fits}
use Rattle.model.specs.declared.Verdict.TheVariants.{Accepted, Refused}
use Rattle.model.specs.Lists.{Answer, accepted, refused, ◌after◌, or_else}
use Rattle.model.specs.Table.{Read, size}
use Rattle.model.specs.Reader.{read_table}
use Rattle.model.specs.Places.{Valid, read_of, component_in, start_of}
use Rattle.model.specs.Schedule.{Passage}
use Rattle.model.specs.Checks.{no_passage, passage_at, accepted_schedule_of}
use Rattle.model.specs.Reasons.{asked_in, asked}
use Rattle.model.proofs.Basics.Walk.{all_at}
use Rattle.model.proofs.Reader.Located.{valid_read}
use Rattle.model.specs.Window.{Entry}
use Rattle.window.specs.Views.{entry_of}
use Rattle.schedule.specs.Going.{cut}
use Rattle.rows.specs.Rows.{num, message_of}
use Rattle.rows.proofs.Placed.{known_bytes}
use Rattle.schedule.specs.declared.Scheduled.{Scheduled}
use Rattle.schedule.specs.Filled as filled
use Rattle.schedule.proofs.Accepted.{accepted_rows, row_is}
use Rattle.schedule.proofs.Tables.{horizon_small, limits_of}
use Rattle.calls.proofs.Answering.{planned}
use Rattle.passages.proofs.Bounds.{all_small}
use Rattle.reasons.specs.declared.Stay.{Stay}
use Rattle.reasons.specs.declared.Asked.{Asked}
use Rattle.reasons.specs.Stays.{Walked, Stayed, named_by, Answers}

module _ (bs : List ℕ) (c k : ℕ) where
  -- refused by 1 to 6
  pub not_read : (r : Asked) {n d : ℕ} → read_table bs ≡ refused n d → r.verdict ≡ Refused n d → Answers bs (asked bs c k) r
  unfolding asked
  not_read r e q = rw e q

  module _ (v : Valid bs) where
    -- of a table that was read
    asked_read : {a : Answer (List Passage)} → accepted_schedule_of (read_of bs) ≡ a → asked bs c k ≡ (a after asked_in (read_of bs) c k)
    unfolding asked
    asked_read e =
        ap (λ (x : Answer Read). x after λ t. accepted_schedule_of t after asked_in t c k) (valid_read bs v) ∙ ap (λ (x : Answer (List Passage)). x after asked_in (read_of bs) c k) e

    -- refused by 7 to 12
    pub not_planned : (r : Asked) {n d : ℕ} → accepted_schedule_of (read_of bs) ≡ refused n d → r.verdict ≡ Refused n d → Answers bs (asked bs c k) r
    not_planned r e q = rw (asked_read e) q

    -- 21
    module _ (S : List Passage) (e : accepted_schedule_of (read_of bs) ≡ accepted S) (r : Asked) (q : r.verdict ≡ Refused 21 255) where
      pub no-component : size (read_of bs).table ≤ c → Answers bs (asked bs c k) r
      no-component h = rw (asked_read e, le-ltb c (size (read_of bs).table) h) q

      pub no_tick : c < size (read_of bs).table → (read_of bs).horizon ≤ k → Answers bs (asked bs c k) r
      no_tick h j = rw (asked_read e, lt-ltb c (size (read_of bs).table) h, le-ltb k (read_of bs).horizon j) q

-- ## The rows of a table that is accepted

-- what a byte says of a message
message_byte : (m : ℕ) → or_else (message_of m) 255 ≡ m
message_byte m = go (eqb m 255) refl
  where
    go : (t : Bool) → eqb m 255 ≡ t → or_else (cond t none (some m)) 255 ≡ m
    go true e = sym (eqb-true m 255 e)
    go false e = refl

module _ (bs : List ℕ) (b : (j : ℕ) → Fits w8 (get_or bs j 0)) (v : Valid bs) (r : Scheduled) (l : List ℕ) (F : filled.Filled bs (filled.accepted_schedule_in 0 bs) r l) (e : r.verdict ≡ Accepted) where
  rows : filled.AcceptedRows bs l r.count
  rows = accepted_rows bs l r F e

  pub S : List Passage
  S = rows.passages

  pub is-accepted : accepted_schedule_of (read_of bs) ≡ accepted S
  unfolding S
  is-accepted = rows.accepted_schedule

  -- a message has a byte
  small_message : (i : ℕ) → i < r.count → num l i 6 < 256
  small_message i h =
      let m : message_of (num l i 6) ≡ (passage_at rows.passages i).message = ap (λ (p : Passage). p.message) (row_is bs l r.count rows i h) in
      let small = (all_at no_passage (all_small bs (known_bytes bs b) rows.passages (planned bs v ∙ rows.accepted_schedule)) i (omega (arith, rows.count))).message in
      omega (arith, message_byte (num l i 6), ap (λ (o : Option ℕ). or_else o 255) m, small)

  pub walked : (c k : ℕ) → c < size (read_of bs).table → k < (read_of bs).horizon → Walked bs l r.count c k
  walked c k hc hk = record { rows = rows; messages = small_message; present = hc; below = hk }

-- ## The passage named

-- by their fields
same_passage : (p : Passage) (component edge ready end : ℕ) (at : Entry) (message : Option ℕ) → component ≡ p.component → edge ≡ p.edge → at ≡ p.entry → ready ≡ p.ready
    → end ≡ p.end → message ≡ p.message → record { component = component; edge = edge; entry = at; ready = ready; end = end; message = message } ≡ p
same_passage p component edge ready end at message a b c d e f = rw (a, b, c, d, e, f)

module _ (bs l : List ℕ) (n c k : ℕ) (b : (j : ℕ) → Fits w8 (get_or bs j 0)) (w : Walked bs l n c k) (s : Stay) (t : Stayed bs l n c k s) where
  pub edge_small : num l s.row 1 < 256
  edge_small = let row = w.rows.placed.row s.row t.there in omega (arith, row.there, (limits_of bs b w.rows.placed.valid (num l s.row 0) row.present).most_arcs)

  pub row_fits : s.row * 9 + 9 ≤ length l
  row_fits = omega (arith, w.rows.placed.fits, t.there)

  -- the fields of its row and its entry are the passage
  pub names : (r : Asked) → r.verdict ≡ Accepted → r.number ≡ s.row → r.start ≡ start_of bs c → r.component ≡ c → r.edge ≡ num l s.row 1 → r.message ≡ num l s.row 6
      → r.ready ≡ num l s.row 4 → r.end ≡ num l s.row 5 → r.at ≡ s.at → Answers bs (asked bs c k) r
  names r v number start component edge message ready end at =
      let S = t.passages in
      let p = passage_at S s.row in
      let here = lt-ltb c (size (read_of bs).table) w.present in
      let below = lt-ltb k (read_of bs).horizon w.below in
      let entry : cut (component_in bs r.component) (entry_of r.at) ≡ p.entry = rw (component, at) (sym t.entry) in
      let passage : (named_by bs r).passage ≡ p =
      same_passage p r.component r.edge r.ready r.end (cut (component_in bs r.component) (entry_of r.at)) (message_of r.message)
      (component ∙ sym t.own ∙ ap (λ (x : Passage). x.component) t.shown) (edge ∙ ap (λ (x : Passage). x.edge) t.shown) entry
      (ready ∙ ap (λ (x : Passage). x.ready) t.shown) (end ∙ ap (λ (x : Passage). x.end) t.shown)
      (ap message_of message ∙ ap (λ (x : Passage). x.message) t.shown) in
      rw (asked_read bs c k w.rows.placed.valid t.accepted_schedule, here, below, ← t.row) (
        v,
        rw (passage, component, number),
        record {
          valid = w.rows.placed.valid;
          present = rw component w.present;
          start = rw component start;
          location = rw (component, at) t.location;
          small = rw at (omega (arith, t.early, w.below, horizon_small bs b w.rows.placed.valid));
          few = omega (arith, number, t.there, w.rows.placed.few);
        },
      )
