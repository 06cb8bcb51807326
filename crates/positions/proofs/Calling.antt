-- The answer of the call, from what the pairs, the table and the bytes lent say. Assumes nothing.
use mathlib.Core.Path.{◌≡◌, refl, sym, ap, ap₂, ◌∙◌}
use mathlib.Core.List.{List, ◌++◌}
use Prim.Native.Nat.{ℕ, ◌*◌, ◌≤◌, ◌<◌}
use borrow.Author.Tests.{le-leb, lt-leb, eq-eqb, ne_eqb}
use lib.ListN.{length, drop}
use Rattle.model.specs.declared.Verdict.TheVariants.{Accepted, Refused}
use Rattle.model.specs.Lists.{each, Answer, refused}
use Rattle.model.specs.Table.{Read}
use Rattle.model.specs.Reader.{read_table}
use Rattle.model.specs.Places.{Valid, read_of}
use Rattle.model.specs.Schedule.{Passage}
use Rattle.model.specs.Checks.{accepted_schedule_of}
use Rattle.model.specs.Positions.{asked, bad_pair, position_bytes, passages_read, PositionsCall, not_answered, answered, positions_tried, positions_planned, positions_read, positions_call}
use Rattle.model.proofs.Reader.Located.{valid_read}
use Rattle.model.proofs.Schedule.Positioned.{position-bytes}
use Rattle.rows.specs.Rows.{rows_of}
use Rattle.schedule.specs.Filled.{AcceptedRows}
use Rattle.positions.specs.declared.Positioned.{Positioned}
use Rattle.positions.specs.Walks.{Gives}
use Rattle.positions.proofs.Lighter.{each_light, read_light}

-- refused, and nothing written
abbrev Refuses : Positioned → ℕ → ℕ → Type 0
Refuses r n c = (r.verdict ≡ Refused n c) × (r.read ≡ 0)

gives_refused : (r : Positioned) (n c : ℕ) (lent : List ℕ) {call : PositionsCall} → call ≡ not_answered n c lent → Refuses r n c → Gives call r lent
gives_refused r n c lent e q = rw e (record { verdict = q.0; read = q.1; lent = refl })

module _ (bs pairs lent : List ℕ) where
  -- 1 to 6
  pub not_read : (r : Positioned) {n c : ℕ} → read_table bs ≡ refused n c → Refuses r n c → Gives (positions_call bs pairs lent) r lent
  unfolding positions_call
  not_read r {n} {c} e q = gives_refused r n c lent (ap (λ (a : Answer Read). positions_read a (asked pairs) lent) e) q

  module _ (v : Valid bs) where
    -- of a table that was read
    planned_is : {a : Answer (List Passage)} → accepted_schedule_of (read_of bs) ≡ a → positions_call bs pairs lent ≡ positions_planned (read_of bs) a (asked pairs) lent
    unfolding positions_call
    planned_is e =
        ap (λ (a : Answer Read). positions_read a (asked pairs) lent) (valid_read bs v) ∙ ap (λ (a : Answer (List Passage)). positions_planned (read_of bs) a (asked pairs) lent) e

    -- 7 to 12
    pub not_planned : (r : Positioned) {n c : ℕ} → accepted_schedule_of (read_of bs) ≡ refused n c → Refuses r n c → Gives (positions_call bs pairs lent) r lent
    not_planned r {n} {c} e q = gives_refused r n c lent (planned_is e) q

  -- ## The rows of a table that is accepted

  module _ (l : List ℕ) (n : ℕ) (p : AcceptedRows bs l n) (bad : ℕ) (is : bad ≡ bad_pair (read_of bs) 0 (asked pairs)) where
    tried_is : positions_call bs pairs lent ≡ positions_tried p.passages (asked pairs) lent bad
    tried_is = planned_is p.placed.valid p.accepted_schedule ∙ ap (positions_tried p.passages (asked pairs) lent) (sym is)

    -- 21 and 24
    pub bad-pair : (r : Positioned) → (bad ≡ 0 → ⊥) → Refuses r bad 255 → Gives (positions_call bs pairs lent) r lent
    bad-pair r z q = gives_refused r bad 255 lent (tried_is ∙ rw (ne_eqb bad 0 z)) q

    module _ (z : bad ≡ 0) where
      answered_is : positions_call bs pairs lent ≡ answered p.passages (asked pairs) lent
      answered_is = tried_is ∙ rw (eq-eqb bad 0 z)

      -- 13
      pub too_few : (r : Positioned) → length lent < length (asked pairs) * 3 → Refuses r 13 255 → Gives (positions_call bs pairs lent) r lent
      too_few r h q = gives_refused r 13 255 lent (answered_is ∙ rw (lt-leb (length (asked pairs) * 3) (length lent) h)) q

      pub laid : (read : ℕ) (after : List ℕ) → length (asked pairs) * 3 ≤ length lent → read ≡ passages_read (rows_of l n) (asked pairs)
          → after ≡ each (position_bytes (rows_of l n)) (asked pairs) ++ drop (length (asked pairs) * 3) lent
          → Gives (positions_call bs pairs lent) (record { verdict = Accepted; read = read }) after
      laid read after h e f =
          let S = p.passages in
          let qs = asked pairs in
          let read_is : read ≡ passages_read S qs = e ∙ ap (λ (L : List Passage). passages_read L qs) p.listed ∙ read_light S qs in
          let bytes : each (position_bytes (rows_of l n)) qs ≡ each (position_bytes S) qs = ap (λ (L : List Passage). each (position_bytes L) qs) p.listed ∙ each_light S qs in
          let call : positions_call bs pairs lent ≡ record { verdict = Accepted; read = passages_read S qs; lent = each (position_bytes S) qs ++ drop (length (each (position_bytes S) qs)) lent } = answered_is ∙ rw (le-leb (length qs * 3) (length lent) h) in
          rw call (record { verdict = refl; read = read_is; lent = f ∙ ap₂ (λ (x : List ℕ) (m : ℕ). x ++ drop m lent) bytes (sym (position-bytes S qs)) })
