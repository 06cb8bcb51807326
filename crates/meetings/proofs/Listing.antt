-- The call from its parts: a list that fits or not, the three questions in order, and the passages behind the rows. Assumes nothing.
use mathlib.Core.Path.{◌≡◌, refl, sym, ap, ap₂, subst, ◌∙◌}
use mathlib.Core.Bool.{◌&&◌}
use mathlib.Core.List.{List, [], ◌∷◌, ◌++◌, map}
use mathlib.Core.Option
use mathlib.Core.Option.{Option, none, some}
use Prim.Native.Nat.{ℕ, ◌*◌, ◌≤◌, ◌<◌}
use native.Mathlib.Omega.{arith}
use borrow.Author.Tests.{le-ltb}
use lib.ListN.{length, drop, length-map}
use Rattle.model.specs.declared.Verdict.{Verdict}
use Rattle.model.specs.declared.Verdict.TheVariants.{Accepted, Refused}
use Rattle.model.specs.Lists.{first, Answer, accepted, refused, ◌after◌, each}
use Rattle.model.specs.Table.{Table, Read}
use Rattle.model.specs.Places.{Valid, read_of}
use Rattle.model.specs.Schedule.{Passage, seven_of, light}
use Rattle.model.specs.Checks.{is_send, meets, collides, may_hear, unheard, crowded, checked, accepted_schedule, accepted_schedule_at}
use Rattle.model.specs.Calls.{Call, verdict_of, laid, spread_fine, read_at, accepted_schedule_in_at, check_call_at}
use Rattle.model.specs.Meetings.{sends_met, listeners_met, sends_heard, with_met, concerned, concerned_at, list_or, meetings_in_at, MeetingsCall, about, meetings_call_at}
use Rattle.model.proofs.Checks.Independence.{only_map}
use Rattle.model.proofs.Reader.Located.{valid_read}
use Rattle.table.proofs.Answered.{verdict_refused}
use Rattle.rows.specs.Rows.{rows_of}
use Rattle.schedule.specs.declared.Scheduled.{Scheduled}
use Rattle.schedule.specs.Filled.{Filled, schedule_of}
use Rattle.schedule.proofs.Bare.{first_map, collides_light, unheard_light, crowded_light, checked_light}
use Rattle.schedule.proofs.Fields.{fields_light, laid_fits, laid_short}
use Rattle.schedule.proofs.Whole.{was}
use Rattle.meetings.specs.declared.Listed.{Listed}
use Rattle.meetings.specs.Asked.{listing, Says}

-- ## The list

module _ (given : Verdict) (lent : List ℕ) (r : Listed) (e : r.table ≡ given) where
  -- there is nothing to list
  pub says_none : r.verdict ≡ Accepted → r.size ≡ 0 → Says (listing given [] lent) r lent
  unfolding each
  says_none a b =
      subst (λ (c : Call). Says (about given c) r lent) (sym (laid_fits [] 0 [] lent refl refl (omega arith)))
      (record { table = e; verdict = a; size = b; lent = refl })

  module _ (P : List Passage) (k : ℕ) (q : k ≡ length P) where
    -- the list is too short ..
    pub says_short : length lent < k * 7 → r.verdict ≡ Refused 13 255 → r.size ≡ 0 → Says (listing given P lent) r lent
    says_short h a b =
        subst (λ (c : Call). Says (about given c) r lent) (sym (laid_short P k lent q h))
        (record { table = e; verdict = a; size = b; lent = refl })

    -- .. or the passages are laid
    pub says_laid : k * 7 ≤ length lent → (written : List ℕ) → written ≡ each seven_of P ++ drop (k * 7) lent → r.verdict ≡ Accepted → r.size ≡ k → Says (listing given P lent) r written
    says_laid h written w a b =
        subst (λ (c : Call). Says (about given c) r written) (sym (laid_fits P k (each seven_of P) lent q refl h))
        (record { table = e; verdict = a; size = b; lent = w })

-- ## The passages behind the rows

met_light : (met met' : Passage → List Passage) → ((v : Passage) → met' (light v) ≡ map light (met v)) → (o : Option Passage) (vs ws : List Passage) → ws ≡ map light vs
    → with_met met' (Option.map light o) ws ≡ map light (with_met met o vs)
met_light met met' same none vs ws e = e
met_light met met' same (some v) vs ws e = ap (λ (us : List Passage). light v ∷ us) (same v)

module _ (G : ℕ) (T : Table) (H : ℕ) (S : List Passage) where
  -- the passages concerned are the same
  concerned_light : concerned G T H (map light S) ≡ map light (concerned G T H S)
  unfolding concerned
  concerned_light =
      rw (
        first_map light (collides G T H (map light S)) (collides G T H S) (collides_light G T H S) S,
        first_map light (unheard G T H (map light S)) (unheard G T H S) (unheard_light G T H S) S,
        first_map light (crowded G T H (map light S)) (crowded G T H S) (crowded_light G T H S) S,
      )
      (met_light (sends_met G T H S) (sends_met G T H (map light S)) (λ s. only_map light (meets G T H s) S) (first (collides G T H S) S) _ _
      (met_light (listeners_met G T S) (listeners_met G T (map light S)) (λ s. only_map light (λ r. may_hear G T r s) S) (first (unheard G T H S) S) _ _
      (met_light (sends_heard G T H S) (sends_heard G T H (map light S)) (λ r. only_map light (λ s. is_send T H s && may_hear G T r s) S) (first (crowded G T H S) S) [] [] refl)))

  -- and so is the call
  pub listing_light : (lent : List ℕ)
      → listing (verdict_of (checked G T H (map light S))) (concerned G T H (map light S)) lent ≡ listing (verdict_of (checked G T H S)) (concerned G T H S) lent
  listing_light lent =
      ap₂ (λ (given : Verdict) (P : List Passage). listing given P lent) (checked_light G T H S) concerned_light
      ∙ ap₂ (λ (k : ℕ) (out : List ℕ). about (verdict_of (checked G T H S)) (laid k out lent)) (length-map (concerned G T H S) light) (fields_light (concerned G T H S))

-- ## A table that was read

-- not at all: 1 to 6, and 19
pub read_not : (G : ℕ) (bs lent : List ℕ) {n c : ℕ} → read_at G bs ≡ refused n c → meetings_call_at G bs lent ≡ listing (Refused n c) [] lent
unfolding meetings_call_at check_call_at accepted_schedule_in_at meetings_in_at
read_not G bs lent e = ap (λ (a : Answer Read). listing (verdict_of (a after accepted_schedule_at G)) (list_or (a after concerned_at G)) lent) e

module _ (G : ℕ) (narrow : G ≤ 1000) (bs lent : List ℕ) (v : Valid bs) where
  planned : Answer (List Passage) → MeetingsCall
  planned a =
      listing (verdict_of (a after λ S. checked G (read_of bs).table (read_of bs).horizon S))
      (list_or (a after λ S. accepted (concerned G (read_of bs).table (read_of bs).horizon S))) lent

  was_read : read_at G bs ≡ accepted (read_of bs)
  was_read = ap (spread_fine G) (valid_read bs v) ∙ rw (le-ltb 1000 G narrow) refl

  call_is : meetings_call_at G bs lent ≡ planned (schedule_of bs)
  unfolding meetings_call_at check_call_at accepted_schedule_in_at accepted_schedule meetings_in_at planned
  call_is = ap (λ (a : Answer Read). listing (verdict_of (a after accepted_schedule_at G)) (list_or (a after concerned_at G)) lent) was_read

  module _ (r : Scheduled) (rows : List ℕ) (F : Filled bs (schedule_of bs) r rows) where
    -- 7 to 9
    pub scheduled_not : {n c : ℕ} → r.verdict ≡ Refused n c → meetings_call_at G bs lent ≡ listing (Refused n c) [] lent
    unfolding planned
    scheduled_not e = call_is ∙ ap planned (verdict_refused (schedule_of bs) (sym F.verdict ∙ e))

    -- 10 to 12 are asked of the rows
    pub of_rows : r.verdict ≡ Accepted → (H : ℕ) → H ≡ (read_of bs).horizon
        → listing (verdict_of (checked G (read_of bs).table H (rows_of rows r.count))) (concerned G (read_of bs).table H (rows_of rows r.count)) lent ≡ meetings_call_at G bs lent
    unfolding planned
    of_rows e H h =
        let S = (was bs r rows F e).0 in
        let q = (was bs r rows F e).1 in
        let light-rows : rows_of rows r.count ≡ map light S = ap (rows_of rows) (F.count S q) ∙ F.rows S q in
        ap₂ (λ (k : ℕ) (W : List Passage). listing (verdict_of (checked G (read_of bs).table k W)) (concerned G (read_of bs).table k W) lent) h light-rows
        ∙ listing_light G (read_of bs).table (read_of bs).horizon S lent
        ∙ sym (call_is ∙ ap planned q)
