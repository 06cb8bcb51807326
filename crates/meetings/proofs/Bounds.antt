-- How many passages are concerned, when there are any, and when the call is accepted. Assumes nothing.
use mathlib.Core.Path.{◌≡◌, refl, sym, ap, ◌∙◌}
use mathlib.Core.Logic.{◌↔◌}
use mathlib.Core.Bool.{Bool, true, false, cond, ◌&&◌}
use mathlib.Core.List.{List, [], ◌∷◌, ◌++◌}
use mathlib.Core.Option.{Option, none, some}
use Prim.Native.Nat.{ℕ, suc, ◌*◌, ◌≤◌}
use native.Mathlib.Omega.{arith}
use lib.Dec.{leb}
use lib.ListN.{length, drop}
use Rattle.model.specs.declared.Verdict.TheVariants.{Accepted, Refused}
use Rattle.model.specs.Lists.{only, first, Answer, accepted, refused, ◌after◌, each}
use Rattle.model.specs.Table.{Table, Read}
use Rattle.model.specs.Schedule.{Passage, schedule, seven_of}
use Rattle.model.specs.Checks.{limit, is_send, meets, collides, may_hear, unheard, unheard_number, crowded, fault_of, fault_by, checked}
use Rattle.model.specs.Calls.{Call, refusing, read_at}
use Rattle.model.specs.Meetings.{sends_met, listeners_met, sends_heard, with_met, concerned, concerned_at, list_or, meetings_in_at, meetings_call_at, meetings_call}
use Rattle.model.proofs.Schedule.Scheduled.{schedule_is}
use Rattle.model.proofs.Run.CallsApart.{meetings_together}
use Rattle.schedule.proofs.Fields.{laid_fits}

only_few : (p : Passage → Bool) (S : List Passage) → length (only p S) ≤ length S
only_few p [] = omega arith
only_few p (v ∷ S) = go (only_few p S) (p v)
  where
    go : length (only p S) ≤ length S → (t : Bool) → length (cond t (v ∷ only p S) (only p S)) ≤ suc (length S)
    go h true = omega arith
    go h false = omega arith

module _ (G : ℕ) (T : Table) (H : ℕ) (S : List Passage) where
  met_few : (met : Passage → List Passage) → ((v : Passage) → length (met v) ≤ length S) → (o : Option Passage) (vs : List Passage) → length vs ≤ suc (length S)
      → length (with_met met o vs) ≤ suc (length S)
  met_few met h none vs e = e
  met_few met h (some v) vs e = omega (arith, h v)

  -- the passage at fault, and at most all
  pub concerned_few : length (concerned G T H S) ≤ suc (length S)
  unfolding concerned
  concerned_few =
      met_few (sends_met G T H S) (λ s. only_few (meets G T H s) S) (first (collides G T H S) S) _
      (met_few (listeners_met G T S) (λ s. only_few (λ r. may_hear G T r s) S) (first (unheard G T H S) S) _
      (met_few (sends_heard G T H S) (λ r. only_few (λ s. is_send T H s && may_hear G T r s) S) (first (crowded G T H S) S) [] (omega arith)))

  -- none exactly if 10 to 12 pass
  pub concerned_none : (concerned G T H S ≡ []) ↔ (checked G T H S ≡ accepted S)
  unfolding concerned checked
  concerned_none = go (first (collides G T H S) S) (first (unheard G T H S) S) (first (crowded G T H S) S)
    where
      go : (a b c : Option Passage)
          → (with_met (sends_met G T H S) a (with_met (listeners_met G T S) b (with_met (sends_heard G T H S) c [])) ≡ [])
          ↔ (fault_of 10 a (fault_by (unheard_number G T S) b (fault_of 12 c (accepted S))) ≡ accepted S)
      go none none none = (λ e. refl, λ e. refl)
      go none none (some v) = (λ e. let z : ◌≡◌ {A = ℕ} 0 1 = cc in absurd (omega arith), λ e. let z : ◌≡◌ {A = ℕ} 0 1 = cc in absurd (omega arith))
      go none (some v) c = (λ e. let z : ◌≡◌ {A = ℕ} 0 1 = cc in absurd (omega arith), λ e. let z : ◌≡◌ {A = ℕ} 0 1 = cc in absurd (omega arith))
      go (some v) b c = (λ e. let z : ◌≡◌ {A = ℕ} 0 1 = cc in absurd (omega arith), λ e. let z : ◌≡◌ {A = ℕ} 0 1 = cc in absurd (omega arith))

-- a list for 1,025 passages is never too short, at any spread
pub meetings_few : (G : ℕ) (bs : List ℕ) → length (meetings_in_at G bs) ≤ 1025
unfolding meetings_in_at
meetings_few G bs = go (read_at G bs)
  where
    made : (t : Read) (a : Answer (List Passage)) → schedule limit t.table t.horizon ≡ a
        → length (list_or (a after λ S. accepted (concerned G t.table t.horizon S))) ≤ 1025
    made t (refused n c) q = omega arith
    made t (accepted S) q = omega (arith, concerned_few G t.table t.horizon S, (schedule_is t.table t.horizon limit q).few)

    go : (a : Answer Read) → length (list_or (a after concerned_at G)) ≤ 1025
    go (refused n c) = omega arith
    go (accepted t) = made t (schedule limit t.table t.horizon) refl

module _ (G : ℕ) (bs lent : List ℕ) where
  -- so no call lists more
  pub spread_few : (meetings_call_at G bs lent).size ≤ 1025
  unfolding meetings_call_at
  spread_few = go (leb (length (each seven_of (meetings_in_at G bs))) (length lent))
    where
      listed : Call
      listed =
          record {
            verdict = Accepted;
            size = length (meetings_in_at G bs);
            lent = each seven_of (meetings_in_at G bs) ++ drop (length (each seven_of (meetings_in_at G bs))) lent;
          }

      go : (t : Bool) → (cond t listed (refusing 13 255 lent)).size ≤ 1025
      go true = meetings_few G bs
      go false = omega arith

  -- and a call that is lent as much is accepted, whatever the verdict on the table
  pub meetings_accepted : 1025 * 7 ≤ length lent → (meetings_call_at G bs lent).verdict ≡ Accepted
  unfolding meetings_call_at
  meetings_accepted h =
      ap (λ (c : Call). c.verdict)
      (laid_fits (meetings_in_at G bs) (length (meetings_in_at G bs)) (each seven_of (meetings_in_at G bs)) lent refl refl (omega (arith, meetings_few G bs)))

  -- a refused call writes nothing
  pub meetings_kept : {n c : ℕ} → (meetings_call_at G bs lent).verdict ≡ Refused n c → (meetings_call_at G bs lent).lent ≡ lent
  unfolding meetings_call_at
  meetings_kept {n} {c} e =
      let listed = each seven_of (meetings_in_at G bs) in
      go (record { verdict = Accepted; size = length (meetings_in_at G bs); lent = listed ++ drop (length listed) lent }) refl (leb (length listed) (length lent)) e
    where
      go : (fits : Call) → fits.verdict ≡ Accepted → (t : Bool) → (cond t fits (refusing 13 255 lent)).verdict ≡ Refused n c → (cond t fits (refusing 13 255 lent)).lent ≡ lent
      go fits a true f = let x : Accepted ≡ Refused n c = sym a ∙ f in let z : ◌≡◌ {A = ℕ} 0 1 = cc in absurd (omega arith)
      go fits a false f = refl

-- without a spread
pub size_few : (bs lent : List ℕ) → (meetings_call bs lent).size ≤ 1025
size_few bs lent = rw (← meetings_together bs lent) (spread_few 0 bs lent)
