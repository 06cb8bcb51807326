-- The words of a verdict from what the call `meetings_spread` leaves. Assumes nothing.
use mathlib.Core.Path.{◌≡◌, refl, sym, ap, ap₂, ◌∙◌}
use mathlib.Core.List.{List, [], ◌∷◌, ◌++◌, map}
use Prim.Native.Nat.{ℕ, ◌*◌, ◌≤◌}
use native.Mathlib.Omega.{arith}
use lib.ListN.{length, drop}
use Rattle.model.specs.declared.Verdict.{Verdict}
use Rattle.model.specs.declared.Verdict.TheVariants.{Accepted, Refused}
use Rattle.model.specs.Lists.{each}
use Rattle.model.specs.Schedule.{Passage, seven_of}
use Rattle.model.specs.Calls.{Call, laid, check_call_at}
use Rattle.model.specs.Meetings.{meetings_in_at, meetings_call_at}
use Rattle.schedule.proofs.Fields.{laid_fits}
use Rattle.meetings.proofs.Bounds.{meetings_few, spread_few}
use Rattle.text.specs.Words.{told}
use Rattle.refusal_text.specs.RefusalText.{refusal_text}
use Rattle.spread_text.specs.SpreadWords.{spread_line}
use Rattle.verdict_text.specs.VerdictText.{Met, met_of, mets_of, stop_text, band_text, meetings_text, verdict_with, verdict_text_at, verdict_text}
use Rattle.verdict_text.proofs.Together.{text_together}

-- ## What the call leaves

mets_are : (M : List Passage) (rest : List ℕ) → mets_of (each seven_of M ++ rest) (length M) ≡ map met_of M
unfolding each told
mets_are [] rest = refl
mets_are (v ∷ M) rest = ap (λ (l : List Met). met_of v ∷ l) (mets_are M rest)

-- the verdict on the table
pub judged : (G : ℕ) (table lent : List ℕ) {v w : Verdict} → v ≡ (meetings_call_at G table lent).table → v ≡ w → check_call_at G table ≡ w
unfolding meetings_call_at
judged G table lent e f = sym e ∙ f

-- how many passages are listed, at whatever spread
pub few_listed : (G : ℕ) (table lent : List ℕ) {n : ℕ} → n ≡ (meetings_call_at G table lent).size → n ≤ 1025
few_listed G table lent e = omega (arith, e, spread_few G table lent)

-- the numbers listed, and how many passages they are
module _ (G : ℕ) (table lent : List ℕ) (room : 7175 ≤ length lent) (list : List ℕ) (n : ℕ) (same_list : list ≡ (meetings_call_at G table lent).lent) (same_size : n ≡ (meetings_call_at G table lent).size) where
  -- the list is long enough
  laid_is : laid (length (meetings_in_at G table)) (each seven_of (meetings_in_at G table)) lent
      ≡ record { verdict = Accepted; size = length (meetings_in_at G table); lent = each seven_of (meetings_in_at G table) ++ drop (length (meetings_in_at G table) * 7) lent }
  laid_is =
      laid_fits (meetings_in_at G table) (length (meetings_in_at G table)) (each seven_of (meetings_in_at G table)) lent refl refl
      (omega (arith, meetings_few G table, room))

  listed_mets : mets_of list n ≡ map met_of (meetings_in_at G table)
  unfolding meetings_call_at
  listed_mets =
      ap₂ mets_of same_list same_size ∙ ap (λ (x : Call). mets_of x.lent x.size) laid_is
      ∙ mets_are (meetings_in_at G table) (drop (length (meetings_in_at G table) * 7) lent)

  pub refused_words : (number component : ℕ) → check_call_at G table ≡ Refused number component
      → refusal_text number component ++ spread_line G ++ stop_text table number ++ band_text table number (mets_of list n) ++ meetings_text G number (mets_of list n) ≡ verdict_text_at G table
  unfolding verdict_text_at
  refused_words number component e =
      ap (λ (l : List Met). refusal_text number component ++ spread_line G ++ stop_text table number ++ band_text table number l ++ meetings_text G number l) listed_mets
      ∙ sym (ap (λ (v : Verdict). verdict_with G table v (meetings_in_at G table)) e)

pub accepted_words : (G : ℕ) (table : List ℕ) → check_call_at G table ≡ Accepted → verdict_with G table Accepted [] ≡ verdict_text_at G table
unfolding verdict_text_at
accepted_words G table e = sym (ap (λ (v : Verdict). verdict_with G table v (meetings_in_at G table)) e)

-- ## Without a spread

pub at_none : (G : ℕ) (table text : List ℕ) → text ≡ verdict_text_at G table → G ≡ 0 → text ≡ verdict_text table
at_none G table text e z = e ∙ ap (λ (m : ℕ). verdict_text_at m table) z ∙ text_together table
