-- The text of a schedule from what the call for passages leaves. Assumes nothing.
use mathlib.Core.Path.{◌≡◌, refl, sym, ap, ap₂, ◌∙◌}
use mathlib.Core.List.{List, [], ◌∷◌, ◌++◌, map}
use mathlib.Core.Option.{Option, none, some}
use Prim.Native.Nat.{ℕ}
use native.Mathlib.Omega.{arith}
use borrow.Author.Tests.{ne_eqb}
use lib.ListN.{length, take, drop, replicate, length-map, length-replicate}
use lib.Seq.{take-append_seam}
use Rattle.model.specs.declared.Verdict.TheVariants.{Accepted, Refused}
use Rattle.model.specs.Lists.{Answer, accepted, refused, All, empty, more, or_else, each, Bytes}
use Rattle.model.specs.Calls.{verdict_of, accepted_schedule_in}
use Rattle.rows.specs.Rows.{message_of}
use Rattle.table.proofs.Answered.{verdict_refused, verdict_accepted}
use Rattle.passages.specs.declared.Passage.{Passage}
use Rattle.passages.specs.Passages.{PassagesCall, passage_of, passages_call}
use Rattle.passages.specs.Copied.{blank}
use Rattle.passages.proofs.Bounds.{Channel, SmallPassage, all_small, few_passages}
use Rattle.passages.proofs.Planning.{call_kept, call_laid}
use Rattle.text.specs.Words.{ascii, refusal_line}
use Rattle.schedule_text.specs.ScheduleText.{place_text, ticks_text, message_text, passage_line, schedule_text, printed_answer, printed_schedule, shown}

-- ## A passage is shown as it was

-- 255 stands for no message alone
tells : (m : Option ℕ) → Channel m → message_of (or_else m 255) ≡ m
tells none h = refl
tells (some k) h = rw (ne_eqb k 255 (λ e. omega (arith, e, h))) refl

line_is : (v : Rattle.model.specs.Schedule.Passage) → SmallPassage v → passage_line (shown (passage_of v)) ≡ passage_line v
unfolding passage_line
line_is v small =
    ap (λ (m : Option ℕ). place_text v ++ ticks_text v ++ message_text m ++ ascii "\n") (tells v.message small.channel)

lines_are : (S : List Rattle.model.specs.Schedule.Passage) → All SmallPassage S → each passage_line (map shown (map passage_of S)) ≡ each passage_line S
unfolding each
lines_are [] empty = refl
lines_are (v ∷ S) (more small a) = ap₂ ◌++◌ (line_is v small) (lines_are S a)

-- ## What the call leaves

-- the list that is lent
abbrev blanks : List Passage
blanks = replicate 1024 blank

module _ (table : List ℕ) (bytes : Bytes table) where
  laid : {S : List Rattle.model.specs.Schedule.Passage} → accepted_schedule_in table ≡ accepted S
      → passages_call table blanks ≡ record { verdict = Accepted; size = length S; lent = map passage_of S ++ drop (length S) blanks }
  laid {S} e =
      call_laid table e blanks (omega (arith, few_passages table bytes S e, length-replicate {A = Passage} 1024 blank))

  verdict_is : (passages_call table blanks).verdict ≡ verdict_of (accepted_schedule_in table)
  verdict_is = go (accepted_schedule_in table) refl
    where
      go : (a : Answer (List Rattle.model.specs.Schedule.Passage)) → accepted_schedule_in table ≡ a → (passages_call table blanks).verdict ≡ verdict_of a
      go (accepted S) e = ap (λ (x : PassagesCall). x.verdict) (laid e)
      go (refused n c) e = ap (λ (x : PassagesCall). x.verdict) (call_kept table e blanks)

  -- accepted: the items and how many are written
  module _ (h : (passages_call table blanks).verdict ≡ Accepted) (items : List Passage) (n : ℕ) (is : items ≡ (passages_call table blanks).lent) (size : n ≡ (passages_call table blanks).size) where
    found : (S : List Rattle.model.specs.Schedule.Passage) × (accepted_schedule_in table ≡ accepted S)
    found = verdict_accepted (accepted_schedule_in table) (sym verdict_is ∙ h)

    count : n ≡ length (map passage_of found.0)
    count = size ∙ ap (λ (x : PassagesCall). x.size) (laid found.1) ∙ sym (length-map found.0 passage_of)

    written : items ≡ map passage_of found.0 ++ drop (length found.0) blanks
    written = is ∙ ap (λ (x : PassagesCall). x.lent) (laid found.1)

    front : take n items ≡ map passage_of found.0
    front =
        ap₂ (λ (k : ℕ) (l : List Passage). take k l) count written
        ∙ take-append_seam (map passage_of found.0) (drop (length found.0) blanks)

    pub printed_accepted : schedule_text (map shown (take n items)) ≡ printed_schedule table
    unfolding printed_schedule schedule_text
    printed_accepted =
        ap (λ (l : List Passage). schedule_text (map shown l)) front
        ∙ ap (λ (l : List ℕ). ascii "c e l entry ready end msg\n" ++ l) (lines_are found.0 (all_small table bytes found.0 found.1))
        ∙ sym (ap printed_answer found.1)

  pub printed_refused : (n c : ℕ) → (passages_call table blanks).verdict ≡ Refused n c → refusal_line n c ≡ printed_schedule table
  unfolding printed_schedule
  printed_refused n c h = sym (ap printed_answer (verdict_refused (accepted_schedule_in table) (sym verdict_is ∙ h)))
