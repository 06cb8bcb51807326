-- What is planned, from the schedule as numbers. Assumes nothing.
use mathlib.Core.Path.{◌≡◌, refl, sym, ap, subst, ◌∙◌}
use mathlib.Core.List.{List, ◌++◌, map}
use Prim.Native.Nat.{ℕ, ◌*◌, ◌≤◌, ◌<◌}
use native.Mathlib.Omega.{arith}
use borrow.Author.Tests.{le-leb, lt-leb}
use lib.ListN.{length, get_or, drop, length-append}
use mir.Syntax.{w8}
use mir.Val.{Fits}
use Rattle.model.specs.declared.Verdict.{Verdict}
use Rattle.model.specs.declared.Verdict.TheVariants.{Accepted, Refused}
use Rattle.model.specs.Lists.{Answer, accepted, refused, Bytes, each}
use Rattle.model.specs.Schedule.{seven_of}
use Rattle.model.specs.Checks.{no_passage, passage_at}
use Rattle.model.specs.Calls.{Call, verdict_of, accepted_schedule_in, schedule_with, schedule_call}
use Rattle.model.proofs.Basics.Walk.{all_at}
use Rattle.model.proofs.Reader.Located.{are_bytes}
use Rattle.table.proofs.Answered.{verdict_refused, verdict_accepted}
use Rattle.schedule.proofs.Fields.{fields_length, laid_fits}
use Rattle.calls.proofs.Answering.{call_refused}
use Rattle.passages.specs.declared.Passage.{Passage}
use Rattle.passages.specs.declared.Planned.{Planned}
use Rattle.passages.specs.Passages.{PassagesCall, passage_of, keeping, passages_with, passages_call}
use Rattle.passages.specs.Copied.{copied, copied_zero}
use Rattle.passages.specs.Planned.{from_seven, Small, SmallRows, Laid, Plans}
use Rattle.passages.proofs.Laying.{nth_seven, stored}
use Rattle.passages.proofs.Bounds.{SmallPassage, all_small, few_passages}

-- ## The call

pub call_kept : (bs : List ℕ) {n c : ℕ} → accepted_schedule_in bs ≡ refused n c → (lent : List Passage) → passages_call bs lent ≡ keeping n c lent
unfolding passages_call
call_kept bs e lent = ap (passages_with lent) e

call_short : (bs : List ℕ) {S : List Rattle.model.specs.Schedule.Passage} → accepted_schedule_in bs ≡ accepted S → (lent : List Passage) → length lent < length S → passages_call bs lent ≡ keeping 13 255 lent
unfolding passages_call
call_short bs {S} e lent h = ap (passages_with lent) e ∙ rw (lt-leb (length S) (length lent) h)

pub call_laid : (bs : List ℕ) {S : List Rattle.model.specs.Schedule.Passage} → accepted_schedule_in bs ≡ accepted S → (lent : List Passage) → length S ≤ length lent
    → passages_call bs lent ≡ record { verdict = Accepted; size = length S; lent = map passage_of S ++ drop (length S) lent }
unfolding passages_call
call_laid bs {S} e lent h = ap (passages_with lent) e ∙ rw (le-leb (length S) (length lent) h)

-- ## What is planned

-- nothing is to be written
plans_nothing : (bs : List ℕ) (places n c : ℕ) (p : Planned) → ((lent : List Passage) → length lent ≡ places → passages_call bs lent ≡ keeping n c lent)
    → (p.verdict ≡ Refused n c) × (p.count ≡ 0) → Plans bs places p
plans_nothing bs places n c p k h =
    record {
      within = omega (arith, h.1);
      few = omega (arith, h.1);
      says = λ lent l. record {
        verdict = h.0 ∙ sym (ap (λ (x : PassagesCall). x.verdict) (k lent l));
        size = h.1 ∙ sym (ap (λ (x : PassagesCall). x.size) (k lent l));
        leaves = ap (copied lent p.items) h.1 ∙ copied_zero lent p.items ∙ sym (ap (λ (x : PassagesCall). x.lent) (k lent l));
      };
    }

-- the passages are to be written
plans_passages : (bs : List ℕ) (places n : ℕ) (S : List Rattle.model.specs.Schedule.Passage) (numbers rest : List ℕ) (p : Planned) → accepted_schedule_in bs ≡ accepted S → n ≡ length S → n ≤ 1024 → n ≤ places
    → numbers ≡ each seven_of S ++ rest → Laid numbers n p → Plans bs places p
plans_passages bs places n S numbers rest p e q few h is laid =
    record {
      within = rw laid.count h;
      few = rw laid.count few;
      says = λ lent l.
          let room : n ≤ length lent = omega arith in
          let k = call_laid bs e lent (omega arith) in
          record {
            verdict = laid.verdict ∙ sym (ap (λ (x : PassagesCall). x.verdict) k);
            size = laid.count ∙ q ∙ sym (ap (λ (x : PassagesCall). x.size) k);
            leaves = ap (copied lent p.items) laid.count ∙ stored S lent p.items numbers rest n q room is laid.items ∙ sym (ap (λ (x : PassagesCall). x.lent) k);
          };
    }

-- ## From the schedule as numbers

-- what a slice of bytes holds are bytes
pub slice_bytes : (bs : List ℕ) → ((i : ℕ) → Fits w8 (get_or bs i 0)) → Bytes bs
slice_bytes bs h = are_bytes bs (λ i. omega (arith, h i))

module _ (bs : List ℕ) (b : Bytes bs) (zeros : List ℕ) (long : length zeros ≡ 7168) where
  numbers_laid : {S : List Rattle.model.specs.Schedule.Passage} → accepted_schedule_in bs ≡ accepted S → schedule_call bs zeros ≡ record { verdict = Accepted; size = length S; lent = each seven_of S ++ drop (length S * 7) zeros }
  unfolding schedule_call
  numbers_laid {S} e = ap (schedule_with zeros) e ∙ laid_fits S (length S) (each seven_of S) zeros refl refl (omega (arith, few_passages bs b S e))

  verdict_is : (schedule_call bs zeros).verdict ≡ verdict_of (accepted_schedule_in bs)
  verdict_is = go (accepted_schedule_in bs) refl
    where
      go : (a : Answer (List Rattle.model.specs.Schedule.Passage)) → accepted_schedule_in bs ≡ a → (schedule_call bs zeros).verdict ≡ verdict_of a
      go (accepted S) e = ap (λ (x : Call). x.verdict) (numbers_laid e)
      go (refused n c) e = ap (λ (x : Call). x.verdict) (call_refused bs zeros e)

  module _ (v : Verdict) (size : ℕ) (numbers : List ℕ) (says : (v ≡ (schedule_call bs zeros).verdict) × (size ≡ (schedule_call bs zeros).size) × (numbers ≡ (schedule_call bs zeros).lent) × (size ≤ 1024) × (size * 7 ≤ length zeros)) where
    -- refused
    pub plans_refused : (places n c : ℕ) (p : Planned) → v ≡ Refused n c → (p.verdict ≡ Refused n c) × (p.count ≡ 0) → Plans bs places p
    plans_refused places n c p e h =
        plans_nothing bs places n c p (λ lent l. call_kept bs (verdict_refused (accepted_schedule_in bs) (sym verdict_is ∙ sym says.0 ∙ e)) lent) h

    -- accepted
    module _ (e : v ≡ Accepted) where
      found : (S : List Rattle.model.specs.Schedule.Passage) × (accepted_schedule_in bs ≡ accepted S)
      found = verdict_accepted (accepted_schedule_in bs) (sym verdict_is ∙ sym says.0 ∙ e)

      size_is : size ≡ length found.0
      size_is = says.1 ∙ ap (λ (x : Call). x.size) (numbers_laid found.1)

      numbers_are : numbers ≡ each seven_of found.0 ++ drop (length found.0 * 7) zeros
      numbers_are = says.2 ∙ ap (λ (x : Call). x.lent) (numbers_laid found.1)

      pub few_planned : size ≤ 1024
      few_planned = omega (arith, size_is, few_passages bs b found.0 found.1)

      pub long_planned : size * 7 ≤ length numbers
      long_planned = rw (numbers_are, length-append (each seven_of found.0) (drop (length found.0 * 7) zeros)) (omega (arith, size_is, fields_length found.0))

      pub small_planned : SmallRows numbers size
      small_planned = record { each = small }
        where
          small : (i : ℕ) → i < size → Small numbers i
          small i h =
              let w : SmallPassage (passage_at found.0 i) = all_at no_passage (all_small bs b found.0 found.1) i (omega (arith, size_is)) in
              let q : from_seven numbers i ≡ passage_of (passage_at found.0 i) =
              ap (λ (l : List ℕ). from_seven l i) numbers_are ∙ nth_seven found.0 (drop (length found.0 * 7) zeros) i (omega (arith, size_is)) in
              record {
                component = subst (λ (x : Passage). x.component < 256) (sym q) w.component;
                edge = subst (λ (x : Passage). x.edge < 256) (sym q) w.edge;
                location = subst (λ (x : Passage). x.location < 256) (sym q) w.location;
                message = subst (λ (x : Passage). x.message < 256) (sym q) w.message;
              }

      pub plans_short : (places : ℕ) (p : Planned) → places < size → (p.verdict ≡ Refused 13 255) × (p.count ≡ 0) → Plans bs places p
      plans_short places p k h = plans_nothing bs places 13 255 p (λ lent l. call_short bs found.1 lent (omega (arith, size_is))) h

      pub plans_laid : (places : ℕ) (p : Planned) → size ≤ places → Laid numbers size p → Plans bs places p
      plans_laid places p k laid =
          plans_passages bs places size found.0 numbers (drop (length found.0 * 7) zeros) p found.1 size_is few_planned k numbers_are laid
