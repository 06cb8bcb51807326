-- The exported call for passages. Document 01: "The schedule is a list of passages, each with seven fields". One definition, from the
-- table's bytes and the lent passages to the answer and the lent passages afterwards.
use Rattle.std.specs.Prelude.{cond, List, ◌++◌, map, ℕ, leb, length, drop}
use Rattle.model.specs.declared.Verdict.{Verdict}
use Rattle.model.specs.declared.Verdict.TheVariants.{Accepted, Refused}
use Rattle.model.specs.Lists.{Answer, accepted, refused, or_else}
use Rattle.model.specs.Calls.{accepted_schedule_in}
use Rattle.passages.specs.declared.Passage.{Passage}

-- "component, edge, location, entry, ready, end, message"; 255 for no message
abbrev pub passage_of : Rattle.model.specs.Schedule.Passage → Passage
passage_of v =
    record {
      component = v.component;
      edge = v.edge;
      location = v.entry.location;
      message = or_else v.message 255;
      entry = v.entry.tick;
      ready = v.ready;
      end = v.end;
    }

-- the verdict, the number of passages written (0 after a refusal), and the lent passages afterwards
pub record PassagesCall : Type 0 where
  pub verdict : Verdict
  pub size : ℕ
  pub lent : List Passage

-- "Lent buffers keep their bytes"
abbrev pub keeping : ℕ → ℕ → List Passage → PassagesCall
keeping n c lent = record { verdict = Refused n c; size = 0; lent = lent }

-- The passages are laid over the front of what was lent: "on success so do those past the result". 13. "Does the lent buffer hold the
-- result?"
abbrev pub passages_with : List Passage → Answer (List Rattle.model.specs.Schedule.Passage) → PassagesCall
passages_with lent (accepted S) =
    cond (leb (length S) (length lent))
    (record { verdict = Accepted; size = length S; lent = map passage_of S ++ drop (length S) lent })
    (keeping 13 255 lent)
passages_with lent (refused n c) = keeping n c lent

unfoldable pub passages_call : List ℕ → List Passage → PassagesCall
unfolding accepted_schedule_in
passages_call table lent = passages_with lent (accepted_schedule_in table)
