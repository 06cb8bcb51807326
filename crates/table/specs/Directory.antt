-- What the reader answers: the verdict of checks 1 to 6, and where each component of an accepted table starts in its bytes.
use Rattle.std.specs.Prelude.{cond, ◌&&◌, List, ℕ, zero, suc, set, replicate, Result, Ok, Err}
use Rattle.std.proofs.Math.Option.{Option, none, some}
use Rattle.model.specs.Lists.{Answer, accepted, refused}
use Rattle.model.specs.Reader.{byte, Parsed, ok, fault, version_fine, length_fine, count_fine, bands_fine, read_table}
use Rattle.model.specs.Places.{start_of}
use Rattle.model.specs.Calls.{verdict_of, read_at}
use Rattle.model.specs.declared.Verdict.TheVariants.{Refused}
use Rattle.table.specs.declared.Reading.{Reading}
use Rattle.parts.specs.declared.PartFault.{PartFault}
use Rattle.parts.specs.Place.{fault_number}
use Rattle.table.specs.declared.HeaderFault.{HeaderFault}
use Rattle.table.specs.declared.HeaderFault.TheVariants.{Version, Length, Counts}

-- the number of the question that a whole component fails, none if it is fine
abbrev pub fault_in : {A : Type 0} → Parsed A → Option ℕ
fault_in (ok a r) = none
fault_in (fault n) = some n

-- the same of the answer of the code
abbrev pub part_fault : Result (Unit {0}) PartFault → Option ℕ
part_fault (Ok u) = none
part_fault (Err question) = some (fault_number question)

-- the starts of the first n components, 0 for those that are absent
unfoldable pub starts_of : List ℕ → ℕ → List ℕ
unfolding start_of
starts_of bs zero = replicate 8 0
starts_of bs (suc n) = set (starts_of bs n) n (start_of bs n)

-- accepted: the starts of all its components; refused: none
abbrev pub found_in : {A : Type 0} → List ℕ → ℕ → Answer A → List ℕ
found_in bs n (accepted a) = starts_of bs n
found_in bs n (refused k c) = replicate 8 0

abbrev pub reading_from : {A : Type 0} → List ℕ → ℕ → Answer A → Reading
reading_from bs n a = record { verdict = verdict_of a; starts = found_in bs n a }

-- a refusal finds no component
abbrev pub refusal : ℕ → ℕ → Reading
refusal n c = record { verdict = Refused n c; starts = replicate 8 0 }

-- "Checks, in this order": the number of the question that a header fails, 0 if it passes them
abbrev pub question_number : HeaderFault → ℕ
question_number Version = 1
question_number Length = 2
question_number Counts = 3

abbrev pub header_number : Result (Unit {0}) HeaderFault → ℕ
header_number (Ok u) = 0
header_number (Err question) = question_number question

-- checks 1 to 3, of the header: the number of the first that is not passed, 0 if all are
abbrev pub header_of : List ℕ → ℕ
header_of bs = cond (version_fine bs) (cond (length_fine bs) (cond (count_fine bs && bands_fine bs) 0 3) 2) 1

-- the answer of the reader, for any bytes
abbrev pub reading_of : List ℕ → Reading
reading_of bs = reading_from bs (byte bs 3) (read_table bs)

-- the same at a spread of the nodes' starts: 19 after 3 and before 4
abbrev pub reading_at : ℕ → List ℕ → Reading
reading_at spread bs = reading_from bs (byte bs 3) (read_at spread bs)
