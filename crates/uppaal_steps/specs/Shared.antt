-- What the steps of a receive edge's messages share, kept in a buffer.
use Rattle.std.specs.Prelude.{◌≡◌, List, ◌++◌, ℕ, ◌+◌, ◌-◌, ◌*◌, ◌≤◌, ◌<◌, length, get_or, take, drop}
use Rattle.model.specs.declared.Location.{Location}
use Rattle.model.specs.Table.{Arc}
use Rattle.words.specs.Words.{ascii}
use Rattle.uppaal.specs.XtaText.{guard_text, assign_text}
use Rattle.uppaal.specs.Export.{uppers_from, others, assignments_of}
use Rattle.uppaal_parts.specs.Marks.{marked}

-- the guard of a step in
abbrev pub guard_in : Location → Arc → List ℕ
guard_in l a = guard_text (marked 0 (uppers_from l a) ++ others a)

-- what stands behind the arrow of a step out, by its mark
abbrev pub tail_out : Location → ℕ → Arc → ℕ → List ℕ
tail_out l clocks a t = guard_text (marked t (uppers_from l a)) ++ (assign_text (assignments_of clocks a) ++ ascii " }")

-- a text stands from one place to another
pub record Stands (s : List ℕ) (start end : ℕ) (text : List ℕ) : Type 0 where
  pub order : start ≤ end
  pub short : end ≤ start + 610
  pub inside : end ≤ length s
  pub same : take (end - start) (drop start s) ≡ text

-- those with the marks from 1 to the last stand, 640 bytes each, and end there
pub record Kept (l : Location) (clocks : ℕ) (a : Arc) (last : ℕ) (s ends : List ℕ) : Type 0 where
  pub stands : (t : ℕ) → 1 ≤ t → t < last → Stands s (t * 640) (get_or ends t 0) (tail_out l clocks a t)
