-- Document 02, wish 12: "names and spacing are free", as long as no name stands for two locations.
use Rattle.std.specs.Prelude.{◌≡◌, List, ℕ}
use Rattle.model.specs.Lists.{All, ◌∈◌, accepted}
use Rattle.model.specs.Table.{Read}
use Rattle.model.specs.Reader.{read_table}
use Rattle.uppaal.specs.Xta.{Name, Process}
use Rattle.uppaal.specs.XtaText.{name_text}
use Rattle.uppaal.specs.Declared.{names_of}
use Rattle.uppaal.specs.Export.{system_for}

-- two locations of a process that are written alike are one
abbrev pub WrittenApart : Process → Type 0
WrittenApart P = (n m : Name) → n ∈ names_of P → m ∈ names_of P → name_text n ≡ name_text m → n ≡ m

-- in each process that a table is written as
abbrev pub NamesApart : List ℕ → Type 0
NamesApart table = (t : Read) → read_table table ≡ accepted t → All WrittenApart (system_for t.table).processes
