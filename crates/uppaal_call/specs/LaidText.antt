-- The text of a table's bytes, laid over the front of what was lent, or 13.
use Rattle.std.specs.Prelude.{List, ℕ, length}
use Rattle.model.specs.Places.{read_of}
use Rattle.model.specs.Calls.{Call, laid}
use Rattle.uppaal.specs.XtaText.{system_text}
use Rattle.uppaal.specs.Export.{system_for}

unfoldable pub laid_text : List ℕ → List ℕ → Call
unfolding read_of system_text system_for
laid_text table lent = let text = system_text (system_for (read_of table).table) in laid (length text) text lent
