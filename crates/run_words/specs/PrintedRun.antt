-- What is printed of a run: there is room for the observations of 1,024 passages, more than any run has.
use Rattle.std.specs.Prelude.{List, ℕ, ◌*◌, replicate}
use Rattle.model.specs.Run.{observation_width}
use Rattle.run_text.specs.RunText.{run_text_at}

-- at a spread, for any bytes, offsets and choices
abbrev pub printed_run : ℕ → List ℕ → List ℕ → List ℕ → List ℕ
printed_run G table offsets choices = run_text_at G table offsets choices (replicate (1024 * observation_width) 0)
