-- Document 01, "Probe and hub": the text printed there, byte for byte, and that of a refusal. Computed from the table's bytes.
use Rattle.std.specs.Prelude.{◌≡◌, refl, []}
use Rattle.model.specs.Cases.{worked_bytes}
use Rattle.text.specs.Words.{ascii}
use Rattle.schedule_text.specs.ScheduleText.{printed_schedule}

pub worked_text : printed_schedule worked_bytes
    ≡ ascii "c e l entry ready end msg\n0 0 0 0 3 5 0\n1 0 0 0 2 6 0\n0 1 1 5 8 10 -\n1 1 1 6 9 10 -\n0 0 0 10 13 15 0\n1 0 0 10 12 16 0\n0 1 1 15 18 20 -\n1 1 1 16 19 20 -\n"
unfolding printed_schedule
worked_text = refl

-- the empty table
pub refused_text : printed_schedule [] ≡ ascii "refused 1 255\n"
unfolding printed_schedule
refused_text = refl
