-- The call for document 01's table, by its version, its budgets and the bytes lent.
use Rattle.std.specs.Prelude.{◌≡◌, refl, [], replicate}
use Rattle.model.specs.declared.Verdict.TheVariants.{Accepted, Refused}
use Rattle.model.specs.Reader.{read_table}
use Rattle.model.specs.Checks.{accepted_schedule}
use Rattle.model.specs.Bytes.{table_bytes}
use Rattle.model.specs.Cases.{worked_bytes, work_budgets}
use Rattle.uppaal.specs.XtaText.{system_text}
use Rattle.uppaal.specs.Export.{system_for}
use Rattle.uppaal.specs.UppaalCall.{uppaal_in, uppaal_call}

-- budgets of 0 leave no trace: the text is that of version 1
pub zero_budgets : uppaal_in (table_bytes (work_budgets 0 0)) ≡ uppaal_in worked_bytes
unfolding uppaal_in read_table accepted_schedule table_bytes system_text system_for
zero_budgets = refl

-- one budget other than 0: 25, though no byte is lent
pub budget_first : (uppaal_call (table_bytes (work_budgets 0 1)) []).verdict ≡ Refused 25 255
unfolding uppaal_call uppaal_in read_table accepted_schedule table_bytes system_text system_for
budget_first = refl

-- a budget that no window has: 8 comes first
pub check_first : (uppaal_call (table_bytes (work_budgets 3 1)) []).verdict ≡ Refused 8 0
unfolding uppaal_call uppaal_in read_table accepted_schedule table_bytes system_text system_for
check_first = refl

-- without one: 13 up to one byte too few
pub too_short : (uppaal_call worked_bytes (replicate 931 0)).verdict ≡ Refused 13 255
unfolding uppaal_call uppaal_in read_table accepted_schedule system_text system_for
too_short = refl

pub enough : (uppaal_call worked_bytes (replicate 932 0)).verdict ≡ Accepted
unfolding uppaal_call uppaal_in read_table accepted_schedule system_text system_for
enough = refl
