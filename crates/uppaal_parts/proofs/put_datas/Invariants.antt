-- `uppaal_parts::put_datas` meets its contract. Assumes nothing.
use Rattle.model.specs.Reader.{data_guard_at}
use Rattle.uppaal_parts.specs.Marks.{data_text}
use Rattle.uppaal_parts.proofs.put_datas.Given as goal

abbrev pub ghost-put_each : goal.ghost-put_each
ghost-put_each a = λ part. data_text (data_guard_at part)
