-- `period::states::same_numbers` meets its contract. Assumes nothing.
use Rattle.std.proofs.Common.{take}
use Rattle.std.proofs.lemmas.Bool.Decides.{Decides-eqb, Decides-int_eq}
use Rattle.std.proofs.lemmas.Slice.Eq.{slice_eq-Decides}
use Rattle.period.proofs.states.same_numbers.Goals as goal

pub returns-then-eq : goal.returns-then-eq
returns-then-eq c =
    let a = c.args in
    let clocks = slice_eq-Decides Decides-eqb (take a.clocks a.first.clocks) (take a.clocks a.second.clocks) c.eq.result (rw c.from-clocks.ensures at c.eq.ensures) in
    let values = slice_eq-Decides Decides-int_eq (take a.variables a.first.values) (take a.variables a.second.values) c.eq-then-eq.result (rw c.from-variables.ensures at c.eq-then-eq.ensures) in
    (λ e. (clocks.0 c.if-eq.true, values.0 e), λ q. values.1 q.1)
