-- The numbers of a run's answer are those of the call that it answers. Assumes nothing.
use mathlib.Core.Path.{◌≡◌, ap, subst, ◌∙◌}
use mathlib.Core.List.{List}
use Prim.Native.Nat.{ℕ}
use Rattle.model.specs.Calls.{RunCall, number_of, concerned_of, end_number, end_node}
use Rattle.calls.specs.declared.Ran.{Ran}
use Rattle.calls.specs.Ran.{Answers}
use Rattle.timed_network.specs.declared.RunNumbers.{RunNumbers}
use Rattle.timed_network.specs.Numbers.{NumbersOf}

pub numbers_of : (call : RunCall) (answer : Ran) (r : RunNumbers) (later : List ℕ) → Answers call answer later
    → (r.number ≡ number_of answer.verdict)
    × (r.component ≡ concerned_of answer.verdict)
    × (r.end ≡ end_number answer.end)
    × (r.node ≡ end_node answer.end)
    × (r.tick ≡ answer.tick)
    × (r.used ≡ answer.used)
    × (r.size ≡ answer.size)
    → NumbersOf call r later
numbers_of call answer r later A n =
    record {
      number = n.0 ∙ ap number_of A.verdict;
      component = n.1 ∙ ap concerned_of A.verdict;
      end = n.2 ∙ ap end_number A.end;
      node = n.3 ∙ ap end_node A.end;
      tick = n.4 ∙ A.tick;
      used = n.5 ∙ A.used;
      size = n.6 ∙ A.size;
      lent = A.lent;
    }

-- the same of a call that is that one
pub numbers_by : (call other : RunCall) (answer : Ran) (r : RunNumbers) (later : List ℕ) → call ≡ other → Answers call answer later
    → (r.number ≡ number_of answer.verdict)
    × (r.component ≡ concerned_of answer.verdict)
    × (r.end ≡ end_number answer.end)
    × (r.node ≡ end_node answer.end)
    × (r.tick ≡ answer.tick)
    × (r.used ≡ answer.used)
    × (r.size ≡ answer.size)
    → NumbersOf other r later
numbers_by call other answer r later e A n = subst (λ (k : RunCall). NumbersOf k r later) e (numbers_of call answer r later A n)
