-- Document 02, wish 11, computed: answers, passages read, 21, 24 and 13 at both sides and in order; and of each sentence that a call says, a wrong answer
-- that it rules out.
use Rattle.std.specs.Prelude.{◌≡◌, refl, List, [], ◌∷◌, ◌++◌, ◌⊎◌, ℕ, zero, suc, ◌<◌, get_or, replicate}
use Rattle.std.proofs.Common.{ap, inl, inr, arith}
use Rattle.std.proofs.Math.Option.{none}
use Rattle.model.specs.declared.Action.TheVariants.{Internal}
use Rattle.model.specs.declared.Verdict.{Verdict}
use Rattle.model.specs.declared.Verdict.TheVariants.{Accepted, Refused}
use Rattle.model.specs.Lists.{All, empty, more}
use Rattle.model.specs.Build.{location, clock_guard, arc, component, network}
use Rattle.model.specs.Bytes.{table_bytes}
use Rattle.model.specs.Schedule.{Passage}
use Rattle.model.specs.Reasons.{reasons_call}
use Rattle.model.specs.Positions.{Asked, PositionsCall, not_answered, positions_call, pair_at, tick_before, CanBeAsked, Fine, AnswerTrue, Answers, NotAnswered}
use Rattle.model.specs.Cases.{probe, hub, add_one, worked, changed, worked_bytes}

-- ## The call

-- one component whose passages last 2 ticks each, the second of them its window: 260 up to the horizon
abbrev many_bytes : List ℕ
many_bytes = table_bytes (network 0 520 (component 0 1 0 (location 0 2 ∷ []) (arc 0 0 1 Internal (clock_guard 0 1 65535 ∷ []) [] [] [] ∷ []) ∷ []))

-- the hub listens too late: 16
abbrev late_bytes : List ℕ
late_bytes = table_bytes (changed (probe 3) (hub 3 6 add_one))

abbrev lent : ℕ → List ℕ
lent n = replicate n 0xaa

-- the passages read, the answers, and so many bytes that are kept
abbrev gives : ℕ → List ℕ → ℕ → PositionsCall
gives read bytes kept = record { verdict = Accepted; read = read; lent = bytes ++ lent kept }

pub record Row : Type 0 where
  pub table : List ℕ
  pub pairs : List ℕ
  pub lent : List ℕ
  pub answer : PositionsCall

abbrev pub Holds : Row → Type 0
Holds r = positions_call r.table r.pairs r.lent ≡ r.answer

abbrev asks : List ℕ → List ℕ → ℕ → PositionsCall → Row
asks table pairs n answer = record { table = table; pairs = pairs; lent = lent n; answer = answer }

abbrev refuses : List ℕ → List ℕ → ℕ → ℕ → Row
refuses table pairs n number = asks table pairs n (not_answered number 255 (lent n))

abbrev pub rows : List Row
rows =
    -- no questions: nothing is read, and no bytes are needed; a number left over is no question
    asks worked_bytes [] 0 (gives 0 [] 0)
    ∷ asks worked_bytes (0 ∷ []) 2 (gives 0 [] 2)
    ∷ asks worked_bytes (0 ∷ 0 ∷ 9 ∷ []) 4 (gives 2 (0 ∷ 0 ∷ 0 ∷ []) 1)
    -- "at a shared tick the passage just entered counts"; the other component's is still the first
    ∷ asks worked_bytes (0 ∷ 4 ∷ 0 ∷ 5 ∷ 1 ∷ 5 ∷ []) 9 (gives 3 (0 ∷ 0 ∷ 1 ∷ 0 ∷ 2 ∷ 0 ∷ 0 ∷ 1 ∷ 1 ∷ []) 0)
    -- of others the passages entered by the last tick are read too
    ∷ asks worked_bytes (1 ∷ 5 ∷ []) 3 (gives 3 (0 ∷ 1 ∷ 1 ∷ []) 0)
    -- before ready, and from ready on in the window
    ∷ asks worked_bytes (0 ∷ 2 ∷ 0 ∷ 3 ∷ []) 6 (gives 2 (0 ∷ 0 ∷ 0 ∷ 0 ∷ 0 ∷ 1 ∷ []) 0)
    ∷ asks worked_bytes (1 ∷ 6 ∷ 1 ∷ 9 ∷ []) 6 (gives 4 (0 ∷ 3 ∷ 0 ∷ 0 ∷ 3 ∷ 1 ∷ []) 0)
    -- H - 1, and equal ticks in any order of the components
    ∷ asks worked_bytes (1 ∷ 19 ∷ 0 ∷ 19 ∷ 1 ∷ 19 ∷ []) 10 (gives 8 (0 ∷ 7 ∷ 1 ∷ 0 ∷ 6 ∷ 1 ∷ 0 ∷ 7 ∷ 1 ∷ []) 1)
    -- a number of two bytes
    ∷ asks many_bytes (0 ∷ 511 ∷ 0 ∷ 512 ∷ 0 ∷ 513 ∷ []) 9 (gives 257 (0 ∷ 255 ∷ 1 ∷ 1 ∷ 0 ∷ 0 ∷ 1 ∷ 0 ∷ 1 ∷ []) 0)
    -- 21: a tick from H on, an absent component, numbers that a byte or two would cut
    ∷ refuses worked_bytes (0 ∷ 20 ∷ []) 3 21
    ∷ refuses worked_bytes (2 ∷ 0 ∷ []) 3 21
    ∷ refuses worked_bytes (256 ∷ 3 ∷ []) 3 21
    ∷ refuses worked_bytes (0 ∷ 65539 ∷ []) 3 21
    -- 24: a tick below its predecessor's
    ∷ refuses worked_bytes (0 ∷ 3 ∷ 1 ∷ 2 ∷ []) 6 24
    ∷ refuses worked_bytes (0 ∷ 3 ∷ 0 ∷ 5 ∷ 0 ∷ 4 ∷ []) 9 24
    -- the first bad pair decides; of one and the same pair 21 comes first; nothing is written
    ∷ refuses worked_bytes (0 ∷ 3 ∷ 0 ∷ 2 ∷ 9 ∷ 1 ∷ []) 9 24
    ∷ refuses worked_bytes (0 ∷ 3 ∷ 9 ∷ 4 ∷ 0 ∷ 2 ∷ []) 9 21
    ∷ refuses worked_bytes (0 ∷ 5 ∷ 9 ∷ 2 ∷ []) 6 21
    -- 13: a byte too few, after 21 and 24
    ∷ refuses worked_bytes (0 ∷ 1 ∷ 1 ∷ 2 ∷ []) 5 13
    ∷ refuses worked_bytes (0 ∷ 20 ∷ []) 0 21
    ∷ refuses worked_bytes (0 ∷ 3 ∷ 0 ∷ 2 ∷ []) 0 24
    -- the table first: 1, and 16
    ∷ asks [] (9 ∷ 1 ∷ []) 3 (not_answered 1 255 (lent 3))
    ∷ asks late_bytes (9 ∷ 1 ∷ []) 3 (not_answered 16 0 (lent 3))
    ∷ []

pub cases : All Holds rows
unfolding positions_call table_bytes
cases =
    more refl (more refl (more refl (more refl (more refl (more refl (more refl (more refl (more refl (more refl (more refl (more refl (more refl (more refl (more refl (more refl (more refl (more refl (more refl (more refl (more refl (more refl (more refl empty))))))))))))))))))))))

-- ## Wrong answers

-- a passage of a component from entry to end, ready between
abbrev passing : ℕ → ℕ → ℕ → ℕ → Passage
passing c entry ready end =
    record {
      component = c;
      edge = 0;
      entry = record { location = 0; tick = entry; clocks = []; values = [] };
      ready = ready;
      end = end;
      message = none;
    }

abbrev pair : ℕ → ℕ → Asked
pair c t = record { component = c; tick = t }

abbrev Wrong : List ℕ → List Passage → Asked → ℕ → ℕ → Type 0
Wrong bs S q number window = AnswerTrue bs S q number window → ⊥

abbrev pub WrongAnswers : Type 0
WrongAnswers =
    -- a passage that there is not; another component's; one not yet entered; one that ends at the tick; one of two
    Wrong [] (passing 0 0 3 5 ∷ []) (pair 0 1) 1 0
    × Wrong [] (passing 0 0 3 5 ∷ []) (pair 1 1) 0 0
    × Wrong [] (passing 0 5 8 10 ∷ []) (pair 0 4) 0 0
    × Wrong [] (passing 0 0 3 5 ∷ []) (pair 0 5) 0 1
    × Wrong [] (passing 0 0 3 5 ∷ passing 0 2 4 7 ∷ []) (pair 0 2) 0 0
    -- at ready 0, one tick before it 1; at either a byte that is neither
    × Wrong [] (passing 0 0 3 5 ∷ []) (pair 0 3) 0 0
    × Wrong [] (passing 0 0 3 5 ∷ []) (pair 0 2) 0 1
    × Wrong [] (passing 0 0 3 5 ∷ []) (pair 0 2) 0 2
    × Wrong [] (passing 0 0 3 5 ∷ []) (pair 0 3) 0 2
    -- not the passage that the reasons are given of
    × Wrong worked_bytes (passing 0 0 8 10 ∷ []) (pair 0 5) 0 0

pub wrong_answers : WrongAnswers
unfolding reasons_call
wrong_answers = (
  λ h. absurd (omega (arith, h.there)),
  λ h. absurd (omega (arith, h.own)),
  λ h. absurd (omega (arith, h.entered)),
  λ h. absurd (omega (arith, h.before)),
  λ h. absurd (omega (arith, h.alone 1 (omega arith) refl (omega arith) (omega arith))),
  λ h. absurd (omega (arith, h.early.0 refl)),
  λ h. absurd (omega (arith, (h.inside.0 refl).from)),
  λ h. absurd (omega (arith, h.early.1 (omega arith))),
  λ h. absurd (omega (arith, h.inside.1 (record { from = omega arith; to = omega arith }))),
  λ h. absurd (omega (arith, h.reasons (lent 96) refl)),
)

-- ## Wrong calls

-- the schedule's first three passages; the probe from 0 to 5 and from 5 to 10, the hub from 0 to 6
abbrev three : List Passage
three = passing 0 0 3 5 ∷ passing 1 0 2 6 ∷ passing 0 5 8 10 ∷ []

abbrev WrongCall : List Asked → List ℕ → PositionsCall → Type 0
WrongCall qs before r = Answers [] (worked 20) three qs before r → ⊥

abbrev called : Verdict → ℕ → List ℕ → PositionsCall
called verdict read after = record { verdict = verdict; read = read; lent = after }

abbrev WrongRefusal : List Asked → List ℕ → PositionsCall → Type 0
WrongRefusal qs before r = NotAnswered (worked 20) qs before r → ⊥

abbrev pub WrongCalls : Type 0
WrongCalls =
    -- refused; a pair with a tick below its predecessor's; one that cannot be asked
    WrongCall (pair 0 3 ∷ []) (lent 3) (called (Refused 13 255) 2 (0 ∷ 0 ∷ 1 ∷ []))
    × WrongCall (pair 0 3 ∷ pair 0 2 ∷ []) (lent 6) (called Accepted 2 (0 ∷ 0 ∷ 1 ∷ 0 ∷ 0 ∷ 0 ∷ []))
    × WrongCall (pair 0 20 ∷ []) (lent 3) (called Accepted 3 (0 ∷ 2 ∷ 1 ∷ []))
    -- answers in another order; the low byte first
    × WrongCall (pair 0 1 ∷ pair 1 1 ∷ []) (lent 6) (called Accepted 2 (0 ∷ 1 ∷ 0 ∷ 0 ∷ 0 ∷ 0 ∷ []))
    × WrongCall (pair 1 1 ∷ []) (lent 3) (called Accepted 2 (1 ∷ 0 ∷ 0 ∷ []))
    -- passages read: some for no questions; more than there are; those of the first tick; one fewer; one more
    × WrongCall [] [] (called Accepted 2 [])
    × WrongCall (pair 0 5 ∷ []) (lent 3) (called Accepted 4 (0 ∷ 2 ∷ 0 ∷ []))
    × WrongCall (pair 0 1 ∷ pair 0 5 ∷ []) (lent 6) (called Accepted 2 (0 ∷ 0 ∷ 0 ∷ 0 ∷ 2 ∷ 0 ∷ []))
    × WrongCall (pair 0 1 ∷ []) (lent 3) (called Accepted 1 (0 ∷ 0 ∷ 0 ∷ []))
    × WrongCall (pair 0 1 ∷ []) (lent 3) (called Accepted 3 (0 ∷ 0 ∷ 0 ∷ []))
    -- bytes: too few were lent; one more afterwards; one past the answers written
    × WrongCall (pair 0 1 ∷ []) (lent 2) (called Accepted 2 (0 ∷ 0 ∷ 0 ∷ []))
    × WrongCall (pair 0 1 ∷ []) (lent 3) (called Accepted 2 (0 ∷ 0 ∷ 0 ∷ 0 ∷ []))
    × WrongCall (pair 0 1 ∷ []) (lent 4) (called Accepted 2 (0 ∷ 0 ∷ 0 ∷ 0 ∷ []))
    -- a refusal: with another component; 24 for equal ticks; 24 for a pair that cannot be asked; 21 for the second bad pair; 13 where they fit, and where a
    -- pair is bad; no reason at all; with passages read; with a byte written
    × WrongRefusal (pair 9 1 ∷ []) (lent 3) (called (Refused 21 0) 0 (lent 3))
    × WrongRefusal (pair 0 3 ∷ pair 1 3 ∷ []) (lent 6) (called (Refused 24 255) 0 (lent 6))
    × WrongRefusal (pair 0 3 ∷ pair 9 2 ∷ []) (lent 6) (called (Refused 24 255) 0 (lent 6))
    × WrongRefusal (pair 0 3 ∷ pair 0 2 ∷ pair 9 4 ∷ []) (lent 9) (called (Refused 21 255) 0 (lent 9))
    × WrongRefusal (pair 0 1 ∷ []) (lent 3) (called (Refused 13 255) 0 (lent 3))
    × WrongRefusal (pair 9 1 ∷ []) (lent 2) (called (Refused 13 255) 0 (lent 2))
    × WrongRefusal (pair 9 1 ∷ []) (lent 3) (called (Refused 22 255) 0 (lent 3))
    × WrongRefusal (pair 9 1 ∷ []) (lent 3) (called (Refused 21 255) 2 (lent 3))
    × WrongRefusal (pair 9 1 ∷ []) (lent 3) (called (Refused 21 255) 0 (0 ∷ lent 2))

-- the number that a refusal tells
number_is : {n c m : ℕ} → Refused n c ≡ Refused m 255 → m ≡ n
number_is e = cc

-- in the three lists of pairs that follow, no pair is bad for the reason told
same_tick : (p : ℕ) → p < 2 → (pair_at (pair 0 3 ∷ pair 1 3 ∷ []) p).tick < tick_before 0 (pair 0 3 ∷ pair 1 3 ∷ []) p → ⊥
same_tick zero h k = omega arith
same_tick (suc zero) h k = omega arith
same_tick (suc (suc p)) h k = omega arith

not_askable : (p : ℕ) → p < 2 → CanBeAsked (worked 20) (pair_at (pair 0 3 ∷ pair 9 2 ∷ []) p) → (pair_at (pair 0 3 ∷ pair 9 2 ∷ []) p).tick < tick_before 0 (pair 0 3 ∷ pair 9 2 ∷ []) p → ⊥
not_askable zero h c k = omega arith
not_askable (suc zero) h c k = omega (arith, c.0)
not_askable (suc (suc p)) h c k = omega arith

second_bad : (p : ℕ) → p < 3 → ((k : ℕ) → k < p → Fine (worked 20) 0 (pair 0 3 ∷ pair 0 2 ∷ pair 9 4 ∷ []) k)
    → (CanBeAsked (worked 20) (pair_at (pair 0 3 ∷ pair 0 2 ∷ pair 9 4 ∷ []) p) → ⊥) → ⊥
second_bad zero h f n = n (omega arith, omega arith)
second_bad (suc zero) h f n = n (omega arith, omega arith)
second_bad (suc (suc p)) h f n = omega (arith, (f 1 (omega arith)).sorted)

pub wrong_calls : WrongCalls
wrong_calls = (
  λ h. let q = h.verdict in let z : ◌≡◌ {A = ℕ} 0 1 = cc in omega arith,
  λ h. omega (arith, (h.fine 1 (omega arith)).sorted),
  λ h. omega (arith, (h.fine 0 (omega arith)).allowed.1),
  λ h. omega (arith, (h.answer 0 (omega arith)).own),
  λ h. omega (arith, (h.answer 0 (omega arith)).there),
  λ h. omega (arith, h.none refl),
  λ h. omega (arith, h.few),
  λ h. omega (arith, (h.read 1 2 refl (omega arith)).1 (omega arith)),
  λ h. omega (arith, (h.read 0 1 refl (omega arith)).1 (omega arith)),
  λ h. omega (arith, (h.read 0 2 refl (omega arith)).0 (omega arith)),
  λ h. omega (arith, h.fits),
  λ h. omega (arith, h.long),
  λ h. omega (arith, ap (λ (l : List ℕ). get_or l 0 0) h.rest),
  λ h. let q = h.verdict in let z : ◌≡◌ {A = ℕ} 0 255 = cc in omega arith,
  λ h. elim h.why [
    | inl b ↦ elim b.bad [ inl x ↦ omega (arith, number_is h.verdict, x.0) | inr x ↦ same_tick b.place b.there x.2 ]
    | inr x ↦ omega (arith, number_is h.verdict, x.0)
  ],
  λ h. elim h.why [
    | inl b ↦ elim b.bad [ inl x ↦ omega (arith, number_is h.verdict, x.0) | inr x ↦ not_askable b.place b.there x.1 x.2 ]
    | inr x ↦ omega (arith, number_is h.verdict, x.0)
  ],
  λ h. elim h.why [
    | inl b ↦ elim b.bad [ inl x ↦ second_bad b.place b.there b.fine x.1 | inr x ↦ omega (arith, number_is h.verdict, x.0) ]
    | inr x ↦ omega (arith, number_is h.verdict, x.0)
  ],
  λ h. elim h.why [
    | inl b ↦ elim b.bad [ inl x ↦ omega (arith, number_is h.verdict, x.0) | inr x ↦ omega (arith, number_is h.verdict, x.0) ]
    | inr x ↦ omega (arith, x.2)
  ],
  λ h. elim h.why [
    | inl b ↦ elim b.bad [ inl x ↦ omega (arith, number_is h.verdict, x.0) | inr x ↦ omega (arith, number_is h.verdict, x.0) ]
    | inr x ↦ omega (arith, (x.1 0 (omega arith)).allowed.0)
  ],
  λ h. elim h.why [
    | inl b ↦ elim b.bad [ inl x ↦ omega (arith, number_is h.verdict, x.0) | inr x ↦ omega (arith, number_is h.verdict, x.0) ]
    | inr x ↦ omega (arith, number_is h.verdict, x.0)
  ],
  λ h. omega (arith, h.read),
  λ h. omega (arith, ap (λ (l : List ℕ). get_or l 0 0) h.kept),
)
