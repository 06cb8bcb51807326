-- UPPAAL's network of processes in real time, for any parts: `XtaNetwork` with clocks that count ticks and a fraction of a tick, and delays of any length.
use Rattle.std.specs.Prelude.{◌≡◌, Bool, cond, ◌&&◌, ◌||◌, ℕ, ◌+◌, ◌<◌, leb, ltb, eqb, ℤ, pos, ◌+ℤ◌, length, get_or, set, replicate}
use Rattle.std.proofs.Math.Bool.{true, false}
use mathlib.Core.List.{List, [], ◌∷◌, map}
use Rattle.std.proofs.Math.Option.{Option, none, some}
use Rattle.std.specs.Int.Signed.{le_z}
use Rattle.model.specs.Lists.{all, first, ◌∈◌}
use Rattle.model.specs.Window.{value_at, in_range}
use Rattle.uppaal.specs.Xta.{Name, location, Upper, Atom, at_most, below, exactly, at_least, value_at_least, value_at_most, sum_at_least, sum_at_most, never, sends, receives, Assignment, sets_to, adds, resets, Transition, Location, Process, System, process_of}
use Rattle.uppaal.specs.XtaNetwork.{same_name}

-- ## Fractions of a tick: numbers from 0 on, below 1. Of the real ones, and of others, as far as is used here.

pub record Fractions : Type 1 where
  pub F : Type 0
  pub nil : F
  pub is_nil : F → Bool
  -- of a sum, its fraction and its whole ticks
  pub plus : F → F → F
  pub carry : F → F → ℕ
  -- what is missing to 1
  pub missing : F → F
  pub nil_is : is_nil nil ≡ true
  pub is-nil : (f : F) → is_nil f ≡ true → f ≡ nil
  pub plus_nil : plus nil nil ≡ nil
  pub carry_nil : carry nil nil ≡ 0
  pub plus_missing : (f : F) → is_nil f ≡ false → plus f (missing f) ≡ nil
  pub carry_missing : (f : F) → is_nil f ≡ false → carry f (missing f) ≡ 1

module _ (Q : Fractions) where
  -- ## Times: whole ticks and a fraction of one

  pub record Span : Type 0 where
    pub ticks : ℕ
    pub part : Q.F

  abbrev pub nothing : Span
  nothing = record { ticks = 0; part = Q.nil }

  abbrev pub added : Span → Span → Span
  added a b = record { ticks = a.ticks + b.ticks + Q.carry a.part b.part; part = Q.plus a.part b.part }

  -- against a whole number of ticks
  abbrev pub is_at_most : Span → ℕ → Bool
  is_at_most a n = ltb a.ticks n || (eqb a.ticks n && Q.is_nil a.part)

  abbrev pub is_below : Span → ℕ → Bool
  is_below a n = ltb a.ticks n

  abbrev pub is_exactly : Span → ℕ → Bool
  is_exactly a n = eqb a.ticks n && Q.is_nil a.part

  abbrev pub is_at_least : Span → ℕ → Bool
  is_at_least a n = leb n a.ticks

  -- ## States

  pub record RealStand : Type 0 where
    pub at : Name
    pub clocks : List Span
    pub values : List ℤ

  abbrev pub no_real_stand : RealStand
  no_real_stand = record { at = location 0; clocks = []; values = [] }

  abbrev pub real_stand_of : List RealStand → ℕ → RealStand
  real_stand_of s p = get_or s p no_real_stand

  abbrev pub span_at : List Span → ℕ → Span
  span_at xs i = get_or xs i nothing

  abbrev pub real_start : Process → RealStand
  real_start P = record { at = P.initial; clocks = replicate P.clocks nothing; values = replicate P.variables (pos 0) }

  abbrev pub real_initial : System → List RealStand
  real_initial N = map real_start N.processes

  -- ## Invariants and guards

  abbrev pub real_keeps : List Span → Upper → Bool
  real_keeps xs u = is_at_most (span_at xs u.clock) u.bound

  abbrev pub real_invariant : Option Location → List Span → Bool
  real_invariant none xs = false
  real_invariant (some l) xs = all (real_keeps xs) l.invariant

  unfoldable pub real_stands : Process → RealStand → Bool
  real_stands P x = real_invariant (first (λ l. same_name l.name x.at) P.locations) x.clocks

  unfoldable pub all_real_stand : List Process → List RealStand → Bool
  unfolding real_stands
  all_real_stand [] xs = true
  all_real_stand (P ∷ Ps) [] = false
  all_real_stand (P ∷ Ps) (x ∷ xs) = real_stands P x && all_real_stand Ps xs

  abbrev pub real_atom : List Span → List ℤ → Atom → Bool
  real_atom xs vs (at_most u) = is_at_most (span_at xs u.clock) u.bound
  real_atom xs vs (below u) = is_below (span_at xs u.clock) u.bound
  real_atom xs vs (exactly u) = is_exactly (span_at xs u.clock) u.bound
  real_atom xs vs (at_least i n) = is_at_least (span_at xs i) n
  real_atom xs vs (value_at_least v z) = le_z z (value_at vs v)
  real_atom xs vs (value_at_most v z) = le_z (value_at vs v) z
  real_atom xs vs (sum_at_least v k z) = le_z z (value_at vs v +ℤ k)
  real_atom xs vs (sum_at_most v k z) = le_z (value_at vs v +ℤ k) z
  real_atom xs vs never = false

  abbrev pub real_guard : RealStand → List Atom → Bool
  real_guard x g = all (real_atom x.clocks x.values) g

  -- ## Assignments

  abbrev pub real_assigned : Assignment → RealStand → Option RealStand
  real_assigned (sets_to v z) x = cond (in_range z) (some (record { at = x.at; clocks = x.clocks; values = set x.values v z })) none
  real_assigned (adds v z) x =
      let w = value_at x.values v +ℤ z in
      cond (in_range w) (some (record { at = x.at; clocks = x.clocks; values = set x.values v w })) none
  real_assigned (resets i) x = some (record { at = x.at; clocks = set x.clocks i nothing; values = x.values })

  abbrev pub real_onto : Option RealStand → (RealStand → Option RealStand) → Option RealStand
  real_onto none f = none
  real_onto (some x) f = f x

  unfoldable pub all_real_assigned : List Assignment → RealStand → Option RealStand
  all_real_assigned [] x = some x
  all_real_assigned (a ∷ as') x = real_onto (real_assigned a x) (all_real_assigned as')

  pub record RealFires (x : RealStand) (t : Transition) (y : RealStand) : Type 0 where
    pub source : x.at ≡ t.source
    pub guard : real_guard x t.guard ≡ true
    pub after : all_real_assigned t.assignments (record { at = t.target; clocks = x.clocks; values = x.values }) ≡ some y

  -- ## Steps: a delay of any length. An invariant is an upper bound, so it holds all the while where it holds at the delay's end.

  abbrev pub later : Span → RealStand → RealStand
  later d x = record { at = x.at; clocks = map (λ c. added c d) x.clocks; values = x.values }

  pub data RealMove : Type 0 where
    lasts : Span → RealMove
    alone : ℕ → Transition → RealMove
    joint : ℕ → Transition → ℕ → Transition → RealMove

  pub data RealMoves (N : System) (s : List RealStand) : RealMove → List RealStand → Type 0 where
    delays : {d : Span} → all_real_stand N.processes (map (later d) s) ≡ true → RealMoves N s (lasts d) (map (later d) s)
    goes : {p : ℕ} {t : Transition} {y : RealStand} → p < length N.processes → t ∈ (process_of N p).transitions → t.sync ≡ none → RealFires (real_stand_of s p) t y
        → all_real_stand N.processes (set s p y) ≡ true → RealMoves N s (alone p t) (set s p y)
    meet : {p q k : ℕ} {t u : Transition} {y z : RealStand} → p < length N.processes → q < length N.processes → (p ≡ q → ⊥)
        → t ∈ (process_of N p).transitions → u ∈ (process_of N q).transitions → t.sync ≡ some (sends k) → u.sync ≡ some (receives k)
        → RealFires (real_stand_of s p) t y → RealFires (real_stand_of s q) u z → all_real_stand N.processes (set (set s p y) q z) ≡ true
        → RealMoves N s (joint p t q u) (set (set s p y) q z)

  -- ## Paths

  pub data RealGoes (N : System) : List RealStand → List RealMove → List RealStand → Type 0 where
    stays : {s : List RealStand} → RealGoes N s [] s
    moves : {s t u : List RealStand} {m : RealMove} {ms : List RealMove} → RealMoves N s m t → RealGoes N t ms u → RealGoes N s (m ∷ ms) u

  pub record RealPath (N : System) (ms : List RealMove) (s : List RealStand) : Type 0 where
    pub begins : all_real_stand N.processes (real_initial N) ≡ true
    pub goes : RealGoes N (real_initial N) ms s
