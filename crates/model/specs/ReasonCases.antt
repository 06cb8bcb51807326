-- Document 02, wish 7, computed: each reason, the order in which they are tried, their numbers, 21 and 13; of wish 8 the budget; and of each sentence
-- that a reason says, a wrong reason that it rules out.
use Rattle.std.specs.Prelude.{◌≡◌, refl, Bool, true, false, ◌&&◌, List, [], ◌∷◌, ◌++◌, ℕ, ◌+◌, ◌≤◌, ◌<◌, leb, pos, replicate}
use Rattle.std.proofs.Common.{sym, arith, leb-true}
use Rattle.std.proofs.Math.Option.{none}
use Rattle.std.proofs.lemmas.Bool.{eqb-false}
use Rattle.model.specs.declared.Action.TheVariants.{Internal, Send}
use Rattle.model.specs.declared.DataGuard.{DataGuard}
use Rattle.model.specs.declared.Reason.{Reason}
use Rattle.model.specs.declared.Reason.TheVariants.{Taken, DataBound, NoWindow, ReadyLater, HigherNumber}
use Rattle.model.specs.declared.Verdict.TheVariants.{Accepted}
use Rattle.model.specs.Lists.{All, empty, more}
use Rattle.model.specs.Table.{Arc, Component}
use Rattle.model.specs.Build.{location, clock_guard, arc, component, network, all_budgeted, with_budgets}
use Rattle.model.specs.Bytes.{table_bytes}
use Rattle.model.specs.Window.{holds_after, IsWindow}
use Rattle.model.specs.Schedule.{Passage}
use Rattle.model.specs.Reasons.{IsReason, ReasonsCall, not_told, reasons_call}

-- ## The call

abbrev data_bound : ℕ → ℕ → DataGuard
data_bound low high = record { variable = 0; low = pos low; high = pos high }

-- an edge from location 0 with a low for the clock and these data bounds
abbrev leaving : ℕ → List DataGuard → Arc
leaving low bounds = arc 0 1 0 Internal (clock_guard 0 low 65535 ∷ []) bounds [] []

-- One component, x0 ≤ 10 in its first location. Edge 0 is ready at 9, edges 1 and 2 at 3; of the bounds of edge 3 the second and the third fail;
-- edge 4 is ready at 10, which is its end; edge 5 too, and its data bound fails. Edge 6 leaves the other location.
abbrev five : Component
five =
    component 0 1 1 (location 0 10 ∷ location 0 20 ∷ [])
    (leaving 9 [] ∷ leaving 3 [] ∷ leaving 3 (data_bound 0 2 ∷ []) ∷ leaving 5 (data_bound 0 2 ∷ data_bound 1 2 ∷ data_bound 5 3 ∷ []) ∷ leaving 10 [] ∷ leaving 10 (data_bound 3 3 ∷ [])
    ∷ arc 1 0 1 Internal [] [] [] [] ∷ [])

abbrev five_bytes : List ℕ
five_bytes = table_bytes (network 0 12 (five ∷ []))

-- The same with a budget on each edge. Edges 1 and 2 have a window of 7 ticks' length, edge 0 one of 1, edge 6 one of 10.
abbrev tight : ℕ → Component
tight budget = all_budgeted budget five

abbrev tight_bytes : ℕ → List ℕ
tight_bytes budget = table_bytes (with_budgets [] 12 (tight budget ∷ []))

-- nobody hears its send: 11
abbrev unheard_bytes : List ℕ
unheard_bytes = table_bytes (network 1 12 (component 0 1 0 (location 0 10 ∷ []) (arc 0 0 1 (Send 0) (clock_guard 0 3 65535 ∷ []) [] [] [] ∷ []) ∷ []))

abbrev lent : ℕ → List ℕ
lent n = replicate n 0xaa

-- the passage, the edges told, their bytes, and so many that are kept
abbrev tells : ℕ → ℕ → List ℕ → ℕ → ReasonsCall
tells passage size bytes kept = record { verdict = Accepted; passage = passage; size = size; lent = bytes ++ lent kept }

-- "taken" 0, the first data bound that fails 1, no window 2, ready later 3, numbered higher 4
abbrev at_start : List ℕ
at_start = 0 ∷ 3 ∷ 255 ∷ 1 ∷ 0 ∷ 255 ∷ 2 ∷ 4 ∷ 255 ∷ 3 ∷ 1 ∷ 1 ∷ 4 ∷ 2 ∷ 255 ∷ 5 ∷ 1 ∷ 0 ∷ []

-- a window shorter than the budget "is under the window reason"
abbrev budgets_at_start : List ℕ
budgets_at_start = 0 ∷ 2 ∷ 255 ∷ 1 ∷ 0 ∷ 255 ∷ 2 ∷ 4 ∷ 255 ∷ 3 ∷ 1 ∷ 1 ∷ 4 ∷ 2 ∷ 255 ∷ 5 ∷ 1 ∷ 0 ∷ []

pub record Row : Type 0 where
  pub table : List ℕ
  pub component : ℕ
  pub tick : ℕ
  pub lent : List ℕ
  pub answer : ReasonsCall

abbrev pub Holds : Row → Type 0
Holds r = reasons_call r.table r.component r.tick r.lent ≡ r.answer

abbrev asks : List ℕ → ℕ → ℕ → ℕ → ReasonsCall → Row
asks table c k n answer = record { table = table; component = c; tick = k; lent = lent n; answer = answer }

abbrev pub rows : List Row
rows =
    -- the first passage lasts to tick 10, up to and without it; a byte more than needed is kept
    asks five_bytes 0 0 18 (tells 0 6 at_start 0)
    ∷ asks five_bytes 0 9 19 (tells 0 6 at_start 1)
    -- the next one, also at H - 1, though it ends at 20
    ∷ asks five_bytes 0 10 5 (tells 1 1 (6 ∷ 0 ∷ 255 ∷ []) 2)
    ∷ asks five_bytes 0 11 3 (tells 1 1 (6 ∷ 0 ∷ 255 ∷ []) 0)
    -- budgets of 2 and of 7, the length of the window taken; with 8 there is no candidate
    ∷ asks (tight_bytes 2) 0 0 18 (tells 0 6 budgets_at_start 0)
    ∷ asks (tight_bytes 7) 0 9 18 (tells 0 6 budgets_at_start 0)
    ∷ asks (tight_bytes 8) 0 0 18 (not_told 8 0 (lent 18))
    -- 21: a tick from H on, an absent component; also where the lent bytes are too few
    ∷ asks five_bytes 0 12 18 (not_told 21 255 (lent 18))
    ∷ asks five_bytes 1 0 18 (not_told 21 255 (lent 18))
    ∷ asks five_bytes 256 0 2 (not_told 21 255 (lent 2))
    ∷ asks five_bytes 0 4294967295 0 (not_told 21 255 [])
    -- 13: a byte too few
    ∷ asks five_bytes 0 0 17 (not_told 13 255 (lent 17))
    -- the table first: 1, and 11
    ∷ asks [] 9 0 3 (not_told 1 255 (lent 3))
    ∷ asks unheard_bytes 0 0 3 (not_told 11 0 (lent 3))
    ∷ asks unheard_bytes 1 12 0 (not_told 11 0 [])
    ∷ []

pub cases : All Holds rows
unfolding reasons_call table_bytes
cases =
    more refl (more refl (more refl (more refl (more refl (more refl (more refl (more refl (more refl (more refl (more refl (more refl (more refl (more refl (more refl empty))))))))))))))

-- ## Wrong reasons

-- a passage through the first location with a value of v0 that took an edge which was ready at a tick
abbrev through : ℕ → ℕ → ℕ → Passage
through value edge ready =
    record {
      component = 0;
      edge = edge;
      entry = record { location = 0; tick = 0; clocks = 0 ∷ []; values = pos value ∷ [] };
      ready = ready;
      end = 10;
      message = none;
    }

abbrev WrongIn : Component → ℕ → ℕ → ℕ → ℕ → Reason → Type 0
WrongIn C value taken ready e r = IsReason C (through value taken ready) e r → ⊥

abbrev Wrong : ℕ → ℕ → ℕ → ℕ → Reason → Type 0
Wrong = WrongIn five

-- each breaks one sentence of the reason and no other
abbrev pub Wrongs : Type 0
Wrongs =
    -- taken: another edge
    Wrong 0 1 3 2 Taken
    -- a data bound: of the edge taken; past the last bound; a bound that holds; the second that fails
    × Wrong 0 3 5 3 (DataBound 1)
    × Wrong 1 1 3 2 (DataBound 1)
    × Wrong 0 1 3 3 (DataBound 0)
    × Wrong 0 1 3 3 (DataBound 2)
    -- no window: of the edge taken; where a data bound fails; a window of exactly one tick's length
    × Wrong 0 4 10 4 NoWindow
    × Wrong 0 1 3 5 NoWindow
    × Wrong 0 1 3 0 NoWindow
    -- exactly as long as the budget
    × WrongIn (tight 7) 0 1 3 2 NoWindow
    -- ready later: the edge taken; where a data bound fails; without a window; with one shorter than the budget; ready together
    × Wrong 0 0 3 0 ReadyLater
    × Wrong 0 1 3 3 ReadyLater
    × Wrong 0 1 3 4 ReadyLater
    × WrongIn (tight 8) 0 1 2 2 ReadyLater
    × Wrong 0 1 3 2 ReadyLater
    -- numbered higher: the edge taken; a lower number; where a data bound fails; without a window; with one shorter than the budget; ready later; ready
    -- sooner
    × Wrong 0 1 3 1 HigherNumber
    × Wrong 0 2 3 1 HigherNumber
    × Wrong 0 1 5 3 HigherNumber
    × Wrong 0 1 10 4 HigherNumber
    × WrongIn (tight 8) 0 1 3 2 HigherNumber
    × Wrong 0 0 2 1 HigherNumber
    × Wrong 0 0 9 1 HigherNumber

-- false is not true
clash : false ≡ true → ⊥
clash e = absurd (let z : ◌≡◌ {A = ℕ} 0 1 = cc in omega arith)

first_holds : (a b : Bool) → a && b ≡ true → a ≡ true
first_holds true b q = refl
first_holds false b q = q

second_holds : (a b : Bool) → a && b ≡ true → b ≡ true
second_holds true b q = q
second_holds false b q = absurd (clash q)

-- at a delay at which x0 ≤ 10 and a low hold
at-most : (low d : ℕ) → holds_after (location 0 10) (clock_guard 0 low 65535 ∷ []) (0 ∷ []) d ≡ true → d ≤ 10
at-most low d q = omega (arith, leb-true (0 + d) 10 (first_holds _ _ q))

at-least : (low d : ℕ) → holds_after (location 0 10) (clock_guard 0 low 65535 ∷ []) (0 ∷ []) d ≡ true → low ≤ d
at-least low d q = omega (arith, leb-true low (0 + d) (first_holds _ _ (first_holds _ _ (second_holds (leb (0 + d) 10) _ q))))

-- from 9 to 10
nine_ten : IsWindow (location 0 10) (clock_guard 0 9 65535 ∷ []) (0 ∷ []) 9 10
nine_ten = record { at_ready = refl; least = at-least 9; at_end = refl; last = at-most 9 }

-- from 3 to 10
three_ten : IsWindow (location 0 10) (clock_guard 0 3 65535 ∷ []) (0 ∷ []) 3 10
three_ten = record { at_ready = refl; least = at-least 3; at_end = refl; last = at-most 3 }

-- not 8 ticks long
no_eight : (r q : ℕ) → IsWindow (location 0 10) (clock_guard 0 3 65535 ∷ []) (0 ∷ []) r q → r + 8 ≤ q → ⊥
no_eight r q w h = omega (arith, at-least 3 r w.at_ready, at-most 3 q w.at_end, h)

pub wrongs_refuted : Wrongs
wrongs_refuted = (
  λ h. eqb-false 2 1 refl h,
  λ h. h.0 refl,
  λ h. absurd (omega (arith, h.1)),
  λ h. clash (sym h.2),
  λ h. clash (h.3 1 (omega arith)),
  λ h. h.0 refl,
  λ h. clash h.1,
  λ h. h.2 9 10 nine_ten (omega arith) tt,
  λ h. h.2 3 10 three_ten (omega arith) (omega arith),
  λ h. h.0 refl,
  λ h. clash h.1,
  λ h. omega (arith, at-least 10 h.2.0 h.2.2.at_ready, at-most 10 h.2.1 h.2.2.at_end, h.2.3),
  λ h. no_eight h.2.0 h.2.1 h.2.2 h.2.4,
  λ h. omega (arith, h.2.2.least 3 refl, h.2.5),
  λ h. omega (arith, h.0),
  λ h. omega (arith, h.0),
  λ h. clash h.1,
  λ h. omega (arith, at-least 10 h.2.0 h.2.2.at_ready, at-most 10 h.2.1 h.2.2.at_end, h.2.3),
  λ h. no_eight h.2.0 h.2.1 h.2.2 h.2.4,
  λ h. omega (arith, at-least 3 h.2.0 h.2.2.at_ready, h.2.5),
  λ h. omega (arith, h.2.2.least 3 refl, h.2.5),
)
