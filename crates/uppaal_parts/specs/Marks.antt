-- The pieces of a transition's text, as they are written from an edge's bytes.
use Rattle.std.specs.Prelude.{Bool, false, cond, List, [], ◌∷◌, ◌++◌, ℕ, zero, suc, pred, ◌+◌, ◌*◌, eqb, ℤ, pos, negsuc, ◌+ℤ◌, drop}
use Rattle.model.specs.declared.ClockGuard.{ClockGuard}
use Rattle.model.specs.declared.DataGuard.{DataGuard}
use Rattle.model.specs.declared.Update.{Update}
use Rattle.model.specs.Reader.{clock_guard_at, data_guard_at, update_at}
use Rattle.model.specs.Places.{list_at}
use Rattle.model.specs.Window.{masked}
use Rattle.words.specs.Words.{ascii}
use Rattle.uppaal.specs.Xta.{Upper, Atom, at_most, below, exactly, at_least, value_at_least, value_at_most, Assignment, resets}
use Rattle.uppaal.specs.XtaText.{atom_text, each_after, assignment_text}
use Rattle.uppaal.specs.Export.{assignment_of, Sum, number, more, plus, stays, summed}

-- ## Upper bounds: the mark says which of them is reached, from 1 on; 0 is none

abbrev pub mark_of : ℕ → Upper → Atom
mark_of zero u = at_most u
mark_of (suc zero) u = exactly u
mark_of (suc (suc t)) u = below u

abbrev pub marked : ℕ → List Upper → List Atom
marked t [] = []
marked t (u ∷ us) = mark_of t u ∷ marked (pred t) us

abbrev pub upper_of : ℕ → ℕ → Upper
upper_of clock bound = record { clock = clock; bound = bound }

-- a clock bound's high, if it has one, behind other atoms; and the mark after it
abbrev pub high_text : ℕ → ClockGuard → List ℕ
high_text t g = cond (eqb g.high 65535) [] (ascii " && " ++ atom_text (mark_of t (upper_of g.clock g.high)))

abbrev pub high_mark : ℕ → ClockGuard → ℕ
high_mark t g = cond (eqb g.high 65535) t (pred t)

-- of n clock bounds at the front
unfoldable pub highs_text : ℕ → ℕ → List ℕ → List ℕ
unfolding atom_text
highs_text t zero h = []
highs_text t (suc n) h = high_text t (clock_guard_at h) ++ highs_text (high_mark t (clock_guard_at h)) n (drop 5 h)

-- ## Lows and data bounds, behind other atoms

abbrev pub low_text : ClockGuard → List ℕ
low_text g = ascii " && " ++ atom_text (at_least g.clock g.low)

-- of n parts of width w at the front, one after the other
unfoldable pub all_told : (List ℕ → List ℕ) → ℕ → ℕ → List ℕ → List ℕ
all_told tell w zero h = []
all_told tell w (suc n) h = tell h ++ all_told tell w n (drop w h)

abbrev pub lows_text : ℕ → List ℕ → List ℕ
lows_text n h = all_told (λ b. low_text (clock_guard_at b)) 5 n h

-- ## Data bounds

abbrev pub data_text : DataGuard → List ℕ
data_text g = ascii " && " ++ (atom_text (value_at_least g.variable g.low) ++ (ascii " && " ++ atom_text (value_at_most g.variable g.high)))

abbrev pub datas_text : ℕ → List ℕ → List ℕ
datas_text n h = all_told (λ b. data_text (data_guard_at b)) 5 n h

-- ## How many upper bounds

abbrev pub high_count : ClockGuard → ℕ
high_count g = cond (eqb g.high 65535) 0 1

unfoldable pub highs_count : ℕ → List ℕ → ℕ
highs_count zero h = 0
highs_count (suc n) h = high_count (clock_guard_at h) + highs_count n (drop 5 h)

-- ## Assignments: what stands before the first of them, and before another

abbrev pub lead : Bool → List ℕ
lead first = cond first (ascii " assign ") (ascii ", ")

unfoldable pub led_text : Bool → List Assignment → List ℕ
unfolding assignment_text
led_text first [] = []
led_text first (x ∷ xs) = lead first ++ (assignment_text x ++ led_text false xs)

-- the updates at the front
abbrev pub update_text : Bool → Update → List ℕ
update_text first u = lead first ++ assignment_text (assignment_of u)

unfoldable pub updates_text : Bool → ℕ → List ℕ → List ℕ
unfolding assignment_text
updates_text first zero h = []
updates_text first (suc n) h = update_text first (update_at h) ++ updates_text false n (drop 4 h)

-- ## Sums: kept 16,777,216 larger than they are, so that they have no sign

abbrev pub less_bias : ℕ → ℤ
less_bias n = pos n +ℤ negsuc 16777215

abbrev pub total_of : Bool → ℕ → Sum
total_of known n = cond known (number (less_bias n)) (more (less_bias n))

-- the atoms of an add, behind others
abbrev pub stays_text : ℕ → Sum → List ℕ
stays_text v s = each_after " && " atom_text (stays v s)

-- of update i of those at the front: the atoms of an add
abbrev pub range_of : List ℕ → ℕ → Update → List ℕ
range_of h i u = cond u.adds (stays_text u.variable (plus (summed u.variable (more (pos 0)) (list_at update_at 4 i h)) u.number)) []

-- of k updates from number i on
unfoldable pub ranges_text : List ℕ → ℕ → ℕ → List ℕ
unfolding summed list_at atom_text each_after
ranges_text h i zero = []
ranges_text h i (suc k) = range_of h i (update_at (drop (i * 4) h)) ++ ranges_text h (suc i) k

-- ## Resets

abbrev pub reset_of : Bool → ℕ → Bool → List ℕ
reset_of first i reset = cond reset (lead first ++ assignment_text (resets i)) []

-- of k clocks from number i on
unfoldable pub resets_text : Bool → ℕ → ℕ → ℕ → List ℕ
unfolding assignment_text
resets_text first mask i zero = []
resets_text first mask i (suc k) = reset_of first i (masked mask i) ++ resets_text (cond (masked mask i) false first) mask (suc i) k

-- whether none was written
abbrev pub none_of : {A : Type 0} → Bool → List A → Bool
none_of first [] = first
none_of first (x ∷ xs) = false

unfoldable pub still_first : Bool → ℕ → ℕ → ℕ → Bool
still_first first mask i zero = first
still_first first mask i (suc k) = still_first (cond (masked mask i) false first) mask (suc i) k
