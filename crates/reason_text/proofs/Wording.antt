-- The words of a reason: its data bound is there; which words a window gets; where a bound stands; and the clocks and variables that a
-- component lacks change nothing. Assumes nothing.
use mathlib.Core.Path.{◌≡◌, refl, sym, ap, ◌∙◌}
use mathlib.Core.Bool.{Bool, true, false, cond, ◌&&◌, not}
use mathlib.Core.List.{List, [], ◌∷◌}
use mathlib.Core.Option.{Option, none, some}
use Prim.Native.Nat.{ℕ, suc, pred, ◌+◌, ◌-◌, ◌*◌, ◌≤◌, ◌<◌}
use native.Mathlib.Omega.{arith}
use borrow.Author.Tests.{ltb-false, lt-ltb, le-ltb}
use lib.Dec.{ltb, eqb}
use lib.IntN.{pos}
use lib.ListN.{length, get_or, take, drop}
use lib.Seq.{get_or-take, drop-drop}
use Rattle.model.specs.declared.ClockGuard.{ClockGuard}
use Rattle.model.specs.declared.DataGuard.{DataGuard}
use Rattle.model.specs.declared.Location.{Location}
use Rattle.model.specs.declared.Reason.{Reason}
use Rattle.model.specs.declared.Reason.TheVariants.{Taken, DataBound, NoWindow, ReadyLater, HigherNumber}
use Rattle.model.specs.Lists.{All, empty, more, place_of, or_else}
use Rattle.model.specs.Table.{Arc, Component}
use Rattle.model.specs.Reader.{byte, clock_guard_at, data_guard_at}
use Rattle.model.specs.Places.{list_at, arc_head_length, arc_at}
use Rattle.model.specs.Window.{Entry, ready_of, past_of, data_holds, first_failing, meets_budget, long_enough}
use Rattle.model.specs.Reasons.{reason_by, no_bound}
use Rattle.model.proofs.Basics.Walk.{all_at, list_part}
use Rattle.model.proofs.Window.Interval.{fails_there}
use Rattle.parts.proofs.Skim.{tail}
use Rattle.decoder.proofs.Found.{found}
use Rattle.window.proofs.Fronts.{data_count}
use Rattle.schedule.specs.Going.{cut}
use Rattle.schedule.proofs.Cut.{ready_cut, past_cut}
use Rattle.reason_text.specs.ReasonText.{wider, by_words, no_window_words, short_window_words, window_words, reason_words}

-- ## The data bound

-- a reason's data bound is one of the edge's
pub bound_there : (l : Location) (at : Entry) (taken ready e : ℕ) (a : Arc) (j : ℕ) → reason_by l at taken ready e a ≡ DataBound j → j < length a.data_guards
bound_there l at taken ready e a j =
    go (eqb e taken) (data_holds a.data_guards at.values) refl (long_enough l a at.clocks) (ltb ready (at.tick + ready_of a.clock_guards at.clocks))
  where
    -- reasons apart
    number : Reason → ℕ
    number (DataBound i) = suc i
    number Taken = 0
    number NoWindow = 0
    number ReadyLater = 0
    number HigherNumber = 0

    go : (t d : Bool) → data_holds a.data_guards at.values ≡ d → (w s : Bool)
        → cond t Taken (cond (not d) (DataBound (first_failing a.data_guards at.values)) (cond (d && not w) NoWindow (cond s ReadyLater HigherNumber))) ≡ DataBound j
        → j < length a.data_guards
    go true d h w s q = absurd (omega (arith, ap number q))
    go false false h w s q = omega (arith, ap number q, fails_there a.data_guards at.values h)
    go false true h false s q = absurd (omega (arith, ap number q))
    go false true h true true q = absurd (omega (arith, ap number q))
    go false true h true false q = absurd (omega (arith, ap number q))

-- ## The window

-- With a tick's length it is the budget that an edge without a window misses: "its window length, end − ready", is below it.
pub budget_missed : (l : Location) (at : Entry) (taken ready e : ℕ) (a : Arc) → reason_by l at taken ready e a ≡ NoWindow
    → suc (ready_of a.clock_guards at.clocks) < past_of l a.clock_guards at.clocks
    → (b : ℕ) × (a.budget ≡ some b) × (pred (past_of l a.clock_guards at.clocks) - ready_of a.clock_guards at.clocks < b)
budget_missed l at taken ready e a q k =
    let r = ready_of a.clock_guards at.clocks in
    let p = past_of l a.clock_guards at.clocks in
    go r p k a.budget refl (eqb e taken) (data_holds a.data_guards at.values) (ltb (suc r) p) (lt-ltb (suc r) p k) (ltb ready (at.tick + r)) q
  where
    -- reasons apart
    number : Reason → ℕ
    number NoWindow = 1
    number (DataBound i) = 0
    number Taken = 0
    number ReadyLater = 0
    number HigherNumber = 0

    clash : false ≡ true → ⊥
    clash e = let z : ◌≡◌ {A = ℕ} 0 1 = cc in omega arith

    short : (r p b : ℕ) → suc r < p → (m : Bool) → ltb (r + b) p ≡ m → (s : Bool) → cond (not m) NoWindow (cond s ReadyLater HigherNumber) ≡ NoWindow → pred p - r < b
    short r p b k false e s q = omega (arith, ltb-false (r + b) p e)
    short r p b k true e true q = absurd (omega (arith, ap number q))
    short r p b k true e false q = absurd (omega (arith, ap number q))

    go : (r p : ℕ) → suc r < p → (o : Option ℕ) → a.budget ≡ o → (t d w : Bool) → w ≡ true → (s : Bool)
        → cond t Taken (cond (not d) (DataBound (first_failing a.data_guards at.values)) (cond (d && not (w && meets_budget o r p)) NoWindow (cond s ReadyLater HigherNumber))) ≡ NoWindow
        → (b : ℕ) × (a.budget ≡ some b) × (pred p - r < b)
    go r p k o z true d w h s q = absurd (omega (arith, ap number q))
    go r p k o z false false w h s q = absurd (omega (arith, ap number q))
    go r p k o z false true false h s q = absurd (clash h)
    go r p k none z false true true h true q = absurd (omega (arith, ap number q))
    go r p k none z false true true h false q = absurd (omega (arith, ap number q))
    go r p k (some b) z false true true h s q = (b, z, short r p b k (ltb (r + b) p) refl s q)

-- the words, by whether it has a tick's length
module _ (l : Location) (at : Entry) (a : Arc) {gs : List ClockGuard} (e : gs ≡ a.clock_guards) where
  pub short_words : {budget : ℕ} → suc (ready_of a.clock_guards at.clocks) < past_of l a.clock_guards at.clocks → budget ≡ or_else a.budget 0
      → short_window_words budget l at gs ≡ window_words l at a
  short_words k b = rw (e, b, lt-ltb (suc (ready_of a.clock_guards at.clocks)) (past_of l a.clock_guards at.clocks) k)

  pub no_words : past_of l a.clock_guards at.clocks ≤ suc (ready_of a.clock_guards at.clocks) → no_window_words l at gs ≡ window_words l at a
  no_words k = rw (e, le-ltb (suc (ready_of a.clock_guards at.clocks)) (past_of l a.clock_guards at.clocks) k)

-- where a data bound stands in the bytes of the edge
pub bound_at : (b : Bool) (h : List ℕ) (i at : ℕ) {g : DataGuard} → i < length (arc_at b h).data_guards → at ≡ arc_head_length b + (byte h 4 + i) * 5 → g ≡ data_guard_at (take (length h - at) (drop at h))
    → g ≡ get_or (arc_at b h).data_guards i no_bound
unfolding arc_at
bound_at b h i at k e q =
    let n : i < byte h 5 = omega (arith, k, data_count b h) in
    let z : arc_head_length b + byte h 4 * 5 + i * 5 ≡ arc_head_length b + (byte h 4 + i) * 5 = omega arith in
    found data_guard_at h at (arc_head_length b + (byte h 4 + i) * 5) e q
    ∙ sym (list_part data_guard_at 5 (byte h 5) (drop (arc_head_length b + byte h 4 * 5) h) no_bound i n ∙ ap data_guard_at (drop-drop (i * 5) (arc_head_length b + byte h 4 * 5) h) ∙ ap (λ k. data_guard_at (drop k h)) z)

-- the clock bounds of the edge at the front of bytes
pub clock-guards : (b : Bool) (h : List ℕ) (at : ℕ) → at ≡ arc_head_length b → list_at clock_guard_at 5 (byte h 4) (take (length h - at) (drop at h)) ≡ (arc_at b h).clock_guards
unfolding arc_at
clock-guards b h at e = ap (list_at clock_guard_at 5 (byte h 4)) (tail h at ∙ ap (λ k. drop k h) e)

-- ## What a component lacks

place_same : {A : Type 0} (p q : A → Bool) {xs : List A} → All (λ x. p x ≡ q x) xs → place_of p xs ≡ place_of q xs
place_same p q empty = refl
place_same p q (more {x = x} {xs = xs} h a) = rw (h, place_same p q a)

module _ (n : ℕ) (xs : List ℕ) (l : Location) (k : l.clock < n) (gs : List ClockGuard) (a : All (λ g. g.clock < n) gs) where
  wider_cut : (over : Bool) {hs : List ClockGuard} → All (λ g. g.clock < n) hs → wider over l gs (take n xs) hs ≡ wider over l gs xs hs
  wider_cut over b = rw (ready_cut n xs a, ready_cut n xs b, past_cut n xs l k a, past_cut n xs l k b)

  each_cut : (over : Bool) {hs : List ClockGuard} → All (λ g. g.clock < n) hs
      → All (λ g. not (wider over l gs (take n xs) (g ∷ [])) ≡ not (wider over l gs xs (g ∷ []))) hs
  each_cut over empty = empty
  each_cut over (more {x = g} h b) = more {x = g} (ap not (wider_cut over (more {x = g} h empty))) (each_cut over b)

  by_cut : (otherwise : List ℕ) (over : Bool) → by_words otherwise over l gs (take n xs) ≡ by_words otherwise over l gs xs
  by_cut otherwise over = rw (wider_cut over empty, place_same (λ g. not (wider over l gs (take n xs) (g ∷ []))) (λ g. not (wider over l gs xs (g ∷ []))) (each_cut over a))

module _ (C : Component) (l : Location) (at : Entry) (taken ready end : ℕ) (a : Arc) (k : l.clock < C.clocks) (g : All (λ g. g.clock < C.clocks) a.clock_guards)
    (d : All (λ g. g.variable < C.variables) a.data_guards) where
  pub words_cut : (r : Reason) → ((j : ℕ) → r ≡ DataBound j → j < length a.data_guards) → reason_words l at taken ready end a r ≡ reason_words l (cut C at) taken ready end a r
  words_cut Taken h = refl
  words_cut (DataBound j) h = rw (get_or-take C.variables at.values (get_or a.data_guards j no_bound).variable (pos 0) (all_at no_bound d j (h j refl)))
  words_cut NoWindow h =
      rw (by_cut C.clocks at.clocks l k a.clock_guards g [] false, by_cut C.clocks at.clocks l k a.clock_guards g _ true, ready_cut C.clocks at.clocks g, past_cut C.clocks at.clocks l k g)
  words_cut ReadyLater h = rw (ready_cut C.clocks at.clocks g)
  words_cut HigherNumber h = refl
