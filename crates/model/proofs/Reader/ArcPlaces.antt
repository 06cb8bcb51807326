-- An edge with its lists: what stands in its bytes is the edge, and it is as long as its counts say. Assumes nothing.
use mathlib.Core.Path.{◌≡◌, refl, sym, ap, ◌∙◌}
use mathlib.Core.Bool.{Bool, true, false}
use mathlib.Core.Option.{Option, none, some}
use mathlib.Core.List.{List, ◌++◌, append_assoc}
use Prim.Native.Nat.{ℕ, ◌+◌, ◌*◌}
use native.Mathlib.Omega.{arith}
use lib.ListN.{length, drop, length-append}
use lib.Seq.{drop_at, drop-drop}
use Rattle.model.specs.declared.Action.{Action}
use Rattle.model.specs.declared.Action.TheVariants.{Internal, Send, Receive}
use Rattle.model.specs.declared.ClockGuard.{ClockGuard}
use Rattle.model.specs.declared.DataGuard.{DataGuard}
use Rattle.model.specs.declared.Update.{Update}
use Rattle.model.specs.declared.Pair.{Pair}
use Rattle.model.specs.declared.Sizes.{Sizes}
use Rattle.model.specs.Lists.{each}
use Rattle.model.specs.Table.{Arc}
use Rattle.model.specs.Bytes.{budget_bytes, arc_head, clock_guard_bytes, data_guard_bytes, update_bytes, pair_bytes, kind_of, item_count, item_bytes, arc_bytes}
use Rattle.model.specs.Limits.{BudgetIn, ClockGuardIn, DataGuardIn, UpdateIn, PairIn, ActionIn, ArcIn}
use Rattle.model.specs.Reader.{byte, clock_guard_fine, clock_guard_at, data_guard_fine, data_guard_at, update_fine, update_at, pair_fine, pair_at}
use Rattle.model.specs.Places.{arc_head_length, budget_at, list_at, items_length, items_place, arc_length, action_at, updates_at, pairs_at, arc_at}
use Rattle.model.proofs.Reader.Parts.{part_ok}
use Rattle.model.proofs.Reader.Fixed.{clock_guard_agrees, data_guard_agrees, update_agrees, pair_agrees}
use Rattle.model.proofs.Basics.Words.{word_back}
use Rattle.model.proofs.Basics.Walk.{first_drop, each_length, list_back}

-- ## The parts of an edge

module _ (s : Sizes) where
  -- a clock bound written stands there
  clock_guard_back : (g : ClockGuard) (r : List ℕ) → ClockGuardIn s g → clock_guard_at (clock_guard_bytes g ++ r) ≡ g
  clock_guard_back g r h = (part_ok 5 (clock_guard_fine s) clock_guard_at (clock_guard_bytes g ++ r) ((clock_guard_agrees s).reads g r h)).says

  -- a data bound written stands there
  data_guard_back : (g : DataGuard) (r : List ℕ) → DataGuardIn s g → data_guard_at (data_guard_bytes g ++ r) ≡ g
  data_guard_back g r h = (part_ok 5 (data_guard_fine s) data_guard_at (data_guard_bytes g ++ r) ((data_guard_agrees s).reads g r h)).says

  -- an update written stands there
  update_back : (u : Update) (r : List ℕ) → UpdateIn s u → update_at (update_bytes u ++ r) ≡ u
  update_back u r h = (part_ok 4 (update_fine s) update_at (update_bytes u ++ r) ((update_agrees s).reads u r h)).says

  -- a pair written stands there
  pair_back : (q : Pair) (r : List ℕ) → PairIn s q → pair_at (pair_bytes q ++ r) ≡ q
  pair_back q r h = (part_ok 2 (pair_fine s) pair_at (pair_bytes q ++ r) ((pair_agrees s).reads q r h)).says

  -- ## The items

  -- the updates of an edge stand where its items do
  updates_back : (a : Arc) (act : Action) (r : List ℕ) → ActionIn s a act → updates_at (kind_of act) (item_count a act) (item_bytes a act ++ r) ≡ a.updates
  unfolding updates_at item_bytes
  updates_back a Internal r h = list_back update_bytes 4 (λ u. refl) update_at (UpdateIn s) update_back h.updates r
  updates_back a (Send k) r h = sym h.updates
  updates_back a Receive r h = sym h.updates

  -- the pairs of an edge stand where its items do
  pairs_back : (a : Arc) (act : Action) (r : List ℕ) → ActionIn s a act → pairs_at (kind_of act) (item_count a act) (item_bytes a act ++ r) ≡ a.pairs
  unfolding pairs_at item_bytes
  pairs_back a Internal r h = sym h.pairs
  pairs_back a (Send k) r h = sym h.pairs
  pairs_back a Receive r h = list_back pair_bytes 2 (λ q. refl) pair_at (PairIn s) pair_back h.pairs r

-- the kind, and the first byte of the items, tell the action
action_back : (a : Arc) (act : Action) (r : List ℕ) → action_at (kind_of act) (byte (item_bytes a act ++ r) 0) ≡ act
unfolding item_bytes
action_back a Internal r = refl
action_back a (Send k) r = refl
action_back a Receive r = refl

-- the items are as long as their count says
items-length : (a : Arc) (act : Action) → items_length (kind_of act) (item_count a act) ≡ length (item_bytes a act)
unfolding item_bytes
items-length a Internal = sym (each_length update_bytes 4 (λ u. refl) a.updates)
items-length a (Send k) = refl
items-length a Receive = sym (each_length pair_bytes 2 (λ q. refl) a.pairs)

-- ## The edge

-- edges of the same parts
arc_same : (source destination mask : ℕ) {x y : Action} {o o' : Option ℕ} {cs cs' : List ClockGuard} {ds ds' : List DataGuard} {us us' : List Update} {ps ps' : List Pair}
    → x ≡ y → o ≡ o' → cs ≡ cs' → ds ≡ ds' → us ≡ us' → ps ≡ ps'
    → ◌≡◌ {A = Arc}
    (record { edge = record { source = source; destination = destination; mask = mask; action = x }; budget = o; clock_guards = cs; data_guards = ds; updates = us; pairs = ps })
    (record { edge = record { source = source; destination = destination; mask = mask; action = y }; budget = o'; clock_guards = cs'; data_guards = ds'; updates = us'; pairs = ps' })
arc_same source destination mask p w q r t u = rw (p, w, q, r, t, u)

-- the clock bounds have five bytes each
clocks_length : (a : Arc) → length (each clock_guard_bytes a.clock_guards) ≡ length a.clock_guards * 5
clocks_length a = each_length clock_guard_bytes 5 (λ g. refl) a.clock_guards

-- the data bounds have five bytes each
datas_length : (a : Arc) → length (each data_guard_bytes a.data_guards) ≡ length a.data_guards * 5
datas_length a = each_length data_guard_bytes 5 (λ g. refl) a.data_guards

-- whether an edge has a budget
abbrev pub has_budget : Option ℕ → Bool
has_budget none = false
has_budget (some b) = true

-- 7 bytes, and the budget's
pub head_long : (o : Option ℕ) → arc_head_length (has_budget o) ≡ 7 + length (budget_bytes o)
head_long none = refl
head_long (some b) = refl

-- where edges have a budget, this one has
pub has-budget : (b : Bool) (o : Option ℕ) → BudgetIn b o → has_budget o ≡ b
has-budget true none h = absurd h
has-budget true (some n) h = refl
has-budget false none h = refl
has-budget false (some n) h = absurd h

module _ (a : Arc) (r : List ℕ) where
  abbrev b : Bool
  b = has_budget a.budget

  -- from the clock bounds on
  clocks_there : drop (arc_head_length b) (arc_bytes a ++ r)
      ≡ each clock_guard_bytes a.clock_guards ++ (each data_guard_bytes a.data_guards ++ (item_bytes a a.edge.action ++ r))
  unfolding arc_bytes
  clocks_there = simp append_assoc (go a.budget)
    where
      R : List ℕ
      R = each clock_guard_bytes a.clock_guards ++ (each data_guard_bytes a.data_guards ++ (item_bytes a a.edge.action ++ r))

      go : (o : Option ℕ) → drop (arc_head_length (has_budget o)) (arc_head a ++ (budget_bytes o ++ R)) ≡ R
      go none = refl
      go (some n) = refl

  -- from the data bounds on
  datas_there : drop (arc_head_length b + length a.clock_guards * 5) (arc_bytes a ++ r) ≡ each data_guard_bytes a.data_guards ++ (item_bytes a a.edge.action ++ r)
  datas_there =
      let n = length a.clock_guards * 5 in
      sym (drop-drop n (arc_head_length b) (arc_bytes a ++ r)) ∙ ap (drop n) clocks_there ∙ drop_at (each clock_guard_bytes a.clock_guards) _ n (clocks_length a)

  -- from the items on
  items_there : drop (arc_head_length b + (length a.clock_guards + length a.data_guards) * 5) (arc_bytes a ++ r) ≡ item_bytes a a.edge.action ++ r
  items_there =
      let n = length a.clock_guards * 5 in
      let m = length a.data_guards * 5 in
      let e : arc_head_length b + (length a.clock_guards + length a.data_guards) * 5 ≡ arc_head_length b + n + m = omega arith in
      ap (λ k. drop k (arc_bytes a ++ r)) e ∙ sym (drop-drop m (arc_head_length b + n) (arc_bytes a ++ r)) ∙ ap (drop m) datas_there
      ∙ drop_at (each data_guard_bytes a.data_guards) _ m (datas_length a)

  -- an edge is as long as its counts say
  pub arc-length : arc_length b (arc_bytes a ++ r) ≡ length (arc_bytes a)
  unfolding arc_bytes
  arc-length =
      let C = each clock_guard_bytes a.clock_guards in
      let D = each data_guard_bytes a.data_guards in
      let I = item_bytes a a.edge.action in
      let B = budget_bytes a.budget in
      omega (arith, head_long a.budget, clocks_length a, datas_length a, items-length a a.edge.action, length-append (B ++ C ++ D) I, length-append (B ++ C) D, length-append B C)

  -- the budget stands behind the 7 bytes
  budget_back : budget_at b (arc_bytes a ++ r) ≡ a.budget
  unfolding arc_bytes
  budget_back = simp append_assoc (go a.budget)
    where
      R : List ℕ
      R = each clock_guard_bytes a.clock_guards ++ (each data_guard_bytes a.data_guards ++ (item_bytes a a.edge.action ++ r))

      go : (o : Option ℕ) → budget_at (has_budget o) (arc_head a ++ (budget_bytes o ++ R)) ≡ o
      go none = refl
      go (some n) = ap some (word_back n)

  -- an edge written stands there
  pub arc_back : (s : Sizes) → ArcIn s a → arc_at b (arc_bytes a ++ r) ≡ a
  unfolding arc_at arc_bytes
  arc_back s h =
      let act = a.edge.action in
      let I = item_bytes a act ++ r in
      let D = each data_guard_bytes a.data_guards ++ I in
      let bs = arc_bytes a ++ r in
      arc_same a.edge.source a.edge.destination a.edge.mask
      (ap (action_at (kind_of act)) (first_drop bs (items_place b bs) ∙ ap (λ l. byte l 0) items_there) ∙ action_back a act r)
      budget_back
      (ap (list_at clock_guard_at 5 (length a.clock_guards)) clocks_there
      ∙ list_back clock_guard_bytes 5 (λ g. refl) clock_guard_at (ClockGuardIn s) (clock_guard_back s) h.clock_guards D)
      (ap (list_at data_guard_at 5 (length a.data_guards)) datas_there
      ∙ list_back data_guard_bytes 5 (λ g. refl) data_guard_at (DataGuardIn s) (data_guard_back s) h.data_guards I)
      (ap (updates_at (kind_of act) (item_count a act)) items_there ∙ updates_back s a act r h.action)
      (ap (pairs_at (kind_of act) (item_count a act)) items_there ∙ pairs_back s a act r h.action)
