-- Reading the parts of a table, whatever the numbers handed in, bytes or not: what is read is in its limits, and as long as its bytes. Assumes nothing.
use mathlib.Core.Path.{◌≡◌, refl, ap, subst, subst₂}
use mathlib.Core.Bool.{Bool, true, false}
use mathlib.Core.Option.{Option}
use mathlib.Core.List.{List, [], ◌∷◌}
use Prim.Native.Nat.{ℕ, zero, suc, ◌+◌, ◌-◌, ◌≤◌}
use native.Mathlib.Omega.{arith}
use lib.ListN.{length, length-append, length-drop}
use Rattle.model.specs.declared.ClockGuard.{ClockGuard}
use Rattle.model.specs.declared.DataGuard.{DataGuard}
use Rattle.model.specs.declared.Sizes.{Sizes}
use Rattle.model.specs.Lists.{empty, more, each, be16}
use Rattle.model.specs.Table.{Arc}
use Rattle.model.specs.Bytes.{budget_bytes, location_bytes, clock_guard_bytes, data_guard_bytes, update_bytes, pair_bytes, item_bytes}
use Rattle.model.specs.Limits.{BudgetIn, LocationIn, ClockGuardIn, DataGuardIn, UpdateIn, PairIn, ActionIn}
use Rattle.model.specs.Limits.Distinct.{none as nil, more as cons}
use Rattle.model.specs.Reader.{budget_fine, read_budget, byte, word, Parsed, ok, ◌then◌, part, many, location_fine, location_at, read_location, clock_guard_fine, clock_guard_at, read_clock_guard, data_guard_fine, data_guard_at, read_data_guard, update_fine, update_at, read_update, channel_fine, read_channel, pair_fine, pair_at, read_pair, listed, read_pairs, Items, read_items, counts_fine, arc_with}
use Rattle.model.proofs.Basics.Bools.{tests}
use Rattle.model.proofs.Basics.Words.{complement_in}
use Rattle.model.proofs.Reader.Parts.{then_ok, cond_not_ok, ok_same, part_ok, Counted}
use Rattle.model.proofs.Reader.Items.{fresh_less, PairsIn}

-- ## Parts

-- what a reading says without its bytes: the value is in its limits, and its bytes and the rest are as long as what was read
pub record Holds {A : Type 0} (In : A → Type 0) (f : A → List ℕ) (bs : List ℕ) (x : A) (r : List ℕ) : Type 0 where
  pub within : In x
  pub long : length bs ≡ length (f x) + length r

-- the same, of an equal value and an equal rest
pub holds_is : {A : Type 0} {In : A → Type 0} {f : A → List ℕ} {bs : List ℕ} {x y : A} {q r : List ℕ} → x ≡ y → q ≡ r → Holds In f bs x q → Holds In f bs y r
holds_is {In = In} {f = f} {bs = bs} d e h = subst₂ (Holds In f bs) d e h

-- every reading of a kind says so
abbrev pub Tells : {A : Type 0} → (List ℕ → Parsed A) → (A → Type 0) → (A → List ℕ) → Type 0
Tells p In f = (bs : List ℕ) (x : _) (r : List ℕ) → p bs ≡ ok x r → Holds In f bs x r

-- a part of n bytes
part_tells : {A : Type 0} (n : ℕ) (fine : List ℕ → Bool) (value : List ℕ → A) (In : A → Type 0) (f : A → List ℕ) → ((x : A) → length (f x) ≡ n)
    → ((bs : List ℕ) → fine bs ≡ true → In (value bs)) → Tells (part n fine value) In f
part_tells n fine value In f sized got bs x r e =
    let h = part_ok n fine value bs e in
    record {
      within = subst In h.says (got bs h.passes);
      long = omega (arith, h.fits, sized x, length-drop n bs, ap length h.leaves);
    }

-- the budget of an edge, where edges have one
pub budget_tells : (b : Bool) → Tells (read_budget b) (BudgetIn b) budget_bytes
budget_tells false bs x r e = let z = ok_same e in holds_is z.0 z.1 (record { within = tt; long = omega arith })
budget_tells true bs x r e =
    let t = then_ok (part 2 budget_fine (λ r. word r 0) bs) _ e in
    let z = ok_same t.3 in
    let h = part_tells 2 budget_fine (λ r. word r 0) (λ b. b ≤ 60000) (λ b. be16 b) (λ b. refl) (λ l f. simp tests at f) bs t.0 t.1 t.2 in
    holds_is z.0 z.1 (record { within = h.within; long = h.long })

-- one more part
pub more_long : {A : Type 0} (f : A → List ℕ) (x : A) (xs : List A) → length (each f (x ∷ xs)) ≡ length (f x) + length (each f xs)
unfolding each
more_long f x xs = length-append (f x) (each f xs)

-- n parts of one kind
pub many_tells : {A : Type 0} (p : List ℕ → Parsed A) (In : A → Type 0) (f : A → List ℕ) → Tells p In f → (n : ℕ) → Tells (many p n) (Counted In n) (each f)
unfolding many each
many_tells p In f k zero bs xs r e =
    let q = ok_same e in
    holds_is q.0 q.1 (record { within = (refl, empty); long = omega arith })
many_tells p In f k (suc n) bs xs r e =
    let t = then_ok (p bs) _ e in
    let u = k bs t.0 t.1 t.2 in
    let v = then_ok (many p n t.1) _ t.3 in
    let w = many_tells p In f k n t.1 v.0 v.1 v.2 in
    let q = ok_same v.3 in
    holds_is q.0 q.1
    (record { within = (ap suc w.within.0, more u.within w.within.1); long = omega (arith, u.long, w.long, more_long f t.0 v.0) })

-- ## The kinds of parts

module _ (s : Sizes) where
  -- a location
  pub location_tells : Tells (read_location s) (LocationIn s) location_bytes
  location_tells = part_tells 3 (location_fine s) location_at (LocationIn s) location_bytes (λ l. refl) (λ bs e. let h = simp tests at e in record { clock = h.0; bound = h.1 })

  -- a clock bound
  pub clock_guard_tells : Tells (read_clock_guard s) (ClockGuardIn s) clock_guard_bytes
  clock_guard_tells =
      part_tells 5 (clock_guard_fine s) clock_guard_at (ClockGuardIn s) clock_guard_bytes (λ g. refl) (λ bs e. let h = simp tests at e in record { clock = h.0.0; low = h.0.1; high = h.1 })

  -- a data bound
  pub data_guard_tells : Tells (read_data_guard s) (DataGuardIn s) data_guard_bytes
  data_guard_tells =
      part_tells 5 (data_guard_fine s) data_guard_at (DataGuardIn s) data_guard_bytes (λ g. refl)
      (λ bs e. record { variable = simp tests at e; low = complement_in (word bs 1); high = complement_in (word bs 3) })

  -- an update
  update_tells : Tells (read_update s) (UpdateIn s) update_bytes
  update_tells = part_tells 4 (update_fine s) update_at (UpdateIn s) update_bytes (λ u. refl) (λ bs e. let h = simp tests at e in record { variable = h.0; number = complement_in (word bs 2) })

  -- the channel of a send edge
  channel_tells : Tells (read_channel s) (λ k. suc k ≤ s.channels) (λ k. k ∷ [])
  channel_tells = part_tells 1 (channel_fine s) (λ bs. byte bs 0) (λ k. suc k ≤ s.channels) (λ k. k ∷ []) (λ k. refl) (λ bs e. simp tests at e)

  -- a pair
  pair_tells : Tells (read_pair s) (PairIn s) pair_bytes
  pair_tells = part_tells 2 (pair_fine s) pair_at (PairIn s) pair_bytes (λ q. refl) (λ bs e. let h = simp tests at e in record { channel = h.0; location = h.1 })

-- ## Items

-- the pairs of a receive edge
pairs_tell : (s : Sizes) (n : ℕ) (seen : List ℕ) → Tells (read_pairs s n seen) (PairsIn s n seen) (each pair_bytes)
unfolding read_pairs each
pairs_tell s zero seen bs ps r e =
    let q = ok_same e in
    holds_is q.0 q.1 (record { within = record { count = refl; pairs = empty; distinct = nil; fresh = empty }; long = omega arith })
pairs_tell s (suc n) seen bs ps r e =
    let t = then_ok (read_pair s bs) _ e in
    let q = t.0 in
    let h = pair_tells s bs q t.1 t.2 in
    let u = cond_not_ok (listed q.channel seen) (read_pairs s n (q.channel ∷ seen) t.1 then λ l m. ok (q ∷ l) m) 6 t.3 in
    let v = then_ok (read_pairs s n (q.channel ∷ seen) t.1) (λ l m. ok (q ∷ l) m) u.1 in
    let w = pairs_tell s n (q.channel ∷ seen) t.1 v.0 v.1 v.2 in
    let f = fresh_less q.channel seen w.within.fresh in
    let z = ok_same v.3 in
    holds_is z.0 z.1
    (record {
      within =
          record {
            count = ap suc w.within.count;
            pairs = more h.within w.within.pairs;
            distinct = cons f.0 w.within.distinct;
            fresh = more u.0 f.1;
          };
      long = omega (arith, h.long, w.long, more_long pair_bytes q v.0);
    })

-- the items of an arc are in its limits, and their bytes and the rest are as long as what was read
pub record ItemsTold (s : Sizes) (bs : List ℕ) (a : Arc) (r : List ℕ) : Type 0 where
  pub within : ActionIn s a a.edge.action
  pub long : length bs ≡ length (item_bytes a a.edge.action) + length r

-- the items read are those of the arc made of them
pub items_tell : (s : Sizes) (h : List ℕ) (o : Option ℕ) (cs : List ClockGuard) (ds : List DataGuard) (k n : ℕ) (bs : List ℕ) (i : Items) (r : List ℕ) → counts_fine k (length ds) n ≡ true
    → read_items s k n bs ≡ ok i r → ItemsTold s bs (arc_with h o cs ds i) r
unfolding read_items item_bytes
items_tell s h o cs ds zero n bs i r c e =
    let t = then_ok (many (read_update s) n bs) _ e in
    let u = many_tells (read_update s) (UpdateIn s) update_bytes (update_tells s) n bs t.0 t.1 t.2 in
    let f = simp tests at c in
    let z = ok_same t.3 in
    subst₂ (λ j q. ItemsTold s bs (arc_with h o cs ds j) q) z.0 z.1
    (record { within = record { guards = f.0; count = omega (arith, u.within.0, f.1); updates = u.within.1; pairs = refl }; long = u.long })
items_tell s h o cs ds (suc zero) n bs i r c e =
    let t = then_ok (read_channel s bs) _ e in
    let u = channel_tells s bs t.0 t.1 t.2 in
    let f = simp tests at c in
    let z = ok_same t.3 in
    subst₂ (λ j q. ItemsTold s bs (arc_with h o cs ds j) q) z.0 z.1
    (record { within = record { guards = f.0; channel = u.within; updates = refl; pairs = refl }; long = u.long })
items_tell s h o cs ds (suc (suc k)) n bs i r c e =
    let t = then_ok (read_pairs s n [] bs) _ e in
    let u = pairs_tell s n [] bs t.0 t.1 t.2 in
    let f = simp tests at c in
    let z = ok_same t.3 in
    subst₂ (λ j q. ItemsTold s bs (arc_with h o cs ds j) q) z.0 z.1
    (record {
      within =
          record {
            guards = none_left ds f.0.0;
            least = omega (arith, u.within.count, f.0.1);
            most = omega (arith, u.within.count, f.1);
            pairs = u.within.pairs;
            distinct = u.within.distinct;
            updates = refl;
          };
      long = u.long;
    })
  where
    none_left : (l : List DataGuard) → length l ≡ 0 → l ≡ []
    none_left [] e = refl
    none_left (x ∷ xs) e = absurd (omega arith)
