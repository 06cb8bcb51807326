-- The longest round from a pair's first tick on. Assumes nothing.
use mathlib.Core.Path.{◌≡◌, refl, sym, ap, subst, ◌∙◌}
use mathlib.Core.List.{List}
use Rattle.std.specs.Prelude.{Some}
use Prim.Native.Nat.{ℕ, zero, suc, ◌+◌, ◌-◌, ◌*◌, ◌/◌, ◌%◌, ◌≤◌, ◌<◌}
use native.Mathlib.Omega.{arith}
use native.Mathlib.Nat.{mod-lt, div-add-mod'}
use Rattle.model.specs.Table.{Table}
use Rattle.model.specs.Places.{read_of}
use Rattle.model.specs.Schedule.{Passage}
use Rattle.model.specs.Checks.{limit}
use Rattle.model.specs.Chains.{IsSchedule}
use Rattle.schedule.specs.Filled.{AcceptedRows}
use Rattle.recurrence.specs.declared.Pair.{Pair}
use Rattle.recurrence.specs.Recurrence.{Recurs, recurrence}
use Rattle.recurrence.proofs.Every.{again_of}
use Rattle.recurrence.proofs.Count.{entered_before, forth}
use Rattle.period.specs.declared.counting.Round.{Round}
use Rattle.period.specs.Walking.{schedule_in}
use Rattle.period.specs.Searching.{PairIs}
use Rattle.period.specs.Rounds.{RoundOf}
use Rattle.period.proofs.Walks.{law}
use Rattle.period.proofs.Divided.{pair_recurs}

-- what comes again comes again k periods later, while that lies below the horizon
pub turns_on : (m : ℕ) (T : Table) (H : ℕ) (S : List Passage) → IsSchedule m T H S → (a P : ℕ) → 0 < P → Recurs T H S a (a + P)
    → (k : ℕ) → a + suc k * P < H → Recurs T H S a (a + suc k * P)
turns_on m T H S s a P longer r zero h = let z : a + P ≡ a + 1 * P = omega arith in subst (Recurs T H S a) z r
turns_on m T H S s a P longer r (suc k) h =
    let z : a + suc k * P + P ≡ a + suc (suc k) * P = omega arith in
    let q = turns_on m T H S s a P longer r k (omega (arith, z)) in
    let on = forth m T H S s a P r.below longer (again_of T H S a P r) in
    subst (Recurs T H S a) z
    (record {
      before = omega (arith, q.before);
      below = omega (arith, z);
      enters = λ c i. (let e = q.enters c i in (e.0, e.1, on (a + suc k * P) c e.0 (omega (arith, q.before)) (omega (arith, z)) e.2));
    })

-- as many as that are at least one
some_turn : (k P r n : ℕ) → n ≡ k * P + r → r < P → P ≤ n → (m : ℕ) × (k ≡ suc m)
some_turn zero P r n e l h = absurd (omega arith)
some_turn (suc k) P r n e l h = (k, refl)

-- the most of them that lie below the horizon: twice that reaches it
pub most_turns : (a b H : ℕ) → a < b → b < H
    → (a + (H - 1 - a) / (b - a) * (b - a) < H) × (H ≤ a + (H - 1 - a) / (b - a) * (b - a) + (H - 1 - a) / (b - a) * (b - a)) × ((m : ℕ) × ((H - 1 - a) / (b - a) ≡ suc m))
most_turns a b H h k =
    let P = b - a in
    let m = mod-lt (H - 1 - a) {m = P} (omega arith) in
    let d = div-add-mod' (H - 1 - a) P in
    let some = some_turn ((H - 1 - a) / P) P ((H - 1 - a) % P) (H - 1 - a) (omega (arith, d)) m (omega arith) in
    let least : (H - 1 - a) / P * P ≡ some.0 * P + P = ap (λ (x : ℕ). x * P) some.1 ∙ (let z : suc some.0 * P ≡ some.0 * P + P = omega arith in z) in
    (omega (arith, d), omega (arith, m, d, least), some)

module _ (bs l : List ℕ) (n : ℕ) (laid : AcceptedRows bs l n) (pair : Pair) (is : PairIs (recurrence (read_of bs).table (read_of bs).horizon (schedule_in bs)) (Some pair))
    (own : ℕ) (its : own ≡ (read_of bs).horizon) where
  abbrev P : ℕ
  P = pair.to - pair.from

  -- the ticks of the round
  abbrev long : ℕ
  long = (own - 1 - pair.from) / P * P

  pub pair_ordered : (pair.from < pair.to) × (pair.to < own)
  pair_ordered = let r = pair_recurs bs l n laid pair is in (r.before, omega (arith, r.below, its))

  pub round_is : (r : Round) → r.period ≡ long → r.until ≡ pair.from + long → r.first ≡ entered_before (schedule_in bs) pair.from
      → r.second ≡ entered_before (schedule_in bs) (pair.from + long) → RoundOf bs r
  round_is r p u f s =
      let S = schedule_in bs in
      let o = pair_ordered in
      let t = most_turns pair.from pair.to own o.0 o.1 in
      let z : pair.to ≡ pair.from + P = omega (arith, o.0) in
      let one = subst (Recurs (read_of bs).table (read_of bs).horizon S pair.from) z (pair_recurs bs l n laid pair is) in
      let times : suc t.2.0 * P ≡ long = ap (λ (x : ℕ). x * P) (sym t.2.1) in
      let again = turns_on limit (read_of bs).table (read_of bs).horizon S (law bs l n laid) pair.from P (omega (arith, o.0)) one t.2.0 (omega (arith, times, t.0, its)) in
      let whole : Recurs (read_of bs).table (read_of bs).horizon S pair.from (pair.from + r.period) =
      subst (λ (x : ℕ). Recurs (read_of bs).table (read_of bs).horizon S pair.from (pair.from + x)) (times ∙ sym p) again in
      record {
        from = pair.from;
        longer = omega (arith, whole.before);
        until = u ∙ ap (λ (x : ℕ). pair.from + x) (sym p);
        recurs = whole;
        final = omega (arith, t.1, its, p);
        first = f;
        second = s ∙ ap (λ (x : ℕ). entered_before S (pair.from + x)) (sym p);
      }
