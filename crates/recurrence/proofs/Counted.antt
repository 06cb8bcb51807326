-- A longer schedule begins with a shorter one; so its pair is a pair there, and the number of its passages is found by division. Assumes nothing.
use mathlib.Core.Path.{◌≡◌, refl, sym, ap, ap₂, subst, ◌∙◌}
use mathlib.Core.Bool.{Bool, true}
use mathlib.Core.List.{List, map}
use mathlib.Core.Logic.{inl, inr}
use Prim.Native.Nat.{ℕ, zero, suc, ◌+◌, ◌-◌, ◌*◌, ◌≤◌, ◌<◌}
use native.Mathlib.Omega.{arith}
use borrow.Author.Tests.{ltb-true, lt-ltb, eq-eqb}
use lib.Dec.{ltb, eqb}
use lib.ListN.{length, length-map}
use Rattle.model.specs.Lists.{◌∈◌, only, All}
use Rattle.model.specs.Table.{Table, size}
use Rattle.model.specs.Window.{Entry}
use Rattle.model.specs.Schedule.{Passage, own, message_in}
use Rattle.model.specs.Chains.{IsSchedule}
use Rattle.model.proofs.Basics.Members.{only_is}
use Rattle.model.proofs.Checks.Independence.{only_map}
use Rattle.model.proofs.Schedule.Own.{own_in, all_in, in_all}
use Rattle.model.proofs.Schedule.Messages.{put}
use Rattle.model.proofs.Schedule.Passages.{entered}
use Rattle.recurrence.specs.Recurrence.{timeless, EntersAt, Recurs}
use Rattle.recurrence.proofs.Seam.{enters_before}
use Rattle.recurrence.proofs.Apart.{in_map}
use Rattle.recurrence.proofs.Cut.{cut_schedule}
use Rattle.recurrence.proofs.Every.{again_of, all_left}
use Rattle.recurrence.proofs.Count.{same_schedule, only_under, entered_before, count_step}

-- ## A longer schedule begins with a shorter one

module _ {l m : ℕ} (T : Table) (h H : ℕ) {S L : List Passage} (short : IsSchedule l T h S) (long : IsSchedule m T H L) (less : h ≤ H) (least : 0 < h) where
  abbrev W : List Passage
  W = only (enters_before h) L

  pub begins_so : map (put (message_in T h W)) W ≡ S
  begins_so = same_schedule T h (cut_schedule m T H L long h less least) short

  pub entered_same : (y : ℕ) → y ≤ h → entered_before S y ≡ entered_before L y
  entered_same y k =
      ap (λ (vs : List Passage). entered_before vs y) (sym begins_so)
      ∙ ap length (only_map (put (message_in T h W)) (enters_before y) W)
      ∙ length-map (only (enters_before y) W) (put (message_in T h W))
      ∙ ap length (only_under (enters_before y) (enters_before h) (λ v e. lt-ltb v.entry.tick h (omega (arith, ltb-true v.entry.tick y e))) L)

  -- who enters there enters here
  pub enters_up : (c x : ℕ) (st : Entry) → EntersAt S c x st → EntersAt L c x st
  enters_up c x st e =
      let i = own_in c S e.listed in
      let r = in_map (put (message_in T h W)) W (subst (λ (vs : List Passage). e.passage ∈ vs) (sym begins_so) i.0) in
      let y = r.0 in
      let same : e.passage.entry ≡ y.entry = ap (λ (v : Passage). v.entry) r.2 in
      record {
        passage = y;
        listed = (only_is (λ (v : Passage). eqb v.component c) L).1 (((only_is (enters_before h) L).0 r.1).0, eq-eqb y.component c (sym (ap (λ (v : Passage). v.component) r.2) ∙ i.1));
        tick = ap (λ (n : Entry). n.tick) (sym same) ∙ e.tick;
        state = ap timeless (sym same) ∙ e.state;
      }

  pub recurs_up : (a b : ℕ) → Recurs T h S a b → Recurs T H L a b
  recurs_up a b r =
      record {
        before = r.before;
        below = omega (arith, r.below);
        enters = λ c i. (let k = r.enters c i in (k.0, enters_up c a k.0 k.1, enters_up c b k.0 k.2));
      }

-- ## All passages are entered before the horizon

pub all_before : {m : ℕ} (T : Table) (H : ℕ) (S : List Passage) → 0 < H → IsSchedule m T H S → entered_before S H ≡ length S
all_before T H S l s =
    all_left (enters_before H) (in_all S (λ v i. lt-ltb v.entry.tick H (elim (all_in (entered s) i).tick [ inl z ↦ omega arith | inr z ↦ z ])))

-- ## By division

module _ {m : ℕ} (T : Table) (H : ℕ) (S : List Passage) (s : IsSchedule m T H S) (a P : ℕ) (longer : 0 < P) (r : Recurs T H S a (a + P)) where
  -- q periods later
  pub count_periods : (q x : ℕ) → a ≤ x → x + q * P ≤ H → entered_before S (x + q * P) + q * entered_before S a ≡ entered_before S x + q * entered_before S (a + P)
  count_periods zero x l h = omega (arith, ap (entered_before S) (let z : x + 0 * P ≡ x = omega arith in z))
  count_periods (suc q) x l h =
      let e : x + suc q * P ≡ x + q * P + P = omega arith in
      omega (
        arith,
        ap (entered_before S) e,
        count_step m T H S s a P r.below longer (again_of T H S a P r) (x + q * P) (omega arith) (omega (arith, e)),
        count_periods q x l (omega (arith, e)),
      )

-- 13: "check 13 counts that horizon's passages": those of the horizon a + r + q × P, for a table with a pair a and a + P below its own horizon h
pub counted : {l m : ℕ} (T : Table) (h H : ℕ) {S L : List Passage} → IsSchedule l T h S → IsSchedule m T H L → h ≤ H → (a P : ℕ) → 0 < P → Recurs T h S a (a + P)
    → (q r : ℕ) → r < P → H ≡ a + r + q * P
    → length L + q * entered_before S a ≡ entered_before S (a + r) + q * entered_before S (a + P)
counted T h H {S} {L} s t less a P longer p q r small e =
    let least : 0 < h = omega (arith, p.below) in
    let x = entered_same T h H s t less least (a + r) (omega (arith, p.below)) in
    let y = entered_same T h H s t less least a (omega (arith, p.below)) in
    let z = entered_same T h H s t less least (a + P) (omega (arith, p.below)) in
    let k = count_periods T H L t a P longer (recurs_up T h H s t less least a (a + P) p) q (a + r) (omega arith) (omega arith) in
    let n = all_before T H L (omega arith) t in
    ap₂ (λ (u v : ℕ). u + q * v) (sym n ∙ ap (entered_before L) e) y ∙ k ∙ ap₂ (λ (u v : ℕ). u + q * v) (sym x) (sym z)
