-- What the steps of a receive edge's messages share, kept in a buffer: what is written there stands there, and stays while others are written
-- behind it. Assumes nothing.
use mathlib.Core.Path.{◌≡◌, refl, sym, ap, subst, ◌∙◌}
use mathlib.Core.Bool.{Bool, true, false}
use mathlib.Core.List.{List, [], ◌∷◌, ◌++◌, map, append_assoc}
use Prim.Native.Nat.{ℕ, zero, suc, ◌+◌, ◌-◌, ◌*◌, ◌≤◌, ◌<◌}
use native.Mathlib.Omega.{arith}
use borrow.Author.Tests.{ltb-true, ltb-false}
use lib.Dec.{ltb}
use lib.ListN.{length, get_or, set, take, drop}
use lib.Seq.{sets, sets-eq, take_at, drop_at, take-set-le, length-take-le, get_or-set_same, get_or-set_other}
use Rattle.model.specs.declared.Location.{Location}
use Rattle.model.specs.Lists.{each, from}
use Rattle.model.specs.Table.{Arc}
use Rattle.model.specs.Reader.{byte}
use Rattle.model.specs.Places.{arc_at}
use Rattle.model.specs.Window.{leads_to}
use Rattle.blocks.specs.Put.{Put}
use Rattle.blocks.proofs.Runs.{put_long}
use Rattle.words.specs.Words.{ascii}
use Rattle.window.specs.Views.{message_of}
use Rattle.uppaal.specs.XtaText.{sync_text, guard_text}
use Rattle.uppaal.specs.Export.{highs, uppers_from, others, entries, step_in_with}
use Rattle.uppaal_parts.specs.Marks.{marked}
use Rattle.uppaal_steps.specs.declared.Origin.{Origin}
use Rattle.uppaal_steps.specs.Steps.{arrow_in, arrow_out, sync_made, step_text, step_told, outcome_told}
use Rattle.uppaal_steps.specs.Shared.{tail_out, Stands, Kept}
use Rattle.uppaal_steps.proofs.Stepping.{step_in_told, step_out_told, with-message, transitions_told}

-- ## What stands in a list

-- what was written stands there
pub written : {o p x : List ℕ} {at n : ℕ} → Put o at x n p → n ≤ at + 610 → n ≤ length o → Stands p at n x
written {o} {p} {x} {at} {n} h s k =
    let long : at + length x ≤ length o = omega (arith, h.next, k) in
    let rest = drop (at + length x) o in
    let whole : p ≡ take at o ++ (x ++ rest) = h.same ∙ sets-eq x o at long ∙ append_assoc (take at o) x rest in
    let size : length x ≡ n - at = omega (arith, h.next) in
    record {
      order = omega (arith, h.next);
      short = s;
      inside = omega (arith, k, put_long h);
      same =
          ap (λ (l : List ℕ). take (n - at) (drop at l)) whole
          ∙ ap (λ (l : List ℕ). take (n - at) l) (drop_at (take at o) (x ++ rest) at (length-take-le at o (omega (arith, long))))
          ∙ take_at x rest (n - at) size;
    }

-- a store behind a part leaves it alone
one_behind : (a k : ℕ) (l : List ℕ) (i v : ℕ) → a + k ≤ i → take k (drop a (set l i v)) ≡ take k (drop a l)
one_behind zero k l i v h = take-set-le k l i v (omega (arith, h))
one_behind (suc a) k [] i v h = refl
one_behind (suc a) k (x ∷ l) zero v h = absurd (omega (arith, h))
one_behind (suc a) k (x ∷ l) (suc i) v h = one_behind a k l i v (omega (arith, h))

all_behind : (x l : List ℕ) (i a k : ℕ) → a + k ≤ i → take k (drop a (sets l i x)) ≡ take k (drop a l)
all_behind [] l i a k h = refl
all_behind (v ∷ x) l i a k h = all_behind x (set l i v) (suc i) a k (omega (arith, h)) ∙ one_behind a k l i v h

-- and it stays while others are written behind it
pub stays : {s p x text : List ℕ} {a b at n : ℕ} → Stands s a b text → Put s at x n p → b ≤ at → Stands p a b text
stays {s} {p} {x} {a = a} {b = b} {at = at} k h q =
    record {
      order = k.order;
      short = k.short;
      inside = omega (arith, k.inside, put_long h);
      same = ap (λ (l : List ℕ). take (b - a) (drop a l)) h.same ∙ all_behind x s at a (b - a) (omega (arith, q, k.order)) ∙ k.same;
    }

-- the front alone
pub front : {o p x : List ℕ} {n : ℕ} → Put o 0 x n p → n ≤ length o → take n p ≡ x
front {o} {p} {x} {n} h k =
    let long : 0 + length x ≤ length o = omega (arith, h.next, k) in
    let size : length x ≡ n = omega (arith, h.next) in
    ap (λ (l : List ℕ). take n l) (h.same ∙ sets-eq x o 0 long) ∙ take_at x (drop (0 + length x) o) n size

pub front_long : {o p x : List ℕ} {n : ℕ} → Put o 0 x n p → n ≤ length o → n ≤ 1160 → length (take n p) ≤ 1160
front_long {n = n} h k s = omega (arith, ap length (front h k), h.next, s)

pub front_count : {o p x : List ℕ} {n : ℕ} → Put o 0 x n p → n ≤ length o → n ≡ length (take n p)
front_count {n = n} h k = sym (length-take-le n _ (omega (arith, k, put_long h)))

-- ## One mark after the other

module _ {l : Location} {clocks : ℕ} {a : Arc} where
  pub one_more : {s p ends : List ℕ} {i n : ℕ} → Kept l clocks a i s ends → length ends ≡ 8 → i ≤ 5 → Put s (i * 640) (tail_out l clocks a i) n p
      → n ≤ i * 640 + 610 → 3840 ≤ length s → Kept l clocks a (i + 1) p (set ends i n)
  one_more {s} {p} {ends} {i} {n} k long few h short room = record { stands = λ t least most. go t least most (ltb t i) refl }
    where
      here : get_or (set ends i n) i 0 ≡ n
      here = get_or-set_same ends i n 0 (omega (arith, long, few))

      this : Stands p (i * 640) (get_or (set ends i n) i 0) (tail_out l clocks a i)
      this = subst (λ (x : ℕ). Stands p (i * 640) x (tail_out l clocks a i)) (sym here) (written h short (omega (arith, short, room, few)))

      go : (t : ℕ) → 1 ≤ t → t < i + 1 → (b : Bool) → ltb t i ≡ b → Stands p (t * 640) (get_or (set ends i n) t 0) (tail_out l clocks a t)
      go t least most false e =
          let last : i ≡ t = omega (arith, most, ltb-false t i e) in
          subst (λ (x : ℕ). Stands p (x * 640) (get_or (set ends i n) x 0) (tail_out l clocks a x)) last this
      go t least most true e =
          let before = ltb-true t i e in
          let old = k.stands t least before in
          subst (λ (x : ℕ). Stands p (t * 640) x (tail_out l clocks a t)) (sym (get_or-set_other ends i t n 0 (λ z. absurd (omega (arith, before, z))))) (stays old h (omega (arith, old.short, before)))

-- ## The steps

pub out_told : (o : Origin) (h : List ℕ) (m k target : ℕ) {x : List ℕ} → target ≡ leads_to (arc_at o.budgets h) (message_of m) → x ≡ tail_out o.location o.clocks (arc_at o.budgets h) k
    → ascii ",\n  " ++ (arrow_out o.number (message_of m) target ++ x) ≡ step_told false o h m k
out_told o h m k target e q =
    let a = arc_at o.budgets h in
    ap (λ (y : List ℕ). ascii ",\n  " ++ (arrow_out o.number (message_of m) target ++ y)) q
    ∙ ap (λ (y : List ℕ). ascii ",\n  " ++ y) (step_out_told o.clocks o.number target a (message_of m) (marked k (uppers_from o.location a)) e)

pub in_told : (o : Origin) (h : List ℕ) (m k : ℕ) {x : List ℕ} → x ≡ guard_text (marked k (uppers_from o.location (arc_at o.budgets h)) ++ others (arc_at o.budgets h))
    → ascii ",\n  " ++ (arrow_in (byte h 1) o.number (message_of m) ++ (x ++ (sync_text (sync_made (byte h 0) m) ++ ascii " }"))) ≡ step_told true o h m k
in_told o h m k q =
    let a = arc_at o.budgets h in
    ap (λ (y : List ℕ). ascii ",\n  " ++ (arrow_in (byte h 1) o.number (message_of m) ++ (y ++ (sync_text (sync_made (byte h 0) m) ++ ascii " }")))) q
    ∙ ap (λ (y : List ℕ). ascii ",\n  " ++ y) (step_in_told o.budgets h o.number m (marked k (uppers_from o.location a)))

-- the transitions of a message
pub message_told : (o : Origin) (h : List ℕ) (m last : ℕ) → (m ≡ 255 → ⊥) → last ≡ length (highs (arc_at o.budgets h).clock_guards) + 2
    → step_told true o h m 0 ++ each (step_told false o h m) (from 1 (last - 1)) ≡ outcome_told true o h m
message_told o h m last ne q =
    let a = arc_at o.budgets h in
    let I = each step_text (map (step_in_with o.number a (message_of m)) (entries (uppers_from o.location a) a.edge.action (message_of m))) in
    ap (λ (y : List ℕ). y ++ each (step_told false o h m) (from 1 (last - 1))) (with-message o.budgets h (uppers_from o.location a) (step_in_with o.number a (message_of m)) m ne)
    ∙ ap (λ (i : ℕ). I ++ each (step_told false o h m) (from 1 (i - 1))) q
    ∙ transitions_told o.location o.clocks o.number a (message_of m) (length (highs a.clock_guards)) refl
