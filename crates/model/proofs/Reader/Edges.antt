-- An edge with its lists: its reader agrees with its bytes. Assumes nothing.
use mathlib.Core.Path.{◌≡◌, refl, sym, ap₂, subst, ◌∙◌}
use mathlib.Core.Bool.{Bool, true, false}
use mathlib.Core.Option.{Option, none, some}
use mathlib.Core.List.{List, ◌++◌, append_assoc}
use Prim.Native.Nat.{ℕ, ◌≤◌}
use native.Mathlib.Omega.{arith}
use lib.ListN.{length, drop}
use Rattle.model.specs.declared.ClockGuard.{ClockGuard}
use Rattle.model.specs.declared.DataGuard.{DataGuard}
use Rattle.model.specs.declared.Sizes.{Sizes}
use Rattle.model.specs.Lists.{Bytes, each}
use Rattle.model.specs.Table.{Arc}
use Rattle.model.specs.Bytes.{budget_bytes, clock_guard_bytes, data_guard_bytes, item_bytes, arc_head, arc_bytes}
use Rattle.model.specs.Limits.{BudgetIn, ClockGuardIn, DataGuardIn, ArcIn}
use Rattle.model.specs.Reader.{byte, word, ok, part, budget_fine, read_budget, read_arc_parts, many, read_clock_guard, read_data_guard, Items, read_items, counts_fine, edge_fine, arc_with, read_arc_body, read_arc}
use Rattle.model.proofs.Basics.Bools.{tests}
use Rattle.model.proofs.Reader.Parts.{then_ok, ok_same, head_ok, head_reads, from, firsts_rest, bytes_drop, joined, Said, said_is, Agrees, Counted, many_agrees}
use Rattle.model.proofs.Reader.Fixed.{budget_agrees, clock_guard_agrees, data_guard_agrees}
use Rattle.model.proofs.Reader.Items.{counts-fine, kind_small, items_reads, ItemsSaid, items_wrote}

module _ (s : Sizes) where
  -- the clock bounds of an edge
  clock_guards : (n : ℕ) → Agrees (many (read_clock_guard s) n) (Counted (ClockGuardIn s) n) (each clock_guard_bytes)
  clock_guards n = many_agrees (read_clock_guard s) (ClockGuardIn s) clock_guard_bytes (clock_guard_agrees s) n

  -- the data bounds of an edge
  data_guards : (n : ℕ) → Agrees (many (read_data_guard s) n) (Counted (DataGuardIn s) n) (each data_guard_bytes)
  data_guards n = many_agrees (read_data_guard s) (DataGuardIn s) data_guard_bytes (data_guard_agrees s) n

  -- the budget of an edge, where edges have one
  budget_reads : (b : Bool) (x : Option ℕ) (r : List ℕ) → BudgetIn b x → read_budget b (budget_bytes x ++ r) ≡ ok x r
  budget_reads false none r h = refl
  budget_reads false (some n) r h = absurd h
  budget_reads true none r h = absurd h
  budget_reads true (some n) r h = rw (budget_agrees.reads n r h)

  budget_wrote : (b : Bool) (bs : List ℕ) (x : Option ℕ) (r : List ℕ) → Bytes bs → read_budget b bs ≡ ok x r → Said (BudgetIn b) budget_bytes bs x r
  budget_wrote false bs x r a e = let z = ok_same e in said_is z.0 z.1 (record { within = tt; same = refl; bytes = a })
  budget_wrote true bs x r a e =
      let t = then_ok (part 2 budget_fine (λ l. word l 0) bs) _ e in
      let h = budget_agrees.wrote bs t.0 t.1 a t.2 in
      let z = ok_same t.3 in
      said_is z.0 z.1 (record { within = h.within; same = h.same; bytes = h.bytes })

  -- the seven bytes of an edge in range are fine
  edge-fine : (a : Arc) (r : List ℕ) → ArcIn s a → edge_fine s (arc_head a ++ r) ≡ true
  edge-fine a r h =
      simp tests (((((kind_small a.edge.action, h.source), h.destination), h.mask), h.count), counts-fine s a a.edge.action h.action)

  -- an edge written is read back
  arc_reads : (a : Arc) (r : List ℕ) → ArcIn s a → read_arc s (arc_bytes a ++ r) ≡ ok a r
  unfolding read_arc arc_bytes
  arc_reads a r h =
      let C = each clock_guard_bytes a.clock_guards in
      let D = each data_guard_bytes a.data_guards in
      let I = item_bytes a a.edge.action in
      let B = budget_bytes a.budget in
      let bs = arc_bytes a ++ r in
      head_reads 7 (edge_fine s) bs (read_arc_body s) (omega arith) (edge-fine a (B ++ C ++ D ++ I ++ r) h)
      ∙ rw (
        append_assoc (B ++ C ++ D) I r,
        append_assoc (B ++ C) D (I ++ r),
        append_assoc B C (D ++ (I ++ r)),
        budget_reads s.budgets a.budget (C ++ (D ++ (I ++ r))) h.budget,
        (clock_guards (length a.clock_guards)).reads a.clock_guards (D ++ (I ++ r)) (refl, h.clock_guards),
        (data_guards (length a.data_guards)).reads a.data_guards (I ++ r) (refl, h.data_guards),
        items_reads s a a.edge.action r h.action,
      )

  -- what the parts of an edge say together
  arc_said : (bs : List ℕ) (o : Option ℕ) (cs : List ClockGuard) (ds : List DataGuard) (i : Items) (r₀ r₁ r₂ r₃ : List ℕ) → 7 ≤ length bs → edge_fine s bs ≡ true
      → Said (BudgetIn s.budgets) budget_bytes (drop 7 bs) o r₀
      → Said (Counted (ClockGuardIn s) (byte bs 4)) (each clock_guard_bytes) r₀ cs r₁
      → Said (Counted (DataGuardIn s) (byte bs 5)) (each data_guard_bytes) r₁ ds r₂
      → ItemsSaid s (byte bs 0) (byte bs 6) r₂ (arc_with bs o cs ds i) r₃
      → Said (ArcIn s) arc_bytes bs (arc_with bs o cs ds i) r₃
  unfolding arc_bytes
  arc_said bs o cs ds i r₀ r₁ r₂ r₃ fits fine p c d t =
      let a = arc_with bs o cs ds i in
      let C = each clock_guard_bytes cs in
      let D = each data_guard_bytes ds in
      let I = item_bytes a i.action in
      let h = simp tests at fine in
      let B = budget_bytes o in
      let tail : drop 7 bs ≡ B ++ C ++ D ++ I ++ r₃ = joined (B ++ C ++ D) I r₃ (joined (B ++ C) D r₂ (joined B C r₁ p.same c.same) d.same) t.same in
      let head : from bs 0 7 ≡ arc_head a = cc (t.kind, c.within.0, d.within.0, t.count) in
      record {
        within = record {
          budget = p.within;
          source = h.0.0.0.0.1;
          destination = h.0.0.0.1;
          mask = h.0.0.1;
          count = omega (arith, c.within.0, h.0.1);
          clock_guards = c.within.1;
          data_guards = d.within.1;
          action = t.within;
        };
        same = firsts_rest 7 bs fits ∙ ap₂ (λ l m. l ++ m) head tail;
        bytes = t.bytes;
      }

  -- an edge read is written so
  arc_wrote : (bs : List ℕ) (a : Arc) (r : List ℕ) → Bytes bs → read_arc s bs ≡ ok a r → Said (ArcIn s) arc_bytes bs a r
  unfolding read_arc
  arc_wrote bs a r b e =
      let t = head_ok 7 (edge_fine s) bs (read_arc_body s) e in
      let o = then_ok (read_budget s.budgets (drop 7 bs)) _ t.2 in
      let p = budget_wrote s.budgets (drop 7 bs) o.0 o.1 (bytes_drop 7 b) o.2 in
      let u = then_ok (many (read_clock_guard s) (byte bs 4) o.1) _ o.3 in
      let c = (clock_guards (byte bs 4)).wrote o.1 u.0 u.1 p.bytes u.2 in
      let v = then_ok (many (read_data_guard s) (byte bs 5) u.1) _ u.3 in
      let d = (data_guards (byte bs 5)).wrote u.1 v.0 v.1 c.bytes v.2 in
      let w = then_ok (read_items s (byte bs 0) (byte bs 6) v.1) _ v.3 in
      let h = simp tests at t.1 in
      let n = subst (λ k. counts_fine (byte bs 0) k (byte bs 6) ≡ true) (sym d.within.0) h.1 in
      let i = items_wrote s bs o.0 u.0 v.0 (byte bs 0) (byte bs 6) v.1 w.0 w.1 d.bytes h.0.0.0.0.0 n w.2 in
      let z = ok_same w.3 in
      said_is z.0 z.1 (arc_said bs o.0 u.0 v.0 w.0 o.1 u.1 v.1 w.1 t.0 t.1 p c d i)

  -- an edge
  pub arc_agrees : Agrees (read_arc s) (ArcIn s) arc_bytes
  arc_agrees = record { reads = arc_reads; wrote = arc_wrote }
