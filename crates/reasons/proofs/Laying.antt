-- The bytes of the reasons are those of the definition, and the answer of the call. Assumes nothing.
use mathlib.Core.Path.{◌≡◌, refl, sym, ap, ap₂, subst, ◌∙◌}
use mathlib.Core.List.{List, [], ◌∷◌, ◌++◌}
use Prim.Native.Nat.{ℕ, ◌*◌, ◌≤◌, ◌<◌}
use native.Mathlib.Omega.{arith}
use borrow.Author.Tests.{le-leb, lt-leb}
use lib.ListN.{length, get_or, drop}
use mir.Syntax.{w8}
use mir.Val.{Fits}
use Rattle.model.specs.declared.Location.{Location}
use Rattle.model.specs.declared.Verdict.TheVariants.{Accepted, Refused}
use Rattle.model.specs.Lists.{◌∈◌, here, there, each, Answer, accepted, refused}
use Rattle.model.specs.Table.{Component, no_location, header_of, sizes_of, location_of, arc_of}
use Rattle.model.specs.Limits.{ArcIn, ComponentIn}
use Rattle.model.specs.Places.{read_of, component_in}
use Rattle.model.specs.Schedule.{Passage}
use Rattle.model.specs.Reasons.{reason_by, reason_of, reason_number, reason_bound, edges_from, reason_bytes, reasons_bytes, ReasonsCall, not_told, told, asked, reasons_call}
use Rattle.model.proofs.Basics.Walk.{all_at}
use Rattle.model.proofs.Schedule.Own.{all_then}
use Rattle.model.proofs.Schedule.Answered.{told_edge, reasons_length}
use Rattle.window.specs.Views.{entry_of}
use Rattle.schedule.proofs.Cut.{ready_cut, failing_cut, blocked_cut, windowless_cut, arc_in}
use Rattle.schedule.proofs.Tables.{limits_of}
use Rattle.reasons.specs.declared.Asked.{Asked}
use Rattle.reasons.specs.declared.Told.{Told}
use Rattle.reasons.specs.Stays.{named_by, Present, Answers}
use Rattle.reasons.specs.Telling.{edge_bytes, Tells}

-- two ways to write each that agree on those that are there
pub each_same : {A : Type 0} (f g : A → List ℕ) (xs : List A) → ((x : A) → x ∈ xs → f x ≡ g x) → each f xs ≡ each g xs
unfolding each
each_same f g [] h = refl
each_same f g (x ∷ xs) h = ap₂ ◌++◌ (h x (here refl)) (each_same f g xs (λ y m. h y (there m)))

-- ## The passage named

module _ (bs : List ℕ) (b : (j : ℕ) → Fits w8 (get_or bs j 0)) (r : Asked) (p : Present bs r) where
  abbrev C : Component
  C = component_in bs r.component

  abbrev v : Passage
  v = (named_by bs r).passage

  abbrev l : Location
  l = location_of C r.at.location

  pub in_limits : ComponentIn (header_of (read_of bs)) C
  in_limits = limits_of bs b p.valid r.component p.present

  pub clock_there : l.clock < C.clocks
  clock_there = (all_at no_location in_limits.locations r.at.location p.location).clock

  pub edge_in : (e : ℕ) → e < length C.arcs → ArcIn (sizes_of (header_of (read_of bs)) C) (arc_of C e)
  edge_in = arc_in (header_of (read_of bs)) C in_limits

  -- with all four clocks and variables the reason is the same
  pub same_reason : (e : ℕ) → e < length C.arcs → reason_by l (entry_of r.at) r.edge r.ready e (arc_of C e) ≡ reason_of C v e
  same_reason e h =
      let a = edge_in e h in
      let d = all_then (λ g q. q.variable) a.data_guards in
      let g = all_then (λ g q. q.clock) a.clock_guards in
      rw (blocked_cut C (entry_of r.at) (arc_of C e) d, windowless_cut C (entry_of r.at) (arc_of C e) d l clock_there g, ← failing_cut C.variables r.at.values d, ← ready_cut C.clocks r.at.clocks g)

  same_bytes : (e : ℕ) → e ∈ edges_from C r.at.location → edge_bytes C (entry_of r.at) r.edge r.ready e ≡ reason_bytes C v e
  same_bytes e m = ap (λ x. e ∷ reason_number x ∷ reason_bound x ∷ []) (same_reason e (told_edge C r.at.location e m).0)

  pub bytes_are : each (edge_bytes C (entry_of r.at) r.edge r.ready) (edges_from C r.at.location) ≡ reasons_bytes C v
  unfolding reasons_bytes
  bytes_are = each_same (edge_bytes C (entry_of r.at) r.edge r.ready) (reason_bytes C v) (edges_from C r.at.location) same_bytes

  -- ## The answer

  module _ (lent : List ℕ) (n : ℕ) (counted : n ≡ length (edges_from C r.at.location)) where
    pub too_few : (t : Told) → length lent < n * 3 → (t.verdict ≡ Refused 13 255) × (t.passage ≡ 0) × (t.size ≡ 0) → Tells (told lent (accepted (named_by bs r))) t lent
    too_few t h q =
        let k : length lent < length (reasons_bytes C v) = omega (arith, counted, reasons_length C v) in
        let e : told lent (accepted (named_by bs r)) ≡ not_told 13 255 lent = rw (lt-leb (length (reasons_bytes C v)) (length lent) k) in
        subst (λ (x : ReasonsCall). Tells x t lent) (sym e) (record { verdict = q.0; passage = q.1; size = q.2; lent = refl })

    pub laid : (after : List ℕ) → n * 3 ≤ length lent
        → after ≡ each (edge_bytes C (entry_of r.at) r.edge r.ready) (edges_from C r.at.location) ++ drop (length (edges_from C r.at.location) * 3) lent
        → Tells (told lent (accepted (named_by bs r))) (record { verdict = Accepted; passage = r.number; size = n }) after
    laid after h q =
        let k : length (reasons_bytes C v) ≤ length lent = omega (arith, counted, reasons_length C v) in
        let e : told lent (accepted (named_by bs r)) ≡ record { verdict = Accepted; passage = r.number; size = length (edges_from C r.at.location); lent = reasons_bytes C v ++ drop (length (reasons_bytes C v)) lent } = rw (le-leb (length (reasons_bytes C v)) (length lent) k) in
        subst (λ (x : ReasonsCall). Tells x (record { verdict = Accepted; passage = r.number; size = n }) after) (sym e)
        (record { verdict = refl; passage = refl; size = counted; lent = q ∙ ap₂ (λ x m. x ++ drop m lent) bytes_are (sym (reasons_length C v)) })

-- ## What was asked

module _ (bs : List ℕ) (r : Asked) where
  pub was_refused : (a : Answer Rattle.model.specs.Reasons.Asked) {n d : ℕ} → Answers bs a r → r.verdict ≡ Refused n d → a ≡ refused n d
  was_refused (accepted x) h e = let q = sym h.0 ∙ e in let z : ◌≡◌ {A = ℕ} 0 1 = cc in absurd (omega arith)
  was_refused (refused n d) h e = let q = sym h ∙ e in cc

  pub was_named : (a : Answer Rattle.model.specs.Reasons.Asked) → Answers bs a r → r.verdict ≡ Accepted → (a ≡ accepted (named_by bs r)) × Present bs r
  was_named (accepted x) h e = (ap accepted (sym h.1), h.2)
  was_named (refused n d) h e = let q = sym h ∙ e in let z : ◌≡◌ {A = ℕ} 0 1 = cc in absurd (omega arith)

module _ (bs : List ℕ) (c k : ℕ) (lent : List ℕ) where
  pub call_refused : {n d : ℕ} (t : Told) → asked bs c k ≡ refused n d → (t.verdict ≡ Refused n d) × (t.passage ≡ 0) × (t.size ≡ 0) → Tells (reasons_call bs c k lent) t lent
  unfolding reasons_call
  call_refused t e q = rw e (record { verdict = q.0; passage = q.1; size = q.2; lent = refl })

  pub call_told : (r : Asked) (t : Told) (after : List ℕ) → asked bs c k ≡ accepted (named_by bs r) → Tells (told lent (accepted (named_by bs r))) t after
      → Tells (reasons_call bs c k lent) t after
  unfolding reasons_call
  call_told r t after e q = subst (λ (x : Answer Rattle.model.specs.Reasons.Asked). Tells (told lent x) t after) (sym e) q
