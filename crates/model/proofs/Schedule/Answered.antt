-- Why this edge, of a table's bytes: what is named is the passage of the component at the tick, each edge told has exactly one reason, and one of
-- them is taken. Assumes nothing.
use mathlib.Core.Path.{◌≡◌, refl, sym, ap, subst, ◌∙◌}
use mathlib.Core.Bool.{Bool, true, false, cond, ◌&&◌}
use mathlib.Core.List.{List, [], ◌∷◌}
use mathlib.Core.Logic.{by_cases}
use Prim.Native.Nat.{ℕ, zero, suc, ◌+◌, ◌*◌, ◌≤◌, ◌<◌}
use native.Mathlib.Omega.{arith}
use native.Mathlib.Decide.{ℕ_discrete}
use borrow.Author.Tests.{ltb-true, eqb-true, eq-eqb}
use lib.Dec.{ltb, eqb}
use lib.ListN.{length}
use Rattle.model.specs.declared.Reason.{Reason}
use Rattle.model.specs.Lists.{◌∈◌, here, there, only, from, below, each, Bytes, Answer, accepted, refused, ◌after◌}
use Rattle.model.specs.Table.{Component, Read, no_component, size, header_of, component_of, arc_of}
use Rattle.model.specs.Limits.{ComponentIn}
use Rattle.model.specs.Reader.{read_table}
use Rattle.model.specs.Schedule.{Passage}
use Rattle.model.specs.Checks.{limit, no_passage, passage_at, accepted_schedule_of}
use Rattle.model.specs.Chains.{IsSchedule}
use Rattle.model.specs.Reasons.{passage_number, reason_of, edges_from, IsReason, askable, Asked, asked_in, asked, reason_bytes, reasons_bytes, Reasoned, ReasonsTrue}
use Rattle.model.proofs.Basics.Bools.{clash, and_is}
use Rattle.model.proofs.Basics.Members.{in_at, only_is, not_in}
use Rattle.model.proofs.Basics.Walk.{each_length, all_at}
use Rattle.model.proofs.Reader.Parts.{after_ok, cond_accepted}
use Rattle.model.proofs.Reader.RoundTrip.{written_read}
use Rattle.model.proofs.Run.Tied.{schedule_at}
use Rattle.model.proofs.Schedule.Own.{all_in}
use Rattle.model.proofs.Schedule.Passages.{entered}
use Rattle.model.proofs.Schedule.Reasoned.{named, reason_true, reason_only}

-- ## The edges from a location

from_in : (i n e : ℕ) → i ≤ e → e < i + n → e ∈ from i n
from_in i zero e h k = absurd (omega arith)
from_in i (suc n) e h k = by_cases (ℕ_discrete e i) (λ q. here q) (λ q. there (from_in (suc i) n e (omega arith) (omega arith)))

from_below : (i n e : ℕ) → e ∈ from i n → e < i + n
from_below i zero e m = absurd (not_in m)
from_below i (suc n) e (here q) = omega (arith, q)
from_below i (suc n) e (there m) = omega (arith, from_below (suc i) n e m)

from_length : (i n : ℕ) → length (from i n) ≡ n
from_length i zero = refl
from_length i (suc n) = ap suc (from_length (suc i) n)

pub only_few : {A : Type 0} (p : A → Bool) (xs : List A) → length (only p xs) ≤ length xs
only_few p [] = omega arith
only_few p (x ∷ xs) = go (p x) (only_few p xs)
  where
    go : (t : Bool) → length (only p xs) ≤ length xs → length (cond t (x ∷ only p xs) (only p xs)) ≤ suc (length xs)
    go true h = omega arith
    go false h = omega arith

-- an edge told is an edge of the component that leaves the location; and all of these are told
module _ (C : Component) (here : ℕ) where
  pub edge-told : (e : ℕ) → e < length C.arcs → (arc_of C e).edge.source ≡ here → e ∈ edges_from C here
  edge-told e h q = (only_is (λ k. eqb (arc_of C k).edge.source here) (below (length C.arcs))).1 (from_in 0 (length C.arcs) e (omega arith) (omega arith), eq-eqb (arc_of C e).edge.source here q)

  pub told_edge : (e : ℕ) → e ∈ edges_from C here → (e < length C.arcs) × ((arc_of C e).edge.source ≡ here)
  told_edge e m =
      let r = (only_is (λ k. eqb (arc_of C k).edge.source here) (below (length C.arcs))).0 m in
      (omega (arith, from_below 0 (length C.arcs) e r.0), eqb-true (arc_of C e).edge.source here r.1)

  pub told_few : length (edges_from C here) ≤ length C.arcs
  told_few = omega (arith, only_few (λ k. eqb (arc_of C k).edge.source here) (below (length C.arcs)), from_length 0 (length C.arcs))

-- three bytes for each
pub reasons_length : (C : Component) (v : Passage) → length (reasons_bytes C v) ≡ length (edges_from C v.entry.location) * 3
unfolding reasons_bytes
reasons_length C v = each_length (reason_bytes C v) 3 (λ e. refl) (edges_from C v.entry.location)

-- ## What is named

asked_in_is : (t : Read) (c k : ℕ) (S : List Passage) (a : Asked) → asked_in t c k S ≡ accepted a
    → (askable t c k ≡ true) × (record { component = component_of t.table c; number = passage_number S c k; passage = passage_at S (passage_number S c k) } ≡ a)
asked_in_is t c k S a e = let h = cond_accepted (askable t c k) _ 21 255 e in (h.0, given h.1)
  where
    given : {x y : Asked} → accepted x ≡ accepted y → x ≡ y
    given q = cc

module _ (t : Read) (S : List Passage) (s : IsSchedule limit t.table t.horizon S) (c k : ℕ) (hc : c < size t.table) (hk : k < t.horizon)
    (in_limits : ComponentIn (header_of t) (component_of t.table c)) where
  abbrev i : ℕ
  i = passage_number S c k

  abbrev v : Passage
  v = passage_at S i

  abbrev C : Component
  C = component_of t.table c

  abbrev There : Component → ℕ → Type 0
  There X e = (e < length X.arcs) × ((arc_of X e).edge.source ≡ v.entry.location)

  pub reasoned : Reasoned t.table S c k (record { component = C; number = i; passage = v })
  reasoned =
      let n = named s c k hc hk in
      let listed : v ∈ S = in_at no_passage S i n.there in
      let own : component_of t.table v.component ≡ C = ap (component_of t.table) n.component in
      let o = (all_in (entered s) listed).opened in
      let taken-there : v.edge < length C.arcs = subst (λ (X : Component). v.edge < length X.arcs) own o.there in
      let taken-from : (arc_of C v.edge).edge.source ≡ v.entry.location = subst (λ (X : Component). (arc_of X v.edge).edge.source ≡ v.entry.location) own o.source in
      record {
        component = refl;
        passage = refl;
        there = n.there;
        own = n.component;
        entered = n.entered;
        before = n.before;
        alone = n.alone;
        taken = edge-told C v.entry.location v.edge taken-there taken-from;
        given = λ e m. true_of own listed e (told_edge C v.entry.location e m);
        only = λ e m r q. only_of own listed e (told_edge C v.entry.location e m) r q;
        few = omega (arith, reasons_length C v, told_few C v.entry.location, in_limits.most_arcs);
      }
    where
      true_of : component_of t.table v.component ≡ C → v ∈ S → (e : ℕ) → There C e → IsReason C v e (reason_of C v e)
      true_of own m e h =
          let k = subst (λ (X : Component). There X e) (sym own) h in
          subst (λ (X : Component). IsReason X v e (reason_of X v e)) own (reason_true s v m e k.0 k.1)

      only_of : component_of t.table v.component ≡ C → v ∈ S → (e : ℕ) → There C e → (r : Reason)
          → IsReason C v e r → r ≡ reason_of C v e
      only_of own m e h r q =
          let k = subst (λ (X : Component). There X e) (sym own) h in
          let p = subst (λ (X : Component). IsReason X v e r) (sym own) q in
          subst (λ (X : Component). r ≡ reason_of X v e) own (reason_only s v m e k.0 k.1 r p)

-- whatever bytes are handed in
pub reasons_true : (bs : List ℕ) → Bytes bs → (c k : ℕ) → ReasonsTrue bs c k
unfolding asked
reasons_true bs b c k a e =
    let r = after_ok (read_table bs) (λ t. accepted_schedule_of t after asked_in t c k) e in
    let t = r.0 in
    let p = after_ok (accepted_schedule_of t) (asked_in t c k) r.2 in
    let S = p.0 in
    let q = asked_in_is t c k S a p.2 in
    let w = (and_is (ltb c (size t.table)) (ltb k t.horizon)).0 q.0 in
    let hc = ltb-true c (size t.table) w.0 in
    let in_limits = all_at no_component (written_read bs t b r.1).0.components c hc in
    (t, S, r.1, p.1, subst (Reasoned t.table S c k) q.1 (reasoned t S (schedule_at 0 t.table t.horizon limit S p.1).0 c k hc (ltb-true k t.horizon w.1) in_limits))
