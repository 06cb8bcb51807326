-- Transitions, outcomes and edges, as they are written. Assumes nothing.
use mathlib.Core.Path.{◌≡◌, refl, sym, ap, ap₂, subst, ◌∙◌}
use mathlib.Core.Bool.{Bool, true, false, cond}
use mathlib.Core.List.{List, [], ◌∷◌, ◌++◌, map, append_assoc, append-nil}
use mathlib.Core.Option.{Option, none, some}
use Prim.Native.Nat.{ℕ, zero, suc, ◌+◌, ◌-◌, ◌*◌, ◌≤◌, ◌<◌}
use native.Mathlib.Omega.{arith}
use borrow.Author.Tests.{eq-eqb, ne_eqb}
use lib.Dec.{eqb}
use lib.ListN.{length, drop}
use Rattle.model.specs.declared.Action.{Action}
use Rattle.model.specs.declared.Action.TheVariants.{Internal, Send, Receive}
use Rattle.model.specs.declared.Location.{Location}
use Rattle.model.specs.declared.Pair.{Pair}
use Rattle.model.specs.Lists.{All, more, each, from}
use Rattle.model.specs.Table.{Arc}
use Rattle.model.specs.Window.{leads_to}
use Rattle.model.specs.Reader.{byte, pair_at}
use Rattle.model.specs.Places.{list_at, items_place, items_length, action_at, arc_at}
use Rattle.model.proofs.Basics.Sums.{each_join}
use Rattle.model.proofs.Basics.Walk.{list_length}
use Rattle.decoder.proofs.ByAction.{receive_length, receive_pairs}
use Rattle.window.specs.Views.{message_of}
use Rattle.words.specs.Words.{ascii}
use Rattle.uppaal.specs.Xta.{Upper, Atom, at_most, Transition, location, waiting}
use Rattle.uppaal.specs.XtaText.{name_text, location_text, listed, guard_text, sync_text, assign_text, transition_text}
use Rattle.uppaal.specs.Export.{highs, uppers_from, ends, others, outcomes, entries, assignments_of, step_in_with, step_out_with}
use Rattle.uppaal_parts.specs.Marks.{marked, all_told}
use Rattle.uppaal_parts.proofs.Marked.{unmarked, ends_marked}
use Rattle.uppaal_steps.specs.Steps.{arrow_in, arrow_out, sync_made, step_text, step_with, outcome_text, edge_text}
use Rattle.uppaal_steps.proofs.Naming.{sync_told}

-- ## One transition

pub arrow_join : (x y z w v : List ℕ) → (x ++ (y ++ (z ++ w))) ++ v ≡ x ++ (y ++ (z ++ (w ++ v)))
arrow_join x y z w v =
    append_assoc x (y ++ (z ++ w)) v ∙ ap (λ (l : List ℕ). x ++ l) (append_assoc y (z ++ w) v ∙ ap (λ (l : List ℕ). y ++ l) (append_assoc z w v))

pub step_in_told : (b : Bool) (h : List ℕ) (e m : ℕ) (g : List Atom)
    → arrow_in (byte h 1) e (message_of m) ++ (guard_text (g ++ others (arc_at b h)) ++ (sync_text (sync_made (byte h 0) m) ++ ascii " }"))
    ≡ transition_text (step_in_with e (arc_at b h) (message_of m) g)
unfolding transition_text step_in_with arc_at assign_text listed
step_in_told b h e m g =
    ap (λ (s : List ℕ). arrow_in (byte h 1) e (message_of m) ++ (guard_text (g ++ others (arc_at b h)) ++ (s ++ ascii " }"))) (sync_told (byte h 0) (byte h (items_place b h)) m)
    ∙ arrow_join (name_text (location (byte h 1))) (ascii " -> ") (name_text (waiting e (message_of m))) (ascii " {")
    (guard_text (g ++ others (arc_at b h)) ++ (sync_text (step_in_with e (arc_at b h) (message_of m) g).sync ++ ascii " }"))

pub step_out_told : (clocks e target : ℕ) (a : Arc) (m : Option ℕ) (g : List Atom) → target ≡ leads_to a m
    → arrow_out e m target ++ (guard_text g ++ (assign_text (assignments_of clocks a) ++ ascii " }")) ≡ transition_text (step_out_with clocks e a m g)
unfolding transition_text step_out_with
step_out_told clocks e target a m g q =
    ap (λ (l : ℕ). arrow_out e m l ++ (guard_text g ++ (assign_text (assignments_of clocks a) ++ ascii " }"))) q
    ∙ arrow_join (name_text (waiting e m)) (ascii " -> ") (name_text (location (leads_to a m))) (ascii " {") (guard_text g ++ (assign_text (assignments_of clocks a) ++ ascii " }"))

-- ## Transitions by their marks

pub each_map : {A B : Type 0} (f : B → List ℕ) (g : A → B) (xs : List A) → each f (map g xs) ≡ each (λ x. f (g x)) xs
unfolding each
each_map f g [] = refl
each_map f g (x ∷ xs) = ap (λ (l : List ℕ). f (g x) ++ l) (each_map f g xs)

each_shift : (f : ℕ → List ℕ) (i n : ℕ) → each f (from (suc i) n) ≡ each (λ k. f (suc k)) (from i n)
unfolding each
each_shift f i zero = refl
each_shift f i (suc n) = ap (λ (l : List ℕ). f (suc i) ++ l) (each_shift f (suc i) n)

-- at an end: one for each upper bound
pub ends_told : (step : List Atom → Transition) (us : List Upper) (n : ℕ) → n ≡ length us → each (λ k. step_text (step (marked k us))) (from 1 n) ≡ each step_text (map step (ends us))
ends_told step us n q =
    ap (λ (k : ℕ). each (λ j. step_text (step (marked j us))) (from 1 k)) q
    ∙ each_shift (λ k. step_text (step (marked k us))) 0 (length us)
    ∙ sym (each_map (λ g. step_text (step g)) (λ k. marked (suc k) us) (from 0 (length us)))
    ∙ sym (each_map step_text step (map (λ k. marked (suc k) us) (from 0 (length us))))
    ∙ ap (λ (l : List (List Atom)). each step_text (map step l)) (sym (ends_marked us))

-- anywhere in the window
one_told : (step : List Atom → Transition) (us : List Upper) → step_text (step (marked 0 us)) ≡ each step_text (map step (map at_most us ∷ []))
unfolding each
one_told step us = ap (λ (g : List Atom). step_text (step g)) (unmarked us) ∙ sym (append-nil (step_text (step (map at_most us))))

module _ (us : List Upper) (step : List Atom → Transition) (kind k m : ℕ) where
  entry_early : kind < 2 → step_text (step (marked 0 us)) ≡ each step_text (map step (entries us (action_at kind k) (message_of m)))
  entry_early h = one_told step us ∙ ap (λ (l : List (List Atom)). each step_text (map step l)) (go kind h)
    where
      go : (n : ℕ) → n < 2 → map at_most us ∷ [] ≡ entries us (action_at n k) (message_of m)
      go zero q = refl
      go (suc zero) q = refl
      go (suc (suc n)) q = absurd (omega arith)

  entry_message : (m ≡ 255 → ⊥) → step_text (step (marked 0 us)) ≡ each step_text (map step (entries us (action_at kind k) (message_of m)))
  entry_message h = one_told step us ∙ ap (λ (l : List (List Atom)). each step_text (map step l)) (go kind (eqb m 255) (ne_eqb m 255 h))
    where
      go : (n : ℕ) (b : Bool) → b ≡ false → map at_most us ∷ [] ≡ entries us (action_at n k) (cond b none (some m))
      go zero b q = refl
      go (suc zero) b q = refl
      go (suc (suc n)) b q = sym (ap (λ (c : Bool). entries us Receive (cond c none (some m))) q)

  entry_end : 2 ≤ kind → m ≡ 255 → (n : ℕ) → n ≡ length us → each (λ j. step_text (step (marked j us))) (from 1 n) ≡ each step_text (map step (entries us (action_at kind k) (message_of m)))
  entry_end h e n q = ends_told step us n q ∙ ap (λ (l : List (List Atom)). each step_text (map step l)) (go kind h)
    where
      go : (j : ℕ) → 2 ≤ j → ends us ≡ entries us (action_at j k) (message_of m)
      go zero q' = absurd (omega arith)
      go (suc zero) q' = absurd (omega arith)
      go (suc (suc j)) q' = sym (ap (λ (c : Bool). entries us Receive (cond c none (some m))) (eq-eqb m 255 e))

-- of the edge at the front
module _ (b : Bool) (h : List ℕ) (us : List Upper) (step : List Atom → Transition) (m : ℕ) where
  pub not_heard : byte h 0 < 2 → step_text (step (marked 0 us)) ≡ each step_text (map step (entries us (arc_at b h).edge.action (message_of m)))
  unfolding arc_at
  not_heard q = entry_early us step (byte h 0) (byte h (items_place b h)) m q

  pub with-message : (m ≡ 255 → ⊥) → step_text (step (marked 0 us)) ≡ each step_text (map step (entries us (arc_at b h).edge.action (message_of m)))
  unfolding arc_at
  with-message q = entry_message us step (byte h 0) (byte h (items_place b h)) m q

  pub timed_out : 2 ≤ byte h 0 → m ≡ 255 → (n : ℕ) → n ≡ length us
      → each (λ j. step_text (step (marked j us))) (from 1 n) ≡ each step_text (map step (entries us (arc_at b h).edge.action (message_of m)))
  unfolding arc_at
  timed_out q e n f = entry_end us step (byte h 0) (byte h (items_place b h)) m q e n f

-- ## Outcomes

pub transitions_told : (l : Location) (clocks e : ℕ) (a : Arc) (m : Option ℕ) (n : ℕ) → n ≡ length (highs a.clock_guards)
    → each step_text (map (step_in_with e a m) (entries (uppers_from l a) a.edge.action m)) ++ each (λ k. step_text (step_with false l clocks e a m k)) (from 1 (n + 2 - 1)) ≡ outcome_text true l clocks e a m
unfolding outcome_text
transitions_told l clocks e a m n q =
    ap (λ (x : List ℕ). each step_text (map (step_in_with e a m) (entries (uppers_from l a) a.edge.action m)) ++ x)
    (ends_told (step_out_with clocks e a m) (uppers_from l a) (n + 2 - 1) (omega (arith, q)))

pub waiting_told : (l : Location) (clocks e : ℕ) (a : Arc) (m : Option ℕ) → ascii ",\n  " ++ location_text (record { name = waiting e m; invariant = uppers_from l a }) ≡ outcome_text false l clocks e a m
unfolding outcome_text
waiting_told l clocks e a m = refl

-- the pairs of a receive edge stand whole, as many as it says
pub pairs_whole : (b : Bool) (h : List ℕ) → Receive ≡ (arc_at b h).edge.action → (items_length (byte h 0) (byte h 6) ≡ byte h 6 * 2) × (length (arc_at b h).pairs ≡ byte h 6)
pairs_whole b h q = (receive_length b h q, ap length (receive_pairs b h q) ∙ list_length pair_at 2 (byte h 6) (drop (items_place b h) h))

-- the outcomes of an edge, by its action
module _ (steps : Bool) (l : Location) (clocks e : ℕ) (b : Bool) (h : List ℕ) where
  abbrev a : Arc
  a = arc_at b h

  abbrev tell : Option ℕ → List ℕ
  tell m = outcome_text steps l clocks e a m

  pub edge_internal : Internal ≡ a.edge.action → tell none ≡ edge_text steps l clocks e a
  unfolding edge_text each
  edge_internal q = sym (append-nil (tell none)) ∙ ap (λ (x : Action). each tell (outcomes a x)) q

  pub edge_send : (k : ℕ) → k < 255 → Send k ≡ a.edge.action → tell (message_of k) ≡ edge_text steps l clocks e a
  unfolding edge_text each
  edge_send k s q =
      ap (λ (c : Bool). tell (cond c none (some k))) (ne_eqb k 255 (λ z. omega arith)) ∙ sym (append-nil (tell (some k))) ∙ ap (λ (x : Action). each tell (outcomes a x)) q

  pairs_told : (n : ℕ) (r : List ℕ) → All (λ q. q.channel < 255) (list_at pair_at 2 n r)
      → all_told (λ q. tell (message_of (pair_at q).channel)) 2 n r ≡ each tell (map (λ (q : Pair). some q.channel) (list_at pair_at 2 n r))
  unfolding all_told each list_at
  pairs_told zero r f = refl
  pairs_told (suc n) r (more s f) =
      ap₂ ◌++◌ (ap (λ (c : Bool). tell (cond c none (some (byte r 0)))) (ne_eqb (byte r 0) 255 (λ z. omega (arith, s)))) (pairs_told n (drop 2 r) f)

  pub edge_receive : Receive ≡ a.edge.action → All (λ q. q.channel < 255) a.pairs
      → all_told (λ q. tell (message_of (pair_at q).channel)) 2 (byte h 6) (drop (items_place b h) h) ++ tell none ≡ edge_text steps l clocks e a
  unfolding edge_text each
  edge_receive q f =
      let r = receive_pairs b h q in
      let ps = list_at pair_at 2 (byte h 6) (drop (items_place b h) h) in
      ap₂ ◌++◌ (pairs_told (byte h 6) (drop (items_place b h) h) (subst (All (λ (p : Pair). p.channel < 255)) r f)) (sym (append-nil (tell none)))
      ∙ sym (each_join tell (map (λ (p : Pair). some p.channel) ps) (none ∷ []))
      ∙ ap (λ (x : List Pair). each tell (map (λ (p : Pair). some p.channel) x ++ (none ∷ []))) (sym r)
      ∙ ap (λ (x : Action). each tell (outcomes a x)) q
