-- The paths of the written network are exactly those of the table's network that enter no location with its invariant broken. Assumes nothing.
use mathlib.Core.Path.{◌≡◌, refl, sym, ap, subst, ◌∙◌}
use mathlib.Core.Logic.{◌↔◌}
use mathlib.Core.Bool.{Bool, true, false, ◌&&◌}
use mathlib.Core.List.{List, [], ◌∷◌, map}
use mathlib.Core.Option.{Option, none, some}
use Prim.Native.Nat.{ℕ, suc, ◌≤◌, ◌<◌}
use native.Mathlib.Omega.{arith}
use borrow.Author.Tests.{ltb-true, ltb-false}
use lib.Dec.{leb, ltb}
use lib.IntN.{ℤ}
use lib.ListN.{length, get_or, get_or-eq_default}
use Rattle.model.specs.Lists.{◌∈◌, accepted}
use Rattle.model.specs.Table.{Component, Table, Read, size, component_of, arc_of}
use Rattle.model.specs.Reader.{read_table}
use Rattle.model.specs.Network.{State, Taken, passage_in, start, Label, step, onward, follow}
use Rattle.model.specs.NetworkRules.{Step}
use Rattle.model.proofs.Basics.Bools.{clash, and_is}
use Rattle.model.proofs.Basics.Members.{not_in}
use Rattle.model.proofs.Network.Rules.{step_is}
use Rattle.model.proofs.Reader.Limits.{read_limits}
use Rattle.uppaal.specs.Xta.{Transition, Process, no_process, process_of}
use Rattle.uppaal.specs.XtaNetwork.{Stand, stand_of, initial_state, all_stand, guard_holds, all_assigned, Move, Moves, Goes, stays, moves, Path}
use Rattle.uppaal.specs.Export.{outcomes, step_in_with, step_out_with, process_for, system_for}
use Rattle.uppaal.specs.SamePaths.{stand_for, view_of, move_of, moves_of, enters_well, all_enter_well, PathOf, SamePaths}
use Rattle.uppaal.proofs.Picks.{Picked, is_in, is_out, picked}
use Rattle.uppaal.proofs.One.{after_out}
use Rattle.uppaal.proofs.Held.{Limited, Held, component-in, held_start, held_kept, waits_at}
use Rattle.uppaal.proofs.Views.{process_count, process_at, view_at, view_start, held_all}
use Rattle.uppaal.proofs.There.{there}
use Rattle.uppaal.proofs.Back.{Answers, back, waits_on}
use Rattle.uppaal.proofs.Once.{same_label}

module _ (T : Table) (L : Limited T) where
  -- ## From the table's network to the written one

  forward : (ls : List Label) (s t : State) → Held T s → follow T s ls ≡ some t → all_enter_well T s ls ≡ true → Goes (system_for T) (view_of s) (moves_of T s ls) (view_of t)
  unfolding follow moves_of all_enter_well
  forward [] s t h f e = let q : s ≡ t = cc in subst (λ u. Goes (system_for T) (view_of s) [] (view_of u)) q stays
  forward (l ∷ ls) s t h f e = go (step T s l) refl f e (λ u k x y. forward ls u t k x y)
    where
      go : (o : Option State) → step T s l ≡ o → onward o (λ u. follow T u ls) none ≡ some t → onward o (λ u. enters_well T u l && all_enter_well T u ls) false ≡ true
          → ((u : State) → Held T u → follow T u ls ≡ some t → all_enter_well T u ls ≡ true → Goes (system_for T) (view_of u) (moves_of T u ls) (view_of t))
          → Goes (system_for T) (view_of s) (move_of T s l ∷ onward o (λ u. moves_of T u ls) []) (view_of t)
      go none q x y ih = clash y
      go (some u) q x y ih =
          let r = (step_is T s l u).0 q in
          let w = (and_is (enters_well T u l) (all_enter_well T u ls)).0 y in
          moves (there T s L h r w.0) (ih u (held_kept L h r w.0) x w.1)

  -- ## And back

  record Came (s : State) (ms : List Move) (y : List Stand) : Type 0 where
    labels : List Label
    last : State
    held : Held T last
    follows : follow T s labels ≡ some last
    enters : all_enter_well T s labels ≡ true
    moved : moves_of T s labels ≡ ms
    seen : view_of last ≡ y

  backward : (s : State) {x y : List Stand} {ms : List Move} → Held T s → Goes (system_for T) x ms y → x ≡ view_of s → Came s ms y
  unfolding follow moves_of all_enter_well
  backward s h stays e = record { labels = []; last = s; held = h; follows = refl; enters = refl; moved = refl; seen = sym e }
  backward s {y = y} h (moves {t = t} {m = m} {ms = ms} k g) e = go (back T s L h (subst (λ v. Moves (system_for T) v m t) e k)) (λ u j q. backward u j g q)
    where
      go : Answers T s m t → ((u : State) → Held T u → t ≡ view_of u → Came u ms y) → Came s (m ∷ ms) y
      go a ih =
          let r = ih a.next (held_kept L h a.step a.enters) (sym a.view) in
          let q = (step_is T s a.label a.next).1 a.step in
          record {
            labels = a.label ∷ r.labels;
            last = r.last;
            held = r.held;
            follows = ap (λ (o : Option State). onward o (λ u. follow T u r.labels) none) q ∙ r.follows;
            enters = ap (λ (o : Option State). onward o (λ u. enters_well T u a.label && all_enter_well T u r.labels) false) q ∙ (and_is (enters_well T a.next a.label) (all_enter_well T a.next r.labels)).1 (a.enters, r.enters);
            moved = ap (λ (o : Option State). move_of T s a.label ∷ onward o (λ u. moves_of T u r.labels) []) q ∙ ap (λ (x : Move). x ∷ moves_of T a.next r.labels) a.move ∙ ap (λ (x : List Move). m ∷ x) r.moved;
            seen = r.seen;
          }

  came : (ms : List Move) (y : List Stand) → Path (system_for T) ms y → Came (start T) ms y
  came ms y p = backward (start T) (held_start T L) p.goes (sym (view_start T))

  -- ## Of one alone

  one_path : (ls ks : List Label) (s t u : State) → follow T s ls ≡ some t → follow T s ks ≡ some u → moves_of T s ls ≡ moves_of T s ks → ls ≡ ks
  unfolding follow moves_of
  one_path [] [] s t u f g q = refl
  one_path [] (k ∷ ks) s t u f g q = absurd (omega (arith, ap length q))
  one_path (l ∷ ls) [] s t u f g q = absurd (omega (arith, ap length q))
  one_path (l ∷ ls) (k ∷ ks) s t u f g q = go (same_label T s l k (ap (head (move_of T s l)) q)) (step T s l) refl f (λ v x y z. one_path ls ks v t u x y z)
    where
      head : Move → List Move → Move
      head d [] = d
      head d (m ∷ ms) = m

      tail : List Move → List Move
      tail [] = []
      tail (m ∷ ms) = ms

      go : l ≡ k → (o : Option State) → step T s l ≡ o → onward o (λ v. follow T v ls) none ≡ some t
          → ((v : State) → follow T v ls ≡ some t → follow T v ks ≡ some u → moves_of T v ls ≡ moves_of T v ks → ls ≡ ks) → l ∷ ls ≡ k ∷ ks
      go e none w x ih = let z : ◌≡◌ {A = ℕ} 0 1 = cc in absurd (omega arith)
      go e (some v) w x ih =
          let w' : step T s k ≡ some v = subst (λ (i : Label). step T s i ≡ some v) e w in
          let y : follow T v ks ≡ some u = sym (ap (λ (o : Option State). onward o (λ j. follow T j ks) none) w') ∙ g in
          let a : onward (step T s l) (λ j. moves_of T j ls) [] ≡ onward (step T s k) (λ j. moves_of T j ks) [] = ap tail q in
          let b = sym (ap (λ (o : Option State). onward o (λ j. moves_of T j ls) []) w) ∙ a ∙ ap (λ (o : Option State). onward o (λ j. moves_of T j ks) []) w' in
          rw (e, ih v x y b) refl

  -- ## No variable leaves its range

  in-range : (s : State) → Held T s → (p : ℕ) (t : Transition) → t ∈ (process_of (system_for T) p).transitions → (stand_of (view_of s) p).at ≡ t.source
      → (z : Stand) × (all_assigned t.assignments (record { at = t.target; clocks = (stand_of (view_of s) p).clocks; values = (stand_of (view_of s) p).values }) ≡ some z)
  unfolding step_in_with step_out_with all_assigned
  in-range s h p t k e = go (ltb p (size T)) refl
    where
      Fine : Stand → Type 0
      Fine x = (z : Stand) × (all_assigned t.assignments (record { at = t.target; clocks = x.clocks; values = x.values }) ≡ some z)

      C : Component
      C = component_of T p

      inside : p < size T → (e' : ℕ) → e' < length C.arcs → (m : Option ℕ) → Picked C t e' (arc_of C e') m → (stand_for s.tick (passage_in s p)).at ≡ t.source → Fine (stand_for s.tick (passage_in s p))
      inside i f l m (is_in g v q) n = subst (λ (u : Transition). (z : Stand) × (all_assigned u.assignments (record { at = u.target; clocks = (stand_for s.tick (passage_in s p)).clocks; values = (stand_for s.tick (passage_in s p)).values }) ≡ some z)) (sym q) (_, refl)
      inside i f l m (is_out g v q) n =
          let a = waits_on (passage_in s p) f m (passage_in s p).waiting (n ∙ ap (λ (u : Transition). u.source) q) in
          let w = waits_at (h.each p i) a in
          subst (λ (u : Transition). (z : Stand) × (all_assigned u.assignments (record { at = u.target; clocks = (stand_for s.tick (passage_in s p)).clocks; values = (stand_for s.tick (passage_in s p)).values }) ≡ some z)) (sym q)
          (_, after_out (component-in T L p i) (h.each p i).sized f m w.ranged.0 w.ranged.1)

      go : (b : Bool) → ltb p (size T) ≡ b → Fine (stand_of (view_of s) p)
      go true b =
          let i = ltb-true p (size T) b in
          let r = picked C t (subst (λ (P : Process). t ∈ P.transitions) (process_at T p i) k) in
          let at = view_at s p (omega (arith, i, h.count)) in
          subst Fine (sym at) (inside i r.0 r.1 r.2.0 r.2.2 (ap (λ (x : Stand). x.at) (sym at) ∙ e))
      go false b =
          let i = ltb-false p (size T) b in
          absurd (not_in (subst (λ (P : Process). t ∈ P.transitions) (get_or-eq_default (system_for T).processes no_process (omega (arith, i, process_count T))) k))

  -- ## The claim

  pub same_paths : SamePaths T (system_for T)
  same_paths =
      record {
        written = λ ls s p. record {
          begins = subst (λ v. all_stand (system_for T).processes v ≡ true) (view_start T) (held_all T (start T) L (held_start T L));
          goes = subst (λ v. Goes (system_for T) v (moves_of T (start T) ls) (view_of s)) (view_start T) (forward ls (start T) s (held_start T L) p.follows p.enters);
        };
        read = λ ms y p. let r = came ms y p in (r.labels, r.last, record { follows = r.follows; enters = r.enters }, r.moved, r.seen);
        once = λ ls ks s t p q e. one_path ls ks (start T) s t p.follows q.follows e;
        safe = λ ms y p c t k e g. let r = came ms y p in
            subst (λ v. (z : Stand) × (all_assigned t.assignments (record { at = t.target; clocks = (stand_of v c).clocks; values = (stand_of v c).values }) ≡ some z)) r.seen
            (in-range r.last r.held c t k (subst (λ v. (stand_of v c).at ≡ t.source) (sym r.seen) e));
      }

-- of every table that is read
pub exported_paths : (bs : List ℕ) (t : Read) → read_table bs ≡ accepted t → SamePaths t.table (system_for t.table)
exported_paths bs t e = same_paths t.table (record { budgets = leb 3 t.version; components = (read_limits bs t e).components })
