-- What is read off a passing of the network: the path that demand 3 asks for. Assumes nothing.
use mathlib.Core.Path.{◌≡◌, refl, sym, ap, ◌∙◌}
use mathlib.Core.Bool.{Bool, true, false}
use mathlib.Core.List.{List, [], ◌∷◌, ◌++◌, map}
use mathlib.Core.Option.{some}
use Prim.Native.Nat.{ℕ, suc, ◌+◌, ◌≤◌, ◌<◌}
use native.Mathlib.Omega.{arith}
use borrow.Author.Tests.{leb-true, leb-false}
use lib.Dec.{leb}
use lib.ListN.{length, length-append}
use lib.Seq.{append_snoc}
use Rattle.model.specs.Lists.{All, empty, more}
use Rattle.model.specs.Table.{Table, size, component_of}
use Rattle.model.specs.Schedule.{Passage, own}
use Rattle.model.specs.Network.{State, Label, start, follow, passages_on, Work, works_on, Observation, observations_on}
use Rattle.model.specs.Demand3.{PassAs, SteppedBefore, Begins}
use Rattle.model.proofs.Basics.Bools.{clash}
use Rattle.model.proofs.Basics.Words.{all_join}
use Rattle.model.proofs.Network.Lanes.{Lane, lane, at-work, lane_at, state_of, ahead_of}
use Rattle.model.proofs.Network.Says.{seen, same_rest, reached_shows_first, reached_valid, reached_works, reached_scheduled, reached_kept}
use Rattle.model.proofs.Network.Passing.{Passing}

-- what the path shows of component c, up to the tick, with the schedule's edge where it has yet to step in
abbrev pub shown_on : Table → List Passage → List Label → ℕ → ℕ → List Observation
shown_on T S p τ c = observations_on (component_of T c) c τ (passages_on T c (start T) p) (map (λ v. v.edge) (own c S))

-- the path that demand 3 asks for: fields `path` to `kept`, its works, and the observations of passages whose work is finished (and of the
-- one in work) as its first
pub record Witness (T : Table) (S : List Passage) (τ : ℕ) (A : ℕ → List Passage) (ws : List Work) : Type 0 where
  pub path : List Label
  pub last : State
  pub valid : follow T (start T) path ≡ some last
  pub reach : last.tick ≡ τ
  pub scheduled : (c : ℕ) → c < size T → PassAs (passages_on T c (start T) path) (own c S)
  pub kept : (c : ℕ) → c < size T → SteppedBefore last.tick (passages_on T c (start T) path) (own c S)
  pub works : works_on T (start T) path ≡ ws
  -- Up to a tick no later than the last: passages whose work was finished by a run, all ready by then, are shown first, if the path has
  -- finished no fewer; and so is the next one, if it was ready by then.
  pub shows : (c : ℕ) → c < size T → (t : ℕ) → t ≤ τ → (fin B : List Passage) → fin ++ B ≡ own c S → All (λ v. v.ready ≤ t) fin → length (A c) ≤ length B
      → Begins (map (seen (component_of T c) c) fin) (shown_on T S path t c)
  pub shows_next : (c : ℕ) → c < size T → (t : ℕ) → t ≤ τ → (fin B : List Passage) → fin ++ B ≡ own c S → All (λ v. v.ready ≤ t) fin → length (A c) ≤ length B
      → (v : Passage) (vs : List Passage) → B ≡ v ∷ vs → v.ready ≤ t → Begins (map (seen (component_of T c) c) (fin ++ (v ∷ []))) (shown_on T S path t c)

module _ (T : Table) (H : ℕ) (S : List Passage) {τ : ℕ} {A : ℕ → List Passage} {ws : List Work} (g : Passing T H S τ A ws) where
  -- Up to a tick no later than now: passages whose work was finished by a run, all ready by then, are shown first, if the path has finished no
  -- fewer; and so is the next one, if it was ready by then.
  module _ (c : ℕ) (h : c < size T) (t : ℕ) (earlier : t ≤ τ) (fin B : List Passage) (whole : fin ++ B ≡ own c S) (ready : All (λ v. v.ready ≤ t) fin)
      (fewer : length (A c) ≤ length B) where
    abbrev K : Lane
    K = lane_at g.lanes c

    abbrev past : List Passage
    past = g.reached.past c

    counted : length fin + length B ≡ length past + suc (length K.next)
    counted =
        sym (length-append fin B) ∙ (ap length (whole ∙ sym (g.reached.stands c h).whole) ∙ length-append past (K.passage ∷ K.next))

    passing_shows : Begins (map (seen (component_of T c) c) fin) (shown_on T S g.path t c)
    passing_shows = reached_shows_first T H S g.path τ g.lanes ws g.reached c h t fin B whole ready (go K.done refl)
      where
        go : (x : Bool) → K.done ≡ x → length fin ≤ suc (length past)
        go true d =
            omega (arith, counted, fewer, ap length (sym (g.aheads c h) ∙ ap (λ (x : Bool). ahead_of x K.passage K.next) d))
        go false d =
            omega (arith, counted, fewer, ap length (sym (g.aheads c h) ∙ ap (λ (x : Bool). ahead_of x K.passage K.next) d))

    passing_shows_next : (v : Passage) (vs : List Passage) → B ≡ v ∷ vs → v.ready ≤ t → Begins (map (seen (component_of T c) c) (fin ++ (v ∷ []))) (shown_on T S g.path t c)
    passing_shows_next v vs e l =
        reached_shows_first T H S g.path τ g.lanes ws g.reached c h t (fin ++ (v ∷ [])) vs
        (append_snoc fin v vs ∙ (ap (λ (x : List Passage). fin ++ x) (sym e) ∙ whole))
        (all_join ready (more l empty))
        (omega (arith, length-append fin (v ∷ []), go K.done refl))
      where
        go : (x : Bool) → K.done ≡ x → length fin ≤ length past
        go true d = by (leb (length fin) (length past)) refl
          where
            next : A c ≡ K.next
            next = sym (g.aheads c h) ∙ ap (λ (x : Bool). ahead_of x K.passage K.next) d

            by : (x : Bool) → leb (length fin) (length past) ≡ x → length fin ≤ length past
            by true q = leb-true (length fin) (length past) q
            by false q =
                let m = leb-false (length fin) (length past) q in
                let n = counted in
                let f = fewer in
                let w : (past ++ (K.passage ∷ [])) ++ K.next ≡ own c S = append_snoc past K.passage K.next ∙ (g.reached.stands c h).whole in
                let i : B ≡ K.next = same_rest fin B (past ++ (K.passage ∷ [])) K.next (whole ∙ sym w) (omega (arith, length-append past (K.passage ∷ []), ap length next)) in
                let j : K ≡ lane v false vs =
                at-work K (g.reached.stands c h).good (g.reached.settled c h) v vs (g.aheads c h ∙ (next ∙ (sym i ∙ e))) (omega arith) in
                clash (sym (ap (λ (x : Lane). x.done) j) ∙ d)
        go false d =
            omega (arith, counted, fewer, ap length (sym (g.aheads c h) ∙ ap (λ (x : Bool). ahead_of x K.passage K.next) d))

  -- a passing has such a path
  pub passing_witness : Witness T S τ A ws
  passing_witness =
      record {
        path = g.path;
        last = state_of τ g.lanes;
        valid = reached_valid T H S g.path τ g.lanes ws g.reached;
        reach = refl;
        scheduled = reached_scheduled T H S g.path τ g.lanes ws g.reached;
        kept = reached_kept T H S g.path τ g.lanes ws g.reached;
        works = reached_works T H S g.path τ g.lanes ws g.reached;
        shows = passing_shows;
        shows_next = passing_shows_next;
      }
