-- The listener lemma: a node past its sleep and yet to send has exactly one listener, which began earlier: its partner. Assumes nothing.
use mathlib.Core.Path.{◌≡◌, refl, sym, ap, ap₂, subst, ◌∙◌}
use mathlib.Core.Bool.{Bool, true, false, cond, ◌&&◌, not}
use mathlib.Core.List.{List, [], ◌∷◌}
use mathlib.Core.Option.{some}
use Prim.Native.Nat.{ℕ, zero, suc, ◌+◌, ◌≤◌, ◌<◌}
use native.Mathlib.Omega.{arith}
use borrow.Author.Tests.{eqb-false, ne_eqb, le-leb, not-true}
use lib.Dec.{leb, eqb}
use lib.ListN.{length}
use Rattle.model.specs.declared.Action.{Action}
use Rattle.model.specs.declared.Action.TheVariants.{Internal, Send, Receive}
use Rattle.model.specs.Lists.{any, only, from}
use Rattle.model.specs.Table.{Component, Read, size, component_of, arc_of}
use Rattle.model.specs.Window.{Pick, sends, receives, channel_of, listens}
use Rattle.model.specs.Schedule.{Passage, names}
use Rattle.model.specs.Network.{hears_on}
use Rattle.model.specs.Run.{Setting, setting_at, offset_of, Run, node_of, began, hears, listeners}
use Rattle.model.proofs.Basics.Bools.{clash, and_is}
use Rattle.model.proofs.Node.Working.{Working}
use Rattle.model.proofs.Node.Phase.{is_working, action_of}
use Rattle.model.proofs.Node.Listening.{heading_hears, asleep_hears, working_hears, phase_hears}
use Rattle.model.proofs.Node.Passage.{working_passage}
use Rattle.model.proofs.Network.Ahead.{Partner}
use Rattle.model.proofs.Network.Ahead.{partner as partner-at}
use Rattle.model.proofs.Run.Tied.{Given, Held, coming, waiting, busy, leaving, resting, clock_at, offset_least, opened_first}
use Rattle.model.proofs.Run.Tick.{Live}
use Rattle.model.proofs.Run.Move.{edge_same}

-- ## One of a list of numbers

module _ (p : ℕ → Bool) where
  -- of these numbers p holds of none
  only_nothing : (i n : ℕ) → ((j : ℕ) → i ≤ j → j < i + n → p j ≡ false) → only p (from i n) ≡ []
  only_nothing i zero f = refl
  only_nothing i (suc n) f = ap (λ (x : Bool). cond x (i ∷ only p (from (suc i) n)) (only p (from (suc i) n))) (f i (omega arith) (omega arith)) ∙ only_nothing (suc i) n (λ j l m. f j (omega arith) (omega arith))

  -- of these numbers p holds of one
  only_single : (i n b : ℕ) → i ≤ b → b < i + n → p b ≡ true → ((j : ℕ) → i ≤ j → j < i + n → p j ≡ true → j ≡ b) → only p (from i n) ≡ b ∷ []
  only_single i zero b l m t f = absurd (omega arith)
  only_single i (suc n) b l m t f = go (only_single (suc i) n b) (p i) refl
    where
      none' : i ≡ b → (j : ℕ) → suc i ≤ j → j < suc i + n → (x : Bool) → p j ≡ x → x ≡ false
      none' e j c d true q = absurd (omega (arith, f j (omega arith) (omega arith) q))
      none' e j c d false q = refl

      go : (suc i ≤ b → b < suc i + n → p b ≡ true → ((j : ℕ) → suc i ≤ j → j < suc i + n → p j ≡ true → j ≡ b) → only p (from (suc i) n) ≡ b ∷ []) → (x : Bool) → p i ≡ x
          → cond x (i ∷ only p (from (suc i) n)) (only p (from (suc i) n)) ≡ b ∷ []
      go ih true q =
          let e : i ≡ b = f i (omega arith) (omega arith) q in
          ap₂ (λ (x : ℕ) (l : List ℕ). x ∷ l) e (only_nothing (suc i) n (λ j c d. none' e j c d (p j) refl))
      go ih false q =
          let n : i ≡ b → ⊥ = (λ e. clash (sym q ∙ (ap p e ∙ t))) in
          ih (omega (arith, n)) (omega arith) t (λ j c d. f j (omega arith) (omega arith))

-- an edge that listens receives
pub receives_only : (a : Action) → receives a ≡ true → a ≡ Receive
receives_only Internal e = clash e
receives_only (Send k) e = clash e
receives_only Receive e = refl

-- ## The listener

module _ {t : Read} {H : ℕ} {S : List Passage} {offs : List ℕ} (G : Given t H S offs) {s : Run} (k : Live G s) (c : ℕ) (h : c < size t.table) (v : Passage) (vs : List Passage) (e : k.tied.ahead c ≡ v ∷ vs)
    (ready : v.ready ≤ clock_at G s.tick c) {i : ℕ} {j : Pick} (p : Working (component_of t.table c) i v.entry j (node_of s c)) (a : ℕ)
    (action : action_of (component_of t.table c) j ≡ Send a) where
  -- what the run goes by
  abbrev g : Setting
  g = setting_at t H S offs

  -- the common tick at which its window began
  abbrev since : ℕ
  since = began g c (node_of s c)

  -- the passage's edge sends on that channel
  pub sends_on : channel_of (arc_of (component_of t.table c) v.edge) ≡ some a
  sends_on = ap sends (ap (λ (n : ℕ). (arc_of (component_of t.table c) n).edge.action) (edge_same G k.tied.along c h v vs e p.chosen) ∙ action)

  -- the partner
  pub partner : Partner G.spread G.most t.table H S G.sched G.checks (clock_at G s.tick) k.tied.ahead c v a
  partner = partner-at G.spread G.most t.table H S G.sched G.checks k.tied.along c h v vs e ready (omega (arith, k.below)) a sends_on

  -- its number
  abbrev pub other : ℕ
  other = partner.component

  -- the partner is at work in its receive
  pub record Listens : Type 0 where
    pub pick : Pick
    pub at_work : Working (component_of t.table other) (k.tied.ties other partner.there).count partner.passage.entry pick (node_of s other)
    pub more : (k.tied.ties other partner.there).more ≡ partner.passage ∷ []
    pub since : partner.passage.ready ≤ clock_at G s.tick other
    pub edge : partner.passage.edge ≡ pick.edge

  -- so it is: its ready lies before now, and nobody is late
  pub partner_listens : Listens
  partner_listens = go (k.tied.ties other partner.there).held
    where
      D : Component
      D = component_of t.table other

      w : Passage
      w = partner.passage

      same : (x : Passage) (xs : List Passage) → k.tied.ahead other ≡ x ∷ xs → x ≡ w
      same x xs f = let z : x ∷ xs ≡ w ∷ partner.rest = sym f ∙ partner.ahead in cc

      some_ahead : k.tied.ahead other ≡ [] → ⊥
      some_ahead f = let z : [] ≡ w ∷ partner.rest = sym f ∙ partner.ahead in let z : ◌≡◌ {A = ℕ} 0 1 = cc in omega arith

      early : (x : Passage) (xs : List Passage) → k.tied.ahead other ≡ x ∷ xs → clock_at G s.tick other ≤ x.ready → ⊥
      early x xs f l = omega (arith, partner.ready, ap (λ (y : Passage). y.ready) (same x xs f))

      go : Held H D (clock_at G s.tick other) (k.tied.ties other partner.there).count (node_of s other) (k.tied.ahead other) (k.tied.ties other partner.there).more → Listens
      go (coming x xs f m l q) = absurd (early x xs f l)
      go (waiting x xs f m l n q) = absurd (early x xs f l)
      go (busy x xs f m l b n q) =
          let o : Working D (k.tied.ties other partner.there).count w.entry n (node_of s other) =
          subst (λ (y : Passage). Working D (k.tied.ties other partner.there).count y.entry n (node_of s other)) (same x xs f) q in
          record {
            pick = n;
            at_work = o;
            more = m ∙ ap (λ (y : Passage). y ∷ []) (same x xs f);
            since = omega (arith, ap (λ (y : Passage). y.ready) (same x xs f));
            edge = edge_same G k.tied.along other partner.there w partner.rest partner.ahead o.chosen;
          }
      go (leaving at f m l q) = absurd (some_ahead f)
      go (resting at f m l n q) = absurd (some_ahead f)

  -- the registers of both: it began earlier
  pub began_earlier : began g other (node_of s other) < began g c (node_of s c)
  began_earlier =
      let o = opened_first G k.tied.along c h v vs e in
      let u = opened_first G k.tied.along other partner.there partner.passage partner.rest partner.ahead in
      omega (arith, (working_passage o p).ready, (working_passage u partner_listens.at_work).ready, partner.earlier, offset_least G other partner.there)

  -- it hears
  partner_hears : hears g a since other (node_of s other) ≡ true
  partner_hears =
      working_hears g a since other l
      ∙ (and_is (hears_on (arc_of D partner_listens.pick.edge) (some a)) (leb (w.entry.tick + partner_listens.pick.ready + offset_of g other) since)).1 (
        subst (λ (n : ℕ). hears_on (arc_of D n) (some a) ≡ true) partner_listens.edge
            ((and_is (listens (arc_of D w.edge)) (any (λ q. eqb q.channel a) (arc_of D w.edge).pairs)).1 (partner.partners.receives, partner.partners.named)),
        le-leb (w.entry.tick + partner_listens.pick.ready + offset_of g other) since (omega (arith, l.t, began_earlier)),
      )
    where
      D : Component
      D = component_of t.table other

      w : Passage
      w = partner.passage

      l : Working D (k.tied.ties other partner.there).count w.entry partner_listens.pick (node_of s other)
      l = partner_listens.at_work

  -- nobody else hears
  hears_alone : (d : ℕ) → d < size t.table → (d ≡ c → ⊥) → hears g a since d (node_of s d) ≡ true → d ≡ other
  hears_alone d l n q = go (k.tied.ties d l).held
    where
      D : Component
      D = component_of t.table d

      go : Held H D (clock_at G s.tick d) (k.tied.ties d l).count (node_of s d) (k.tied.ahead d) (k.tied.ties d l).more → d ≡ other
      go (coming x xs f m b y) = clash (sym (heading_hears g a since d y) ∙ q)
      go (waiting x xs f m b z y) = clash (sym (asleep_hears g a since d y) ∙ q)
      go (busy x xs f m b u z y) =
          let w = phase_hears g a since d (is_working z y) q in
          let i : x.edge ≡ w.pick.edge = edge_same G k.tied.along d l x xs f w.at_work.chosen in
          partner.alone d l n x xs f b
          (subst (λ (n : ℕ). listens (arc_of D n) ≡ true) (sym i) w.action)
          (subst (λ (n : ℕ). names (arc_of D n) (some a) ≡ true) (sym i) w.named)
      go (leaving at f m b y) = clash (sym (heading_hears g a since d y) ∙ q)
      go (resting at f m b z y) = clash (sym (asleep_hears g a since d y) ∙ q)

  -- so the listeners are the partner alone
  pub listeners_are : listeners g s c a ≡ other ∷ []
  listeners_are =
      only_single (λ i. not (eqb i c) && hears g a since i (node_of s i)) 0 (length s.nodes) other (omega arith) (omega (arith, partner.there, k.tied.full))
      ((and_is (not (eqb other c)) (hears g a since other (node_of s other))).1
      (ap not (ne_eqb other c (λ i. partner.partners.differ (sym i))), partner_hears))
      (λ d l m q.
      let x = (and_is (not (eqb d c)) (hears g a since d (node_of s d))).0 q in
      hears_alone d (omega (arith, k.tied.full)) (eqb-false d c (not-true (eqb d c) x.0)) x.1)
