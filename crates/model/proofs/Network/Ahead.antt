-- The passages ahead of nodes whose clocks lie at most G apart, for a table that 10 to 12 accept at G: a sender in its window has exactly one
-- partner, which is first ahead; and what is finished leaves passages ahead. Assumes nothing.
use mathlib.Core.Path.{◌≡◌, refl, sym, ap, subst, ◌∙◌}
use mathlib.Core.Logic.{◌⊎◌, inl, inr}
use mathlib.Core.Bool.{Bool, true, false, cond}
use mathlib.Core.List.{List, [], ◌∷◌, ◌++◌}
use mathlib.Core.Option.{Option, none, some}
use Prim.Native.Nat.{ℕ, suc, ◌+◌, ◌≤◌, ◌<◌}
use native.Mathlib.Omega.{arith}
use borrow.Author.Tests.{le-leb, leb-true, leb-false, eqb-true, eqb-false, eq-eqb, ne_eqb}
use lib.Dec.{leb, eqb}
use lib.Seq.{append_snoc}
use Rattle.model.specs.Lists.{◌∈◌, here, there, All, empty, more, accepted}
use Rattle.model.specs.Table.{Table, size, component_of, arc_of}
use Rattle.model.specs.Window.{receives, channel_of, listens}
use Rattle.model.specs.Schedule.{Passage, passage_arc, own, names, others}
use Rattle.model.specs.Checks.{near, is_send, is_receive, may_hear, checked}
use Rattle.model.specs.Chains.{IsSchedule}
use Rattle.model.proofs.Basics.Members.{in_append, not_in}
use Rattle.model.specs.Network.{one, two}
use Rattle.model.proofs.Basics.Words.{all_join}
use Rattle.model.proofs.Basics.Bools.{and_is}
use Rattle.model.proofs.Checks.Heard.{Listener, heard_law, sender_law, hears_is, others_is, send_is}
use Rattle.model.proofs.Checks.Independence.{lower}
use Rattle.model.proofs.Schedule.Own.{all_in, all_then, own_in}
use Rattle.model.proofs.Network.Links.{Links, first_fits, each_fits, later_ready, schedule_linked}
use Rattle.model.proofs.Network.Steps.{Alone}
use Rattle.model.proofs.Network.Passing.{Partners}
use Rattle.model.proofs.Network.Partners.{Paired, paired_start, paired_without, without_one, without_two, component_there, heard_message, alone_unpaired, together_paired, windows}
use Rattle.model.proofs.Network.Order.{Moved, Fires}
use Rattle.model.proofs.Network.Order.{alone as does-alone, both as does-both}
use Rattle.model.proofs.Network.Fill.{links_from}

module _ (G limit : ℕ) (T : Table) (H : ℕ) (S : List Passage) (sched : IsSchedule limit T H S) (ok : checked G T H S ≡ accepted S) where
  pub accepted_at_0 : checked 0 T H S ≡ accepted S
  accepted_at_0 = lower G 0 (omega arith) T H S (windows limit T H S sched) ok

  pub record Along (clock : ℕ → ℕ) (A : ℕ → List Passage) : Type 0 where
    -- what is finished was ready
    pub rest : (c : ℕ) → c < size T → (fin : List Passage) × (fin ++ A c ≡ own c S) × All (λ v. v.ready ≤ clock c) fin
    pub before : (c : ℕ) → c < size T → (x : Passage) → x ∈ A c → clock c ≤ x.end
    pub close : (a b : ℕ) → a < size T → b < size T → clock a ≤ clock b + G
    pub paired : Paired limit T H S sched A

  -- at the start no clock has gone on
  pub along_start : (clock : ℕ → ℕ) → ((c : ℕ) → c < size T → clock c ≡ 0) → Along clock (λ c. own c S)
  along_start clock none' =
      record {
        rest = λ c h. ([], refl, empty);
        before = λ c h x m. omega (arith, none' c h);
        close = λ a b ha hb. omega (arith, none' a ha);
        paired = paired_start limit T H S sched;
      }

  -- the partner of component a, which is in its send window in passage v, on channel k
  pub record Partner (clock : ℕ → ℕ) (A : ℕ → List Passage) (a : ℕ) (v : Passage) (k : ℕ) : Type 0 where
    pub component : ℕ
    pub there : component < size T
    pub passage : Passage
    pub rest : List Passage
    pub ahead : A component ≡ passage ∷ rest
    pub partners : Partners T a v component passage k
    pub earlier : passage.ready + G < v.ready
    pub later : v.end + G < passage.end
    -- both windows hold both clocks
    pub ready : passage.ready < clock component
    pub end : clock component < passage.end
    -- no other component is in a receive window that names the channel
    pub alone : (d : ℕ) → d < size T → (d ≡ a → ⊥) → (w : Passage) (us : List Passage) → A d ≡ w ∷ us → w.ready ≤ clock d
        → listens (arc_of (component_of T d) w.edge) ≡ true → names (arc_of (component_of T d) w.edge) (some k) ≡ true → d ≡ component

  module _ {clock : ℕ → ℕ} {A : ℕ → List Passage} (g : Along clock A) where
    pub linked : (c : ℕ) → c < size T → (v : Passage) (vs : List Passage) → A c ≡ v ∷ vs → Links H (component_of T c) v vs
    linked c h v vs e =
        let k = schedule_linked limit T H S sched c h in
        let r = g.rest c h in
        links_from r.0 k.head k.tail k.linked v vs (ap (λ (l : List Passage). r.0 ++ l) (sym e) ∙ (r.1 ∙ k.is))

    pub ahead_own : (c : ℕ) → c < size T → (x : Passage) → x ∈ A c → (x ∈ S) × (x.component ≡ c)
    ahead_own c h x m = let r = g.rest c h in own_in c S (subst (λ (l : List Passage). x ∈ l) r.1 ((in_append r.0 (A c)).1 (inr m)))

    -- the first passage ahead is one of the schedule's
    pub first_own : (c : ℕ) → c < size T → (v : Passage) (vs : List Passage) → A c ≡ v ∷ vs → (v ∈ S) × (v.component ≡ c)
    first_own c h v vs e = ahead_own c h v (subst (λ (l : List Passage). v ∈ l) (sym e) (here refl))

    -- it ends now or later
    pub first_before : (c : ℕ) → c < size T → (v : Passage) (vs : List Passage) → A c ≡ v ∷ vs → clock c ≤ v.end
    first_before c h v vs e = g.before c h v (subst (λ (l : List Passage). v ∈ l) (sym e) (here refl))

    -- A tick passes for those whose clocks go on: no passage ahead of them that is ready ends now.
    pub along_tick : (later : ℕ → ℕ) → ((a b : ℕ) → a < size T → b < size T → later a ≤ later b + G)
        → ((c : ℕ) → c < size T → (later c ≡ clock c) ⊎ ((later c ≡ suc (clock c)) × ((v : Passage) (vs : List Passage) → A c ≡ v ∷ vs → v.ready ≤ clock c → clock c < v.end)))
        → Along later A
    along_tick later near' on =
        record { rest = λ c h. rest c h (on c h); before = λ c h x m. before c h x m (on c h); close = near'; paired = g.paired }
      where
        On : ℕ → Type 0
        On c = (later c ≡ clock c) ⊎ ((later c ≡ suc (clock c)) × ((v : Passage) (vs : List Passage) → A c ≡ v ∷ vs → v.ready ≤ clock c → clock c < v.end))

        rest : (c : ℕ) → c < size T → On c → (fin : List Passage) × (fin ++ A c ≡ own c S) × All (λ v. v.ready ≤ later c) fin
        rest c h (inl i) = let r = g.rest c h in (r.0, r.1, all_then (λ v k. omega (arith, k)) r.2)
        rest c h (inr i) = let r = g.rest c h in let j = i.0 in (r.0, r.1, all_then (λ v k. omega (arith, k)) r.2)

        before : (c : ℕ) → c < size T → (x : Passage) → x ∈ A c → On c → later c ≤ x.end
        before c h x m (inl i) = omega (arith, g.before c h x m)
        before c h x m (inr i) = go (A c) refl m
          where
            first : (v : Passage) (vs : List Passage) → A c ≡ v ∷ vs → clock c < v.end
            first v vs e = by (leb v.ready (clock c)) refl
              where
                by : (t : Bool) → leb v.ready (clock c) ≡ t → clock c < v.end
                by true q = i.1 v vs e (leb-true v.ready (clock c) q)
                by false q = omega (arith, leb-false v.ready (clock c) q, (first_fits (linked c h v vs e)).window)

            go : (l : List Passage) → A c ≡ l → x ∈ l → later c ≤ x.end
            go [] e n = absurd (not_in n)
            go (v ∷ vs) e (here q) = omega (arith, i.0, first v vs e, ap (λ (y : Passage). y.end) q)
            go (v ∷ vs) e (there n) =
                let k = linked c h v vs e in
                omega (arith, i.0, first v vs e, later_ready k x n, (each_fits k x (there n)).window)

    -- A receive whose work is unfinished at its end has no message: its sender's clock would have passed the send's end, with both finished.
    pub silent_at_end : (c : ℕ) → c < size T → (v : Passage) (vs : List Passage) → A c ≡ v ∷ vs → clock c ≡ v.end
        → listens (arc_of (component_of T c) v.edge) ≡ true → v.message ≡ none
    silent_at_end c h v vs e end receive = go v.message refl
      where
        o : (v ∈ S) × (v.component ≡ c)
        o = first_own c h v vs e

        receive' : listens (passage_arc T v) ≡ true
        receive' = subst (λ (i : ℕ). listens (arc_of (component_of T i) v.edge) ≡ true) (sym o.1) receive

        present : v ∈ A v.component
        present = subst (λ (i : ℕ). v ∈ A i) (sym o.1) (subst (λ (l : List Passage). v ∈ l) (sym e) (here refl))

        -- who hears without a spread hears with one
        wider : (s : Passage) → may_hear 0 T v s ≡ true → may_hear G T v s ≡ true
        wider s m =
            let q = (hears_is 0 T v s).0 m in
            let n = (and_is (leb v.ready (s.end + 0)) (leb s.ready (v.end + 0))).0 q.3 in
            let f = leb-true v.ready (s.end + 0) n.0 in
            let j = leb-true s.ready (v.end + 0) n.1 in
            let w : near G v s ≡ true = rw (le-leb v.ready (s.end + G) (omega arith), le-leb s.ready (v.end + G) (omega arith)) in
            (hears_is G T v s).1 (q.0, q.1, q.2, w)

        go : (m : Option ℕ) → v.message ≡ m → m ≡ none
        go none q = refl
        go (some k) q =
            let s = sender_law 0 T H S (windows limit T H S sched) v k receive' (sym (all_in sched.messages o.0) ∙ q) in
            let i = (g.paired s.passage v s.listed o.0 s.sends s.hears).1 present in
            let hs = component_there limit T H S sched s.passage s.listed in
            let l = heard_law G T H S ok s.passage s.listed s.sends in
            let f : v ≡ l.passage = l.unique v o.0 (wider s.passage s.hears) in
            absurd (omega (
              arith,
              g.before s.passage.component hs s.passage i,
              g.close c s.passage.component h hs,
              l.later,
              ap (λ (y : Passage). y.end) f,
            ))

    -- what is finished, with the first passage ahead
    one_off : {c n : ℕ} → (fin : List Passage) × (fin ++ A c ≡ own c S) × All (λ x. x.ready ≤ n) fin → (v : Passage) (vs : List Passage) → A c ≡ v ∷ vs → v.ready ≤ n
        → (fin : List Passage) × (fin ++ vs ≡ own c S) × All (λ x. x.ready ≤ n) fin
    one_off r v vs e l = (
      r.0 ++ (v ∷ []),
      append_snoc r.0 v vs ∙ (ap (λ (f : List Passage). r.0 ++ f) (sym e) ∙ r.1),
      all_join r.2 (more l empty),
    )

    -- Component c finishes alone the work of the first passage ahead: an internal edge in its window, or a timeout at its end.
    module _ (c : ℕ) (h : c < size T) (v : Passage) (vs : List Passage) (e : A c ≡ v ∷ vs) (ready : v.ready ≤ clock c) (a : Alone (component_of T c) (clock c) v)
        (B : ℕ → List Passage) (this : B c ≡ vs) (others : (d : ℕ) → d < size T → (d ≡ c → ⊥) → B d ≡ A d) where
      pub along_alone : Along clock B
      along_alone =
          let o = first_own c h v vs e in
          record {
            rest = λ d y. rest d y (eqb d c) refl;
            before = λ d y x m. g.before d y x (fewer d y x m (eqb d c) refl);
            close = g.close;
            paired =
                paired_without limit T H S sched A B g.paired (without_one limit T H S sched A B c v vs o.1 (linked c h v vs e) e this others)
                (alone_unpaired limit T H S sched accepted_at_0 (clock c) v o.0 (subst (λ (i : ℕ). Alone (component_of T i) (clock c) v) (sym o.1) a));
          }
        where
          Rest : ℕ → List Passage → Type 0
          Rest d l = (fin : List Passage) × (fin ++ l ≡ own d S) × All (λ x. x.ready ≤ clock d) fin

          rest : (d : ℕ) → d < size T → (t : Bool) → eqb d c ≡ t → Rest d (B d)
          rest d y true f = subst (λ (n : ℕ). Rest n (B n)) (sym (eqb-true d c f)) (subst (Rest c) (sym this) (one_off (g.rest c h) v vs e ready))
          rest d y false f = subst (Rest d) (sym (others d y (eqb-false d c f))) (g.rest d y)

          fewer : (d : ℕ) → d < size T → (x : Passage) → x ∈ B d → (t : Bool) → eqb d c ≡ t → x ∈ A d
          fewer d y x m true f =
              let z = eqb-true d c f in
              subst (λ (n : ℕ). x ∈ A n) (sym z) (subst (λ (l : List Passage). x ∈ l) (sym e) (there (subst (λ (l : List Passage). x ∈ l) (ap B z ∙ this) m)))
          fewer d y x m false f = subst (λ (l : List Passage). x ∈ l) (others d y (eqb-false d c f)) m

      pub alone_fires : Fires T (one c (clock c)) A B
      alone_fires =
          record {
            at = at;
            moved = λ d y. moved d y (eqb d c) refl;
            timely = λ d y x z. timely x (eqb d c) z;
            is = does-alone c (clock c) h v (rw (eq-eqb c c refl)) (λ d y n. rw (ne_eqb d c n)) a;
          }
        where
          at : ℕ → Option Passage
          at d = cond (eqb d c) (some v) none

          moved : (d : ℕ) → d < size T → (t : Bool) → eqb d c ≡ t → Moved (cond t (some v) none) (A d) (B d)
          moved d y true f = let z = eqb-true d c f in ap A z ∙ (e ∙ ap (λ (l : List Passage). v ∷ l) (sym (ap B z ∙ this)))
          moved d y false f = others d y (eqb-false d c f)

          timely : (x : Passage) (t : Bool) → cond t (some v) none ≡ some x → (x.ready ≤ clock c) × (clock c ≤ x.end)
          timely x true z =
              let j : v ≡ x = cc in
              (omega (arith, ap (λ (y : Passage). y.ready) j), omega (arith, first_before c h v vs e, ap (λ (y : Passage). y.end) j))
          timely x false z = absurd (let w : ◌≡◌ {A = ℕ} 0 1 = cc in omega arith)

    module _ (a : ℕ) (ha : a < size T) (v : Passage) (vs : List Passage) (e : A a ≡ v ∷ vs) (ready : v.ready ≤ clock a) (below : clock a < H) (k : ℕ)
        (channel : channel_of (arc_of (component_of T a) v.edge) ≡ some k) where
      mine : v ∈ A a
      mine = subst (λ (x : List Passage). v ∈ x) (sym e) (here refl)

      until : clock a ≤ v.end
      until = g.before a ha v mine

      o : (v ∈ S) × (v.component ≡ a)
      o = ahead_own a ha v mine

      ch : channel_of (passage_arc T v) ≡ some k
      ch = subst (λ (i : ℕ). channel_of (arc_of (component_of T i) v.edge) ≡ some k) (sym o.1) channel

      send : is_send T H v ≡ true
      send = (send_is T H v).1 (k, ch, omega arith)

      l : Listener G T S v
      l = heard_law G T H S ok v o.0 send

      abbrev r : Passage
      r = l.passage

      abbrev b : ℕ
      b = r.component

      hb : b < size T
      hb = component_there limit T H S sched r l.listed

      -- it shares a tick with the send
      shares : may_hear 0 T r v ≡ true
      shares =
          let q = (hears_is G T r v).0 l.hears in
          let w = windows limit T H S sched v o.0 in
          let n : near 0 r v ≡ true = rw (le-leb r.ready (v.end + 0) (omega (arith, l.earlier)), le-leb v.ready (r.end + 0) (omega (arith, l.later))) in
          (hears_is 0 T r v).1 (q.0, q.1, q.2, n)

      present : r ∈ A b
      present = (g.paired v r o.0 l.listed send shares).0 (subst (λ (i : ℕ). v ∈ A i) (sym o.1) mine)

      pub partner : Partner clock A a v k
      partner = found (A b) refl present
        where
          q : (is_receive T r ≡ true) × (others r v ≡ true) × (names (passage_arc T r) (channel_of (passage_arc T v)) ≡ true) × (near G r v ≡ true)
          q = (hears_is G T r v).0 l.hears

          found : (x : List Passage) → A b ≡ x → r ∈ x → Partner clock A a v k
          found [] i m = absurd (not_in m)
          found (w ∷ us) i (here p) =
              record {
                component = b;
                there = hb;
                passage = r;
                rest = us;
                ahead = i ∙ ap (λ (y : Passage). y ∷ us) (sym p);
                partners =
                    record {
                      differ = λ j. (others_is r v).0 q.1 (sym j ∙ sym o.1);
                      channel = channel;
                      receives = q.0;
                      named = subst (λ (x : Option ℕ). names (passage_arc T r) x ≡ true) ch q.2;
                      message = heard_message limit T H S sched accepted_at_0 v r o.0 l.listed send shares ∙ ch;
                    };
                earlier = l.earlier;
                later = l.later;
                ready = omega (arith, l.earlier, g.close a b ha hb);
                end = omega (arith, l.later, g.close b a hb ha, until);
                alone = single;
              }
            where
              single : (d : ℕ) → d < size T → (d ≡ a → ⊥) → (w : Passage) (us : List Passage) → A d ≡ w ∷ us → w.ready ≤ clock d
                  → listens (arc_of (component_of T d) w.edge) ≡ true → names (arc_of (component_of T d) w.edge) (some k) ≡ true → d ≡ b
              single d hd ne w us i rd li na =
                  let m : w ∈ A d = subst (λ (x : List Passage). w ∈ x) (sym i) (here refl) in
                  let p = ahead_own d hd w m in
                  let u = g.before d hd w m in
                  let n : near G w v ≡ true =
                  rw (le-leb w.ready (v.end + G) (omega (arith, g.close d a hd ha, until)), le-leb v.ready (w.end + G) (omega (arith, g.close a d ha hd))) in
                  let li' : listens (passage_arc T w) ≡ true = subst (λ (c : ℕ). listens (arc_of (component_of T c) w.edge) ≡ true) (sym p.1) li in
                  let na' : names (passage_arc T w) (some k) ≡ true = subst (λ (c : ℕ). names (arc_of (component_of T c) w.edge) (some k) ≡ true) (sym p.1) na in
                  let h : may_hear G T w v ≡ true =
                  (hears_is G T w v).1 (li', (others_is w v).1 (λ j. ne (sym p.1 ∙ j ∙ o.1)), ap (names (passage_arc T w)) ch ∙ na', n) in
                  sym p.1 ∙ ap (λ (x : Passage). x.component) (l.unique w p.0 h)
          found (w ∷ us) i (there n) =
              absurd (omega (
                arith,
                later_ready (linked b hb w us i) r n,
                g.before b hb w (subst (λ (x : List Passage). w ∈ x) (sym i) (here refl)),
                g.close a b ha hb,
                l.earlier,
              ))

      -- It sends, and its partner takes the message: both finish the works of the first passages ahead, at the sender's tick.
      module _ (p : Partner clock A a v k) (B : ℕ → List Passage) (this_a : B a ≡ vs) (this_b : B p.component ≡ p.rest)
          (others : (d : ℕ) → d < size T → (d ≡ a → ⊥) → (d ≡ p.component → ⊥) → B d ≡ A d) where
        abbrev i : ℕ
        i = p.component

        apart : i ≡ a → ⊥
        apart j = p.partners.differ (sym j)

        theirs : p.passage ∈ A i
        theirs = subst (λ (x : List Passage). p.passage ∈ x) (sym p.ahead) (here refl)

        q : (p.passage ∈ S) × (p.passage.component ≡ i)
        q = ahead_own i p.there p.passage theirs

        hears : may_hear 0 T p.passage v ≡ true
        hears =
            let li : listens (passage_arc T p.passage) ≡ true = subst (λ (c : ℕ). listens (arc_of (component_of T c) p.passage.edge) ≡ true) (sym q.1) p.partners.receives in
            let na : names (passage_arc T p.passage) (some k) ≡ true =
            subst (λ (c : ℕ). names (arc_of (component_of T c) p.passage.edge) (some k) ≡ true) (sym q.1) p.partners.named in
            let w = windows limit T H S sched v o.0 in
            let n : near 0 p.passage v ≡ true =
            rw (le-leb p.passage.ready (v.end + 0) (omega (arith, p.earlier)), le-leb v.ready (p.passage.end + 0) (omega (arith, p.later))) in
            (hears_is 0 T p.passage v).1 (li, (others_is p.passage v).1 (λ j. apart (sym q.1 ∙ j ∙ o.1)), ap (names (passage_arc T p.passage)) ch ∙ na, n)

        -- the send's work finished, the receive's not yet
        abbrev M : ℕ → List Passage
        M d = cond (eqb d a) vs (A d)

        first_m : M a ≡ vs
        first_m = rw (eq-eqb a a refl)

        kept_m : (d : ℕ) → d < size T → (d ≡ a → ⊥) → M d ≡ A d
        kept_m d y j = rw (ne_eqb d a j)

        rest_m : (d : ℕ) → d < size T → (d ≡ i → ⊥) → B d ≡ M d
        rest_m d y j = go (eqb d a) refl
          where
            go : (t : Bool) → eqb d a ≡ t → B d ≡ cond t vs (A d)
            go true f = ap B (eqb-true d a f) ∙ this_a
            go false f = others d y (eqb-false d a f) j

        fewer : (d : ℕ) → d < size T → (x : Passage) → x ∈ B d → x ∈ A d
        fewer d y x m = go (eqb d a) refl (eqb d i) refl
          where
            go : (t : Bool) → eqb d a ≡ t → (u : Bool) → eqb d i ≡ u → x ∈ A d
            go true f u j =
                let z = eqb-true d a f in
                subst (λ (n : ℕ). x ∈ A n) (sym z) (subst (λ (l : List Passage). x ∈ l) (sym e) (there (subst (λ (l : List Passage). x ∈ l) (ap B z ∙ this_a) m)))
            go false f true j =
                let z = eqb-true d i j in
                subst (λ (n : ℕ). x ∈ A n) (sym z) (subst (λ (l : List Passage). x ∈ l) (sym p.ahead) (there (subst (λ (l : List Passage). x ∈ l) (ap B z ∙ this_b) m)))
            go false f false j = subst (λ (l : List Passage). x ∈ l) (others d y (eqb-false d a f) (eqb-false d i j)) m

        pub along_send : Along clock B
        along_send =
            record {
              rest = λ d y. rest d y (eqb d a) refl (eqb d i) refl;
              before = λ d y x m. g.before d y x (fewer d y x m);
              close = g.close;
              paired =
                  paired_without limit T H S sched A B g.paired
                  (without_two limit T H S sched A M B (without_one limit T H S sched A M a v vs o.1 (linked a ha v vs e) e first_m kept_m)
                  (without_one limit T H S sched M B i p.passage p.rest q.1 (linked i p.there p.passage p.rest p.ahead) (kept_m i p.there apart ∙ p.ahead) this_b rest_m))
                  (together_paired limit T H S sched accepted_at_0 v p.passage o.0 q.0 send hears);
            }
          where
            Rest : ℕ → List Passage → Type 0
            Rest d l = (fin : List Passage) × (fin ++ l ≡ own d S) × All (λ x. x.ready ≤ clock d) fin

            rest : (d : ℕ) → d < size T → (t : Bool) → eqb d a ≡ t → (u : Bool) → eqb d i ≡ u → Rest d (B d)
            rest d y true f u j =
                let z = eqb-true d a f in
                subst (λ (n : ℕ). Rest n (B n)) (sym z) (subst (Rest a) (sym this_a) (one_off (g.rest a ha) v vs e ready))
            rest d y false f true j =
                let z = eqb-true d i j in
                subst (λ (n : ℕ). Rest n (B n)) (sym z) (subst (Rest i) (sym this_b) (one_off (g.rest i p.there) p.passage p.rest p.ahead (omega (arith, p.ready))))
            rest d y false f false j = subst (Rest d) (sym (others d y (eqb-false d a f) (eqb-false d i j))) (g.rest d y)

        pub send_fires : Fires T (two a i k (clock a)) A B
        send_fires =
            record {
              at = at;
              moved = λ d y. moved d y (eqb d i) refl (eqb d a) refl;
              timely = λ d y x z. timely x (eqb d i) (eqb d a) z;
              is =
                  does-both a i k (clock a) ha p.there v p.passage (rw (ne_eqb a i p.partners.differ, eq-eqb a a refl)) (rw (eq-eqb i i refl))
                  (λ d y m n. rw (ne_eqb d a m, ne_eqb d i n)) p.partners;
            }
          where
            at : ℕ → Option Passage
            at d = cond (eqb d i) (some p.passage) (cond (eqb d a) (some v) none)

            moved : (d : ℕ) → d < size T → (t : Bool) → eqb d i ≡ t → (u : Bool) → eqb d a ≡ u → Moved (cond t (some p.passage) (cond u (some v) none)) (A d) (B d)
            moved d y true f u j = let z = eqb-true d i f in ap A z ∙ (p.ahead ∙ ap (λ (l : List Passage). p.passage ∷ l) (sym (ap B z ∙ this_b)))
            moved d y false f true j = let z = eqb-true d a j in ap A z ∙ (e ∙ ap (λ (l : List Passage). v ∷ l) (sym (ap B z ∙ this_a)))
            moved d y false f false j = others d y (eqb-false d a j) (eqb-false d i f)

            timely : (x : Passage) (t u : Bool) → cond t (some p.passage) (cond u (some v) none) ≡ some x → (x.ready ≤ clock a) × (clock a ≤ x.end)
            timely x true u z =
                let j : p.passage ≡ x = cc in
                (omega (arith, p.earlier, ap (λ (y : Passage). y.ready) j), omega (arith, p.later, until, ap (λ (y : Passage). y.end) j))
            timely x false true z =
                let j : v ≡ x = cc in
                (omega (arith, ap (λ (y : Passage). y.ready) j), omega (arith, until, ap (λ (y : Passage). y.end) j))
            timely x false false z = absurd (let w : ◌≡◌ {A = ℕ} 0 1 = cc in omega arith)
