-- Checks 10 to 12 are passed exactly if the network needs no global scheduler, tick by tick. Assumes nothing.
use mathlib.Core.Path.{◌≡◌, refl, sym, ap, subst, ◌∙◌}
use mathlib.Core.Logic.{◌↔◌}
use mathlib.Core.Bool.{Bool, true, false, cond, ◌&&◌}
use mathlib.Core.List.{List, [], ◌∷◌, map}
use mathlib.Core.Option.{Option, none}
use Prim.Native.Nat.{ℕ, zero, suc, ◌+◌, ◌-◌, ◌≤◌, ◌<◌, max}
use native.Mathlib.Omega.{arith}
use borrow.Author.Tests.{leb-true, le-leb, eqb-true, eq-eqb, ne_eqb}
use lib.Dec.{leb, eqb}
use lib.ListN.{length, length-map}
use Rattle.model.specs.Lists.{only, first, ◌∈◌, here, there, accepted}
use Rattle.model.specs.Table.{Table, band_of}
use Rattle.model.specs.Schedule.{Passage, with_message}
use Rattle.model.specs.Checks.{near, is_send, is_receive, may_hear, collides, unheard, crowded, checked, disturb, no_passage, passage_at, InShifted, Hears, Heard, SendsOn, IndependentWithin}
use Rattle.model.proofs.Basics.Bools.{and_is}
use Rattle.model.proofs.Basics.Members.{not_in, each_of, in_at, number-of, only_is, once_is, one_left, fewer, fewer_left}
use Rattle.model.proofs.Checks.Heard.{Windows, Apart, Listener, checked_is, collides_none, listener, unheard_none, crowded_none, send_is, hears_is, others_is}

-- a send is one on some channel
sends_is : (T : Table) (H : ℕ) (s : Passage) → (is_send T H s ≡ true) ↔ ((k : ℕ) × SendsOn T H k s)
sends_is T H s = (
  λ e. let h = (send_is T H s).0 e in (h.0, record { channel = h.1; ready = h.2 }),
  λ h. (send_is T H s).1 (h.0, h.1.channel, h.1.ready),
)

-- two sends disturb each other exactly if their channels have one band
pub disturb_is : (T : Table) (H : ℕ) (s o : Passage) (j k : ℕ) → SendsOn T H j s → SendsOn T H k o → (disturb T s o ≡ true) ↔ (band_of T j ≡ band_of T k)
disturb_is T H s o j k a b = (
  λ e. eqb-true (band_of T j) (band_of T k) (rw (a.channel, b.channel) at e),
  λ e. rw (a.channel, b.channel) (eq-eqb (band_of T j) (band_of T k) e),
)

module _ (G : ℕ) where
  -- windows that have a common tick under offsets up to G are near
  near_by : (o : ℕ → ℕ) → ((c : ℕ) → o c ≤ G) → (t : ℕ) (v w : Passage) → InShifted o t v → InShifted o t w → near G v w ≡ true
  near_by o h t v w a b =
      rw (
        le-leb v.ready (w.end + G) (omega (arith, h v.component, h w.component, a.from, b.to)),
        le-leb w.ready (v.end + G) (omega (arith, h v.component, h w.component, a.to, b.from)),
      )

  -- offsets under which two windows meet: the one that ends too soon is put off
  meeting : Passage → Passage → ℕ → ℕ
  meeting v w c = cond (eqb c v.component) (w.ready - v.end) (cond (eqb c w.component) (v.ready - w.end) 0)

  module _ (v w : Passage) (a : v.ready ≤ v.end) (b : w.ready ≤ w.end) (ne : v.component ≡ w.component → ⊥) (near' : near G v w ≡ true) where
    near_is : (v.ready ≤ w.end + G) × (w.ready ≤ v.end + G)
    near_is =
        let h = (and_is (leb v.ready (w.end + G)) (leb w.ready (v.end + G))).0 near' in
        (leb-true v.ready (w.end + G) h.0, leb-true w.ready (v.end + G) h.1)

    -- they are permitted
    meeting_most : (c : ℕ) → meeting v w c ≤ G
    unfolding meeting
    meeting_most c = go (eqb c v.component) (eqb c w.component)
      where
        go : (x y : Bool) → cond x (w.ready - v.end) (cond y (v.ready - w.end) 0) ≤ G
        go true y = omega (arith, near_is)
        go false true = omega (arith, near_is)
        go false false = omega arith

    -- so the windows meet
    meeting_tick : (t : ℕ) × InShifted (meeting v w) t v × InShifted (meeting v w) t w
    unfolding meeting
    meeting_tick =
        let e : meeting v w v.component ≡ w.ready - v.end = rw (eq-eqb v.component v.component refl) in
        let f : meeting v w w.component ≡ v.ready - w.end = rw (ne_eqb w.component v.component (λ i. ne (sym i)), eq-eqb w.component w.component refl) in (
          max (v.ready + (w.ready - v.end)) (w.ready + (v.ready - w.end)),
          record { from = omega (arith, e); to = omega (arith, e) },
          record { from = omega (arith, f); to = omega (arith, f) },
        )

  -- a receive window that hears under some offsets is one that 11 counts at G
  counted : (o : ℕ → ℕ) → ((c : ℕ) → o c ≤ G) → (T : Table) (r s : Passage) → Hears o T r s → may_hear G T r s ≡ true
  counted o h T r s x = (hears_is G T r s).1 (x.receive, x.other, x.named, near_by o h x.tick r s x.in_receive x.in_send)

  -- one that starts more than G earlier and ends more than G later hears under all
  held : (o : ℕ → ℕ) → ((c : ℕ) → o c ≤ G) → (T : Table) (r s : Passage) → s.ready ≤ s.end → may_hear G T r s ≡ true → r.ready + G < s.ready → s.end + G < r.end → Hears o T r s
  held o h T r s w e x y =
      let i = (hears_is G T r s).0 e in
      record {
        receive = i.0;
        other = i.1;
        named = i.2;
        tick = s.ready + o s.component;
        in_receive = record { from = omega (arith, h r.component, h s.component); to = omega (arith, h r.component, h s.component) };
        in_send = record { from = omega arith; to = omega arith };
      }

  module _ (T : Table) (H : ℕ) (S : List Passage) (wins : Windows S) where
    -- the window of a passage by its number
    win : (i : ℕ) → i < length S → (passage_at S i).ready ≤ (passage_at S i).end
    win i h = wins (passage_at S i) (in_at no_passage S i h)

    -- ## From the checks

    heard_of : (o : ℕ → ℕ) → ((c : ℕ) → o c ≤ G) → (s : Passage) → s ∈ S → Listener G T S s → Heard o T S s
    heard_of o h s m l =
        let n = number-of no_passage l.listed in
        let r : Passage = passage_at S n.0 in
        let hears : may_hear G T r s ≡ true = subst (λ r. may_hear G T r s ≡ true) (sym n.2) l.hears in
        let e : r.ready + G < s.ready = subst (λ (r : Passage). r.ready + G < s.ready) (sym n.2) l.earlier in
        let f : s.end + G < r.end = subst (λ (r : Passage). s.end + G < r.end) (sym n.2) l.later in
        record {
          index = n.0;
          there = n.1;
          hears = held o h T r s (wins s m) hears e f;
          earlier = omega (arith, h r.component, h s.component);
          later = omega (arith, h r.component, h s.component);
          alone = λ j u x. (once_is (λ r. may_hear G T r s) no_passage S).0 (omega (arith, ap length l.once)) j n.0 u n.1 (counted o h T (passage_at S j) s x) hears;
        }

    abbrev heard_send : Passage → Passage → Bool
    heard_send r s = is_send T H s && may_hear G T r s

    checks_independent : checked G T H S ≡ accepted S → IndependentWithin G T H S
    checks_independent ok o h =
        let c = (checked_is G T H S S).0 ok in
        record {
          apart = λ s q j k ms mq es eq d b t u v.
              (collides_none G T H S).0 c.1 s ms ((sends_is T H s).1 (j, es)) q mq ((sends_is T H q).1 (k, eq)) d ((disturb_is T H s q j k es eq).1 b)
              (near_by o h t s q u v);
          heard = λ s m e. heard_of o h s m ((unheard_none G T H S).0 c.2 s m e);
          single = λ r m e i j u v f g a b.
              (once_is (heard_send r) no_passage S).0 ((crowded_none G T H S).0 c.3 r m e) i j u v
              ((and_is (is_send T H (passage_at S i)) (may_hear G T r (passage_at S i))).1 (f, counted o h T r (passage_at S i) a))
              ((and_is (is_send T H (passage_at S j)) (may_hear G T r (passage_at S j))).1 (g, counted o h T r (passage_at S j) b));
        }

    -- ## To the checks

    module _ (W : IndependentWithin G T H S) where
      -- one component put off by k
      late_by : ℕ → ℕ → ℕ → ℕ
      late_by a k c = cond (eqb c a) k 0

      late_most : (a k : ℕ) → k ≤ G → (c : ℕ) → late_by a k c ≤ G
      unfolding late_by
      late_most a k h c = go (eqb c a)
        where
          go : (x : Bool) → cond x k 0 ≤ G
          go true = h
          go false = omega arith

      late_same : (a k : ℕ) → late_by a k a ≡ k
      unfolding late_by
      late_same a k = rw (eq-eqb a a refl)

      late_other : (a k c : ℕ) → (c ≡ a → ⊥) → late_by a k c ≡ 0
      unfolding late_by
      late_other a k c n = rw (ne_eqb c a n)

      abbrev zeros : ℕ → ℕ
      zeros c = 0

      none_late : (c : ℕ) → zeros c ≤ G
      none_late c = omega arith

      module _ (s : Passage) (m : s ∈ S) (send : is_send T H s ≡ true) where
        start : Heard zeros T S s
        start = (W zeros none_late).heard s m send

        abbrev r : Passage
        r = passage_at S start.index

        ne : r.component ≡ s.component → ⊥
        ne = (others_is r s).0 start.hears.other

        -- it hears under offsets under which it shares the send's start tick
        again : (o : ℕ → ℕ) → r.ready + o r.component ≤ s.ready + o s.component → s.ready + o s.component ≤ r.end + o r.component → Hears o T r s
        again o a b =
            record {
              receive = start.hears.receive;
              other = start.hears.other;
              named = start.hears.named;
              tick = s.ready + o s.component;
              in_receive = record { from = a; to = b };
              in_send = record { from = omega arith; to = omega (arith, wins s m) };
            }

        -- so it is the one that is heard there
        still : (o : ℕ → ℕ) (h : (c : ℕ) → o c ≤ G) → Hears o T r s → (r.ready + o r.component < s.ready + o s.component) × (s.end + o s.component < r.end + o r.component)
        still o h x =
            let y = (W o h).heard s m send in
            let e : passage_at S start.index ≡ passage_at S y.index = ap (passage_at S) (y.alone start.index start.there x) in (
              subst (λ (q : Passage). q.ready + o q.component < s.ready + o s.component) (sym e) y.earlier,
              subst (λ (q : Passage). s.end + o s.component < q.end + o q.component) (sym e) y.later,
            )

        early : (k : ℕ) → k ≤ G → (r.ready + k < s.ready) × (s.end < r.end + k)
        early zero h = (omega (arith, start.earlier), omega (arith, start.later))
        early (suc k) h =
            let i = early k (omega arith) in
            let p = late_same r.component (suc k) in
            let q = late_other r.component (suc k) s.component (λ f. ne (sym f)) in
            let w = wins s m in
            let z = still (late_by r.component (suc k)) (late_most r.component (suc k) h)
            (again (late_by r.component (suc k)) (omega (arith, i, p, q)) (omega (arith, i, p, q))) in
            (omega (arith, z, p, q), omega (arith, z, p, q))

        late : (k : ℕ) → k ≤ G → s.end + k < r.end
        late zero h = omega (arith, start.later)
        late (suc k) h =
            let i = late k (omega arith) in
            let p = late_same s.component (suc k) in
            let q = late_other s.component (suc k) r.component ne in
            let w = wins s m in
            let z = still (late_by s.component (suc k)) (late_most s.component (suc k) h)
            (again (late_by s.component (suc k)) (omega (arith, start.earlier, p, q)) (omega (arith, i, p, q))) in
            omega (arith, z, p, q)

        margin : (r.ready + G < s.ready) × (s.end + G < r.end)
        margin = let h : G ≤ G = omega arith in ((early G h).0, late G h)

        hears-it : may_hear G T r s ≡ true
        hears-it = counted zeros none_late T r s start.hears

        -- every window that 11 counts is this one
        same : (i : ℕ) → i < length S → may_hear G T (passage_at S i) s ≡ true → i ≡ start.index
        same i u e =
            let x = (hears_is G T (passage_at S i) s).0 e in
            let n = (others_is (passage_at S i) s).0 x.1 in
            let t = meeting_tick (passage_at S i) s (win i u) (wins s m) n x.3 in
            let o = meeting (passage_at S i) s in
            let h = meeting_most (passage_at S i) s (win i u) (wins s m) n x.3 in
            let y = (W o h).heard s m send in
            y.alone i u (record { receive = x.0; other = x.1; named = x.2; tick = t.0; in_receive = t.1; in_send = t.2 })
            ∙ sym (y.alone start.index start.there (held o h T r s (wins s m) hears-it margin.0 margin.1))

        listens_to : Listener G T S s
        listens_to =
            listener G T S s r
            (one_left ((only_is (λ r. may_hear G T r s) S).1 (in_at no_passage S start.index start.there, hears-it))
            ((once_is (λ r. may_hear G T r s) no_passage S).1 (λ i j u v f g. same i u f ∙ sym (same j v g))))
            margin.0
            margin.1

      independent_checks : checked G T H S ≡ accepted S
      independent_checks =
          (checked_is G T H S S).1 (
            refl,
            (collides_none G T H S).1 (λ s ms es q mq eq d b e.
                let n = (others_is q s).0 d in
                let t = meeting_tick s q (wins s ms) (wins q mq) (λ f. n (sym f)) e in
                let (j, x) = (sends_is T H s).0 es in
                let (k, y) = (sends_is T H q).0 eq in
                (W (meeting s q) (meeting_most s q (wins s ms) (wins q mq) (λ f. n (sym f)) e)).apart s q j k ms mq x y d ((disturb_is T H s q j k x y).0 b) t.0 t.1 t.2),
            (unheard_none G T H S).1 listens_to,
            (crowded_none G T H S).1 (λ r m e. (once_is (heard_send r) no_passage S).1 (λ i j u v f g.
                let a = (and_is (is_send T H (passage_at S i)) (may_hear G T r (passage_at S i))).0 f in
                let b = (and_is (is_send T H (passage_at S j)) (may_hear G T r (passage_at S j))).0 g in
                (W zeros none_late).single r m e i j u v a.0 b.0 (heard_now r m i u a.0 a.1) (heard_now r m j v b.0 b.1))),
          )
        where
          heard_now : (r : Passage) → r ∈ S → (i : ℕ) → i < length S → is_send T H (passage_at S i) ≡ true → may_hear G T r (passage_at S i) ≡ true → Hears zeros T r (passage_at S i)
          heard_now r m i u e f =
              let n = in_at no_passage S i u in
              let l = listens_to (passage_at S i) n e in
              let q : r ≡ l.passage = l.unique r m f in
              held zeros none_late T r (passage_at S i) (win i u) f
              (subst (λ (x : Passage). x.ready + G < (passage_at S i).ready) (sym q) l.earlier)
              (subst (λ (x : Passage). (passage_at S i).end + G < x.end) (sym q) l.later)

    -- 10 to 12 are passed at the spread G exactly if the network is independent of a global scheduler whatever offsets up to G its nodes have
    pub independent : (checked G T H S ≡ accepted S) ↔ IndependentWithin G T H S
    independent = (checks_independent, independent_checks)

-- ## A smaller spread

-- accepted at a spread is accepted at a smaller one
pub lower : (G K : ℕ) → K ≤ G → (T : Table) (H : ℕ) (S : List Passage) → Windows S → checked G T H S ≡ accepted S → checked K T H S ≡ accepted S
lower G K h T H S w ok = (independent K T H S w).1 (λ o p. (independent G T H S w).0 ok o (λ c. omega (arith, p c)))

-- ## A lower horizon

module _ (T : Table) (h H : ℕ) (less : h ≤ H) where
  -- what counts as a send below a horizon does so below a higher one
  pub send_up : (s : Passage) → is_send T h s ≡ true → is_send T H s ≡ true
  send_up s e = let g = (send_is T h s).0 e in (send_is T H s).1 (g.0, g.1, omega arith)

  sends_up : (s : Passage) (k : ℕ) → SendsOn T h k s → SendsOn T H k s
  sends_up s k e = record { channel = e.channel; ready = omega (arith, e.ready) }

  -- passages that are independent up to a horizon are so up to a lower one: fewer sends count
  pub independent_lower : (G : ℕ) (S : List Passage) → IndependentWithin G T H S → IndependentWithin G T h S
  independent_lower G S w o p =
      let i = w o p in
      record {
        apart = λ s q j k ms mq es eq. i.apart s q j k ms mq (sends_up s j es) (sends_up q k eq);
        heard = λ s m e. i.heard s m (send_up s e);
        single = λ r m e a b u v f g. i.single r m e a b u v (send_up (passage_at S a) f) (send_up (passage_at S b) g);
      }

  -- so is every part of them that has all with ready below the lower one
  pub independent_part : (G : ℕ) (S : List Passage) (q : Passage → Bool) → Windows S → ((v : Passage) → v ∈ S → v.ready < h → q v ≡ true) → IndependentWithin G T H S
      → IndependentWithin G T h (only q S)
  independent_part G S q wins kept i =
      (independent G T h part (λ v m. wins v (whole m))).0 ((checked_is G T h part part).1 (
        refl,
        (collides_none G T h part).1 (λ s ms es o mo eo.
            (collides_none G T H S).0 c.1 s (whole ms) (send_up s es) o (whole mo) (send_up o eo)),
        (unheard_none G T h part).1 heard,
        (crowded_none G T h part).1 few,
      ))
    where
      part : List Passage
      part = only q S

      c : (S ≡ S) × (first (collides G T H S) S ≡ none) × (first (unheard G T H S) S ≡ none) × (first (crowded G T H S) S ≡ none)
      c = (checked_is G T H S S).0 ((independent G T H S wins).1 i)

      whole : {v : Passage} → v ∈ part → v ∈ S
      whole m = ((only_is q S).0 m).0

      heard : (s : Passage) → s ∈ part → is_send T h s ≡ true → Listener G T part s
      heard s m e =
          let l = (unheard_none G T H S).0 c.2 s (whole m) (send_up s e) in
          let below = ((send_is T h s).0 e).2 in
          let left = (only_is q S).1 (l.listed, kept l.passage l.listed (omega (arith, l.earlier))) in
          let one : length (only (λ r. may_hear G T r s) part) ≤ 1 = omega (arith, fewer_left (λ r. may_hear G T r s) q S, ap length l.once) in
          listener G T part s l.passage (one_left ((only_is (λ r. may_hear G T r s) part).1 (left, l.hears)) one) l.earlier l.later

      few : (r : Passage) → r ∈ part → is_receive T r ≡ true → length (only (λ s. is_send T h s && may_hear G T r s) part) ≤ 1
      few r m e = omega (
        arith,
        (crowded_none G T H S).0 c.3 r (whole m) e,
        fewer_left (λ s. is_send T H s && may_hear G T r s) q S,
        fewer (λ s. is_send T H s && may_hear G T r s) (λ s. is_send T h s && may_hear G T r s) part (λ x n f.
            let g = (and_is (is_send T h x) (may_hear G T r x)).0 f in (and_is (is_send T H x) (may_hear G T r x)).1 (send_up x g.0, g.1)),
      )

-- ## Other messages

-- what holds of the image of each member holds of each member of the image
each_mapped : {A B : Type 0} (f : A → B) (P : B → Type 0) (S : List A) → ((x : A) → x ∈ S → P (f x)) → (y : B) → y ∈ map f S → P y
each_mapped f P [] k = λ y m. absurd (not_in m)
each_mapped f P (x ∷ S) k = each_of P (k x (here refl)) (each_mapped f P S (λ z m. k z (there m)))

-- `only` of the image is the image of `only`
pub only_map : {A B : Type 0} (f : A → B) (p : B → Bool) (S : List A) → only p (map f S) ≡ map f (only (λ x. p (f x)) S)
only_map f p [] = refl
only_map f p (x ∷ S) = go (only_map f p S) (p (f x))
  where
    go : only p (map f S) ≡ map f (only (λ x. p (f x)) S) → (t : Bool)
        → cond t (f x ∷ only p (map f S)) (only p (map f S)) ≡ map f (cond t (x ∷ only (λ x. p (f x)) S) (only (λ x. p (f x)) S))
    go ih true = ap (λ l. f x ∷ l) ih
    go ih false = ih

-- independence does not depend on the messages put in
pub independent_messages : (G : ℕ) (T : Table) (H : ℕ) (S : List Passage) (g : Passage → Option ℕ) → Windows S → IndependentWithin G T H S
    → IndependentWithin G T H (map (λ v. with_message v (g v)) S)
independent_messages G T H S g wins i =
    (independent G T H S' (each_mapped f (λ v. v.ready ≤ v.end) S wins)).0 ((checked_is G T H S' S').1 (
      refl,
      (collides_none G T H S').1 (each_mapped f (λ s. is_send T H s ≡ true → (o : Passage) → o ∈ S' → Apart G T H s o) S (λ s ms es.
          each_mapped f (Apart G T H (f s)) S ((collides_none G T H S).0 c.1 s ms es))),
      (unheard_none G T H S').1 (each_mapped f (λ s. is_send T H s ≡ true → Listener G T S' s) S (λ s m e.
          let l = (unheard_none G T H S).0 c.2 s m e in
          listener G T S' (f s) (f l.passage) (only_map f (λ r. may_hear G T r (f s)) S ∙ ap (map f) l.once) l.earlier l.later)),
      (crowded_none G T H S').1 (each_mapped f (λ r. is_receive T r ≡ true → length (only (heard_from r) S') ≤ 1) S (λ r m e.
          rw (only_map f (heard_from (f r)) S, length-map (only (heard_from r) S) f) ((crowded_none G T H S).0 c.3 r m e))),
    ))
  where
    f : Passage → Passage
    f v = with_message v (g v)

    S' : List Passage
    S' = map f S

    heard_from : Passage → Passage → Bool
    heard_from r s = is_send T H s && may_hear G T r s

    c : (S ≡ S) × (first (collides G T H S) S ≡ none) × (first (unheard G T H S) S ≡ none) × (first (crowded G T H S) S ≡ none)
    c = (checked_is G T H S S).0 ((independent G T H S wins).1 i)
