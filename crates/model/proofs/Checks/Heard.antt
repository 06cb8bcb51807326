-- What checks 10 to 12 say of each passage: a send below the horizon has exactly one listener, and it is the listener's message. Assumes nothing.
use mathlib.Core.Path.{◌≡◌, refl, sym, ap, subst, ◌∙◌}
use mathlib.Core.Logic.{◌↔◌, inl, inr}
use mathlib.Core.Bool.{Bool, true, false, ◌&&◌, not}
use mathlib.Core.List.{List, [], ◌∷◌}
use mathlib.Core.Option.{Option, none, some}
use Prim.Native.Nat.{ℕ, ◌+◌, ◌≤◌, ◌<◌}
use native.Mathlib.Omega.{arith}
use borrow.Author.Tests.{ltb-true, lt-ltb, le-leb, eqb-true, eqb-false, eq-eqb, ne_eqb, not-true, not-false}
use lib.Dec.{ltb, eqb}
use lib.ListN.{length}
use Rattle.model.specs.declared.Pair.{Pair}
use Rattle.model.specs.Lists.{any, only, first, is_none, ◌∈◌, here, accepted}
use Rattle.model.specs.Table.{Arc, Table}
use Rattle.model.specs.Window.{channel_of}
use Rattle.model.specs.Schedule.{Passage, passage_arc, names, others, heard_by, earliest, carried, message_in}
use Rattle.model.specs.Checks.{near, starts_earlier, ends_later, disturb, is_send, is_receive, meets, collides, may_hear, heard_well, unheard, two, crowded, fault_of, fault_by, unheard_number, checked}
use Rattle.model.proofs.Basics.Bools.{clash, and_is}
use Rattle.model.proofs.Reader.Parts.{refused_clash, accepted_same}
use Rattle.model.proofs.Basics.Members.{alone, first_none, only_is, any_none, any_is, not_true_is, one_left, fewer, earliest_only, earliest_some}

-- ## Tests

-- four tests at once
pub four_is : (a b c d : Bool) → (a && b && c && d ≡ true) ↔ (a ≡ true) × (b ≡ true) × (c ≡ true) × (d ≡ true)
four_is a b c d = (λ e. let h = simp and_is at e in (h.0.0.0, h.0.0.1, h.0.1, h.1), λ h. rw (h.0, h.1, h.2, h.3))

-- a conjunction is false exactly if the second part is wherever the first is true
guard_is : (a b : Bool) → (a && b ≡ false) ↔ (a ≡ true → b ≡ false)
guard_is true b = (λ e f. e, λ h. h refl)
guard_is false b = (λ e f. clash f, λ h. refl)

-- `first` finds no fault exactly if each member that the question concerns has none
faultless : {A : Type 0} (a b : A → Bool) (S : List A) → (first (λ x. a x && b x) S ≡ none) ↔ ((x : A) → x ∈ S → a x ≡ true → b x ≡ false)
faultless a b S = (
  λ e x m. (guard_is (a x) (b x)).0 ((first_none (λ x. a x && b x) S).0 e x m),
  λ h. (first_none (λ x. a x && b x) S).1 (λ x m. (guard_is (a x) (b x)).1 (h x m)),
)

-- a list of two or more
pub two_is : (l : List Passage) → (two l ≡ false) ↔ (length l ≤ 1)
two_is [] = (λ e. omega arith, λ h. refl)
two_is (s ∷ []) = (λ e. omega arith, λ h. refl)
two_is (s ∷ t ∷ l) = (λ e. clash (sym e), λ h. absurd (omega arith))

-- ## Tests on passages, taken apart

-- passages of different components
pub others_is : (v w : Passage) → (others v w ≡ true) ↔ (v.component ≡ w.component → ⊥)
others_is v w = (
  λ e. eqb-false v.component w.component (not-true (eqb v.component w.component) e),
  λ h. rw (ne_eqb v.component w.component h),
)

-- an edge names a channel exactly if one of its pairs has it
pub names_is : (a : Arc) (k : ℕ) → (names a (some k) ≡ true) ↔ ((q : Pair) × (q ∈ a.pairs) × (q.channel ≡ k))
names_is a k = (
  λ e. let h = (any_is (λ (q : Pair). eqb q.channel k) a.pairs).0 e in (h.0, h.1, eqb-true h.0.channel k h.2),
  λ h. (any_is (λ (q : Pair). eqb q.channel k) a.pairs).1 (h.0, h.1, eq-eqb h.0.channel k h.2),
)

-- a send with ready < H has a channel
pub send_is : (T : Table) (H : ℕ) (s : Passage) → (is_send T H s ≡ true) ↔ ((k : ℕ) × (channel_of (passage_arc T s) ≡ some k) × (s.ready < H))
send_is T H s = (
  λ e.
      let h = (and_is (not (is_none (channel_of (passage_arc T s)))) (ltb s.ready H)).0 e in
      let c = one (channel_of (passage_arc T s)) h.0 in
      (c.0, c.1, ltb-true s.ready H h.1),
  λ h. rw (h.1, lt-ltb s.ready H h.2),
)
  where
    one : (o : Option ℕ) → not (is_none o) ≡ true → (k : ℕ) × (o ≡ some k)
    one none e = clash e
    one (some k) e = (k, refl)

-- every window has a tick
abbrev pub Windows : List Passage → Type 0
Windows S = (v : Passage) → v ∈ S → v.ready ≤ v.end

module _ (G : ℕ) where
  -- a receive window that listens, taken apart
  pub hears_is : (T : Table) (r s : Passage) → (may_hear G T r s ≡ true)
      ↔ (is_receive T r ≡ true) × (others r s ≡ true) × (names (passage_arc T r) (channel_of (passage_arc T s)) ≡ true) × (near G r s ≡ true)
  hears_is T r s = four_is (is_receive T r) (others r s) (names (passage_arc T r) (channel_of (passage_arc T s))) (near G r s)

  -- ## Acceptance

  -- 10 to 12 are passed exactly if none of them finds a fault, and what is accepted is the schedule itself
  pub checked_is : (T : Table) (H : ℕ) (S S' : List Passage) → (checked G T H S ≡ accepted S')
      ↔ (S ≡ S') × (first (collides G T H S) S ≡ none) × (first (unheard G T H S) S ≡ none) × (first (crowded G T H S) S ≡ none)
  unfolding checked
  checked_is T H S S' = go (first (collides G T H S) S) (first (unheard G T H S) S) (first (crowded G T H S) S)
    where
      go : (a b c : Option Passage) → (fault_of 10 a (fault_by (unheard_number G T S) b (fault_of 12 c (accepted S))) ≡ accepted S')
          ↔ (S ≡ S') × (a ≡ none) × (b ≡ none) × (c ≡ none)
      go none none none = (λ e. (accepted_same e, refl, refl, refl), λ h. ap accepted h.0)
      go none none (some v) = (λ e. refused_clash 12 v.component S' e, λ h. let z : ◌≡◌ {A = ℕ} 0 1 = cc in absurd (omega arith))
      go none (some v) c = (λ e. refused_clash (unheard_number G T S v) v.component S' e, λ h. let z : ◌≡◌ {A = ℕ} 0 1 = cc in absurd (omega arith))
      go (some v) b c = (λ e. refused_clash 10 v.component S' e, λ h. let z : ◌≡◌ {A = ℕ} 0 1 = cc in absurd (omega arith))

  -- ## The three questions, passage by passage

  -- o is no send of another component that disturbs s and shares a tick with it
  abbrev pub Apart : Table → ℕ → Passage → Passage → Type 0
  Apart T H s o = is_send T H o ≡ true → others o s ≡ true → disturb T s o ≡ true → near G s o ≡ true → ⊥

  -- the one receive window of a send: it listens, starts earlier and ends later, and no other passage listens
  pub record Listener (T : Table) (S : List Passage) (s : Passage) : Type 0 where
    pub passage : Passage
    pub listed : passage ∈ S
    pub hears : may_hear G T passage s ≡ true
    pub earlier : passage.ready + G < s.ready
    pub later : s.end + G < passage.end
    pub unique : (r : Passage) → r ∈ S → may_hear G T r s ≡ true → r ≡ passage
    -- not even an equal one, at another place of the list
    pub once : only (λ r. may_hear G T r s) S ≡ passage ∷ []

  -- the send that a receive window takes its message from
  pub record Sender (T : Table) (H : ℕ) (S : List Passage) (r : Passage) (k : ℕ) : Type 0 where
    pub passage : Passage
    pub listed : passage ∈ S
    pub sends : is_send T H passage ≡ true
    pub channel : channel_of (passage_arc T passage) ≡ some k
    pub hears : may_hear G T r passage ≡ true
    pub earlier : r.ready < passage.ready
    pub later : passage.end < r.end

  -- a listener, from what `only` leaves
  pub listener : (T : Table) (S : List Passage) (s r : Passage) → only (λ r. may_hear G T r s) S ≡ r ∷ [] → r.ready + G < s.ready → s.end + G < r.end → Listener T S s
  listener T S s r e early late =
      let h = (only_is (λ r. may_hear G T r s) S).0 (subst (λ l. r ∈ l) (sym e) (here refl)) in
      record {
        passage = r;
        listed = h.0;
        hears = h.1;
        earlier = early;
        later = late;
        unique = λ x m f. alone (subst (λ l. x ∈ l) e ((only_is (λ r. may_hear G T r s) S).1 (m, f)));
        once = e;
      }

  -- what the question of 11 tests
  well_is : (s : Passage) (l : List Passage) → (heard_well G s l ≡ true) ↔ ((r : Passage) × (l ≡ r ∷ []) × (r.ready + G < s.ready) × (s.end + G < r.end))
  well_is s [] = (λ e. clash e, λ h. let z : ◌≡◌ {A = ℕ} 0 1 = cc in absurd (omega arith))
  well_is s (r ∷ []) = (
    λ e.
        let h = (and_is (starts_earlier G r s) (ends_later G r s)).0 e in
        (r, refl, ltb-true (r.ready + G) s.ready h.0, ltb-true (s.end + G) r.end h.1),
    λ h.
        let e : r ≡ h.0 = cc in
        subst (λ v. heard_well G s (v ∷ []) ≡ true) (sym e) (rw (lt-ltb (h.0.ready + G) s.ready h.2, lt-ltb (s.end + G) h.0.end h.3)),
  )
  well_is s (r ∷ q ∷ l) = (λ e. clash e, λ h. let z : ◌≡◌ {A = ℕ} 0 1 = cc in absurd (omega arith))

  module _ (T : Table) (H : ℕ) (S : List Passage) where
    -- 10 finds no fault exactly if no send shares a tick with another component's that it disturbs
    pub collides_none : (first (collides G T H S) S ≡ none)
        ↔ ((s : Passage) → s ∈ S → is_send T H s ≡ true → (o : Passage) → o ∈ S → Apart T H s o)
    collides_none = (
      λ e s ms es o mo eo d b c.
          let n = (faultless (is_send T H) (λ s. any (meets G T H s) S) S).0 e s ms es in
          clash (sym ((any_none (meets G T H s) S).0 n o mo) ∙ (four_is (is_send T H o) (others o s) (disturb T s o) (near G s o)).1 (eo, d, b, c)),
      λ h. (faultless (is_send T H) (λ s. any (meets G T H s) S) S).1
          (λ s ms es. (any_none (meets G T H s) S).1
          (λ o mo. (not_true_is (meets G T H s o)).1
          (λ e. let g = (four_is (is_send T H o) (others o s) (disturb T s o) (near G s o)).0 e in h s ms es o mo g.0 g.1 g.2 g.3))),
    )

    -- 11 finds no fault exactly if each send has a listener
    pub unheard_none : (first (unheard G T H S) S ≡ none) ↔ ((s : Passage) → s ∈ S → is_send T H s ≡ true → Listener T S s)
    unheard_none = (
      λ e s ms es.
          let l = only (λ r. may_hear G T r s) S in
          let n = (faultless (is_send T H) (λ s. not (heard_well G s (only (λ r. may_hear G T r s) S))) S).0 e s ms es in
          let h = (well_is s l).0 (not-false (heard_well G s l) n) in
          listener T S s h.0 h.1 h.2 h.3,
      λ h. (faultless (is_send T H) (λ s. not (heard_well G s (only (λ r. may_hear G T r s) S))) S).1
          (λ s ms es.
          let w = h s ms es in
          let g = (well_is s (only (λ r. may_hear G T r s) S)).1 (w.passage, w.once, w.earlier, w.later) in
          rw g),
    )

    -- 12 finds no fault exactly if each receive window hears one send at most
    pub crowded_none : (first (crowded G T H S) S ≡ none)
        ↔ ((r : Passage) → r ∈ S → is_receive T r ≡ true → length (only (λ s. is_send T H s && may_hear G T r s) S) ≤ 1)
    crowded_none = (
      λ e r m f. (two_is (only (λ s. is_send T H s && may_hear G T r s) S)).0 ((faultless (is_receive T) (λ r. two (only (λ s. is_send T H s && may_hear G T r s) S)) S).0 e r m f),
      λ h. (faultless (is_receive T) (λ r. two (only (λ s. is_send T H s && may_hear G T r s) S)) S).1
          (λ r m f. (two_is (only (λ s. is_send T H s && may_hear G T r s) S)).1 (h r m f)),
    )

    -- each send below the horizon has exactly one receive window, which starts earlier and ends later
    pub heard_law : checked G T H S ≡ accepted S → (s : Passage) → s ∈ S → is_send T H s ≡ true → Listener T S s
    heard_law ok = unheard_none.0 ((checked_is T H S S).0 ok).2

    -- a receive window hears one send below the horizon at most
    pub single_law : checked G T H S ≡ accepted S → (r s o : Passage) → r ∈ S → s ∈ S → o ∈ S → is_send T H s ≡ true → is_send T H o ≡ true
        → may_hear G T r s ≡ true → may_hear G T r o ≡ true → s ≡ o
    single_law ok r s o mr ms mo es eo hs ho = alone (subst (λ l. s ∈ l) (one_left (counted o mo eo ho) few) (counted s ms es hs))
      where
        counted : (x : Passage) → x ∈ S → is_send T H x ≡ true → may_hear G T r x ≡ true → x ∈ only (λ s. is_send T H s && may_hear G T r s) S
        counted x m e h = (only_is (λ s. is_send T H s && may_hear G T r s) S).1 (m, (and_is (is_send T H x) (may_hear G T r x)).1 (e, h))

        few : length (only (λ s. is_send T H s && may_hear G T r s) S) ≤ 1
        few = crowded_none.0 ((checked_is T H S S).0 ok).3 r mr ((hears_is T r s).0 hs).0

  -- ## Messages

  module _ (T : Table) (H : ℕ) where
    -- a send that a receive window may take for its message, taken apart
    pub heard_is : (r s : Passage) → (heard_by T H r s ≡ true)
        ↔ (names (passage_arc T r) (channel_of (passage_arc T s)) ≡ true) × (others r s ≡ true) × (r.ready < s.ready) × (s.ready < H) × (s.end < r.end)
    heard_is r s =
        let n = names (passage_arc T r) (channel_of (passage_arc T s)) in (
          λ e.
              let a = (and_is (n && others r s) (ltb r.ready s.ready && ltb s.ready H && ltb s.end r.end)).0 e in
              let b = (and_is n (others r s)).0 a.0 in
              let c = simp and_is at a.1 in
              (b.0, b.1, ltb-true r.ready s.ready c.0.0, ltb-true s.ready H c.0.1, ltb-true s.end r.end c.1),
          λ h. rw (h.0, h.1, lt-ltb r.ready s.ready h.2, lt-ltb s.ready H h.3, lt-ltb s.end r.end h.4),
        )

    -- a channel that an edge names is one
    named : (a : Arc) (o : Option ℕ) → names a o ≡ true → (k : ℕ) × (o ≡ some k)
    named a none e = clash e
    named a (some k) e = (k, refl)

    -- what may be taken for the message is a send that 11 and 12 count
    pub counts : (r s : Passage) → s.ready ≤ s.end → is_receive T r ≡ true → heard_by T H r s ≡ true → (is_send T H s ≡ true) × (may_hear G T r s ≡ true)
    counts r s w f e =
        let h = (heard_is r s).0 e in
        let k = named (passage_arc T r) (channel_of (passage_arc T s)) h.0 in
        let share : near G r s ≡ true = rw (le-leb r.ready (s.end + G) (omega arith), le-leb s.ready (r.end + G) (omega arith)) in (
          (send_is T H s).1 (k.0, k.1, h.3),
          (hears_is T r s).1 (f, h.1, h.0, share),
        )

    -- a send that starts later and ends earlier than a window that listens may be taken for its message
    pub taken : (r s : Passage) → is_send T H s ≡ true → may_hear G T r s ≡ true → r.ready < s.ready → s.end < r.end → heard_by T H r s ≡ true
    taken r s e f early late = let h = (hears_is T r s).0 f in (heard_is r s).1 (h.2, h.1, early, ((send_is T H s).0 e).2, late)

    module _ (S : List Passage) (wins : Windows S) where
      -- a receive window with a message has it from a send
      pub sender_law : (r : Passage) (k : ℕ) → is_receive T r ≡ true → message_in T H S r ≡ some k → Sender T H S r k
      unfolding message_in
      sender_law r k f e = go (earliest (heard_by T H r) S none) refl (rw f at e)
        where
          go : (o : Option Passage) → earliest (heard_by T H r) S none ≡ o → carried T o ≡ some k → Sender T H S r k
          go none q c = let z : ◌≡◌ {A = ℕ} 0 1 = cc in absurd (omega arith)
          go (some s) q c = elim (earliest_some (heard_by T H r) S none q) [
            | inl n ↦ let z : ◌≡◌ {A = ℕ} 0 1 = cc in absurd (omega arith)
            | inr m ↦
                let h = (heard_is r s).0 m.1 in
                let g = counts r s (wins s m.0) f m.1 in
                record { passage = s; listed = m.0; sends = g.0; channel = c; hears = g.1; earlier = h.2; later = h.4 }
          ]

      module _ (ok : checked G T H S ≡ accepted S) where
        -- the message of a receive window is the channel of the send that it hears
        pub message_law : (s r : Passage) → s ∈ S → r ∈ S → is_send T H s ≡ true → may_hear G T r s ≡ true → r.ready < s.ready → s.end < r.end
            → message_in T H S r ≡ channel_of (passage_arc T s)
        unfolding message_in
        message_law s r ms mr e f early late =
            rw listening (ap (carried T) (earliest_only (heard_by T H r) S none ∙ ap (λ l. earliest (λ v. true) l none) single))
          where
            listening : is_receive T r ≡ true
            listening = ((hears_is T r s).0 f).0

            few : length (only (heard_by T H r) S) ≤ 1
            few = omega (
              arith,
              (crowded_none T H S).0 ((checked_is T H S S).0 ok).3 r mr listening,
              fewer (λ s. is_send T H s && may_hear G T r s) (heard_by T H r) S
                  (λ x m h. let g = counts r x (wins x m) listening h in (and_is (is_send T H x) (may_hear G T r x)).1 (g.0, g.1)),
            )

            single : only (heard_by T H r) S ≡ s ∷ []
            single = one_left ((only_is (heard_by T H r) S).1 (ms, taken r s e f early late)) few

        -- so for the listener of a send
        pub listener_message : (s : Passage) → s ∈ S → is_send T H s ≡ true → (l : Listener T S s) → message_in T H S l.passage ≡ channel_of (passage_arc T s)
        listener_message s m e l = message_law s l.passage m l.listed e l.hears (omega (arith, l.earlier)) (omega (arith, l.later))

        -- a receive window's message is a channel exactly if it hears a send on it
        pub message_is : (r : Passage) (k : ℕ) → r ∈ S → is_receive T r ≡ true → (message_in T H S r ≡ some k) ↔ Sender T H S r k
        message_is r k m f = (
          sender_law r k f,
          λ h. message_law h.passage r h.listed m h.sends h.hears h.earlier h.later ∙ h.channel,
        )
