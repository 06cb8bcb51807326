-- What comes again: entries from a on and their copies a period later, and how many passages there are. Assumes nothing.
use mathlib.Core.Path.{◌≡◌, refl, sym, ap, ap₂, subst, ◌∙◌}
use mathlib.Core.Bool.{Bool, true, false, cond}
use mathlib.Core.List.{List, [], ◌∷◌, ◌++◌, map}
use mathlib.Core.Logic.{◌⊎◌, inl, inr}
use Prim.Native.Nat.{ℕ, zero, suc, ◌+◌, ◌*◌, ◌≤◌, ◌<◌}
use native.Mathlib.Omega.{arith}
use borrow.Author.Tests.{ltb-true, lt-ltb, le-leb, leb-true, eq-eqb}
use lib.Dec.{ltb, leb, eqb}
use lib.ListN.{length, length-append, length-map}
use Rattle.model.specs.Lists.{◌∈◌, here, there, only, accepted}
use Rattle.model.specs.Table.{Table, size}
use Rattle.model.specs.Window.{Entry}
use Rattle.model.specs.Schedule.{Passage, own, message_in}
use Rattle.model.specs.Chains.{IsSchedule}
use Rattle.recurrence.specs.Recurrence.{timeless, EntersAt}
use Rattle.model.proofs.Reader.Parts.{accepted_same}
use Rattle.model.proofs.Basics.Members.{in_append, only_is, only_append}
use Rattle.model.proofs.Checks.Independence.{only_map}
use Rattle.model.proofs.Schedule.Own.{own_in}
use Rattle.model.proofs.Schedule.Messages.{put}
use Rattle.model.proofs.Schedule.Exactly.{is-accepted}
use Rattle.recurrence.proofs.Move.{later, ltb_later}
use Rattle.recurrence.proofs.Seam.{enters_before, enters_from, split_at}
use Rattle.recurrence.proofs.Apart.{in_map, only_same}
use Rattle.recurrence.proofs.Grow.{Again, only_swap, grown_schedule}
use Rattle.recurrence.proofs.Cut.{cut, cut_schedule}

-- the schedule at a horizon is one
pub same_schedule : {l m : ℕ} (T : Table) (H : ℕ) {S S' : List Passage} → IsSchedule l T H S → IsSchedule m T H S' → S ≡ S'
same_schedule {l} {m} T H {S} {S'} s t =
    accepted_same (sym (is-accepted (l + m) T H S (record { few = omega (arith, s.few); present = s.present; chains = s.chains; messages = s.messages; order = s.order }))
    ∙ is-accepted (l + m) T H S' (record { few = omega (arith, t.few); present = t.present; chains = t.chains; messages = t.messages; order = t.order }))

-- a test that implies another: the other one changes nothing
pub only_under : {A : Type 0} (p q : A → Bool) → ((x : A) → p x ≡ true → q x ≡ true) → (S : List A) → only p (only q S) ≡ only p S
only_under p q h [] = refl
only_under p q h (x ∷ S) = go (only_under p q h S) (p x) refl (q x) refl
  where
    go : only p (only q S) ≡ only p S → (s : Bool) → p x ≡ s → (t : Bool) → q x ≡ t → only p (cond t (x ∷ only q S) (only q S)) ≡ cond s (x ∷ only p S) (only p S)
    go ih true e true f = ap (λ k. cond k (x ∷ only p (only q S)) (only p (only q S))) e ∙ ap (λ l. x ∷ l) ih
    go ih true e false f = absurd (let y : ◌≡◌ {A = Bool} false true = sym f ∙ h x e in let z : ◌≡◌ {A = ℕ} 0 1 = cc in omega arith)
    go ih false e true f = ap (λ k. cond k (x ∷ only p (only q S)) (only p (only q S))) e ∙ ih
    go ih false e false f = ih

in_image : {A B : Type 0} (f : A → B) {x : A} {S : List A} → x ∈ S → f x ∈ map f S
in_image f (here e) = here (ap f e)
in_image f (there m) = there (in_image f m)

-- how many passages are entered before x
abbrev pub entered_before : List Passage → ℕ → ℕ
entered_before S x = length (only (enters_before x) S)

module _ (limit : ℕ) (T : Table) (H : ℕ) (S : List Passage) (sched : IsSchedule limit T H S) (a P : ℕ) (below : a + P < H) (longer : 0 < P) (again : Again T S a P) where
  abbrev Left : List Passage
  Left = only (enters_before (a + P)) S

  abbrev Old : List Passage
  Old = only (enters_from a) S

  abbrev G : List Passage
  G = Left ++ map (later P) Old

  abbrev W : List Passage
  W = only (enters_before H) G

  -- one period more, cut at H again, is the schedule itself
  pub turned : map (put (message_in T H W)) W ≡ S
  turned =
      let gs = grown_schedule limit T H S sched a P below longer again in
      same_schedule T H (cut_schedule (length G) T (H + P) G gs H (omega arith) (omega arith)) sched

  -- who enters from a on enters a period later, with the same state
  pub forth : (x c : ℕ) (st : Entry) → a ≤ x → x + P < H → EntersAt S c x st → EntersAt S c (x + P) st
  forth x c st l h e =
      let u = e.passage in
      let i = own_in c S e.listed in
      let old = (only_is (enters_from a) S).1 (i.0, le-leb a u.entry.tick (omega (arith, e.tick))) in
      let w = (only_is (enters_before H) G).1 ((in_append Left (map (later P) Old)).1 (inr (in_image (later P) old)), lt-ltb (u.entry.tick + P) H (omega (arith, e.tick))) in
      let m : put (message_in T H W) (later P u) ∈ S = subst (λ (l : List Passage). put (message_in T H W) (later P u) ∈ l) turned (in_image (put (message_in T H W)) w) in
      record {
        passage = put (message_in T H W) (later P u);
        listed = (only_is (λ (v : Passage). eqb v.component c) S).1 (m, eq-eqb u.component c i.1);
        tick = ap (λ n. n + P) e.tick;
        state = e.state;
      }

  -- and who enters a period later enters here
  pub back : (x c : ℕ) (st : Entry) → a ≤ x → EntersAt S c (x + P) st → EntersAt S c x st
  back x c st l e =
      let i = own_in c S e.listed in
      let m = subst (λ (k : List Passage). e.passage ∈ k) (sym turned) i.0 in
      let r = in_map (put (message_in T H W)) W m in
      go r.0 (ap (λ (v : Passage). v.entry) r.2) (sym (ap (λ (v : Passage). v.component) r.2) ∙ i.1) ((in_append Left (map (later P) Old)).0 ((only_is (enters_before H) G).0 r.1).0)
    where
      go : (y : Passage) → e.passage.entry ≡ y.entry → y.component ≡ c → (y ∈ Left) ⊎ (y ∈ map (later P) Old) → EntersAt S c x st
      go y q d (inl j) =
          let b = ltb-true y.entry.tick (a + P) ((only_is (enters_before (a + P)) S).0 j).1 in
          absurd (omega (arith, e.tick, ap (λ (n : Entry). n.tick) q))
      go y q d (inr j) =
          let k = in_map (later P) Old j in
          let s = (only_is (enters_from a) S).0 k.1 in
          let t = ap (λ (v : Passage). v.entry) k.2 in
          record {
            passage = k.0;
            listed = (only_is (λ (v : Passage). eqb v.component c) S).1 (s.0, eq-eqb k.0.component c (sym (ap (λ (v : Passage). v.component) k.2) ∙ d));
            tick = omega (arith, e.tick, ap (λ (n : Entry). n.tick) q, ap (λ (n : Entry). n.tick) t);
            state = sym (ap timeless (q ∙ t)) ∙ e.state;
          }

  -- from a on: those before x are those before a and the old ones before x
  split_count : (x : ℕ) → a ≤ x → entered_before S x ≡ entered_before S a + length (only (enters_before x) Old)
  split_count x l =
      ap (λ k. length (only (enters_before x) k)) (sym (split_at a sched.order))
      ∙ ap length (only_append (enters_before x) (only (enters_before a) S) Old)
      ∙ length-append (only (enters_before x) (only (enters_before a) S)) (only (enters_before x) Old)
      ∙ ap (λ k. length k + length (only (enters_before x) Old)) (only_swap (enters_before x) (enters_before a) S ∙ only_under (enters_before a) (enters_before x) (λ v e. lt-ltb v.entry.tick x (omega (arith, ltb-true v.entry.tick a e))) S)

  -- a period later there are as many more as a period has
  pub count_step : (x : ℕ) → a ≤ x → x + P ≤ H → entered_before S (x + P) + entered_before S a ≡ entered_before S x + entered_before S (a + P)
  count_step x l h =
      let g = message_in T H W in
      let one : entered_before S (x + P) ≡ length (only (enters_before (x + P)) G) =
      ap (λ k. length (only (enters_before (x + P)) k)) (sym turned)
      ∙ ap length (only_map (put g) (enters_before (x + P)) W)
      ∙ length-map (only (enters_before (x + P)) W) (put g)
      ∙ ap length (only_under (enters_before (x + P)) (enters_before H) (λ v e. lt-ltb v.entry.tick H (omega (arith, ltb-true v.entry.tick (x + P) e))) G) in
      let left : length (only (enters_before (x + P)) Left) ≡ entered_before S (a + P) =
      ap length (only_swap (enters_before (x + P)) (enters_before (a + P)) S
      ∙ only_under (enters_before (a + P)) (enters_before (x + P)) (λ v e. lt-ltb v.entry.tick (x + P) (omega (arith, ltb-true v.entry.tick (a + P) e))) S) in
      let right : length (only (enters_before (x + P)) (map (later P) Old)) ≡ length (only (enters_before x) Old) =
      ap length (only_map (later P) (enters_before (x + P)) Old)
      ∙ length-map (only (λ v. enters_before (x + P) (later P v)) Old) (later P)
      ∙ ap length (only_same (λ v. enters_before (x + P) (later P v)) (enters_before x) Old (λ v. ltb_later P v.entry.tick x)) in
      omega (
        arith,
        one,
        ap length (only_append (enters_before (x + P)) Left (map (later P) Old)),
        length-append (only (enters_before (x + P)) Left) (only (enters_before (x + P)) (map (later P) Old)),
        left,
        right,
        split_count x l,
      )
