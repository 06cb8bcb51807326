-- The schedule is exactly what specs/Chains.antt says, without the loop. Assumes nothing.
use mathlib.Core.Path.{◌≡◌, refl, sym, ap, ap₂, subst, subst₂, ◌∙◌}
use mathlib.Core.Bool.{Bool, true, false}
use mathlib.Core.List.{List, [], ◌∷◌, ◌++◌, map, append-nil}
use mathlib.Core.Logic.{◌↔◌, ◌⊎◌, inl, inr, by_cases}
use Prim.Native.Nat.{ℕ, zero, suc, ◌-◌, ◌≤◌, ◌<◌}
use native.Mathlib.Omega.{arith}
use native.Mathlib.Decide.{ℕ_discrete}
use borrow.Author.Tests.{ltb-true, ltb-false}
use lib.Dec.{ltb}
use lib.ListN.{length, get_or, length-append}
use lib.Seq.{append_snoc, get_or_at}
use Rattle.model.specs.Lists.{◌∈◌, here, All, empty, more, snoc, accepted, ◌after◌}
use Rattle.model.specs.Table.{Component, Table, no_component, size, component_of, arc_of}
use Rattle.model.specs.Window.{Entry, channel_of}
use Rattle.model.specs.Schedule.{Passage, passage_arc, own, message_in, with_message, start_entry, opening, begin, go_on, finished, schedule}
use Rattle.model.specs.Checks.{passage_at}
use Rattle.model.specs.Chains.{Opens, Chain, Chained, Before, Ordered, IsSchedule}
use Rattle.model.specs.Chains.{more as first-passage}
use Rattle.model.proofs.Window.Opening.{opened}
use Rattle.model.proofs.Schedule.Messages.{put, message_put, message_bare}
use Rattle.model.proofs.Schedule.Own.{at_snoc, all_in, in_all, own_here, own_other, own_in}
use Rattle.model.proofs.Schedule.Scheduled.{schedule_is}
use Rattle.model.proofs.Schedule.Passages.{opens_follows, entered}
use Rattle.model.proofs.Schedule.Retrace.{map_snoc, chain_link, bare, Fine, Along, retrace}

-- a component's first passage opens at tick 0, in the component
starts_at : (c : ℕ) (C : Component) (w : Passage) → Opens c C (start_entry C) w → (w.entry.tick ≡ 0) × (w.component ≡ c)
starts_at c C w o = let k = opened c C (start_entry C) o in (ap (λ (x : Entry). x.tick) k.entry, k.component)

-- the same chain of an equal list
chained_of : {H c : ℕ} {C : Component} {vs ws : List Passage} → vs ≡ ws → Chained H c C vs → Chained H c C ws
chained_of e k = record { head = k.head; tail = k.tail; is = sym e ∙ k.is; starts = k.starts; chain = k.chain }

module _ (T : Table) (H : ℕ) (S : List Passage) where
  -- components 0 up to c have opened, and rest is yet to open
  record Begun (room c : ℕ) (heads rest : List Passage) : Type 0 where
    split : S ≡ heads ++ rest
    full : length heads ≡ c
    each : (k : ℕ) → k < c → (passage_at heads k).component ≡ k
    fine_heads : (k : ℕ) → k < c → Fine T H S (passage_at heads k)
    chains : (k : ℕ) → k < c → Chain H k (component_of T k) (passage_at heads k) (own k rest)
    chained : (k : ℕ) → c ≤ k → k < size T → Chained H k (component_of T k) (own k rest)
    fine : All (Fine T H S) rest
    order : Ordered rest
    few : length rest ≤ room

  -- the next to open, where component c is yet to open
  module _ (room c : ℕ) (hc : c < size T) (heads : List Passage) (w : Passage) (rest : List Passage) (before : All (Before w) rest) (o : Ordered rest) (fw : Fine T H S w)
      (fr : All (Fine T H S) rest) (a : Begun (suc room) c heads (w ∷ rest)) where
    -- were it of another component, that of c would come first
    never : (w.component ≡ c → ⊥) → ((w.entry.tick ≡ 0) × (c < w.component)) ⊎ (0 < w.entry.tick) → ⊥
    never n f =
        let k = chained_of (own_other c w rest n) (a.chained c (omega arith) hc) in
        let t = starts_at c (component_of T c) k.head k.starts in
        let b : Before w k.head = all_in before (own_in c rest (subst (λ l. k.head ∈ l) (sym k.is) (here refl))).0 in
        go k.head t b f
      where
        go : (h : Passage) → (h.entry.tick ≡ 0) × (h.component ≡ c) → Before w h → ((w.entry.tick ≡ 0) × (c < w.component)) ⊎ (0 < w.entry.tick) → ⊥
        go h t (inl q) (inl f) = omega (arith, t.0)
        go h t (inl q) (inr f) = omega (arith, t.0)
        go h t (inr q) (inl f) = omega (arith, t.1, q.1, f.1)
        go h t (inr q) (inr f) = omega (arith, t.0, q.0)

    -- of a component that has opened, it opens at an end
    opened_before : w.component < c → 0 < w.entry.tick
    opened_before h =
        let i = w.component in
        let k = chain_link (subst (Chain H i (component_of T i) (passage_at heads i)) (own_here i w rest refl) (a.chains i h)) in
        omega (arith, (opens_follows H i (component_of T i) (passage_at heads i) w k.0 k.1).tick, (a.fine_heads i h).wide)

    -- of a component that is yet to open, it is the first
    is_first : (i : ℕ) → c ≤ i → w.component ≡ i
        → Opens i (component_of T i) (start_entry (component_of T i)) w × Chain H i (component_of T i) w (own i rest)
    is_first i h e =
        let k = chained_of (own_here i w rest e) (a.chained i h (omega (arith, fw.component))) in
        let p : k.head ≡ w = (let z = k.is in cc) in
        let q : k.tail ≡ own i rest = (let z = k.is in cc) in
        (subst (Opens i (component_of T i) (start_entry (component_of T i))) p k.starts, subst₂ (Chain H i (component_of T i)) p q k.chain)

    -- it is of component c
    mine : w.component ≡ c
    mine = by_cases (ℕ_discrete w.component c) (λ e. e) (λ n. absurd (never n (go n (ltb w.component c) refl)))
      where
        go : (w.component ≡ c → ⊥) → (t : Bool) → ltb w.component c ≡ t → ((w.entry.tick ≡ 0) × (c < w.component)) ⊎ (0 < w.entry.tick)
        go n true e = inr (opened_before (ltb-true w.component c e))
        go n false e =
            let i = w.component in
            let h : c ≤ i = ltb-false i c e in
            inl ((starts_at i (component_of T i) w (is_first i h refl).0).0, omega arith)

    -- component c opens it
    opens : opening c (component_of T c) (start_entry (component_of T c)) ≡ accepted (bare T H S w)
    opens = (is_first c (omega arith) mine).0 ∙ ap (λ i. accepted (with_message w (channel_of (arc_of (component_of T i) w.edge)))) (sym mine)

    -- one component more has opened
    goes : Begun room (suc c) (snoc heads w) rest
    goes =
        record {
          split = a.split ∙ sym (append_snoc heads w rest);
          full = length-append heads (w ∷ []) ∙ omega (arith, a.full);
          each = at_snoc heads c w a.full (λ k x. x.component ≡ k) mine a.each;
          fine_heads = at_snoc heads c w a.full (λ k x. Fine T H S x) fw a.fine_heads;
          chains = at_snoc heads c w a.full (λ k x. Chain H k (component_of T k) x (own k rest)) (is_first c (omega arith) mine).1
              (λ k h. subst (Chain H k (component_of T k) (passage_at heads k)) (own_other k w rest (λ e. omega (arith, mine))) (a.chains k h));
          chained = λ k h l. chained_of (own_other k w rest (λ e. omega (arith, mine))) (a.chained k (omega arith) l);
          fine = fr;
          order = o;
          few = omega (arith, a.few);
        }

  -- the openings at tick 0
  begins : (room : ℕ) (Cs P : List Component) (c : ℕ) (heads rest : List Passage) → T.components ≡ P ++ Cs → length P ≡ c → Begun room c heads rest
      → (hs : List Passage) × (rs : List Passage) × (begin room c Cs (map (bare T H S) heads) ≡ accepted (map (bare T H S) hs)) × Along T H S (room - length Cs) hs hs rs
  unfolding begin
  begins room [] P c heads rest sp lp a =
      let n : size T ≡ c = ap length (sp ∙ append-nil P) ∙ lp in (
        heads,
        rest,
        refl,
        record {
          split = a.split;
          full = a.full ∙ sym n;
          each = λ k h. a.each k (omega arith);
          message = λ k h. (a.fine_heads k (omega arith)).message;
          chains = λ k h. a.chains k (omega arith);
          fine = a.fine;
          order = a.order;
          few = omega (arith, a.few);
        },
      )
  begins room (C ∷ Cs) P c heads [] sp lp a =
      let k = a.chained c (omega arith) (omega (arith, ap length sp, length-append P (C ∷ Cs))) in
      absurd (let e = k.is in let z : ◌≡◌ {A = ℕ} 0 1 = cc in omega arith)
  begins zero (C ∷ Cs) P c heads (w ∷ rest) sp lp a = absurd (omega (arith, a.few))
  begins (suc room) (C ∷ Cs) P c heads (w ∷ rest) sp lp a =
      go (λ x. begins room Cs (snoc P C) (suc c) (snoc heads w) rest (sp ∙ sym (append_snoc P C Cs)) (omega (arith, length-append P (C ∷ []))) x) a.order a.fine
    where
      Result : ℕ → ℕ → List Component → List Passage → Type 0
      Result r d Ds vs = (hs : List Passage) × (rs : List Passage) × (begin r d Ds (map (bare T H S) vs) ≡ accepted (map (bare T H S) hs)) × Along T H S (r - length Ds) hs hs rs

      go : (Begun room (suc c) (snoc heads w) rest → Result room (suc c) Cs (snoc heads w)) → Ordered (w ∷ rest) → All (Fine T H S) (w ∷ rest) → Result (suc room) c (C ∷ Cs) heads
      go ih (first-passage b o) (more f fs) =
          let hc : c < size T = omega (arith, ap length sp, length-append P (C ∷ Cs)) in
          let is : component_of T c ≡ C = ap (λ xs. get_or xs c no_component) sp ∙ get_or_at P C Cs no_component c lp in
          let e : opening c C (start_entry C) ≡ accepted (bare T H S w) = sym (ap (λ (D : Component). opening c D (start_entry D)) is) ∙ opens room c hc heads w rest b o f fs a in
          let r = ih (goes room c hc heads w rest b o f fs a) in
          let n : room - length Cs ≡ suc room - suc (length Cs) = omega arith in (
            r.0,
            r.1,
            ap (λ x. x after λ v. begin room (suc c) Cs (snoc (map (bare T H S) heads) v)) e ∙ ap (begin room (suc c) Cs) (sym (map_snoc (bare T H S) heads w)) ∙ r.2,
            subst (λ k. Along T H S k r.0 r.0 r.1) n r.3,
          )

  -- the messages are put in again
  put_again : {vs : List Passage} → All (λ v. v.message ≡ message_in T H S v) vs → map (put (message_in T H (map (bare T H S) S))) (map (bare T H S) vs) ≡ vs
  put_again empty = refl
  put_again (more {x = v} {xs = vs} e a) =
      let m : message_in T H (map (bare T H S) S) (bare T H S v) ≡ v.message =
      message_bare T H (map (bare T H S) S) v (channel_of (passage_arc T v)) ∙ message_put (λ x. channel_of (passage_arc T x)) T H S v ∙ sym e in
      ap₂ (λ (x : Passage) (xs : List Passage). x ∷ xs) (ap (with_message v) m) (put_again a)

-- ## The law

module _ (limit : ℕ) (T : Table) (H : ℕ) (S : List Passage) where
  -- what is a schedule is the one computed
  pub is-accepted : IsSchedule limit T H S → schedule limit T H ≡ accepted S
  unfolding schedule finished
  is-accepted s =
      ap (λ x. x after λ vs. go_on T H (limit - size T) (record { listed = vs; current = vs }) after λ ws. accepted (finished T H ws)) b.2
      ∙ ap (λ x. x after λ ws. accepted (finished T H ws)) (retrace T H S (limit - size T) b.0 b.0 b.1 b.3)
      ∙ ap accepted (put_again T H S s.messages)
    where
      start : Begun T H S limit 0 [] S
      start =
          record {
            split = refl;
            full = refl;
            each = λ k h. absurd (omega arith);
            fine_heads = λ k h. absurd (omega arith);
            chains = λ k h. absurd (omega arith);
            chained = λ k h l. s.chains k l;
            fine = in_all S (λ v i. (let e = all_in (entered s) i in record { component = all_in s.present i; wide = omega (arith, e.early, e.wide); message = all_in s.messages i }));
            order = s.order;
            few = s.few;
          }

      b : (hs : List Passage) × (rs : List Passage) × (begin limit 0 T.components [] ≡ accepted (map (bare T H S) hs)) × Along T H S (limit - size T) hs hs rs
      b = begins T H S limit T.components [] 0 [] S refl refl start

  -- the schedule is accepted as S exactly if S is a schedule
  pub is_schedule : (schedule limit T H ≡ accepted S) ↔ IsSchedule limit T H S
  is_schedule = (schedule_is T H limit, is-accepted)
