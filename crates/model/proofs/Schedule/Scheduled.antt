-- An accepted schedule is a schedule as specs/Chains.antt says it, without the loop. Assumes nothing.
use mathlib.Core.Path.{◌≡◌, refl, sym, ap, subst, ◌∙◌}
use mathlib.Core.List.{List, [], ◌∷◌, ◌++◌, map, append-nil}
use mathlib.Core.Option.{Option}
use mathlib.Core.Logic.{inl, inr}
use Prim.Native.Nat.{ℕ, zero, suc, ◌+◌, ◌-◌, ◌≤◌, ◌<◌}
use native.Mathlib.Omega.{arith}
use lib.ListN.{length, get_or, length-append, length-map}
use lib.Seq.{append_snoc, get_or_at}
use Rattle.model.specs.Lists.{All, empty, more, snoc, accepted, ◌after◌}
use Rattle.model.specs.Table.{Component, Table, no_component, size, component_of}
use Rattle.model.specs.Window.{Entry}
use Rattle.model.specs.Schedule.{Passage, own, message_in, with_message, start_entry, opening, begin, go_on, finished, schedule}
use Rattle.model.specs.Checks.{no_passage, passage_at}
use Rattle.model.specs.Chains.{Before, Ordered, IsSchedule}
use Rattle.model.specs.Chains.{none as no-passage, more as first-passage}
use Rattle.model.proofs.Basics.Words.{all_join}
use Rattle.model.proofs.Reader.Parts.{refused_clash, accepted_same, after_ok}
use Rattle.model.proofs.Window.Opening.{Opened, opened}
use Rattle.model.proofs.Schedule.Messages.{put, message_put, message_bare}
use Rattle.model.proofs.Schedule.Own.{at_snoc, in_all, all_in, all_then, all_map, own_here, own_other, own_append, own_put, at_all}
use Rattle.model.proofs.Schedule.Loop.{told, Sound, Added, loop}

-- ## Order

-- two ordered lists, each of the first before each of the second
pub ordered_append : {xs ys : List Passage} → Ordered xs → Ordered ys → All (λ x. All (Before x) ys) xs → Ordered (xs ++ ys)
ordered_append no-passage o a = o
ordered_append (first-passage b p) o (more f a) = first-passage (all_join b f) (ordered_append p o a)

-- messages put in do not change the order
pub ordered_put : (g : Passage → Option ℕ) {vs : List Passage} → Ordered vs → Ordered (map (put g) vs)
ordered_put g no-passage = no-passage
ordered_put g (first-passage b p) = first-passage (all_map (put g) b) (ordered_put g p)

-- ## The first openings

-- passages of the components from number k on, one of each
abbrev Numbered : ℕ → List Passage → Type 0
Numbered k vs = (i : ℕ) → i < length vs → (passage_at vs i).component ≡ k + i

-- without the first
numbered_rest : (k : ℕ) (v : Passage) (vs : List Passage) → Numbered k (v ∷ vs) → Numbered (suc k) vs
numbered_rest k v vs f i h = f (suc i) (omega arith) ∙ omega arith

-- none is of a component below k
own_none : (k : ℕ) (vs : List Passage) (c : ℕ) → c < k → Numbered k vs → own c vs ≡ []
own_none k [] c h f = refl
own_none k (v ∷ vs) c h f =
    let e : v.component ≡ k + 0 = f 0 (omega arith) in
    own_other c v vs (λ q. omega arith) ∙ own_none (suc k) vs c (omega arith) (numbered_rest k v vs f)

-- one is of component k + c
own_one : (k : ℕ) (vs : List Passage) (c : ℕ) → c < length vs → Numbered k vs → own (k + c) vs ≡ passage_at vs c ∷ []
own_one k [] c h f = absurd (omega arith)
own_one k (v ∷ vs) zero h f =
    own_here (k + 0) v vs (f 0 (omega arith)) ∙ ap (λ l. v ∷ l) (own_none (suc k) vs (k + 0) (omega arith) (numbered_rest k v vs f))
own_one k (v ∷ vs) (suc c) h f =
    let e : v.component ≡ k + 0 = f 0 (omega arith) in
    let n : suc k + c ≡ k + suc c = omega arith in
    own_other (k + suc c) v vs (λ q. omega arith) ∙ subst (λ m. own m vs ≡ passage_at vs c ∷ []) n (own_one (suc k) vs c (omega arith) (numbered_rest k v vs f))

-- each is of component k or above
numbered_above : (k : ℕ) (vs : List Passage) → Numbered k vs → All (λ w. k ≤ w.component) vs
numbered_above k [] f = empty
numbered_above k (v ∷ vs) f =
    more {x = v} (omega (arith, f 0 (omega arith))) (all_then (λ w h. omega arith) (numbered_above (suc k) vs (numbered_rest k v vs f)))

-- those of one tick, one of each component, are in the order of opening
numbered_ordered : (k t : ℕ) (vs : List Passage) → Numbered k vs → All (λ v. v.entry.tick ≡ t) vs → Ordered vs
numbered_ordered k t [] f a = no-passage
numbered_ordered k t (v ∷ vs) f (more e a) =
    let rest = numbered_rest k v vs f in
    let mine : v.component ≡ k + 0 = f 0 (omega arith) in
    first-passage {v = v} (in_all vs (λ w i. inr (e ∙ sym (all_in a i), omega (arith, all_in (numbered_above (suc k) vs rest) i)))) (numbered_ordered (suc k) t vs rest a)

module _ (T : Table) (H : ℕ) where
  -- the first passage of component c
  abbrev Begun : ℕ → Passage → Type 0
  Begun c v = opening c (component_of T c) (start_entry (component_of T c)) ≡ accepted v

  -- the first passages, one of each component
  record Start (ws : List Passage) : Type 0 where
    full : length ws ≡ size T
    each : (c : ℕ) → c < size T → Begun c (passage_at ws c)

  -- the openings at tick 0
  first : (room : ℕ) (Cs P : List Component) (c : ℕ) (vs : List Passage) {ws : List Passage} → T.components ≡ P ++ Cs → length P ≡ c → length vs ≡ c
      → ((i : ℕ) → i < c → Begun i (passage_at vs i)) → begin room c Cs vs ≡ accepted ws → (length Cs ≤ room) × Start ws
  unfolding begin
  first room [] P c vs {ws} sp lp lv f e =
      let n : size T ≡ c = ap length (sp ∙ append-nil P) ∙ lp in
      (omega arith, subst Start (accepted_same e) (record { full = lv ∙ sym n; each = λ i h. f i (omega arith) }))
  first zero (C ∷ Cs) P c vs {ws} sp lp lv f e = refused_clash 7 c ws e
  first (suc room) (C ∷ Cs) P c vs {ws} sp lp lv f e =
      let r = after_ok (opening c C (start_entry C)) (λ v. begin room (suc c) Cs (snoc vs v)) e in
      let is : component_of T c ≡ C = ap (λ xs. get_or xs c no_component) sp ∙ get_or_at P C Cs no_component c lp in
      let b : Begun c r.0 = ap (λ (D : Component). opening c D (start_entry D)) is ∙ r.1 in
      let t = first room Cs (snoc P C) (suc c) (snoc vs r.0) (sp ∙ sym (append_snoc P C Cs)) (omega (arith, length-append P (C ∷ []))) (omega (arith, length-append vs (r.0 ∷ [])))
      (at_snoc vs c r.0 lv Begun b f) r.2 in
      (omega (arith, t.0), t.1)

  -- ## The schedule

  module _ (limit : ℕ) (vs W : List Passage) (few : size T ≤ limit) (st : Start vs) (a : Added T H (limit - size T) (record { listed = vs; current = vs }) W) where
    -- the passage that component c opens at tick 0
    begun : (c : ℕ) → c < size T → Opened c (component_of T c) (start_entry (component_of T c)) (passage_at vs c)
    begun c h = opened c (component_of T c) (start_entry (component_of T c)) (st.each c h)

    -- it is entered at tick 0
    begun_tick : (c : ℕ) → c < size T → (passage_at vs c).entry.tick ≡ 0
    begun_tick c h = ap (λ (x : Entry). x.tick) (begun c h).entry

    -- the first passages are those of components 0 upward
    numbered : Numbered 0 vs
    numbered i h = (begun i (omega (arith, st.full))).component ∙ omega arith

    -- the passages in the order of opening, before their messages are put in
    ordered : Ordered W
    ordered = subst Ordered (sym a.is) (ordered_append (numbered_ordered 0 0 vs numbered at_zero) a.order (all_then earlier at_zero))
      where
        at_zero : All (λ v. v.entry.tick ≡ 0) vs
        at_zero = at_all no_passage vs (λ i h. begun_tick i (omega (arith, st.full)))

        earlier : (u : Passage) → u.entry.tick ≡ 0 → All (Before u) a.more
        earlier u e = a.later u (λ c h. inl (omega (arith, (begun c h).early, (begun c h).wide)))

    -- the passages of component c, before their messages are put in
    own_is : (c : ℕ) → c < size T → own c W ≡ passage_at vs c ∷ own c a.more
    own_is c h =
        let z : 0 + c ≡ c = omega arith in
        let one = subst (λ k. own k vs ≡ passage_at vs c ∷ []) z (own_one 0 vs c (omega (arith, st.full)) numbered) in
        ap (own c) a.is ∙ own_append c vs a.more ∙ ap (λ l. l ++ own c a.more) one

    -- the finished list is a schedule
    finished_is : IsSchedule limit T H (map (told T H W) W)
    finished_is =
        record {
          few = omega (arith, length-map W (told T H W), ap length a.is, length-append vs a.more, st.full, a.few);
          present = all_map (told T H W) (subst (All (λ v. v.component < size T)) (sym a.is) (all_join (at_all no_passage vs (λ i h. omega (arith, numbered i h, st.full))) a.present));
          chains = λ c h.
              record {
                head = told T H W (passage_at vs c);
                tail = map (told T H W) (own c a.more);
                is = own_put (message_in T H W) c W ∙ ap (map (told T H W)) (own_is c h);
                starts = st.each c h ∙ ap (λ m. accepted (with_message (passage_at vs c) m)) (begun c h).message;
                chain = a.chains c h;
              };
          messages = all_map (told T H W) (in_all W (λ v i. sym (message_put (message_in T H W) T H W (told T H W v) ∙ message_bare T H W v (message_in T H W v))));
          order = ordered_put (message_in T H W) ordered;
        }

  -- an accepted schedule is a schedule
  pub schedule_is : (limit : ℕ) {S : List Passage} → schedule limit T H ≡ accepted S → IsSchedule limit T H S
  unfolding schedule
  schedule_is limit {S} e =
      let r = after_ok (begin limit 0 T.components []) (λ vs. go_on T H (limit - size T) (record { listed = vs; current = vs }) after λ ws. accepted (finished T H ws)) e in
      let st = first limit T.components [] 0 [] refl refl refl (λ i h. absurd (omega arith)) r.1 in
      let q = after_ok (go_on T H (limit - size T) (record { listed = r.0; current = r.0 })) (λ ws. accepted (finished T H ws)) r.2 in
      let s : Sound T H (record { listed = r.0; current = r.0 }) =
      record { full = st.1.full; each = λ c h. (opened c (component_of T c) (start_entry (component_of T c)) (st.1.each c h)).component } in
      let a = loop T H (limit - size T) (record { listed = r.0; current = r.0 }) s q.1 in
      subst (IsSchedule limit T H) (accepted_same q.2) (finished_is limit r.0 q.0 st.0 st.1 a)
