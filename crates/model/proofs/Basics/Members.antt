-- Members of a list, and what `first`, `only`, `any`, `all` and `earliest` find there. Assumes nothing.
use mathlib.Core.Path.{◌≡◌, refl, sym, ap, subst, ◌∙◌}
use mathlib.Core.Logic.{◌↔◌, ◌⊎◌, inl, inr}
use mathlib.Core.Bool.{Bool, true, false, cond, ◌||◌, or_assoc, or-false}
use mathlib.Core.List.{List, [], ◌∷◌, ◌++◌, append-nil}
use mathlib.Core.Option.{Option, none, some}
use Prim.Native.Nat.{ℕ, zero, suc, ◌+◌, ◌≤◌, ◌<◌}
use native.Mathlib.Omega.{arith}
use lib.ListN.{length, get_or}
use Rattle.model.specs.Lists.{all, any, only, first, ◌∈◌, here, there}
use Rattle.model.specs.Schedule.{Passage, ends_sooner, sooner, earliest}
use Rattle.model.proofs.Basics.Bools.{clash, and_is, neither}

-- ## Members

module _ {A : Type 0} where
  -- the empty list has no member
  pub not_in : {x : A} → x ∈ [] → ⊥
  not_in = elim [ ]

  -- the member of a list of one
  pub alone : {x y : A} → x ∈ (y ∷ []) → x ≡ y
  alone (here e) = e
  alone {y = y} (there x4) = elim x4 [ ]

  -- what holds of the first and of each later one holds of each
  pub each_of : (P : A → Type 0) {y : A} {S : List A} → P y → ((x : A) → x ∈ S → P x) → (x : A) → x ∈ (y ∷ S) → P x
  each_of P h k x (here e) = subst P (sym e) h
  each_of P h k x (there m) = k x m

  -- the members of two lists, one after the other
  pub in_append : (xs ys : List A) {x : A} → (x ∈ (xs ++ ys)) ↔ (x ∈ xs) ⊎ (x ∈ ys)
  in_append xs ys = (split xs, λ h. elim h [ inl m ↦ left m | inr m ↦ right xs m ])
    where
      split : {x : A} (xs : List A) → x ∈ (xs ++ ys) → (x ∈ xs) ⊎ (x ∈ ys)
      split [] m = inr m
      split (y ∷ xs) (here e) = inl (here e)
      split (y ∷ xs) (there m) = elim (split xs m) [ inl k ↦ inl (there k) | inr k ↦ inr k ]

      left : {x : A} {xs : List A} → x ∈ xs → x ∈ (xs ++ ys)
      left (here e) = here e
      left (there m) = there (left m)

      right : {x : A} (xs : List A) → x ∈ ys → x ∈ (xs ++ ys)
      right [] m = m
      right (y ∷ xs) m = there (right xs m)

  -- a number below the length has a member
  pub in_at : (d : A) (S : List A) (i : ℕ) → i < length S → get_or S i d ∈ S
  in_at d [] i h = absurd (omega arith)
  in_at d (y ∷ S) zero h = here refl
  in_at d (y ∷ S) (suc i) h = there (in_at d S i (omega arith))

  -- each member has a number
  pub number-of : (d : A) {x : A} {S : List A} → x ∈ S → (i : ℕ) × (i < length S) × (get_or S i d ≡ x)
  number-of d (here e) = (0, omega arith, sym e)
  number-of d (there m) = let h = number-of d m in (suc h.0, omega arith, h.2)

  -- the members are what stands at the numbers below the length
  pub in_is : (d : A) (S : List A) (x : A) → (x ∈ S) ↔ ((i : ℕ) × (i < length S) × (get_or S i d ≡ x))
  in_is d S x = (λ m. number-of d m, λ h. subst (λ y. y ∈ S) h.2 (in_at d S h.0 h.1))

-- ## Tests

-- a test is false exactly if it is not true
pub not_true_is : (t : Bool) → (t ≡ false) ↔ (t ≡ true → ⊥)
not_true_is true = (λ e f. clash (sym e), λ h. absurd (h refl))
not_true_is false = (λ e f. clash f, λ h. refl)

-- p holds of no member
abbrev pub NoneOf : {A : Type 0} → (A → Bool) → List A → Type 0
NoneOf {A} p S = (x : A) → x ∈ S → p x ≡ false

module _ {A : Type 0} (p : A → Bool) where
  -- none of a list and none of another
  pub none_append : (xs ys : List A) → NoneOf p xs → NoneOf p ys → NoneOf p (xs ++ ys)
  none_append xs ys a b x m = elim ((in_append xs ys).0 m) [ inl k ↦ a x k | inr k ↦ b x k ]

  -- what does not see one of which p fails does not see a list with none
  pub passed_over : {B : Type 0} (f : List A → B) → ((y : A) (S : List A) → p y ≡ false → f (y ∷ S) ≡ f S) → (S : List A) → NoneOf p S → f S ≡ f []
  passed_over f h [] k = refl
  passed_over f h (y ∷ S) k = h y S (k y (here refl)) ∙ passed_over f h S (λ x m. k x (there m))

  -- `first` finds nothing exactly if there is none
  pub first_none : (S : List A) → (first p S ≡ none) ↔ NoneOf p S
  first_none S = (only_if S, passed_over (first p) (λ y S e. rw e) S)
    where
      only_if : (S : List A) → first p S ≡ none → NoneOf p S
      only_if [] e = λ x m. absurd (not_in m)
      only_if (y ∷ S) e = go (λ k. only_if S k) (p y) refl e
        where
          go : (first p S ≡ none → NoneOf p S) → (t : Bool) → p y ≡ t → cond t (some y) (first p S) ≡ none → NoneOf p (y ∷ S)
          go ih true h k = let z : ◌≡◌ {A = ℕ} 0 1 = cc in absurd (omega arith)
          go ih false h k = each_of (λ x. p x ≡ false) h (ih k)

  -- what `first` finds is a member of which p holds
  pub first_some : (S : List A) {x : A} → first p S ≡ some x → (x ∈ S) × (p x ≡ true)
  first_some [] e = let z : ◌≡◌ {A = ℕ} 0 1 = cc in absurd (omega arith)
  first_some (y ∷ S) {x} e = go (λ k. first_some S k) (p y) refl e
    where
      go : (first p S ≡ some x → (x ∈ S) × (p x ≡ true)) → (t : Bool) → p y ≡ t → cond t (some y) (first p S) ≡ some x → (x ∈ (y ∷ S)) × (p x ≡ true)
      go ih true h k = let e : x ≡ y = cc in (here e, ap p e ∙ h)
      go ih false h k = let r = ih k in (there r.0, r.1)

  -- the members of `only`
  pub only_is : (S : List A) {x : A} → (x ∈ only p S) ↔ (x ∈ S) × (p x ≡ true)
  only_is S = (of S, λ h. into h.0 h.1)
    where
      of : (S : List A) {x : A} → x ∈ only p S → (x ∈ S) × (p x ≡ true)
      of [] m = absurd (not_in m)
      of (y ∷ S) {x} m = go (λ k. of S k) (p y) refl m
        where
          go : (x ∈ only p S → (x ∈ S) × (p x ≡ true)) → (t : Bool) → p y ≡ t → x ∈ cond t (y ∷ only p S) (only p S) → (x ∈ (y ∷ S)) × (p x ≡ true)
          go ih true h (here e) = (here e, ap p e ∙ h)
          go ih true h (there k) = let r = ih k in (there r.0, r.1)
          go ih false h k = let r = ih k in (there r.0, r.1)

      into : {x : A} {S : List A} → x ∈ S → p x ≡ true → x ∈ only p S
      into {x = x} (here {y = y} e) h = let k : p y ≡ true = ap p (sym e) ∙ h in rw k (here e)
      into {x = x} (there {y = y} {xs = S} m) h = go (into m h) (p y)
        where
          go : x ∈ only p S → (t : Bool) → x ∈ cond t (y ∷ only p S) (only p S)
          go k true = there k
          go k false = k

  -- `only` leaves nothing exactly if there is none
  pub only_none : (S : List A) → (only p S ≡ []) ↔ NoneOf p S
  only_none S = (
    λ e x m. (not_true_is (p x)).1 (λ h. not_in (subst (λ l. x ∈ l) e ((only_is S).1 (m, h)))),
    passed_over (only p) (λ y S e. rw e) S,
  )

  -- `any` is false exactly if there is none
  pub any_none : (S : List A) → (any p S ≡ false) ↔ NoneOf p S
  any_none S = (only_if S, passed_over (any p) (λ y S e. rw e) S)
    where
      only_if : (S : List A) → any p S ≡ false → NoneOf p S
      only_if [] e = λ x m. absurd (not_in m)
      only_if (y ∷ S) e = let h = neither (p y) (any p S) e in each_of (λ x. p x ≡ false) h.0 (only_if S h.1)

  -- `any` is true exactly if there is one
  pub any_is : (S : List A) → (any p S ≡ true) ↔ ((x : A) × (x ∈ S) × (p x ≡ true))
  any_is S = (only_if S, λ h. if h.1 h.2)
    where
      only_if : (S : List A) → any p S ≡ true → (x : A) × (x ∈ S) × (p x ≡ true)
      only_if [] e = clash e
      only_if (y ∷ S) e = go (λ k. only_if S k) (p y) refl e
        where
          go : (any p S ≡ true → (x : A) × (x ∈ S) × (p x ≡ true)) → (t : Bool) → p y ≡ t → t || any p S ≡ true → (x : A) × (x ∈ (y ∷ S)) × (p x ≡ true)
          go ih true h k = (y, here refl, h)
          go ih false h k = let r = ih k in (r.0, there r.1, r.2)

      if : {x : A} {S : List A} → x ∈ S → p x ≡ true → any p S ≡ true
      if (here {y = y} e) h = let k : p y ≡ true = ap p (sym e) ∙ h in rw k
      if (there {y = y} {xs = S} m) h = go (if m h) (p y)
        where
          go : any p S ≡ true → (t : Bool) → t || any p S ≡ true
          go k true = refl
          go k false = k

  -- `all` is true exactly if p holds of each
  pub all_is : (S : List A) → (all p S ≡ true) ↔ ((x : A) → x ∈ S → p x ≡ true)
  all_is S = (only_if S, if S)
    where
      only_if : (S : List A) → all p S ≡ true → (x : A) → x ∈ S → p x ≡ true
      only_if [] e = λ x m. absurd (not_in m)
      only_if (y ∷ S) e = let h = (and_is (p y) (all p S)).0 e in each_of (λ x. p x ≡ true) h.0 (only_if S h.1)

      if : (S : List A) → ((x : A) → x ∈ S → p x ≡ true) → all p S ≡ true
      if [] k = refl
      if (y ∷ S) k = rw (k y (here refl)) (if S (λ x m. k x (there m)))

-- ## How many

module _ {A : Type 0} where
  -- a list of one at most that has a member is that member alone
  pub one_left : {l : List A} {x : A} → x ∈ l → length l ≤ 1 → l ≡ x ∷ []
  one_left (here {xs = []} e) h = ap (λ (y : A). y ∷ []) (sym e)
  one_left (here {xs = y ∷ ys} e) h = absurd (omega arith)
  one_left (there {xs = []} m) h = absurd (not_in m)
  one_left (there {xs = y ∷ ys} m) h = absurd (omega arith)

  -- of a test that holds wherever another does, `only` leaves no fewer
  pub fewer : (p q : A → Bool) (S : List A) → ((x : A) → x ∈ S → q x ≡ true → p x ≡ true) → length (only q S) ≤ length (only p S)
  fewer p q [] h = omega arith
  fewer p q (y ∷ S) h = go (fewer p q S (λ x m. h x (there m))) (p y) (q y) refl refl
    where
      go : length (only q S) ≤ length (only p S) → (a b : Bool) → p y ≡ a → q y ≡ b
          → length (cond b (y ∷ only q S) (only q S)) ≤ length (cond a (y ∷ only p S) (only p S))
      go k true true e f = omega arith
      go k true false e f = omega arith
      go k false true e f = clash (sym e ∙ h y (here refl) f)
      go k false false e f = k

  -- of a part of a list `only` leaves no more
  pub fewer_left : (p q : A → Bool) (S : List A) → length (only p (only q S)) ≤ length (only p S)
  fewer_left p q [] = omega arith
  fewer_left p q (y ∷ S) = go (fewer_left p q S) (q y) (p y) refl
    where
      go : length (only p (only q S)) ≤ length (only p S) → (a b : Bool) → p y ≡ b
          → length (only p (cond a (y ∷ only q S) (only q S))) ≤ length (cond b (y ∷ only p S) (only p S))
      go k true true e = rw e (omega arith)
      go k true false e = rw e k
      go k false true e = omega arith
      go k false false e = k

-- no two numbers are those of members of which p holds
abbrev pub OnceAtMost : {A : Type 0} → (A → Bool) → A → List A → Type 0
OnceAtMost p d S = (i j : ℕ) → i < length S → j < length S → p (get_or S i d) ≡ true → p (get_or S j d) ≡ true → i ≡ j

module _ {A : Type 0} (p : A → Bool) (d : A) where
  -- `only` leaves one at most exactly if no two numbers are those of members of which p holds
  pub once_is : (S : List A) → (length (only p S) ≤ 1) ↔ OnceAtMost p d S
  once_is S = (only_if S, if S)
    where
      none_there : (S : List A) → length (only p S) ≤ 0 → NoneOf p S
      none_there S h x m = (not_true_is (p x)).1 (λ e. empty ((only_is p S).1 (m, e)) h)
        where
          empty : {l : List A} → x ∈ l → length l ≤ 0 → ⊥
          empty (here e) k = omega arith
          empty (there n) k = omega arith

      absent : {S : List A} → NoneOf p S → (i : ℕ) → i < length S → p (get_or S i d) ≡ true → ⊥
      absent {S} k i h e = clash (sym (k (get_or S i d) (in_at d S i h)) ∙ e)

      only_if : (S : List A) → length (only p S) ≤ 1 → OnceAtMost p d S
      only_if [] h = λ i j u. absurd (omega arith)
      only_if (y ∷ S) h = go (λ k. only_if S k) (p y) refl h
        where
          go : (length (only p S) ≤ 1 → OnceAtMost p d S) → (t : Bool) → p y ≡ t → length (cond t (y ∷ only p S) (only p S)) ≤ 1 → OnceAtMost p d (y ∷ S)
          go ih true e k zero zero u v f g = refl
          go ih true e k zero (suc j) u v f g = absurd (absent (none_there S (omega arith)) j (omega arith) g)
          go ih true e k (suc i) zero u v f g = absurd (absent (none_there S (omega arith)) i (omega arith) f)
          go ih true e k (suc i) (suc j) u v f g = absurd (absent (none_there S (omega arith)) i (omega arith) f)
          go ih false e k zero zero u v f g = refl
          go ih false e k zero (suc j) u v f g = clash (sym e ∙ f)
          go ih false e k (suc i) zero u v f g = clash (sym e ∙ g)
          go ih false e k (suc i) (suc j) u v f g = ap suc (ih k i j (omega arith) (omega arith) f g)

      if : (S : List A) → OnceAtMost p d S → length (only p S) ≤ 1
      if [] k = omega arith
      if (y ∷ S) k = go (if S (λ i j u v f g. omega (arith, k (suc i) (suc j) (omega arith) (omega arith) f g))) (p y) refl
        where
          later : p y ≡ true → NoneOf p S
          later e x m =
              let h = number-of d m in
              (not_true_is (p x)).1 (λ f. omega (arith, k 0 (suc h.0) (omega arith) (omega arith) e (ap p h.2 ∙ f)))

          go : length (only p S) ≤ 1 → (t : Bool) → p y ≡ t → length (cond t (y ∷ only p S) (only p S)) ≤ 1
          go ih true e = let z : length (only p S) ≡ 0 = ap length ((only_none p S).1 (later e)) in omega arith
          go ih false e = ih

-- ## A part of a list

module _ {A : Type 0} (p : A → Bool) where
  -- what `any` finds in two lists, one after the other
  pub any_append : (xs ys : List A) → any p (xs ++ ys) ≡ any p xs || any p ys
  any_append [] ys = refl
  any_append (x ∷ xs) ys = rw (any_append xs ys) (sym (or_assoc (p x) (any p xs) (any p ys)))

  -- what `only` leaves of two lists, one after the other
  pub only_append : (xs ys : List A) → only p (xs ++ ys) ≡ only p xs ++ only p ys
  only_append [] ys = refl
  only_append (x ∷ xs) ys = go (only_append xs ys) (p x)
    where
      go : only p (xs ++ ys) ≡ only p xs ++ only p ys → (t : Bool)
          → cond t (x ∷ only p (xs ++ ys)) (only p (xs ++ ys)) ≡ cond t (x ∷ only p xs) (only p xs) ++ only p ys
      go ih true = ap (λ l. x ∷ l) ih
      go ih false = ih

  -- `first` passes over a list with none
  pub first_after : (xs ys : List A) → NoneOf p xs → first p (xs ++ ys) ≡ first p ys
  first_after xs ys = passed_over p (λ l. first p (l ++ ys)) (λ y l e. rw e) xs

  -- `first` does not need a list with none after it
  pub first_before : (xs ys : List A) → NoneOf p ys → first p (xs ++ ys) ≡ first p xs
  first_before [] ys k = (first_none p ys).1 k
  first_before (x ∷ xs) ys k = go (first_before xs ys k) (p x)
    where
      go : first p (xs ++ ys) ≡ first p xs → (t : Bool) → cond t (some x) (first p (xs ++ ys)) ≡ cond t (some x) (first p xs)
      go ih true = refl
      go ih false = ih

module _ {A : Type 0} (p : A → Bool) (xs ys zs : List A) (before : NoneOf p xs) (after : NoneOf p zs) where
  -- `any` over a list is `any` over the part that holds all of which p holds
  pub any_within : any p (xs ++ ys ++ zs) ≡ any p ys
  any_within = rw (any_append p (xs ++ ys) zs, any_append p xs ys, (any_none p xs).1 before, (any_none p zs).1 after) (or-false (any p ys))

  -- so for `only`
  pub only_within : only p (xs ++ ys ++ zs) ≡ only p ys
  only_within = rw (only_append p (xs ++ ys) zs, only_append p xs ys, (only_none p xs).1 before, (only_none p zs).1 after) (append-nil (only p ys))

  -- so for `first`
  pub first_within : first p (xs ++ ys ++ zs) ≡ first p ys
  first_within = first_before p (xs ++ ys) zs after ∙ first_after p xs ys before

-- ## The earliest passage

module _ (p : Passage → Bool) where
  -- the earliest of two lists, one after the other
  pub earliest_append : (xs ys : List Passage) (b : Option Passage) → earliest p (xs ++ ys) b ≡ earliest p ys (earliest p xs b)
  earliest_append [] ys b = refl
  earliest_append (x ∷ xs) ys b = earliest_append xs ys (cond (p x) (sooner b x) b)

  -- a list with none changes nothing
  pub earliest_same : (S : List Passage) (b : Option Passage) → NoneOf p S → earliest p S b ≡ b
  earliest_same S b = passed_over p (λ l. earliest p l b) (λ y l e. rw e) S

  -- the earliest in a list is the earliest in the part that holds all of which p holds
  pub earliest_within : (xs ys zs : List Passage) (b : Option Passage) → NoneOf p xs → NoneOf p zs → earliest p (xs ++ ys ++ zs) b ≡ earliest p ys b
  earliest_within xs ys zs b before after =
      earliest_append (xs ++ ys) zs b
      ∙ earliest_same zs (earliest p (xs ++ ys) b) after
      ∙ earliest_append xs ys b
      ∙ ap (earliest p ys) (earliest_same xs b before)

  -- only those of which p holds count
  pub earliest_only : (S : List Passage) (b : Option Passage) → earliest p S b ≡ earliest (λ v. true) (only p S) b
  earliest_only [] b = refl
  earliest_only (x ∷ S) b = go (λ c. earliest_only S c) (p x)
    where
      go : ((c : Option Passage) → earliest p S c ≡ earliest (λ v. true) (only p S) c) → (t : Bool)
          → earliest p S (cond t (sooner b x) b) ≡ earliest (λ v. true) (cond t (x ∷ only p S) (only p S)) b
      go ih true = ih (sooner b x)
      go ih false = ih b

  -- what is found is the one handed in, or a member of which p holds
  pub earliest_some : (S : List Passage) (b : Option Passage) {s : Passage} → earliest p S b ≡ some s → (b ≡ some s) ⊎ ((s ∈ S) × (p s ≡ true))
  earliest_some [] b e = inl e
  earliest_some (x ∷ S) b {s} e = go (λ c k. earliest_some S c k) (p x) refl e
    where
      Found : Option Passage → List Passage → Type 0
      Found c l = (c ≡ some s) ⊎ ((s ∈ l) × (p s ≡ true))

      later : {c : Option Passage} → Found c S → (c ≡ some s → Found b (x ∷ S)) → Found b (x ∷ S)
      later f k = elim f [ inl h ↦ k h | inr h ↦ inr (there h.0, h.1) ]

      chosen : p x ≡ true → (c : Option Passage) → b ≡ c → sooner c x ≡ some s → Found b (x ∷ S)
      chosen h none f k = let e : s ≡ x = cc in inr (here e, ap p e ∙ h)
      chosen h (some c) f k = either (ends_sooner x c) k
        where
          either : (t : Bool) → cond t (some x) (some c) ≡ some s → Found b (x ∷ S)
          either true g = let e : s ≡ x = cc in inr (here e, ap p e ∙ h)
          either false g = inl (f ∙ g)

      go : ((c : Option Passage) → earliest p S c ≡ some s → Found c S) → (t : Bool) → p x ≡ t → earliest p S (cond t (sooner b x) b) ≡ some s → Found b (x ∷ S)
      go ih true h k = later (ih (sooner b x) k) (λ g. chosen h b refl g)
      go ih false h k = later (ih b k) (λ g. inl g)
