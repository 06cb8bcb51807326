-- The message of a passage: what does not change it, and that the search for it reads no message. Assumes nothing.
use mathlib.Core.Path.{◌≡◌, refl, ap, ◌∙◌}
use mathlib.Core.Bool.{Bool, true, false, cond, ◌&&◌, and-false}
use mathlib.Core.List.{List, [], ◌∷◌, ◌++◌, map}
use mathlib.Core.Option
use mathlib.Core.Option.{Option, none, some}
use Prim.Native.Nat.{ℕ, ◌≤◌}
use borrow.Author.Tests.{le-ltb}
use lib.Dec.{ltb}
use Rattle.model.specs.Lists.{All, empty, more}
use Rattle.model.specs.Table.{Table}
use Rattle.model.specs.Window.{channel_of, listens}
use Rattle.model.specs.Schedule.{Passage, passage_arc, names, others, heard_by, ends_sooner, sooner, earliest, carried, message_in, with_message}

-- ## What ends no earlier

-- what ends no earlier is not heard
late_unheard : (T : Table) (H : ℕ) (v s : Passage) → v.end ≤ s.end → heard_by T H v s ≡ false
late_unheard T H v s h =
    rw (le-ltb s.end v.end h, and-false (ltb v.ready s.ready && ltb s.ready H), and-false (names (passage_arc T v) (channel_of (passage_arc T s)) && others v s))

module _ (T : Table) (H : ℕ) (v : Passage) where
  -- what ends no earlier is passed over
  skips : {ys : List Passage} (b : Option Passage) → All (λ s. v.end ≤ s.end) ys → earliest (heard_by T H v) ys b ≡ b
  skips b empty = refl
  skips b (more {x = s} h hs) = rw (late_unheard T H v s h) (skips b hs)

  -- what ends no earlier does not change who is heard
  same_earliest : (xs : List Passage) {ys : List Passage} (b : Option Passage) → All (λ s. v.end ≤ s.end) ys → earliest (heard_by T H v) (xs ++ ys) b ≡ earliest (heard_by T H v) xs b
  same_earliest [] b h = skips b h
  same_earliest (x ∷ xs) b h = same_earliest xs (cond (heard_by T H v x) (sooner b x) b) h

  -- what ends no earlier than v changes no message of v
  pub same_message : (xs : List Passage) {ys : List Passage} → All (λ s. v.end ≤ s.end) ys → message_in T H (xs ++ ys) v ≡ message_in T H xs v
  unfolding message_in
  same_message xs h = rw (same_earliest xs none h)

-- ## The search reads no message

module _ (g : Passage → Option ℕ) where
  -- the passage with that message
  abbrev pub put : Passage → Passage
  put v = with_message v (g v)

  -- the sooner of two is the same with messages put in
  sooner_put : (b : Option Passage) (s : Passage) → sooner (Option.map put b) (put s) ≡ Option.map put (sooner b s)
  sooner_put none s = refl
  sooner_put (some b) s = go (ends_sooner s b)
    where
      go : (t : Bool) → cond t (some (put s)) (some (put b)) ≡ Option.map put (cond t (some s) (some b))
      go true = refl
      go false = refl

  -- the earliest is the same with messages put in
  pub earliest_put : (p : Passage → Bool) → ((s : Passage) → p (put s) ≡ p s) → (vs : List Passage) (b : Option Passage)
      → earliest p (map put vs) (Option.map put b) ≡ Option.map put (earliest p vs b)
  earliest_put p same [] b = refl
  earliest_put p same (s ∷ vs) b = ap (λ o. earliest p (map put vs) o) (ap (λ t. cond t (sooner (Option.map put b) (put s)) (Option.map put b)) (same s) ∙ go (p s))
      ∙ earliest_put p same vs (cond (p s) (sooner b s) b)
    where
      go : (t : Bool) → cond t (sooner (Option.map put b) (put s)) (Option.map put b) ≡ Option.map put (cond t (sooner b s) b)
      go true = sooner_put b s
      go false = refl

  -- the channel carried is the same with messages put in
  carried_put : (T : Table) (o : Option Passage) → carried T (Option.map put o) ≡ carried T o
  carried_put T none = refl
  carried_put T (some s) = refl

  -- a message sought among passages is the one sought among the same passages with messages put in
  pub message_put : (T : Table) (H : ℕ) (vs : List Passage) (v : Passage) → message_in T H (map put vs) v ≡ message_in T H vs v
  unfolding message_in
  message_put T H vs v =
      ap (λ o. cond (listens (passage_arc T v)) o (channel_of (passage_arc T v)))
      (ap (carried T) (earliest_put (heard_by T H v) (λ s. refl) vs none) ∙ carried_put T (earliest (heard_by T H v) vs none))

-- a passage's own message is not read
pub message_bare : (T : Table) (H : ℕ) (vs : List Passage) (v : Passage) (m : Option ℕ) → message_in T H vs (with_message v m) ≡ message_in T H vs v
unfolding message_in
message_bare T H vs v m = refl
