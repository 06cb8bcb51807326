-- What holds of every component on every path of the network: it entered no later than now, and it waits no longer than its end. Assumes nothing.
use mathlib.Core.Path.{◌≡◌, refl, sym, ap, subst, ◌∙◌}
use mathlib.Core.List.{List, [], ◌∷◌, ◌++◌}
use mathlib.Core.Option.{Option, none, some}
use Prim.Native.Nat.{ℕ, suc, ◌≤◌, ◌<◌}
use native.Mathlib.Omega.{arith}
use lib.ListN.{length, length-map, get_or-map}
use Rattle.model.specs.Table.{Component, Table, no_component, size, component_of}
use Rattle.model.specs.Network.{State, PathPassage, Taken, passage_in, stayed, past_in, Label, start_passage, start, left_by, step, onward, follow, passages_on}
use Rattle.model.proofs.Network.Rules.{Passes, Step, step_is}
use Rattle.model.proofs.Meaning.Step.{Change, grows, rests, alone, speaks, hears, goes, change, same_size}

-- ## States

-- a component that waits is in the window of its edge
abbrev pub Inside : Component → ℕ → PathPassage → Option Taken → Type 0
Inside C now p none = Unit {0}
Inside C now p (some w) = stayed now p < past_in C p w.edge

-- every component entered no later than now, and waits no longer than its end
pub record Sound (T : Table) (s : State) : Type 0 where
  pub full : length s.present ≡ size T
  pub since : (c : ℕ) → c < size T → (passage_in s c).entry.tick ≤ s.tick
  pub inside : (c : ℕ) → c < size T → Inside (component_of T c) s.tick (passage_in s c) (passage_in s c).waiting

-- so at the start
pub sound_start : (T : Table) → Sound T (start T)
sound_start T =
    record {
      full = length-map T.components start_passage;
      since = λ c h. subst (λ (p : PathPassage). p.entry.tick ≤ 0) (sym (get_or-map start_passage T.components c no_component)) (omega arith);
      inside = λ c h. subst (λ (p : PathPassage). Inside (component_of T c) 0 p p.waiting) (sym (get_or-map start_passage T.components c no_component)) tt;
    }

-- nobody waits at the start
pub start_free : (T : Table) (c : ℕ) → c < size T → (passage_in (start T) c).waiting ≡ none
start_free T c h = ap (λ (p : PathPassage). p.waiting) (get_or-map start_passage T.components c no_component)

-- a place with its waiting told
told : (C : Component) (now : ℕ) (p : PathPassage) (o : Option Taken) → p.waiting ≡ o → Inside C now p o → Inside C now p p.waiting
told C now p o e i = subst (Inside C now p) (sym e) i

-- one component stays in time
step_sound : {T : Table} {s : State} {l : Label} {u : State} {c : ℕ} → (passage_in s c).entry.tick ≤ s.tick → Inside (component_of T c) s.tick (passage_in s c) (passage_in s c).waiting
    → Change T s l u c → ((passage_in u c).entry.tick ≤ u.tick) × Inside (component_of T c) u.tick (passage_in u c) (passage_in u c).waiting
step_sound {T} {s} {l} {u} {c} i k (grows e f p n) = (
  subst (λ (x : PathPassage). x.entry.tick ≤ u.tick) (sym e) (omega arith),
  subst (λ (x : PathPassage). Inside (component_of T c) u.tick x x.waiting) (sym e)
      (subst (λ (now : ℕ). Inside (component_of T c) now (passage_in s c) (passage_in s c).waiting) (sym f) (go (passage_in s c).waiting p)),
)
  where
    go : (o : Option Taken) → Passes (component_of T c) s.tick (passage_in s c) o → Inside (component_of T c) (suc s.tick) (passage_in s c) o
    go none q = tt
    go (some w) q = omega arith
step_sound {T} {s} {l} {u} {c} i k (rests e f n) = (
  subst (λ (x : PathPassage). x.entry.tick ≤ u.tick) (sym e) (omega arith),
  subst (λ (x : PathPassage). Inside (component_of T c) u.tick x x.waiting) (sym e)
      (subst (λ (now : ℕ). Inside (component_of T c) now (passage_in s c) (passage_in s c).waiting) (sym f) k),
)
step_sound {T} {s} {l} {u} {c} i k (alone e h q f n) = (
  subst (λ (x : PathPassage). x.entry.tick ≤ u.tick) (sym q) (omega arith),
  subst (λ (x : PathPassage). Inside (component_of T c) u.tick x x.waiting) (sym q)
      (subst (λ (now : ℕ). stayed now (passage_in s c) < past_in (component_of T c) (passage_in s c) e) (sym f) h.end),
)
step_sound {T} {s} {l} {u} {c} i k (speaks e m h ch q f n) = (
  subst (λ (x : PathPassage). x.entry.tick ≤ u.tick) (sym q) (omega arith),
  subst (λ (x : PathPassage). Inside (component_of T c) u.tick x x.waiting) (sym q)
      (subst (λ (now : ℕ). stayed now (passage_in s c) < past_in (component_of T c) (passage_in s c) e) (sym f) h.end),
)
step_sound {T} {s} {l} {u} {c} i k (hears e m h g q f n) = (
  subst (λ (x : PathPassage). x.entry.tick ≤ u.tick) (sym q) (omega arith),
  subst (λ (x : PathPassage). Inside (component_of T c) u.tick x x.waiting) (sym q)
      (subst (λ (now : ℕ). stayed now (passage_in s c) < past_in (component_of T c) (passage_in s c) e) (sym f) h.end),
)
step_sound {T} {s} {l} {u} {c} i k (goes w e f n) = (omega arith, told (component_of T c) u.tick (passage_in u c) none w tt)

-- all do
pub sound_step : {T : Table} {s : State} {l : Label} {u : State} → Sound T s → Step T s l u → Sound T u
sound_step {T} {s} {l} {u} g k =
    record {
      full = same_size T s l u k ∙ g.full;
      since = λ c h. (step_sound (g.since c h) (g.inside c h) (change T s l u g.full k c h)).0;
      inside = λ c h. (step_sound (g.since c h) (g.inside c h) (change T s l u g.full k c h)).1;
    }

-- time does not go back
pub step_later : {T : Table} {s : State} {l : Label} {u : State} {c : ℕ} → Change T s l u c → s.tick ≤ u.tick
step_later (grows e f p n) = omega arith
step_later (rests e f n) = omega arith
step_later (alone e h q f n) = omega arith
step_later (speaks e m h ch q f n) = omega arith
step_later (hears e m h g q f n) = omega arith
step_later (goes w e f n) = omega arith

-- ## Paths

-- a path taken step by step
pub data Along (T : Table) : State → List Label → State → Type 0 where
  over : {s : State} → Along T s [] s
  then : {s t u : State} {l : Label} {ls : List Label} → step T s l ≡ some t → Along T t ls u → Along T s (l ∷ ls) u

-- a list of steps that leads somewhere is one
pub along : (T : Table) (s : State) (ls : List Label) (u : State) → follow T s ls ≡ some u → Along T s ls u
unfolding follow
along T s [] u e = let z : s ≡ u = cc in subst (Along T s []) z over
along T s (l ∷ ls) u e = go (step T s l) refl (λ t. along T t ls u) e
  where
    go : (o : Option State) → step T s l ≡ o → ((t : State) → follow T t ls ≡ some u → Along T t ls u) → onward o (λ t. follow T t ls) none ≡ some u → Along T s (l ∷ ls) u
    go none q ih h = let z : ◌≡◌ {A = ℕ} 0 1 = cc in absurd (omega arith)
    go (some t) q ih h = then q (ih t h)

-- the passages on it
pub passages_then : (T : Table) (c : ℕ) (s t : State) (l : Label) (ls : List Label) → step T s l ≡ some t → passages_on T c s (l ∷ ls) ≡ left_by s c l ++ passages_on T c t ls
unfolding passages_on
passages_then T c s t l ls e = ap (λ (o : Option State). left_by s c l ++ onward o (λ v. passages_on T c v ls) []) e

-- the path leads on in time, from sound states to sound states
pub sound_along : {T : Table} {s u : State} {ls : List Label} → 0 < size T → Sound T s → Along T s ls u → Sound T u × (s.tick ≤ u.tick)
sound_along {T} h g over = (g, omega arith)
sound_along {T} {s} {u} h g (then {t = t} {l = l} e a) =
    let k = (step_is T s l t).0 e in
    let r = sound_along h (sound_step g k) a in
    let z = step_later (change T s l t g.full k 0 h) in
    (r.0, omega (arith, r.1))
