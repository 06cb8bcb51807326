-- One step of the network, as each component sees it. Assumes nothing.
use mathlib.Core.Path.{◌≡◌, refl, sym, ap, subst, ◌∙◌}
use mathlib.Core.Bool.{Bool, true, false, cond}
use mathlib.Core.List.{[], ◌∷◌}
use mathlib.Core.Option.{none, some}
use Prim.Native.Nat.{ℕ, suc, ◌<◌}
use native.Mathlib.Omega.{arith}
use borrow.Author.Tests.{eqb-true, eqb-false, eq-eqb, ne_eqb}
use lib.Dec.{eqb}
use lib.ListN.{length, set, length-set}
use lib.Seq.{get_or-set_same, get_or-set_other}
use Rattle.model.specs.Table.{Table, size, component_of, arc_of}
use Rattle.model.specs.Window.{channel_of, listens, leaves}
use Rattle.model.specs.Schedule.{names}
use Rattle.model.specs.Network.{State, PathPassage, no_path_passage, passage_in, Label, tick, step_in, together, step_out, waits, with_passage, enters_at, left_by}
use Rattle.model.proofs.Network.Rules.{Passes, StepsIn, Step, ticks, enters, joins, leaves_it}

-- ## What a step does to one component

-- component b hears component `sender`, which sends on edge f
pub record Hearing (T : Table) (s u : State) (b e k : ℕ) : Type 0 where
  pub sender : ℕ
  pub edge : ℕ
  pub there : sender < size T
  pub differ : sender ≡ b → ⊥
  pub sends : StepsIn (component_of T sender) s.tick (passage_in s sender) edge
  pub channel : channel_of (arc_of (component_of T sender) edge) ≡ some k
  pub after : passage_in u sender ≡ waits (passage_in s sender) edge (some k)
  pub receives : listens (arc_of (component_of T b) e) ≡ true
  pub named : names (arc_of (component_of T b) e) (some k) ≡ true

-- what step l from s to u does to component c
pub data Change (T : Table) (s : State) (l : Label) (u : State) (c : ℕ) : Type 0 where
  -- a tick
  grows : passage_in u c ≡ passage_in s c → u.tick ≡ suc s.tick → Passes (component_of T c) s.tick (passage_in s c) (passage_in s c).waiting → left_by s c l ≡ [] → Change T s l u c
  -- a step of others
  rests : passage_in u c ≡ passage_in s c → u.tick ≡ s.tick → left_by s c l ≡ [] → Change T s l u c
  -- it steps in alone
  alone : (e : ℕ) → StepsIn (component_of T c) s.tick (passage_in s c) e → passage_in u c ≡ waits (passage_in s c) e none → u.tick ≡ s.tick → left_by s c l ≡ [] → Change T s l u c
  -- it sends
  speaks : (e k : ℕ) → StepsIn (component_of T c) s.tick (passage_in s c) e → channel_of (arc_of (component_of T c) e) ≡ some k → passage_in u c ≡ waits (passage_in s c) e (some k)
      → u.tick ≡ s.tick → left_by s c l ≡ [] → Change T s l u c
  -- it hears a message
  hears : (e k : ℕ) → StepsIn (component_of T c) s.tick (passage_in s c) e → Hearing T s u c e k → passage_in u c ≡ waits (passage_in s c) e (some k)
      → u.tick ≡ s.tick → left_by s c l ≡ [] → Change T s l u c
  -- it steps out
  goes : (passage_in u c).waiting ≡ none → (passage_in u c).entry.tick ≡ s.tick → u.tick ≡ s.tick → left_by s c l ≡ passage_in s c ∷ [] → Change T s l u c

-- a place put there
pub put_same : (s : State) (c : ℕ) (p : PathPassage) → c < length s.present → passage_in (with_passage s c p) c ≡ p
put_same s c p h = get_or-set_same s.present c p no_path_passage h

-- elsewhere
pub put_other : (s : State) (c : ℕ) (p : PathPassage) (d : ℕ) → (d ≡ c → ⊥) → passage_in (with_passage s c p) d ≡ passage_in s d
put_other s c p d n = get_or-set_other s.present c d p no_path_passage n

-- what a step does, by its rule
pub change : (T : Table) (s : State) (l : Label) (u : State) → length s.present ≡ size T → Step T s l u → (c : ℕ) → c < size T → Change T s l u c
unfolding leaves
change T s tick u full (ticks h) c i = grows refl refl (h c i).1 refl
change T s (step_in a e) u full (enters i k b) c h = go (eqb c a) refl
  where
    go : (x : Bool) → eqb c a ≡ x → Change T s (step_in a e) (with_passage s a (waits (passage_in s a) e none)) c
    go true q =
        subst (λ (n : ℕ). Change T s (step_in a e) (with_passage s a (waits (passage_in s a) e none)) n) (sym (eqb-true c a q))
        (alone e k (put_same s a (waits (passage_in s a) e none) (omega arith)) refl refl)
    go false q = rests (put_other s a (waits (passage_in s a) e none) c (eqb-false c a q)) refl refl
change T s (together a e b f) u full (joins {k = k} ha hb n ka kb ch li na) c h = go (eqb c b) refl (eqb c a) refl
  where
    pa : PathPassage
    pa = waits (passage_in s a) e (some k)

    pb : PathPassage
    pb = waits (passage_in s b) f (some k)

    w : State
    w = with_passage (with_passage s a pa) b pb

    long : b < length (with_passage s a pa).present
    long = subst (λ (n : ℕ). b < n) (sym (length-set s.present a pa ∙ full)) hb

    at_a : passage_in w a ≡ pa
    at_a = put_other (with_passage s a pa) b pb a n ∙ put_same s a pa (omega arith)

    at_b : passage_in w b ≡ pb
    at_b = put_same (with_passage s a pa) b pb long

    go : (x : Bool) → eqb c b ≡ x → (y : Bool) → eqb c a ≡ y → Change T s (together a e b f) w c
    go true q y r =
        subst (λ (i : ℕ). Change T s (together a e b f) w i) (sym (eqb-true c b q))
        (hears f k kb (record { sender = a; edge = e; there = ha; differ = n; sends = ka; channel = ch; after = at_a; receives = li; named = na }) at_b refl refl)
    go false q true r = subst (λ (i : ℕ). Change T s (together a e b f) w i) (sym (eqb-true c a r)) (speaks e k ka ch at_a refl refl)
    go false q false r = rests (put_other (with_passage s a pa) b pb c (eqb-false c b q) ∙ put_other s a pa c (eqb-false c a r)) refl refl
change T s (step_out a) u full (leaves_it {w = w} i k b) c h = go (eqb c a) refl
  where
    p : PathPassage
    p = enters_at (leaves (arc_of (component_of T a) w.edge) w.message s.tick (passage_in s a).entry)

    go : (x : Bool) → eqb c a ≡ x → Change T s (step_out a) (with_passage s a p) c
    go true q =
        let e = put_same s a p (omega arith) in
        subst (λ (n : ℕ). Change T s (step_out a) (with_passage s a p) n) (sym (eqb-true c a q))
        (goes (ap (λ (x : PathPassage). x.waiting) e) (ap (λ (x : PathPassage). x.entry.tick) e) refl
        (ap (λ (x : Bool). cond x (passage_in s a ∷ []) []) (eq-eqb a a refl)))
    go false q =
        let n = eqb-false c a q in
        rests (put_other s a p c n) refl (ap (λ (x : Bool). cond x (passage_in s c ∷ []) []) (ne_eqb a c (λ e. n (sym e))))

-- as many places as before
pub same_size : (T : Table) (s : State) (l : Label) (u : State) → Step T s l u → length u.present ≡ length s.present
same_size T s tick u (ticks h) = refl
same_size T s (step_in a e) u (enters i k b) = length-set s.present a (waits (passage_in s a) e none)
same_size T s (together a e b f) u (joins {k = k} ha hb n ka kb ch li na) =
    length-set (set s.present a (waits (passage_in s a) e (some k))) b (waits (passage_in s b) f (some k)) ∙ length-set s.present a (waits (passage_in s a) e (some k))
same_size T s (step_out a) u (leaves_it {w = w} i k b) = length-set s.present a (enters_at (leaves (arc_of (component_of T a) w.edge) w.message s.tick (passage_in s a).entry))
