-- A receive that waits with a message had it from a send of another component on that channel, at a tick of both windows. Assumes nothing.
use mathlib.Core.Path.{◌≡◌, refl, sym, ap, subst, ◌∙◌}
use mathlib.Core.Logic.{◌⊎◌, inl, inr}
use mathlib.Core.Bool.{true}
use mathlib.Core.List.{List, ◌∷◌}
use mathlib.Core.Option.{Option, none, some}
use Prim.Native.Nat.{ℕ, ◌≤◌, ◌<◌}
use native.Mathlib.Omega.{arith}
use Rattle.model.specs.Lists.{◌∈◌, here}
use Rattle.model.specs.Table.{Component, Table, size, component_of, arc_of}
use Rattle.model.specs.Window.{ready_of, channel_of, listens}
use Rattle.model.specs.Schedule.{Passage, names}
use Rattle.model.specs.Network.{State, PathPassage, Taken, passage_in, stayed, past_in, Label, waits, left_by, passages_on}
use Rattle.model.proofs.Basics.Bools.{clash}
use Rattle.model.proofs.Reader.Parts.{some_clash}
use Rattle.model.proofs.Basics.Members.{in_append}
use Rattle.model.proofs.Network.Passage.{Fits}
use Rattle.model.proofs.Network.Rules.{StepsIn, Step, step_is}
use Rattle.model.proofs.Network.Steps.{sends_only}
use Rattle.model.proofs.Meaning.Step.{Hearing, Change, grows, rests, alone, speaks, hears, goes, change}
use Rattle.model.proofs.Meaning.Path.{Sound, sound_step, step_later, Along, over, then, passages_then, sound_along}

-- ## Windows

-- at that tick a component in place p is in the window of edge e
pub record Within (C : Component) (now : ℕ) (p : PathPassage) (e : ℕ) : Type 0 where
  pub since : p.entry.tick ≤ now
  pub ready : ready_of (arc_of C e).clock_guards p.entry.clocks ≤ stayed now p
  pub end : stayed now p < past_in C p e

-- one that steps in is, and waits there
pub steps_within : {C : Component} {now : ℕ} {p : PathPassage} {e : ℕ} → p.entry.tick ≤ now → StepsIn C now p e → (m : Option ℕ) → Within C now (waits p e m) e
steps_within h k m = record { since = h; ready = k.ready; end = k.end }

-- so it is in the window of the passage
pub within_passage : {C : Component} {now : ℕ} {p : PathPassage} {e : ℕ} {v : Passage} → Fits C v → p.entry ≡ v.entry → e ≡ v.edge → Within C now p e → (v.ready ≤ now) × (now ≤ v.end)
within_passage {C} {now} {p} {e} {v} f i j w =
    let z : Within C now (record { entry = v.entry; waiting = p.waiting }) v.edge =
    subst (λ (n : ℕ). Within C now (record { entry = v.entry; waiting = p.waiting }) n) j
    (subst (λ x. Within C now (record { entry = x; waiting = p.waiting }) e) i (record { since = w.since; ready = w.ready; end = w.end })) in
    (omega (arith, f.ready, z.ready, z.since), omega (arith, f.end, z.end, z.since))

-- ## Who waits is on the path

-- a component that waits is among its passages on the path that follows
pub waits_on : {T : Table} {s u : State} {ls : List Label} (c : ℕ) → c < size T → Sound T s → Along T s ls u → (w : Taken) → (passage_in s c).waiting ≡ some w → passage_in s c ∈ passages_on T c s ls
unfolding passages_on
waits_on c h g over w e = here refl
waits_on {T} {s} {u} c h g (then {t = t} {l = l} {ls = ls} q a) w e =
    let k = (step_is T s l t).0 q in
    subst (λ (x : List PathPassage). passage_in s c ∈ x) (sym (passages_then T c s t l ls q))
    ((in_append (left_by s c l) (passages_on T c t ls)).1 (go (change T s l t g.full k c h) (λ f. waits_on c h (sound_step g k) a w f)))
  where
    stays : passage_in t c ≡ passage_in s c → ((passage_in t c).waiting ≡ some w → passage_in t c ∈ passages_on T c t ls) → passage_in s c ∈ passages_on T c t ls
    stays f ih = subst (λ (x : PathPassage). x ∈ passages_on T c t ls) f (ih (ap (λ (x : PathPassage). x.waiting) f ∙ e))

    go : Change T s l t c → ((passage_in t c).waiting ≡ some w → passage_in t c ∈ passages_on T c t ls) → (passage_in s c ∈ left_by s c l) ⊎ (passage_in s c ∈ passages_on T c t ls)
    go (grows f p i n) ih = inr (stays f ih)
    go (rests f i n) ih = inr (stays f ih)
    go (alone d k f i n) ih = some_clash (sym e ∙ k.free)
    go (speaks d m k ch f i n) ih = some_clash (sym e ∙ k.free)
    go (hears d m k b f i n) ih = some_clash (sym e ∙ k.free)
    go (goes f i j n) ih = inl (subst (λ (x : List PathPassage). passage_in s c ∈ x) (sym n) (here refl))

-- ## Who spoke

-- the send that component b in place p, on edge e, heard on channel k: on the path from s on, no later than now
pub record Spoken (T : Table) (b : ℕ) (p : PathPassage) (e k : ℕ) (s : State) (ls : List Label) (now : ℕ) : Type 0 where
  pub sender : ℕ
  pub there : sender < size T
  pub differ : sender ≡ b → ⊥
  pub place : PathPassage
  pub listed : place ∈ passages_on T sender s ls
  pub taken : Taken
  pub waiting : place.waiting ≡ some taken
  pub channel : channel_of (arc_of (component_of T sender) taken.edge) ≡ some k
  pub named : names (arc_of (component_of T b) e) (some k) ≡ true
  pub at : ℕ
  pub before : at ≤ now
  pub sending : Within (component_of T sender) at place taken.edge
  pub hearing : Within (component_of T b) at p e

-- a receive that waits with a message was so at the start of the path already, or heard a send on it
pub heard-from : {T : Table} {s u : State} {ls : List Label} (b : ℕ) → b < size T → Sound T s → Along T s ls u → (w : Taken) (k : ℕ) → (passage_in u b).waiting ≡ some w
    → w.message ≡ some k → listens (arc_of (component_of T b) w.edge) ≡ true → (passage_in s b ≡ passage_in u b) ⊎ Spoken T b (passage_in u b) w.edge k s ls u.tick
heard-from b h g over w k e m li = inl refl
heard-from {T} {s} {u} b h g (then {t = t} {l = l} {ls = ls} q a) w k e m li =
    let r = (step_is T s l t).0 q in
    go (change T s l t g.full r b h) (heard-from b h (sound_step g r) a w k e m li)
  where
    v : Step T s l t
    v = (step_is T s l t).0 q

    -- where it waits already after the first step
    place : {x : PathPassage} → passage_in t b ≡ passage_in u b → passage_in t b ≡ x → x.waiting ≡ some w
    place f i = ap (λ (y : PathPassage). y.waiting) (sym i ∙ f) ∙ e

    longer : Spoken T b (passage_in u b) w.edge k t ls u.tick → Spoken T b (passage_in u b) w.edge k s (l ∷ ls) u.tick
    longer z =
        record {
          sender = z.sender;
          there = z.there;
          differ = z.differ;
          place = z.place;
          listed =
              subst (λ (x : List PathPassage). z.place ∈ x) (sym (passages_then T z.sender s t l ls q))
              ((in_append (left_by s z.sender l) (passages_on T z.sender t ls)).1 (inr z.listed));
          taken = z.taken;
          waiting = z.waiting;
          channel = z.channel;
          named = z.named;
          at = z.at;
          before = z.before;
          sending = z.sending;
          hearing = z.hearing;
        }

    now_heard : (d j : ℕ) → StepsIn (component_of T b) s.tick (passage_in s b) d → Hearing T s t b d j → passage_in t b ≡ waits (passage_in s b) d (some j)
        → passage_in t b ≡ passage_in u b → Spoken T b (passage_in u b) w.edge k t ls u.tick
    now_heard d j i c f n =
        let y : record { edge = d; message = some j } ≡ w = let z = place n f in cc in
        let ed : d ≡ w.edge = ap (λ (x : Taken). x.edge) y in
        let me : some j ≡ some k = ap (λ (x : Taken). x.message) y ∙ m in
        let jk : j ≡ k = cc in
        let wa : (passage_in t c.sender).waiting ≡ some (record { edge = c.edge; message = some j }) = ap (λ (x : PathPassage). x.waiting) c.after in
        record {
          sender = c.sender;
          there = c.there;
          differ = c.differ;
          place = passage_in t c.sender;
          listed = waits_on c.sender c.there (sound_step g v) a (record { edge = c.edge; message = some j }) wa;
          taken = record { edge = c.edge; message = some j };
          waiting = wa;
          channel = c.channel ∙ me;
          named =
              subst (λ (x : ℕ). names (arc_of (component_of T b) w.edge) (some x) ≡ true) jk
              (subst (λ (x : ℕ). names (arc_of (component_of T b) x) (some j) ≡ true) ed c.named);
          at = s.tick;
          before = omega (arith, step_later (change T s l t g.full v b h), (sound_along (omega arith) (sound_step g v) a).1);
          sending =
              subst (λ (x : PathPassage). Within (component_of T c.sender) s.tick x c.edge) (sym c.after) (steps_within (g.since c.sender c.there) c.sends (some j));
          hearing =
              subst (λ (x : ℕ). Within (component_of T b) s.tick (passage_in u b) x) ed
              (subst (λ (x : PathPassage). Within (component_of T b) s.tick x d) (sym f ∙ n) (steps_within (g.since b h) i (some j)));
        }

    go : Change T s l t b → (passage_in t b ≡ passage_in u b) ⊎ Spoken T b (passage_in u b) w.edge k t ls u.tick
        → (passage_in s b ≡ passage_in u b) ⊎ Spoken T b (passage_in u b) w.edge k s (l ∷ ls) u.tick
    go c (inr z) = inr (longer z)
    go (grows f p i n) (inl o) = inl (sym f ∙ o)
    go (rests f i n) (inl o) = inl (sym f ∙ o)
    go (alone d i f j n) (inl o) =
        let y : record { edge = d; message = none } ≡ w = let z = place o f in cc in
        let z : none ≡ some k = ap (λ (x : Taken). x.message) y ∙ m in
        let x : ◌≡◌ {A = ℕ} 0 1 = cc in
        absurd (omega arith)
    go (speaks d j i ch f p n) (inl o) =
        let y : record { edge = d; message = some j } ≡ w = let z = place o f in cc in
        let z : listens (arc_of (component_of T b) d) ≡ true = subst (λ (x : ℕ). listens (arc_of (component_of T b) x) ≡ true) (sym (ap (λ (x : Taken). x.edge) y)) li in
        clash (sym (sends_only (arc_of (component_of T b) d) j ch) ∙ z)
    go (hears d j i c f p n) (inl o) = inr (longer (now_heard d j i c f o))
    go (goes f i j n) (inl o) = some_clash (sym (ap (λ (y : PathPassage). y.waiting) o ∙ e) ∙ f)
