-- Passages moved to a later tick: openings, chains, messages and the three questions do not see it. Assumes nothing.
use mathlib.Core.Path.{◌≡◌, refl, sym, ap, ap₂, subst, ◌∙◌}
use mathlib.Core.Bool.{Bool, true, false, cond, ◌&&◌, ◌||◌}
use mathlib.Core.List.{List, [], ◌∷◌, map}
use mathlib.Core.Option
use mathlib.Core.Option.{Option, none, some}
use mathlib.Core.Logic.{inl, inr}
use Prim.Native.Nat.{ℕ, ◌+◌, ◌-◌, ◌≤◌, ◌<◌}
use native.Mathlib.Omega.{arith}
use borrow.Author.Tests.{ltb-true, ltb-false, lt-ltb, le-ltb, leb-true, leb-false, le-leb, lt-leb, eqb-true, eqb-false, eq-eqb, ne_eqb}
use lib.Dec.{leb, ltb, eqb}
use lib.IntN.{ℤ}
use Rattle.model.specs.Lists.{or_else, accepted}
use Rattle.model.specs.Table.{Arc, Component, Table, arc_of}
use Rattle.model.specs.Window.{Entry, Pick, choice, updated, aged, channel_of, listens, leads_to, leaves}
use Rattle.model.specs.Schedule.{Passage, passage_arc, heard_by, ends_sooner, sooner, earliest, carried, message_in, passage_of, ranged, picked, opening}
use Rattle.model.specs.Checks.{near, is_send, may_hear, disturb}
use Rattle.model.specs.Chains.{Opens, Chain, last, link, Before}
use Rattle.model.proofs.Reader.Parts.{refused_clash, accepted_same}

-- ## Moving

abbrev pub later_entry : ℕ → Entry → Entry
later_entry d at = record { location = at.location; tick = at.tick + d; clocks = at.clocks; values = at.values }

abbrev pub later : ℕ → Passage → Passage
later d v = record { component = v.component; edge = v.edge; entry = later_entry d v.entry; ready = v.ready + d; end = v.end + d; message = v.message }

module _ (d : ℕ) where
  -- ## Tests

  pub ltb_later : (x y : ℕ) → ltb (x + d) (y + d) ≡ ltb x y
  ltb_later x y = go (ltb x y) refl
    where
      go : (t : Bool) → ltb x y ≡ t → ltb (x + d) (y + d) ≡ t
      go true e = lt-ltb (x + d) (y + d) (omega (arith, ltb-true x y e))
      go false e = le-ltb (x + d) (y + d) (omega (arith, ltb-false x y e))

  pub leb_later : (x y : ℕ) → leb (x + d) (y + d) ≡ leb x y
  leb_later x y = go (leb x y) refl
    where
      go : (t : Bool) → leb x y ≡ t → leb (x + d) (y + d) ≡ t
      go true e = le-leb (x + d) (y + d) (omega (arith, leb-true x y e))
      go false e = lt-leb (x + d) (y + d) (omega (arith, leb-false x y e))

  pub eqb_later : (x y : ℕ) → eqb (x + d) (y + d) ≡ eqb x y
  eqb_later x y = go (eqb x y) refl
    where
      go : (t : Bool) → eqb x y ≡ t → eqb (x + d) (y + d) ≡ t
      go true e = eq-eqb (x + d) (y + d) (omega (arith, eqb-true x y e))
      go false e = ne_eqb (x + d) (y + d) (λ q. eqb-false x y e (omega arith))

  -- the same where the second number has something added
  leb_far : (x y k : ℕ) → leb (x + d) (y + d + k) ≡ leb x (y + k)
  leb_far x y k = ap (leb (x + d)) (let z : y + d + k ≡ y + k + d = omega arith in z) ∙ leb_later x (y + k)

  -- ## Openings

  -- what opens at an entry opens at the same entry later
  pub opening_later : (c : ℕ) (C : Component) (at : Entry) (v : Passage) → opening c C at ≡ accepted v → opening c C (later_entry d at) ≡ accepted (later d v)
  unfolding opening choice
  opening_later c C at v e = go (choice C at) e
    where
      moved : (p : Pick) (m : Option ℕ) → passage_of c (later_entry d at) p m ≡ later d (passage_of c at p m)
      moved p m =
          let r : at.tick + d + p.ready ≡ at.tick + p.ready + d = omega arith in
          let f : at.tick + d + p.end ≡ at.tick + p.end + d = omega arith in
          ap₂ (λ (x y : ℕ). record { component = c; edge = p.edge; entry = later_entry d at; ready = x; end = y; message = m }) r f

      ok : (p : Pick) (m : Option ℕ) (o : Option (List ℤ)) → ranged c o (passage_of c at p m) ≡ accepted v → ranged c o (passage_of c (later_entry d at) p m) ≡ accepted (later d v)
      ok p m none q = refused_clash 9 c v q
      ok p m (some ys) q = ap accepted (moved p m ∙ ap (later d) (accepted_same q))

      go : (k : Option Pick) → picked c C at k ≡ accepted v → picked c C (later_entry d at) k ≡ accepted (later d v)
      go none q = refused_clash 8 c v q
      go (some p) q = ok p (channel_of (arc_of C p.edge)) (updated (arc_of C p.edge).updates at.values) q

  -- where a passage leads to, later
  pub leaves_later : (a : Arc) (m : Option ℕ) (end : ℕ) (at : Entry) → leaves a m (end + d) (later_entry d at) ≡ later_entry d (leaves a m end at)
  unfolding leaves
  leaves_later a m end at =
      let g : end + d - (at.tick + d) ≡ end - at.tick = omega arith in
      ap (λ (n : ℕ). record { location = leads_to a m; tick = end + d; clocks = aged a.edge.mask n 0 at.clocks; values = or_else (updated a.updates at.values) at.values }) g

  -- ## Chains

  pub chain_later : {H c : ℕ} {C : Component} {v : Passage} {ws : List Passage} → Chain H c C v ws → Chain (H + d) c C (later d v) (map (later d) ws)
  chain_later (last {v = v} h) = last {v = later d v} (omega arith)
  chain_later {c = c} {C = C} (link {v = v} {w = w} h o k) =
      link {v = later d v} {w = later d w} (omega arith)
      (ap (λ (x : Entry). opening c C x) (leaves_later (arc_of C v.edge) v.message v.end v.entry) ∙ opening_later c C (leaves (arc_of C v.edge) v.message v.end v.entry) _ o)
      (chain_later k)

  -- ## Messages

  module _ (T : Table) (H : ℕ) where
    pub heard_later : (v s : Passage) → heard_by T (H + d) (later d v) (later d s) ≡ heard_by T H v s
    heard_later v s = rw (ltb_later v.ready s.ready, ltb_later s.ready H, ltb_later s.end v.end)

    sooner_later : (b : Option Passage) (s : Passage) → sooner (Option.map (later d) b) (later d s) ≡ Option.map (later d) (sooner b s)
    sooner_later none s = refl
    sooner_later (some b) s =
        ap (λ t. cond t (some (later d s)) (some (later d b))) (let q : ends_sooner (later d s) (later d b) ≡ ends_sooner s b = rw (ltb_later s.end b.end, eqb_later s.end b.end) in q)
        ∙ go (ends_sooner s b)
      where
        go : (t : Bool) → cond t (some (later d s)) (some (later d b)) ≡ Option.map (later d) (cond t (some s) (some b))
        go true = refl
        go false = refl

    earliest_later : (v : Passage) (vs : List Passage) (b : Option Passage)
        → earliest (heard_by T (H + d) (later d v)) (map (later d) vs) (Option.map (later d) b) ≡ Option.map (later d) (earliest (heard_by T H v) vs b)
    earliest_later v [] b = refl
    earliest_later v (s ∷ vs) b =
        ap (λ o. earliest (heard_by T (H + d) (later d v)) (map (later d) vs) o)
        (ap (λ t. cond t (sooner (Option.map (later d) b) (later d s)) (Option.map (later d) b)) (heard_later v s) ∙ go (heard_by T H v s))
        ∙ earliest_later v vs (cond (heard_by T H v s) (sooner b s) b)
      where
        go : (t : Bool) → cond t (sooner (Option.map (later d) b) (later d s)) (Option.map (later d) b) ≡ Option.map (later d) (cond t (sooner b s) b)
        go true = sooner_later b s
        go false = refl

    carried_later : (o : Option Passage) → carried T (Option.map (later d) o) ≡ carried T o
    carried_later none = refl
    carried_later (some s) = refl

    -- a message is the same later
    pub message_later : (vs : List Passage) (v : Passage) → message_in T (H + d) (map (later d) vs) (later d v) ≡ message_in T H vs v
    unfolding message_in
    message_later vs v =
        ap (λ o. cond (listens (passage_arc T v)) o (channel_of (passage_arc T v)))
        (ap (carried T) (earliest_later v vs none) ∙ carried_later (earliest (heard_by T H v) vs none))

    -- ## The three questions

    pub send_later : (v : Passage) → is_send T (H + d) (later d v) ≡ is_send T H v
    send_later v = rw (ltb_later v.ready H)

    pub share_later : (v w : Passage) → near 0 (later d v) (later d w) ≡ near 0 v w
    share_later v w = rw (leb_far v.ready w.end 0, leb_far w.ready v.end 0)

    pub hears_later : (r s : Passage) → may_hear 0 T (later d r) (later d s) ≡ may_hear 0 T r s
    hears_later r s = rw (leb_far r.ready s.end 0, leb_far s.ready r.end 0)

  -- ## Order

  pub before_later : (v w : Passage) → Before v w → Before (later d v) (later d w)
  before_later v w (inl h) = inl (omega arith)
  before_later v w (inr h) = inr (omega (arith, h.0), h.1)
