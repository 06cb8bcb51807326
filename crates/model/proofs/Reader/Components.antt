-- A component, and the components one after the other: what is written is read, and what is read is written so. Assumes nothing.
use mathlib.Core.Path.{◌≡◌, refl, sym, ap, ap₂, subst, ◌∙◌}
use mathlib.Core.Bool.{true}
use mathlib.Core.List.{List, [], ◌∷◌, ◌++◌, append-nil}
use Prim.Native.Nat.{ℕ, zero, suc, pred, ◌+◌, ◌*◌, ◌≤◌}
use native.Mathlib.Omega.{arith}
use lib.ListN.{length, take, drop, length-append, take-append-drop}
use lib.Seq.{length-take-le, get_or-take, take-append_seam, drop-append_seam}
use Rattle.model.specs.declared.Location.{Location}
use Rattle.model.specs.declared.Sizes.{Sizes}
use Rattle.model.specs.Lists.{All, empty, more, Bytes, be16, each, accepted}
use Rattle.model.specs.Table.{TableHeader, header_of, Arc, Component, sizes_of}
use Rattle.model.specs.Bytes.{location_bytes, arc_bytes, body_bytes, component_bytes}
use Rattle.model.specs.Limits.{LocationIn, ArcIn, ComponentIn}
use Rattle.model.specs.Reader.{byte, word, ok, many, read_location, read_arc, head_fine, sizes_at, component_with, read_body, read_component, about, at_end, length_fits, read_components}
use Rattle.model.proofs.Basics.Bools.{tests}
use Rattle.model.proofs.Basics.Words.{all_before, word_back, word_bytes}
use Rattle.model.proofs.Reader.Parts.{refused_clash, after_ok, cond_accepted, about_ok, accepted_same, then_ok, finished_ok, head_ok, head_reads, from, firsts_rest, bytes_drop, Said, said_is, Agrees, Counted, many_agrees}
use Rattle.model.proofs.Reader.Fixed.{location_agrees}
use Rattle.model.proofs.Reader.Edges.{arc_agrees}

-- the locations of a component
locations : (s : Sizes) (n : ℕ) → Agrees (many (read_location s) n) (Counted (LocationIn s) n) (each location_bytes)
locations s n = many_agrees (read_location s) (LocationIn s) location_bytes (location_agrees s) n

-- the edges of a component
arcs : (s : Sizes) (n : ℕ) → Agrees (many (read_arc s) n) (Counted (ArcIn s) n) (each arc_bytes)
arcs s n = many_agrees (read_arc s) (ArcIn s) arc_bytes (arc_agrees s) n

module _ (channels : TableHeader) where
  -- a component written is read back
  pub component_reads : (C : Component) → ComponentIn channels C → read_component channels (component_bytes C) ≡ ok C []
  unfolding read_component component_bytes body_bytes
  component_reads C h =
      let s = sizes_of channels C in
      let L = each location_bytes C.locations in
      let A = each arc_bytes C.arcs in
      head_reads 7 head_fine (component_bytes C) (read_body channels) (omega arith) (simp tests (omega arith))
      ∙ rw ((locations s (length C.locations)).reads C.locations A (refl, h.locations), edges) refl
    where
      edges : many (read_arc (sizes_of channels C)) (length C.arcs) (each arc_bytes C.arcs) ≡ ok C.arcs []
      edges =
          let e = (arcs (sizes_of channels C) (length C.arcs)).reads C.arcs [] (refl, h.arcs) in
          rw append-nil at e

  -- what the parts of a component say together
  component_said : (bs : List ℕ) (ls : List Location) (es : List Arc) (r : List ℕ) → Bytes bs → 7 ≤ length bs → head_fine bs ≡ true → word bs 0 ≡ length bs
      → Said (Counted (LocationIn (sizes_at channels bs)) (byte bs 2)) (each location_bytes) (drop 7 bs) ls r
      → Said (Counted (ArcIn (sizes_at channels bs)) (byte bs 6)) (each arc_bytes) r es []
      → ComponentIn channels (component_with bs ls es) × (bs ≡ component_bytes (component_with bs ls es))
  unfolding component_bytes body_bytes
  component_said bs ls es r b fits fine sized l m =
      let C = component_with bs ls es in
      let L = each location_bytes ls in
      let A = each arc_bytes es in
      let h = simp tests at fine in
      let n = l.within.0 in
      let k = m.within.0 in
      let s : sizes_at channels bs ≡ sizes_of channels C = ap (λ (j : ℕ). record { channels = channels.channels; locations = j; clocks = byte bs 4; variables = byte bs 5; budgets = channels.budgets }) (sym n) in
      let tail : drop 7 bs ≡ L ++ A = l.same ∙ ap (λ q. L ++ q) (m.same ∙ append-nil A) in
      let body : from bs 2 5 ++ drop 7 bs ≡ body_bytes C = cc in
      let whole = firsts_rest 7 bs fits in
      let size : 2 + length (body_bytes C) ≡ word bs 0 = omega (arith, ap length whole, ap length body) in
      let front : be16 (2 + length (body_bytes C)) ≡ byte bs 0 ∷ byte bs 1 ∷ [] = ap be16 size ∙ word_bytes b 0 in (
        record {
          least_locations = omega arith;
          most_locations = omega arith;
          initial = omega arith;
          least_clocks = omega arith;
          most_clocks = omega arith;
          variables = omega arith;
          least_arcs = omega arith;
          most_arcs = omega arith;
          locations = subst (λ t. All (LocationIn t) ls) s l.within.1;
          arcs = subst (λ t. All (ArcIn t) es) s m.within.1;
        },
        whole ∙ ap₂ (λ p q. p ++ q) (sym front) body,
      )

  -- a component read, whose length is as stated, is written so
  pub component_wrote : (bs : List ℕ) (C : Component) (r : List ℕ) → Bytes bs → word bs 0 ≡ length bs → read_component channels bs ≡ ok C r
      → ComponentIn channels C × (bs ≡ component_bytes C)
  unfolding read_component
  component_wrote bs C r b sized e =
      let s = sizes_at channels bs in
      let t = head_ok 7 head_fine bs (read_body channels) e in
      let u = then_ok (many (read_location s) (byte bs 2) (drop 7 bs)) _ t.2 in
      let l = (locations s (byte bs 2)).wrote (drop 7 bs) u.0 u.1 (bytes_drop 7 b) u.2 in
      let v = then_ok (many (read_arc s) (byte bs 6) u.1) _ u.3 in
      let m = (arcs s (byte bs 6)).wrote u.1 v.0 v.1 l.bytes v.2 in
      let w = finished_ok (component_with bs u.0 v.0) v.1 v.3 in
      subst (λ (D : Component). ComponentIn channels D × (bs ≡ component_bytes D)) w.0
      (component_said bs u.0 v.0 u.1 b t.0 t.1 sized l (said_is refl w.1 m))

  -- ## The components one after the other

  -- the first of several components is as long as its first two bytes say
  size_read : (C : Component) (r : List ℕ) → (word (component_bytes C ++ r) 0 ≡ length (component_bytes C)) × (2 ≤ length (component_bytes C))
  unfolding component_bytes
  size_read C r = (word_back (2 + length (body_bytes C)) ∙ omega arith, omega arith)

  -- components written are read back
  pub components_reads : {Cs : List Component} (c : ℕ) → All (ComponentIn channels) Cs → read_components channels (length Cs) c (each component_bytes Cs) ≡ accepted Cs
  unfolding read_components each
  components_reads c empty = refl
  components_reads c (more {x = C} {xs = Cs} h a) =
      let B = component_bytes C in
      let R = each component_bytes Cs in
      let n = length-append B R in
      let w = size_read C R in
      let fits : length_fits (B ++ R) ≡ true = simp tests (omega arith) in
      rw (fits, w.0, take-append_seam B R, component_reads C h, drop-append_seam B R, components_reads (suc c) a)

  -- a component that is read has its first seven bytes
  seven : (bs : List ℕ) (C : Component) (r : List ℕ) → read_component channels bs ≡ ok C r → 7 ≤ length bs
  unfolding read_component
  seven bs C r e = (head_ok 7 head_fine bs (read_body channels) e).0

  -- the first component, cut off at its stated length
  first_wrote : (bs : List ℕ) (C : Component) (r : List ℕ) → Bytes bs → word bs 0 ≤ length bs → read_component channels (take (word bs 0) bs) ≡ ok C r
      → ComponentIn channels C × (take (word bs 0) bs ≡ component_bytes C)
  first_wrote bs C r b fits e =
      let w = word bs 0 in
      let n : length (take w bs) ≡ w = length-take-le w bs fits in
      let least : 7 ≤ w = omega (arith, seven (take w bs) C r e) in
      let same : word (take w bs) 0 ≡ w = ap₂ (λ x y. x * 256 + y) (get_or-take w bs 0 0 (omega arith)) (get_or-take w bs 1 0 (omega arith)) in
      component_wrote (take w bs) C r (all_before (take w bs) (drop w bs) (subst Bytes (sym (take-append-drop w bs)) b)) (same ∙ sym n) e

  -- what is said of n components
  abbrev Saids : ℕ → List ℕ → List Component → Type 0
  Saids n bs Cs = (length Cs ≡ n) × All (ComponentIn channels) Cs × (bs ≡ each component_bytes Cs)

  -- no component is left
  at-end : (c : ℕ) (Cs : List Component) (bs : List ℕ) → at_end c bs ≡ accepted Cs → Saids 0 bs Cs
  unfolding each
  at-end c Cs [] e = subst (Saids 0 []) (accepted_same e) (refl, empty, refl)
  at-end c Cs (b ∷ bs) e = refused_clash 4 c Cs e

  -- components read are written so
  pub components_wrote : (n c : ℕ) (bs : List ℕ) (Cs : List Component) → Bytes bs → read_components channels n c bs ≡ accepted Cs
      → (length Cs ≡ n) × All (ComponentIn channels) Cs × (bs ≡ each component_bytes Cs)
  unfolding read_components each
  components_wrote zero c bs Cs b e = at-end (pred c) Cs bs e
  components_wrote (suc n) c bs Cs b e =
      let w = word bs 0 in
      let t = cond_accepted (length_fits bs) _ 4 c e in
      let h = simp tests at t.0 in
      let u = after_ok (about c (read_component channels (take w bs))) _ t.1 in
      let p = about_ok c (read_component channels (take w bs)) u.1 in
      let q = first_wrote bs u.0 p.0 b h.1 p.1 in
      let v = after_ok (read_components channels n (suc c) (drop w bs)) _ u.2 in
      let rest = components_wrote n (suc c) (drop w bs) v.0 (bytes_drop w b) v.1 in
      subst (Saids (suc n) bs) (accepted_same v.2) (
        ap suc rest.0,
        more q.0 rest.1,
        sym (take-append-drop w bs) ∙ ap₂ (λ x y. x ++ y) q.1 rest.2,
      )
