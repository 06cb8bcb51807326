-- A table that is read is in the limits, whatever the numbers handed in, bytes or not: the reader tests all that the limits say. Assumes nothing.
use mathlib.Core.Path.{◌≡◌, refl, sym, ap, subst, ◌∙◌}
use mathlib.Core.Bool.{true, ◌&&◌}
use mathlib.Core.List.{List, [], ◌∷◌, ◌++◌}
use Prim.Native.Nat.{ℕ, zero, suc, pred, ◌+◌}
use native.Mathlib.Omega.{arith}
use lib.ListN.{length, take, drop, length-append, length-drop}
use lib.Seq.{length-take-le}
use Rattle.model.specs.declared.Sizes.{Sizes}
use Rattle.model.specs.Lists.{All, empty, more, each, accepted}
use Rattle.model.specs.Table.{TableHeader, header_of, Arc, Component, Read, sizes_of}
use Rattle.model.specs.Bytes.{budget_bytes, location_bytes, clock_guard_bytes, data_guard_bytes, item_bytes, arc_head, arc_bytes, body_bytes, component_bytes, band_bytes, table_bytes}
use Rattle.model.specs.Limits.{LocationIn, ClockGuardIn, DataGuardIn, ArcIn, ComponentIn, InLimits}
use Rattle.model.specs.Reader.{header_at, read_budget, read_arc_parts, byte, word, ok, many, read_location, read_clock_guard, read_data_guard, read_items, counts_fine, edge_fine, arc_with, read_arc_body, read_arc, head_fine, sizes_at, component_with, read_body, read_component, about, at_end, length_fits, read_components, version_fine, length_fine, count_fine, body_start, bands_at, bands_fine, read_with, read_table}
use Rattle.model.proofs.Basics.Bools.{and_is, tests}
use Rattle.model.proofs.Reader.Bands.{bands_in, bands_said}
use Rattle.model.proofs.Reader.Parts.{refused_clash, after_ok, cond_accepted, about_ok, accepted_same, then_ok, ok_same, finished_ok, head_ok}
use Rattle.model.proofs.Reader.PartLimits.{holds_is, Tells, many_tells, more_long, location_tells, clock_guard_tells, data_guard_tells, budget_tells, items_tell}

-- ## Edges

-- the lengths of an edge's bytes
arc_long : (a : Arc) → length (arc_bytes a) ≡ 7 + length (budget_bytes a.budget) + length (each clock_guard_bytes a.clock_guards) + length (each data_guard_bytes a.data_guards) + length (item_bytes a a.edge.action)
unfolding arc_bytes
arc_long a =
    let C = each clock_guard_bytes a.clock_guards in
    let D = each data_guard_bytes a.data_guards in
    let I = item_bytes a a.edge.action in
    let B = budget_bytes a.budget in
    omega (arith, length-append (arc_head a ++ B ++ C ++ D) I, length-append (arc_head a ++ B ++ C) D, length-append (arc_head a ++ B) C, length-append (arc_head a) B)

-- an edge
arc_tells : (s : Sizes) → Tells (read_arc s) (ArcIn s) arc_bytes
unfolding read_arc
arc_tells s bs a r e =
    let t = head_ok 7 (edge_fine s) bs (read_arc_body s) e in
    let o = then_ok (read_budget s.budgets (drop 7 bs)) _ t.2 in
    let p = budget_tells s.budgets (drop 7 bs) o.0 o.1 o.2 in
    let u = then_ok (many (read_clock_guard s) (byte bs 4) o.1) _ o.3 in
    let c = many_tells (read_clock_guard s) (ClockGuardIn s) clock_guard_bytes (clock_guard_tells s) (byte bs 4) o.1 u.0 u.1 u.2 in
    let v = then_ok (many (read_data_guard s) (byte bs 5) u.1) _ u.3 in
    let d = many_tells (read_data_guard s) (DataGuardIn s) data_guard_bytes (data_guard_tells s) (byte bs 5) u.1 v.0 v.1 v.2 in
    let w = then_ok (read_items s (byte bs 0) (byte bs 6) v.1) _ v.3 in
    let h = simp tests at t.1 in
    let n = subst (λ k. counts_fine (byte bs 0) k (byte bs 6) ≡ true) (sym d.within.0) h.1 in
    let i = items_tell s bs o.0 u.0 v.0 (byte bs 0) (byte bs 6) v.1 w.0 w.1 n w.2 in
    let z = ok_same w.3 in
    holds_is z.0 z.1
    (record {
      within =
          record {
            budget = p.within;
            source = h.0.0.0.0.1;
            destination = h.0.0.0.1;
            mask = h.0.0.1;
            count = omega (arith, c.within.0, h.0.1);
            clock_guards = c.within.1;
            data_guards = d.within.1;
            action = i.within;
          };
      long = omega (arith, t.0, length-drop 7 bs, p.long, c.long, d.long, i.long, arc_long (arc_with bs o.0 u.0 v.0 w.0));
    })

-- ## Components

-- the lengths of a component's bytes
component_long : (C : Component) → length (component_bytes C) ≡ 7 + length (each location_bytes C.locations) + length (each arc_bytes C.arcs)
unfolding component_bytes body_bytes
component_long C =
    let L = each location_bytes C.locations in
    let A = each arc_bytes C.arcs in
    omega (arith, length-append L A)

module _ (channels : TableHeader) where
  -- a component, all of its bytes
  component_tells : (bs : List ℕ) (C : Component) (r : List ℕ) → read_component channels bs ≡ ok C r → ComponentIn channels C × (length (component_bytes C) ≡ length bs)
  unfolding read_component
  component_tells bs C r e =
      let s = sizes_at channels bs in
      let t = head_ok 7 head_fine bs (read_body channels) e in
      let u = then_ok (many (read_location s) (byte bs 2) (drop 7 bs)) _ t.2 in
      let l = many_tells (read_location s) (LocationIn s) location_bytes (location_tells s) (byte bs 2) (drop 7 bs) u.0 u.1 u.2 in
      let v = then_ok (many (read_arc s) (byte bs 6) u.1) _ u.3 in
      let m = many_tells (read_arc s) (ArcIn s) arc_bytes (arc_tells s) (byte bs 6) u.1 v.0 v.1 v.2 in
      let w = finished_ok (component_with bs u.0 v.0) v.1 v.3 in
      let D : Component = component_with bs u.0 v.0 in
      let h = simp tests at t.1 in
      let n = l.within.0 in
      let k = m.within.0 in
      let z : s ≡ sizes_of channels D = ap (λ (j : ℕ). record { channels = channels.channels; locations = j; clocks = byte bs 4; variables = byte bs 5; budgets = channels.budgets }) (sym n) in
      subst (λ (X : Component). ComponentIn channels X × (length (component_bytes X) ≡ length bs)) w.0 (
        record {
          least_locations = omega arith;
          most_locations = omega arith;
          initial = omega arith;
          least_clocks = omega arith;
          most_clocks = omega arith;
          variables = omega arith;
          least_arcs = omega arith;
          most_arcs = omega arith;
          locations = subst (λ x. All (LocationIn x) u.0) z l.within.1;
          arcs = subst (λ x. All (ArcIn x) v.0) z m.within.1;
        },
        omega (arith, t.0, length-drop 7 bs, l.long, m.long, ap length w.1, component_long D),
      )

  -- n components, all of the bytes
  abbrev AllTold : ℕ → List ℕ → List Component → Type 0
  AllTold n bs Cs = (length Cs ≡ n) × All (ComponentIn channels) Cs × (length (each component_bytes Cs) ≡ length bs)

  -- no component is left
  end_tells : (c : ℕ) (Cs : List Component) (bs : List ℕ) → at_end c bs ≡ accepted Cs → AllTold 0 bs Cs
  unfolding each
  end_tells c Cs [] e = subst (AllTold 0 []) (accepted_same e) (refl, empty, refl)
  end_tells c Cs (b ∷ bs) e = refused_clash 4 c Cs e

  -- the components one after the other
  components_tell : (n c : ℕ) (bs : List ℕ) (Cs : List Component) → read_components channels n c bs ≡ accepted Cs → AllTold n bs Cs
  unfolding read_components
  components_tell zero c bs Cs e = end_tells (pred c) Cs bs e
  components_tell (suc n) c bs Cs e =
      let w = word bs 0 in
      let t = cond_accepted (length_fits bs) _ 4 c e in
      let h = simp tests at t.0 in
      let u = after_ok (about c (read_component channels (take w bs))) _ t.1 in
      let p = about_ok c (read_component channels (take w bs)) u.1 in
      let q = component_tells (take w bs) u.0 p.0 p.1 in
      let v = after_ok (read_components channels n (suc c) (drop w bs)) _ u.2 in
      let rest = components_tell n (suc c) (drop w bs) v.0 v.1 in
      subst (AllTold (suc n) bs) (accepted_same v.2) (
        ap suc rest.0,
        more q.0 rest.1,
        omega (arith, h.1, q.1, rest.2, more_long component_bytes u.0 v.0, length-take-le w bs h.1, length-drop w bs),
      )

-- ## The table

-- the lengths of a table's bytes
table_long : (t : Read) → length (table_bytes t) ≡ 7 + length (band_bytes t.version t.table.bands) + length (each component_bytes t.table.components)
unfolding table_bytes
table_long t = omega (arith, length-append (band_bytes t.version t.table.bands) (each component_bytes t.table.components))

-- a table that is read is in the limits
pub read_limits : (bs : List ℕ) (t : Read) → read_table bs ≡ accepted t → InLimits t
unfolding read_table
read_limits bs t e =
    let first = cond_accepted (version_fine bs) _ 1 255 e in
    let second = cond_accepted (length_fine bs) _ 2 255 first.1 in
    let third = cond_accepted (count_fine bs && bands_fine bs) _ 3 255 second.1 in
    let both = (and_is (count_fine bs) (bands_fine bs)).0 third.0 in
    let k = after_ok (read_components (header_at bs) (byte bs 3) 0 (drop (body_start bs) bs)) _ third.1 in
    let c = components_tell (header_at bs) (byte bs 3) 0 (drop (body_start bs) bs) k.0 k.1 in
    let v = simp tests at first.0 in
    let n = simp tests at second.0 in
    let m = simp tests at both.0 in
    let long : length (drop 7 bs) ≡ length (band_bytes (byte bs 0) (bands_at bs)) + length (drop (body_start bs) bs) = ap length (bands_said bs) ∙ length-append (band_bytes (byte bs 0) (bands_at bs)) (drop (body_start bs) bs) in
    subst InLimits (accepted_same k.2)
    (record {
      least_version = v.0;
      most_version = v.1;
      bands = bands_in bs n.0.0 both.1;
      least_components = omega (arith, c.0);
      most_components = omega (arith, c.0);
      channels = omega arith;
      least_horizon = omega arith;
      most_horizon = omega arith;
      bytes = omega (arith, n.0.0, n.0.1, c.2, long, length-drop 7 bs, table_long (read_with bs k.0));
      components = c.1;
    })
